use Rattle.std.proofs.Common.{◌∙◌, ap}
use Rattle.tt_partition.specs.Cuts.{cut, kinds_of}
use Rattle.tt_rewrite.proofs.Deleted.{deletes}
use Rattle.tt_rewrite.proofs.deleting.delete_rows.Goals as goal

pub returns : goal.returns
returns c =
    deletes c.args.seen.now c.args.delete.now c.requires.deletes c.args.cap c.in_ok-gone.field-0 c.from_vec.result c.in_ok-gone.ensures.left
    (c.from_vec.ensures ∙ c.in_ok-added.ensures ∙ ap (cut (kinds_of c.args.seen.now.schema) c.args.cap) c.items.ensures)
