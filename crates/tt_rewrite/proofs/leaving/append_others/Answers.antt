use Rattle.std.proofs.Common.{◌++◌, ◌∙◌, ap, sym}
use Rattle.std.proofs.lemmas.List.{append-nil}
use Rattle.tt_rewrite.proofs.Bits.{none_stays}
use Rattle.tt_rewrite.proofs.leaving.append_others.Goals as goal

pub returns-then-count-len : goal.returns-then-count-len
returns-then-count-len c =
    sym (ap (λ rs. c.args.rows.now ++ rs) (none_stays c.args.bits.now c.args.partition.now.rows c.requires.bits (sym c.requires.count ∙ c.if-count-len.true ∙ c.len.ensures)) ∙ append-nil c.args.rows.now)
