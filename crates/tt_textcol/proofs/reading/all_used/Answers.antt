use Rattle.std.proofs.Common.{◌∙◌, ap}
use Rattle.std.specs.Prelude.{◌==◌}
use Rattle.std.specs.List.{list_all, list_any}
use Rattle.std.proofs.lemmas.List.{take_all}
use Rattle.tt_value.proofs.columns.Lookups.{used_each}
use Rattle.tt_textcol.proofs.reading.all_used.Goals as goal

pub returns : goal.returns
returns c =
    c.all_true.ensures ∙ ap (list_all (λ each. each)) c.deref.ensures.value
    ∙ used_each c.loop-index.used.items c.args.indexes.now c.args.count c.loop-index.invariant.len (λ k lt. c.loop-index.invariant.flags k lt ∙ ap (list_any (λ index. index == k)) (take_all c.loop-index.index-index c.args.indexes.now c.loop-index-test.false))
