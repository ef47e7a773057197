use Rattle.std.proofs.Common.{ap, ◌∙◌}
use Rattle.std.specs.Prelude.{replicate}
use Rattle.tt_filter.proofs.Merging.{filled_each}
use Rattle.tt_filter.proofs.truths.Truths.filled.Goals as goal

pub returns : goal.returns
returns c = λ rows long. filled_each c.args.count c.args.truth (record { trues = c.in_ok-trues.trues; falses = c.in_ok-falses.falses }) (c.in_ok-trues.ensures ∙ ap (replicate c.args.count) c.is_true.ensures) (c.in_ok-falses.ensures ∙ ap (replicate c.args.count) c.is_false.ensures) rows long
