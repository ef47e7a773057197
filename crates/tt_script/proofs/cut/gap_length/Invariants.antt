use Rattle.std.specs.List.{prefix_len}
use Rattle.tt_script.specs.declared.cut.Inside.TheVariants.{Nothing}
use Rattle.tt_script.specs.Body.{kinds_in, is_gap}
use Rattle.tt_script.proofs.Cuts.{Counts}
use Rattle.tt_script.proofs.cut.gap_length.Given as goal

abbrev pub invariant-loop-i : goal.invariant-loop-i
invariant-loop-i l = Counts is_gap l.body l.i l.inside (prefix_len is_gap (kinds_in Nothing l.body))
