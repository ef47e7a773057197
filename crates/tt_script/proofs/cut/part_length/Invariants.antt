use Rattle.std.proofs.Common.{not}
use Rattle.std.specs.List.{prefix_len}
use Rattle.tt_script.specs.declared.cut.Inside.TheVariants.{Nothing}
use Rattle.tt_script.specs.Body.{kinds_in, is_cut}
use Rattle.tt_script.proofs.Cuts.{Counts}
use Rattle.tt_script.proofs.cut.part_length.Given as goal

abbrev pub invariant-loop-i : goal.invariant-loop-i
invariant-loop-i l = Counts (λ kind. not (is_cut kind)) l.body l.i l.inside (prefix_len (λ kind. not (is_cut kind)) (kinds_in Nothing l.body))
