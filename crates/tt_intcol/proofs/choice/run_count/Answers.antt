use Rattle.std.proofs.Common.{arith, rules}
use Rattle.std.specs.Int.{w64}
use Rattle.std.specs.Int.RustNames.{FitsSigned}
use Rattle.std.specs.Ordering.{int_cmp}
use Rattle.std.proofs.lemmas.Int.{to_z-of_z}
use Rattle.tt_value.proofs.columns.Runs.{count_start}
use Rattle.tt_intcol.proofs.choice.run_count.Goals as goal

pub loop-next-init : goal.loop-next-init
loop-next-init c =
    let h = c.in-Some.ensures.cases in
    let fits : FitsSigned w64 c.in-Some.first.now = search rules in
    record { few = omega arith; so_far = count_start int_cmp c.in-Some.first.now _ c.in-Some.others.now _ (to_z-of_z w64 c.in-Some.first.now fits) h.0 }
