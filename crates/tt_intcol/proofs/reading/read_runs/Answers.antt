use Rattle.std.proofs.Common.{rules}
use Rattle.std.proofs.lemmas.Result.{err_from_is_err_and}
use Rattle.std.specs.Int.{w64}
use Rattle.std.specs.Int.RustNames.{FitsSigned}
use Rattle.std.proofs.lemmas.Int.{to_z-of_z}
use Rattle.std.specs.Ordering.{int_cmp}
use Rattle.tt_value.proofs.columns.Loops.{runs_more, runs_fault, runs_done}
use Rattle.tt_intcol.specs.IntReading.{value_at}
use Rattle.tt_intcol.proofs.Faults.{passes_on}
use Rattle.tt_intcol.proofs.reading.read_runs.Goals as goal

pub returns-in_err-run : goal.returns-in_err-run
returns-in_err-run c =
    let p = err_from_is_err_and c.from_residual-in_err-run.result c.from_residual-in_err-run.ensures.1 in
    rw (p.1, p.2) (passes_on c.in_err-run.field-0.0 _ _ c.in_err-run.ensures.run (λ place e. runs_fault (value_at c.args.kind) int_cmp c.args.end c.loop-turn.values.items c.args.count c.loop-turn.turn c.loop-turn.left c.loop-turn.before c.loop-turn.rest.now place _ c.loop-turn-test.true e c.loop-turn.invariant))

pub loop-turn-preserved : goal.loop-turn-preserved
loop-turn-preserved c =
    let fits : FitsSigned w64 c.in_ok-run.run'.0 = search rules in
    let same = to_z-of_z w64 c.in_ok-run.run'.0 fits in
    rw (c.in_ok-push_run.ensures, same) (runs_more (value_at c.args.kind) int_cmp c.args.end c.loop-turn.values.items c.args.count c.loop-turn.turn c.loop-turn.left c.loop-turn.before c.loop-turn.rest.now c.in_ok-run.run' c.in_ok-run.after.now _ c.loop-turn-test.true c.in_ok-run.ensures.run c.loop-turn.invariant)

pub returns : goal.returns
returns c = runs_done (value_at c.args.kind) int_cmp c.args.end c.loop-turn.values.items c.args.count c.loop-turn.turn c.loop-turn.left c.loop-turn.before c.loop-turn.rest.now _ c.loop-turn-test.false c.loop-turn.invariant
