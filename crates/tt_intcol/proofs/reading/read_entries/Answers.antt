use Rattle.std.proofs.Common.{rules}
use Rattle.std.proofs.lemmas.Result.{err_from_is_err_and}
use Rattle.std.specs.Int.{w64}
use Rattle.std.specs.Int.RustNames.{FitsSigned}
use Rattle.std.proofs.lemmas.Int.{to_z-of_z}
use Rattle.std.specs.Ordering.{int_cmp}
use Rattle.tt_value.proofs.columns.Loops.{entries_more, entries_fault, entries_done}
use Rattle.tt_intcol.specs.IntReading.{value_at}
use Rattle.tt_intcol.proofs.Faults.{passes_on}
use Rattle.tt_intcol.proofs.reading.read_entries.Goals as goal

pub returns-in_err-value : goal.returns-in_err-value
returns-in_err-value c =
    let p = err_from_is_err_and c.from_residual-in_err-value.result c.from_residual-in_err-value.ensures.1 in
    rw (p.1, p.2) (passes_on c.in_err-value.field-0.0 _ _ c.in_err-value.ensures (λ place e. entries_fault (value_at c.args.kind) int_cmp c.args.end c.loop-turn.values.items c.args.count c.loop-turn._turn c.loop-turn.before c.loop-turn.rest.now place _ c.loop-turn-test.true e c.loop-turn.invariant))

pub loop-turn-preserved : goal.loop-turn-preserved
loop-turn-preserved c =
    let fits : FitsSigned w64 c.in_ok-value.value = search rules in
    let same = to_z-of_z w64 c.in_ok-value.value fits in
    rw (c.in_ok-push.ensures.items, same) (entries_more (value_at c.args.kind) int_cmp c.args.end c.loop-turn.values.items c.args.count c.loop-turn._turn c.loop-turn.before c.loop-turn.rest.now c.in_ok-value.value c.in_ok-value.after.now _ c.loop-turn-test.true c.in_ok-value.ensures c.loop-turn.invariant)

pub returns : goal.returns
returns c = entries_done (value_at c.args.kind) int_cmp c.args.end c.loop-turn.values.items c.args.count c.loop-turn._turn c.loop-turn.before c.loop-turn.rest.now _ c.loop-turn-test.false c.loop-turn.invariant
