use Rattle.std.proofs.lemmas.Result.{err_from_is_err_and}
use Rattle.tt_value.proofs.columns.Loops.{entries_more, entries_fault, entries_done}
use Rattle.tt_textcol.specs.TextBody.{text_cmp}
use Rattle.tt_textcol.specs.TextReading.{text_at}
use Rattle.tt_textcol.proofs.Faults.{passes_on}
use Rattle.tt_textcol.proofs.reading.read_entries.Goals as goal

pub returns-in_err-value : goal.returns-in_err-value
returns-in_err-value c =
    let p = err_from_is_err_and c.from_residual-in_err-value.result c.from_residual-in_err-value.ensures.1 in
    rw (p.1, p.2) (passes_on c.in_err-value.field-0.0 _ _ c.in_err-value.ensures (λ place e. entries_fault text_at text_cmp c.args.end c.loop-turn.values.items c.args.count c.loop-turn._turn c.loop-turn.before c.loop-turn.rest.now place _ c.loop-turn-test.true e c.loop-turn.invariant))

pub loop-turn-preserved : goal.loop-turn-preserved
loop-turn-preserved c =
    rw (c.in_ok-push.ensures.items, c.again.ensures) (entries_more text_at text_cmp c.args.end c.loop-turn.values.items c.args.count c.loop-turn._turn c.loop-turn.before c.loop-turn.rest.now c.in_ok-value.value c.in_ok-value.after.now _ c.loop-turn-test.true c.in_ok-value.ensures c.loop-turn.invariant)

pub returns : goal.returns
returns c = entries_done text_at text_cmp c.args.end c.loop-turn.values.items c.args.count c.loop-turn._turn c.loop-turn.before c.loop-turn.rest.now _ c.loop-turn-test.false c.loop-turn.invariant
