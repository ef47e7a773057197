use Rattle.std.proofs.lemmas.Result.{err_from_is_err_and}
use Rattle.tt_partition.proofs.Faults.{passes_on}
use Rattle.tt_partition.proofs.PickingLaws.{skipped_more, skipped_fault, skipped_all}
use Rattle.tt_partition.proofs.picking.skip_columns.Goals as goal

pub returns-in_err-rest : goal.returns-in_err-rest
returns-in_err-rest c =
    let p = err_from_is_err_and c.from_residual.result c.from_residual.ensures.1 in
    rw (p.1, p.2) (passes_on c.in_err-rest.field-0.0 _ _ c.in_err-rest.ensures (λ place e. skipped_fault c.args.rows c.args.end c.args.count c.loop-turn._turn c.loop-turn.rest.now place _ c.loop-turn-test.true e c.loop-turn.invariant))

pub loop-turn-preserved : goal.loop-turn-preserved
loop-turn-preserved c = skipped_more c.args.rows c.args.end c.args.count c.loop-turn._turn c.loop-turn.rest.now c.in_ok-rest.rest.now _ c.loop-turn-test.true c.in_ok-rest.ensures c.loop-turn.invariant

pub returns : goal.returns
returns c = skipped_all c.args.rows c.args.end c.args.count c.loop-turn._turn c.loop-turn.rest.now _ c.loop-turn-test.false c.loop-turn.invariant
