use Rattle.std.proofs.Common.{◌≡◌, drop}
use Rattle.std.specs.Prelude.{fold}
use Rattle.tt_sql.specs.meaning.Queries.{best_of, lesser}
use Rattle.tt_agg.specs.Lent.{lent}
use Rattle.tt_agg.proofs.values.least.Given as goal

abbrev pub invariant-loop-value : goal.invariant-loop-value
invariant-loop-value l = fold lesser l.best (lent (drop l.value-index l.others)) ≡ best_of lesser (lent l.fn.values)
