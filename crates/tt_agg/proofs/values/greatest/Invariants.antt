use Rattle.std.proofs.Common.{◌≡◌, drop}
use Rattle.std.specs.Prelude.{fold}
use Rattle.tt_sql.specs.meaning.Queries.{best_of, greater}
use Rattle.tt_agg.specs.Lent.{lent}
use Rattle.tt_agg.proofs.values.greatest.Given as goal

abbrev pub invariant-loop-value : goal.invariant-loop-value
invariant-loop-value l = fold greater l.best (lent (drop l.value-index l.others)) ≡ best_of greater (lent l.fn.values)
