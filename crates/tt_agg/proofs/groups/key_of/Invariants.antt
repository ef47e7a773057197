use Rattle.std.proofs.Common.{◌≡◌, map, take}
use Rattle.tt_sql.specs.meaning.Queries.{value_at}
use Rattle.tt_agg.proofs.groups.key_of.Given as goal

abbrev pub invariant-loop-place : goal.invariant-loop-place
invariant-loop-place l = l.values.items ≡ map (λ place. value_at place l.row) (take l.place-index l.places)
