use Rattle.std.proofs.Common.{◌≡◌, take, map}
use Rattle.tt_scope.specs.Places.{scope_in}
use Rattle.tt_agg.proofs.aggregating.places_of.Given as goal

abbrev pub invariant-loop-column : goal.invariant-loop-column
invariant-loop-column l = l.places.items ≡ map (scope_in l.tables).place_of (take l.column-index l.columns)
