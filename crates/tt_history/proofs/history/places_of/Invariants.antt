use Rattle.std.proofs.Common.{◌≡◌, ◌++◌, drop}
use Rattle.tt_history.specs.Projection.{places_from, places_of}
use Rattle.tt_history.proofs.history.places_of.Given as goal

abbrev pub invariant-loop-place : goal.invariant-loop-place
invariant-loop-place l = l.places.items ++ places_from l.session l.place (drop l.place l.entries) ≡ places_of l.session l.entries
