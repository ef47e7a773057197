use Rattle.std.proofs.Common.{◌≡◌, take, map}
use Rattle.tt_rewrite.specs.Sets.{set_place}
use Rattle.tt_rewrite.proofs.setting.places_of.Given as goal

abbrev pub invariant-loop-column : goal.invariant-loop-column
invariant-loop-column l = l.places.items ≡ map (set_place l.sets) (take l.column-index l.columns)
