use Rattle.std.proofs.Common.{◌≡◌, fold, map}
use Rattle.tt_plain.specs.tally.Changes.{changed_tally}
use Rattle.tt_model_effect.specs.Allowed.{HasRoomForAll}
use Rattle.tt_model_effect.specs.EffectAs.{tally_change_in}
use Rattle.tt_model_effect.proofs.tallies.change_tally.Given as goal

abbrev pub invariant-loop-one : goal.invariant-loop-one
invariant-loop-one l =
    HasRoomForAll (map tally_change_in l.one-iterator.rest.items) l.tally
    × (fold changed_tally l.tally (map tally_change_in l.one-iterator.rest.items) ≡ fold changed_tally l.fn.tally (map tally_change_in l.fn.changes.items))
