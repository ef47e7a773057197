use Rattle.std.proofs.Common.{◌≡◌, filter}
use Rattle.std.specs.Prelude.{nat_lt}
use Rattle.tt_plain.specs.declared.tally.TallyPin.{TallyPin}
use Rattle.tt_model_effect.proofs.pins.part_around.Given as goal

abbrev pub invariant-loop-pin : goal.invariant-loop-pin
invariant-loop-pin l =
    (l.parted.before.items ≡ filter (λ (pin : TallyPin). nat_lt pin.session l.session) l.yielded)
    × (l.parted.behind.items ≡ filter (λ (pin : TallyPin). nat_lt l.session pin.session) l.yielded)
