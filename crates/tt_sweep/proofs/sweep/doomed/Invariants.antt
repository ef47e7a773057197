use Rattle.std.proofs.Common.{◌≡◌, not, filter, take}
use Rattle.tt_layout.specs.Holds.{is_named}
use Rattle.tt_sweep.specs.Doomed.{numbers_of}
use Rattle.tt_sweep.proofs.sweep.doomed.Given as goal

abbrev pub invariant-loop-part : goal.invariant-loop-part
invariant-loop-part l = l.parts.items ≡ filter (λ number. not (is_named l.facts number)) (numbers_of (take l.part-index l.facts.parts))
