use Rattle.tt_seatlock.specs.Passes.{known, IsPassOf, IsSamePass}
use Rattle.tt_seatlock.proofs.tests.add_notes.Given as goal

abbrev pub invariant-loop-value : goal.invariant-loop-value
invariant-loop-value g l = IsPassOf l.lock l.pass × IsSamePass (known l.fn.pass) (known l.pass)
