use Rattle.std.proofs.Common.{◌≡◌, take, map}
use Rattle.tt_state.specs.Moves.{no_session}
use Rattle.tt_state.proofs.catalog.first_sessions.Given as goal

abbrev pub invariant-loop-lines : goal.invariant-loop-lines
invariant-loop-lines l = l.sessions.items ≡ map (λ _. no_session) (take l._lines-index l.program.sessions)
