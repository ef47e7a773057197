use Rattle.std.proofs.Common.{◌≡◌, drop}
use Rattle.tt_journal_read.specs.steps.Reading.{named_from}
use Rattle.tt_journal_read.proofs.facts.session_named.Given as goal

-- no session so far has the name
abbrev pub invariant-loop-place : goal.invariant-loop-place
invariant-loop-place l = named_from l.place (drop l.place l.program.sessions) l.name ≡ named_from 0 l.program.sessions l.name
