use Rattle.std.proofs.Common.{◌≡◌, ◌+◌, length}
use Rattle.tt_script.specs.Lines.{lines_of}
use Rattle.tt_script.specs.Script.{session_in}
use Rattle.tt_script.proofs.lines.session_in.Given as goal

abbrev pub invariant-loop-line : goal.invariant-loop-line
invariant-loop-line l = record {
  session : session_in l.at (lines_of l.rest) ≡ session_in 0 (lines_of l.text);
  place : l.at + length l.rest ≡ length l.text;
}

abbrev pub decreases-loop-line : goal.decreases-loop-line
decreases-loop-line l = length l.rest
