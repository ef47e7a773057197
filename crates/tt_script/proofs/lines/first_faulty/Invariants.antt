use Rattle.std.proofs.Common.{◌≡◌, ◌+◌, false, length}
use Rattle.tt_script.specs.Lines.{lines_of, first_faulty}
use Rattle.tt_script.proofs.lines.first_faulty.Given as goal

abbrev pub invariant-loop-line : goal.invariant-loop-line
invariant-loop-line l = record {
  faulty : first_faulty l.begun l.at (lines_of l.rest) ≡ first_faulty false 0 (lines_of l.bytes);
  place : l.at + length l.rest ≡ length l.bytes;
}

abbrev pub decreases-loop-line : goal.decreases-loop-line
decreases-loop-line l = length l.rest
