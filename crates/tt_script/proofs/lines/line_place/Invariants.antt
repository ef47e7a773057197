use Rattle.std.proofs.Common.{◌≡◌, ◌+◌, length}
use Rattle.tt_script.specs.Lines.{lines_of, line_place}
use Rattle.tt_script.proofs.lines.line_place.Given as goal

abbrev pub invariant-loop-line : goal.invariant-loop-line
invariant-loop-line l = record {
  line : line_place l.at (lines_of l.rest) l.place ≡ line_place 0 (lines_of l.text) l.place;
  place : l.at + length l.rest ≡ length l.text;
}

abbrev pub decreases-loop-line : goal.decreases-loop-line
decreases-loop-line l = length l.rest
