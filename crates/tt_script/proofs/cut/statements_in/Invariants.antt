use Rattle.std.proofs.Common.{◌≡◌, ◌+◌, ◌++◌, ◌≤◌, length}
use Rattle.tt_script.specs.Body.{statements_in}
use Rattle.tt_script.proofs.cut.statements_in.Given as goal

abbrev pub invariant-loop-rest : goal.invariant-loop-rest
invariant-loop-rest l = record {
  spans : l.spans.items ++ statements_in l.at l.rest ≡ statements_in l.start l.body;
  place : l.at + length l.rest ≡ l.start + length l.body;
  few : length l.spans.items ≤ 100001;
}

abbrev pub decreases-loop-rest : goal.decreases-loop-rest
decreases-loop-rest l = length l.rest
