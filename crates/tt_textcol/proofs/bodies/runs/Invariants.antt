use Rattle.std.proofs.Common.{◌≡◌, ◌++◌, ◌+◌, ◌≤◌, drop}
use Rattle.tt_value.specs.columns.Body.{runs_after, runs_of}
use Rattle.tt_textcol.specs.TextBody.{text_cmp}
use Rattle.tt_textcol.proofs.bodies.runs.Given as goal

abbrev pub invariant-loop-next : goal.invariant-loop-next
invariant-loop-next l = record {
  few : l.count ≤ l.next-index + 1;
  so_far : l.runs.items ++ runs_after text_cmp l.value l.count (drop l.next-index l.others) ≡ runs_of text_cmp l.values;
}
