use Rattle.std.proofs.Common.{◌≡◌, ◌*◌, ◌+◌, ◌≤◌, length, drop}
use Rattle.tt_value.specs.columns.Body.{run_body}
use Rattle.tt_textcol.specs.TextBody.{text_bytes, text_cmp}
use Rattle.tt_textcol.proofs.Lengths.{behind}
use Rattle.tt_textcol.proofs.choice.run_length.Given as goal

abbrev pub invariant-loop-next : goal.invariant-loop-next
invariant-loop-next l = record {
  few : l.bytes ≤ 65545 + 65541 * l.next-index;
  so_far : l.bytes + behind l.last (drop l.next-index l.others) ≡ length (run_body text_bytes text_cmp l.values);
}
