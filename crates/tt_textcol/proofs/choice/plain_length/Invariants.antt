use Rattle.std.proofs.Common.{◌≡◌, ◌*◌, ◌≤◌, length, take}
use Rattle.std.specs.List.{flat_map}
use Rattle.tt_textcol.specs.TextBody.{text_bytes}
use Rattle.tt_textcol.proofs.choice.plain_length.Given as goal

abbrev pub invariant-loop-value : goal.invariant-loop-value
invariant-loop-value l = record {
  few : l.bytes ≤ 65537 * l.value-index;
  so_far : l.bytes ≡ length (flat_map text_bytes (take l.value-index l.values));
}
