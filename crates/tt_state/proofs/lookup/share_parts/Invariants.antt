use Rattle.std.proofs.Common.{◌≡◌, map, take}
use Rattle.tt_state.specs.Kept.{with_part}
use Rattle.tt_state.proofs.lookup.share_parts.Given as goal

abbrev pub invariant-loop-number : goal.invariant-loop-number
invariant-loop-number l = l.shared ≡ map (with_part l.parts) (take l.number-index l.numbers)
