use Rattle.std.proofs.Common.{◌≡◌, ◌++◌, map, drop}
use Rattle.tt_plain.specs.tally.Changes.{part_added}
use Rattle.tt_model_effect.proofs.parts.add_parts.Given as goal

abbrev pub invariant-loop-part : goal.invariant-loop-part
invariant-loop-part l = l.parts ++ map (part_added l.origin) (drop l.part-index l.added) ≡ l.fn.parts ++ map (part_added l.origin) l.added
