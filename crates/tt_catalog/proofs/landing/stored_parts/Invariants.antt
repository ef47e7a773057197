use Rattle.std.proofs.Common.{◌≡◌, ◌+◌}
use Rattle.tt_partition.specs.Table.{IsPart}
use Rattle.tt_plain.specs.law.Lists.{Every}
use Rattle.tt_catalog.specs.Changes.{stored_from}
use Rattle.tt_catalog.proofs.landing.stored_parts.Given as goal

abbrev pub invariant-loop-part : goal.invariant-loop-part
invariant-loop-part l = (l.stored.items ≡ stored_from l.origin (l.count + 1) l.yielded) × Every IsPart l.yielded
