use Rattle.std.proofs.Common.{take}
use Rattle.std.specs.List.{AllByRecursion}
use Rattle.tt_partition.specs.Validity.{IsValid}
use Rattle.tt_partition.proofs.values.are_valid.Given as goal

abbrev pub invariant-loop-value : goal.invariant-loop-value
invariant-loop-value l = AllByRecursion IsValid (take l.value-index l.values)
