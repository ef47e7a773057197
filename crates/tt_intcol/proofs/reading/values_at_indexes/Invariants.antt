use Rattle.std.proofs.Common.{◌≡◌, ◌++◌, drop}
use Rattle.std.specs.Option.{option_map}
use Rattle.tt_value.specs.columns.Reading.{values_of}
use Rattle.tt_intcol.proofs.reading.values_at_indexes.Given as goal

abbrev pub invariant-loop-index : goal.invariant-loop-index
invariant-loop-index l = option_map (λ vs. l.values.items ++ vs) (values_of l.entries (drop l.index-index l.indexes)) ≡ values_of l.entries l.indexes
