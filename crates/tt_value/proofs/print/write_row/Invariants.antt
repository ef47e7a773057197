use Rattle.std.proofs.Common.{◌≡◌, ◌∷◌, ◌++◌, take}
use Rattle.std.specs.List.{flat_map}
use Rattle.tt_value.specs.values.RowText.{value_text}
use Rattle.tt_value.proofs.print.write_row.Given as goal

abbrev pub invariant-loop-value : goal.invariant-loop-value
invariant-loop-value l = l.out.items ≡ l.initial.out.items ++ flat_map (λ value. 44 ∷ value_text value) (take l.value-index l.others)
