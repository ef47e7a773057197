-- Tuples whose values can be written.
use Rattle.tt_value.specs.declared.name.Literal.{Literal}
use Rattle.tt_value.specs.values.RowText.{IsPrintableValue}
use Rattle.tt_sql.specs.declared.change.Tuple.{Tuple}
use Rattle.tt_sql.specs.trees.Lists.{Each}

-- the values of a tuple can be written
abbrev pub CanBeWritten : Tuple → Type 0
CanBeWritten t = Each (λ (l : Literal). IsPrintableValue l.value) t.values
