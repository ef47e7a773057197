-- What the type of a value says: a number fits 64 bits, and a text is one. Callers owe none of it.
use Rattle.std.specs.Int.{w64}
use Rattle.std.specs.Int.RustNames.{FitsSigned}
use Rattle.std.specs.List.{AllByRecursion}
use Rattle.tt_value.specs.declared.value.Value.{Value}
use Rattle.tt_value.specs.declared.value.Value.TheVariants.{Int, Text}
use Rattle.tt_value.specs.declared.value.Row.{Row}
use Rattle.tt_textcol.specs.TextBody.{IsValue}

abbrev pub IsValid : Value → Type 0
IsValid (Int n) = FitsSigned w64 n
IsValid (Text text) = IsValue text
IsValid _ = Unit {0}

abbrev pub AreValid : Row → Type 0
AreValid row = AllByRecursion IsValid row.values
