-- Rows that fit a schema: one value for each column, NULL or of the column's kind. Which columns may have no NULL is not asked.
use Rattle.std.specs.Prelude.{List}
use Rattle.std.specs.List.{AllByRecursion, AllZip}
use Rattle.tt_value.specs.declared.value.Kind.{Kind}
use Rattle.tt_value.specs.declared.value.Kind.TheVariants as kinds
use Rattle.tt_value.specs.declared.value.Value.{Value}
use Rattle.tt_value.specs.declared.value.Value.TheVariants.{Null, Int, Date, Text}
use Rattle.tt_value.specs.declared.value.Schema.{Schema}
use Rattle.tt_value.specs.declared.value.Row.{Row}
use Rattle.tt_intcol.specs.IntBody.{IsDay}
use Rattle.tt_partition.specs.Cuts.{kinds_of}

-- NULL, or a value of the kind; a date is a day of the years 1 to 9999
abbrev pub FitsKind : Kind → Value → Type 0
FitsKind kind Null = Unit {0}
FitsKind kinds.Int (Int n) = Unit {0}
FitsKind kinds.Date (Date day) = IsDay day
FitsKind kinds.Varchar (Text text) = Unit {0}
FitsKind _ _ = ⊥

-- one value for each kind, in order
abbrev pub FitKinds : List Kind → List Value → Type 0
FitKinds kinds values = AllZip FitsKind kinds values

abbrev pub FitSchema : Schema → List Row → Type 0
FitSchema schema rows = AllByRecursion (λ (row : Row). FitKinds (kinds_of schema) row.values) rows
