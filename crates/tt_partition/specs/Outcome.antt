-- What reading returned, seen by view, is what a definition gives, unless memory ran out.
use Rattle.std.specs.Prelude.{◌≡◌, ℕ, Result, Ok, Err}
use Rattle.tt_value.specs.declared.column.BadColumn.{BadColumn}
use Rattle.tt_partition.specs.declared.error.ImageError.{ImageError}
use Rattle.tt_partition.specs.declared.error.ImageError.TheVariants as errors
use Rattle.tt_partition.specs.declared.column.ColumnError.{ColumnError}
use Rattle.tt_partition.specs.declared.column.ColumnError.TheVariants as column_errors

-- of an image and its parts
abbrev pub Fails : {Y : Type 0} → ImageError → Result Y ℕ → Type 0
Fails errors.Memory read = Unit {0}
Fails (errors.BadImage bad) read = read ≡ Err bad.place

abbrev pub Gives : {X Y : Type 0} → (X → Y) → Result X ImageError → Result Y ℕ → Type 0
Gives view (Ok x) read = read ≡ Ok (view x)
Gives view (Err e) read = Fails e read

-- of the values of a column
abbrev pub FailsColumn : {Y : Type 0} → ColumnError → Result Y BadColumn → Type 0
FailsColumn column_errors.Memory read = Unit {0}
FailsColumn (column_errors.BadColumn bad) read = read ≡ Err bad

abbrev pub GivesColumn : {X Y : Type 0} → (X → Y) → Result X ColumnError → Result Y BadColumn → Type 0
GivesColumn view (Ok x) read = read ≡ Ok (view x)
GivesColumn view (Err e) read = FailsColumn e read
