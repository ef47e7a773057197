-- The rows that an INSERT adds can be written, where the values of its tuples can.
use Rattle.std.proofs.Common.{◌≡◌, ℕ, zero, suc, List, [], ◌∷◌, map, All, Option, Some, None, refl}
use Rattle.std.specs.Prelude.{slice_get, option_and_then, ℤ}
use Rattle.std.specs.List.{position, zip}
use Rattle.std.specs.Str.{bytes_eq}
use Rattle.std.proofs.lemmas.List.Elements.{All-nil, All-cons}
use Rattle.tt_value.specs.declared.value.Value.{Value}
use Rattle.tt_value.specs.declared.value.Value.TheVariants.{Null, Int, Date, Text}
use Rattle.tt_value.specs.declared.value.Kind.{Kind}
use Rattle.tt_value.specs.declared.value.Kind.TheVariants as kinds
use Rattle.tt_value.specs.declared.value.Column.{Column}
use Rattle.tt_value.specs.declared.value.Schema.{Schema}
use Rattle.tt_value.specs.declared.name.Name.{Name}
use Rattle.tt_value.specs.declared.name.Literal.{Literal}
use Rattle.tt_value.specs.trees.Scope.{beside, date_or_null, value_or_null}
use Rattle.tt_value.specs.calendar.Reading.{day_of}
use Rattle.tt_value.proofs.calendar.Dates.{day_of-read}
use Rattle.tt_value.specs.values.RowText.{IsPrintable, IsPrintableValue}
use Rattle.tt_sql.specs.declared.change.Tuple.{Tuple}
use Rattle.tt_sql.specs.trees.Lists.{Each}
use Rattle.tt_sql.specs.meaning.Changes.{for_column, given_value, in_order, stored_row, tuple_values}
use Rattle.tt_plain.specs.PrintableRows.{CanBeWritten}

read_date : (bytes : List ℕ) (day : Option ℤ) → day_of bytes ≡ day → IsPrintableValue (date_or_null day)
read_date bytes None e = tt
read_date bytes (Some day) e = (day_of-read bytes day e).0

beside_printable : (kind : Kind) (v : Value) → IsPrintableValue v → IsPrintableValue (beside (Some kind) v)
beside_printable kinds.Int v h = h
beside_printable kinds.Varchar v h = h
beside_printable kinds.Date Null h = h
beside_printable kinds.Date (Int n) h = h
beside_printable kinds.Date (Date day) h = h
beside_printable kinds.Date (Text bytes) h = read_date bytes (day_of bytes) refl

-- ---- the values for the columns

each_map : {A B : Type 0} (P : B → Type 0) (f : A → B) (xs : List A) → Each (λ x. P (f x)) xs → Each P (map f xs)
each_map P f [] each = tt
each_map P f (x ∷ xs) each = (each.0, each_map P f xs each.1)

value_there : (values : List Value) (p : ℕ) → Each IsPrintableValue values → IsPrintableValue (value_or_null (slice_get values p))
value_there [] p each = tt
value_there (v ∷ values) zero each = each.0
value_there (v ∷ values) (suc p) each = value_there values p each.1

given_there : (values : List Value) (p : Option ℕ) → Each IsPrintableValue values → IsPrintableValue (value_or_null (option_and_then (slice_get values) p))
given_there values None each = tt
given_there values (Some p) each = value_there values p each

all_given : (names : List Name) (values : List Value) (columns : List Column) → Each IsPrintableValue values → Each IsPrintableValue (map (given_value names values) columns)
all_given names values [] each = tt
all_given names values (column ∷ columns) each = (given_there values (position (λ (name : Name). bytes_eq name.text column.name) names) each, all_given names values columns each)

ordered : (schema : Schema) (names : Option (List Name)) (values : List Value) → Each IsPrintableValue values → Each IsPrintableValue (in_order schema names values)
ordered schema None values each = each
ordered schema (Some names) values each = all_given names values schema.columns each

-- ---- rows

stored : (columns : List Column) (values : List Value) → Each IsPrintableValue values → All IsPrintableValue (map (λ (cell : Column × Value). for_column cell.0 cell.1) (zip columns values))
stored [] values each = All-nil IsPrintableValue
stored (column ∷ columns) [] each = All-nil IsPrintableValue
stored (column ∷ columns) (v ∷ values) each = All-cons IsPrintableValue (for_column column v) _ (beside_printable column.kind v each.0) (stored columns values each.1)

pub tuples_printable : (schema : Schema) (names : Option (List Name)) (tuples : List Tuple) → Each CanBeWritten tuples → All IsPrintable (map (stored_row schema names) (map tuple_values tuples))
tuples_printable schema names [] each = All-nil IsPrintable
tuples_printable schema names (t ∷ tuples) each =
    All-cons IsPrintable (stored_row schema names (tuple_values t)) _
    (stored schema.columns (in_order schema names (tuple_values t)) (ordered schema names (tuple_values t) (each_map IsPrintableValue (λ (l : Literal). l.value) t.values each.0)))
    (tuples_printable schema names tuples each.1)
