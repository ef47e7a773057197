-- The rows of a staged file that is not refused fit the schema.
use Rattle.std.specs.List.{AllZip}
use Rattle.std.specs.Option.{option_or}
use Rattle.std.specs.Prelude.{Bool, List, None, Option, Some, [], false, if◌then◌else◌, int_le, int_lt, length, map, neg_ℤ, not, pos, refl, true, zip, ℕ, ℤ, ⊤, ◌&&◌, ◌+◌, ◌==◌, ◌^◌, ◌∷◌, ◌≡◌}
use Rattle.std.proofs.Common.{arith, subst, sym}
use Rattle.std.proofs.lemmas.Option.{none-some, same_Some}
use Rattle.tt_plain.proofs.Answers.{and_then_some, map_some}
use Rattle.tt_plain.proofs.Tests.{same_number}
use Rattle.tt_plain.proofs.law.Gives.{Gives, gives_or}
use Rattle.tt_plain.specs.ValueKinds.{HasKinds, IsOf, IsRowOf, column_kinds}
use Rattle.tt_plain.specs.law.Lists.{Every}
use Rattle.tt_plain.specs.meaning.Staged.{records_of}
use Rattle.tt_plain.specs.meaning.StagedRows.{added_unless, copied, field_fault, field_value, first_fault, first_field_fault, is_text_value, record_fault, row_of_record, signed_of, value_of_kind}
use Rattle.tt_sql.specs.meaning.Changes.{BadData, Changed, Changes, NullInRow, OutOfRange, is_missing}
use Rattle.tt_value.specs.calendar.Reading.{day_of}
use Rattle.tt_value.specs.declared.value.Column.{Column}
use Rattle.tt_value.specs.declared.value.Kind.{Kind}
use Rattle.tt_value.specs.declared.value.Row.{Row}
use Rattle.tt_value.specs.declared.value.Schema.{Schema}
use Rattle.tt_value.specs.declared.value.Value.{Value}
use Rattle.tt_value.specs.trees.Expressions.{in_range}
use Rattle.tt_value.specs.trees.Predicates.{is_null}
use Rattle.tt_value.specs.trees.Scope.{value_or_null}
use Rattle.tt_value.specs.declared.value.Kind.TheVariants as kinds
use Rattle.tt_value.specs.declared.value.Value.TheVariants as value

-- ---- what is read is of the column's kind

in_range_if : (b : Bool) (n : ℤ) (v : Value) → (if b then Some (value.Int n) else None) ≡ Some v → IsOf (Some kinds.Int) v
in_range_if true n v e = subst (IsOf (Some kinds.Int)) (same_Some (value.Int n) v e) refl
in_range_if false n v e = absurd (none-some v e)

text_if : (b : Bool) (bytes : List ℕ) (v : Value) → (if b then Some (value.Text bytes) else None) ≡ Some v → IsOf (Some kinds.Varchar) v
text_if true bytes v e = subst (IsOf (Some kinds.Varchar)) (same_Some (value.Text bytes) v e) refl
text_if false bytes v e = absurd (none-some v e)

read_of_kind : (kind : Kind) (bytes : List ℕ) (v : Value) → value_of_kind kind bytes ≡ Some v → IsOf (Some kind) v
read_of_kind kinds.Int bytes v e =
    let found = and_then_some in_range (signed_of bytes) v e in
    in_range_if (int_le (neg_ℤ (pos (2 ^ 63))) found.0 && int_lt found.0 (pos (2 ^ 63))) found.0 v found.2
read_of_kind kinds.Date bytes v e =
    let found = map_some value.Date (day_of bytes) v e in
    subst (IsOf (Some kinds.Date)) found.2 refl
read_of_kind kinds.Varchar bytes v e = text_if (is_text_value bytes) bytes v e

field_of_kind : (kind : Kind) (field : List ℕ) (v : Value) → field_value kind field ≡ Some v → IsOf (Some kind) v
field_of_kind kind [] v e = subst (IsOf (Some kind)) (same_Some value.Null v e) tt
field_of_kind kind (byte ∷ bytes) v e = read_of_kind kind (byte ∷ bytes) v e

-- ---- a field without a fault

record IsGood (column : Column) (v : Value) : Type 0 where
  of_kind : IsOf (Some column.kind) v
  filled : is_missing (Some (column, v)) ≡ false

unless_missing : (b : Bool) (place : ℕ) → (if b then Some (NullInRow place) else None) ≡ None → b ≡ false
unless_missing true place e = absurd (none-some (NullInRow place) (sym e))
unless_missing false place e = refl

good_field : (number place : ℕ) (column : Column) (field : List ℕ) → field_fault number place column (field_value column.kind field) ≡ None → IsGood column (value_or_null (field_value column.kind field))
good_field number place column field none = by (field_value column.kind field) refl none
  where
    by : (found : Option Value) → field_value column.kind field ≡ found → field_fault number place column found ≡ None → IsGood column (value_or_null found)
    by None e f = absurd (none-some (BadData number place) (sym f))
    by (Some v) e f = record { of_kind = field_of_kind column.kind field v e; filled = unless_missing (not column.nullable && is_null v) place f }

none_of : {A : Type 0} (a b : Option A) → option_or a b ≡ None → (a ≡ None) × (b ≡ None)
none_of None b e = (refl, e)
none_of (Some x) b e = absurd (none-some x (sym e))

-- ---- a record without a fault

abbrev cells : List Column → List (List ℕ) → List Value
cells columns fields = map (λ cell. value_or_null (field_value cell.0.kind cell.1)) (zip columns fields)

module _ (number : ℕ) where
  good_fields : (place : ℕ) (columns : List Column) (fields : List (List ℕ)) → length fields ≡ length columns → first_field_fault number place columns fields ≡ None
      → HasKinds (column_kinds columns) (record { values = cells columns fields }) × AllZip (λ (column : Column) (v : Value). is_missing (Some (column, v)) ≡ false) columns (cells columns fields)
  good_fields place [] [] same none = (tt, tt)
  good_fields place [] (field ∷ fields) same none = absurd (omega (arith, same))
  good_fields place (column ∷ columns) [] same none = absurd (omega (arith, same))
  good_fields place (column ∷ columns) (field ∷ fields) same none =
      let parts = none_of (field_fault number place column (field_value column.kind field)) (first_field_fault number (place + 1) columns fields) none in
      let here = good_field number place column field parts.0 in
      let rest = good_fields (place + 1) columns fields (omega (arith, same)) parts.1 in
      ((here.of_kind, rest.0), (here.filled, rest.1))

  good_record : (schema : Schema) (fields : List (List ℕ)) → record_fault schema.columns number fields ≡ None → IsRowOf schema (row_of_record schema.columns fields)
  good_record schema fields none = by (length fields == length schema.columns) refl none
    where
      by : (b : Bool) → (length fields == length schema.columns) ≡ b → (if b then first_field_fault number 1 schema.columns fields else Some (BadData number 0)) ≡ None → IsRowOf schema (row_of_record schema.columns fields)
      by true e f =
          let both = good_fields 1 schema.columns fields (same_number (length fields) (length schema.columns) e) f in
          record { kinds = both.0; filled = both.1 }
      by false e f = absurd (none-some (BadData number 0) (sym f))

good_records : (schema : Schema) (number : ℕ) (records : List (List (List ℕ))) → first_fault schema.columns number records ≡ None → Every (IsRowOf schema) (map (row_of_record schema.columns) records)
good_records schema number [] none = tt
good_records schema number (fields ∷ records) none =
    let parts = none_of (record_fault schema.columns number fields) (first_fault schema.columns (number + 1) records) none in
    (good_record number schema fields parts.0, good_records schema (number + 1) records parts.1)

-- ---- a fault is no change

abbrev IsFault : Changed → Type 0
IsFault (Changes removed added count) = ⊥
IsFault (BadData number column) = ⊤
IsFault OutOfRange = ⊤
IsFault (NullInRow column) = ⊤

null_faulty : (b : Bool) (place : ℕ) → Gives IsFault (if b then Some (NullInRow place) else None)
null_faulty true place = tt
null_faulty false place = tt

field_faulty : (number place : ℕ) (column : Column) (found : Option Value) → Gives IsFault (field_fault number place column found)
field_faulty number place column None = tt
field_faulty number place column (Some v) = null_faulty (not column.nullable && is_null v) place

fields_faulty : (number place : ℕ) (columns : List Column) (fields : List (List ℕ)) → Gives IsFault (first_field_fault number place columns fields)
fields_faulty number place [] [] = tt
fields_faulty number place [] (field ∷ fields) = tt
fields_faulty number place (column ∷ columns) [] = tt
fields_faulty number place (column ∷ columns) (field ∷ fields) =
    gives_or IsFault (field_fault number place column (field_value column.kind field)) (first_field_fault number (place + 1) columns fields)
    (field_faulty number place column (field_value column.kind field)) (fields_faulty number (place + 1) columns fields)

record_faulty : (columns : List Column) (number : ℕ) (fields : List (List ℕ)) → Gives IsFault (record_fault columns number fields)
record_faulty columns number fields = by (length fields == length columns)
  where
    by : (b : Bool) → Gives IsFault (if b then first_field_fault number 1 columns fields else Some (BadData number 0))
    by true = fields_faulty number 1 columns fields
    by false = tt

records_faulty : (columns : List Column) (number : ℕ) (records : List (List (List ℕ))) → Gives IsFault (first_fault columns number records)
records_faulty columns number [] = tt
records_faulty columns number (fields ∷ records) =
    gives_or IsFault (record_fault columns number fields) (first_fault columns (number + 1) records) (record_faulty columns number fields) (records_faulty columns (number + 1) records)

-- ---- what a COPY adds

pub copy_fits : (schema : Schema) (bytes : List ℕ) (removed added : List Row) (count : ℕ) → copied schema bytes ≡ Changes removed added count → Every (IsRowOf schema) added
unfolding copied
copy_fits schema bytes removed added count e = by (first_fault schema.columns 1 (records_of bytes)) refl (records_faulty schema.columns 1 (records_of bytes)) e
  where
    by : (fault : Option Changed) → first_fault schema.columns 1 (records_of bytes) ≡ fault → Gives IsFault fault → added_unless (map (row_of_record schema.columns) (records_of bytes)) fault ≡ Changes removed added count
        → Every (IsRowOf schema) added
    by None none faulty f = let same : map (row_of_record schema.columns) (records_of bytes) ≡ added = cc in subst (Every (IsRowOf schema)) same (good_records schema 1 (records_of bytes) none)
    by (Some fault) some faulty f = absurd (subst IsFault f faulty)
