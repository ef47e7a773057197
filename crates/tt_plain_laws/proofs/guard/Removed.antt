-- What a change removes is among the rows that it has seen of its target, and only an UPDATE or a DELETE removes any.
use Rattle.std.specs.Prelude.{Bool, List, None, Option, Some, [], false, filter, if◌then◌else◌, length, not, refl, true, ℕ, ⊤, ◌&&◌, ◌+◌, ◌==◌, ◌∷◌, ◌≡◌, ◌≢◌}
use Rattle.std.proofs.Common.{ap, subst, ◌∙◌}
use Rattle.std.proofs.lemmas.Option.{none-some, same_Some}
use Rattle.tt_plain.proofs.Answers.{bind_some}
use Rattle.tt_plain.proofs.law.Gives.{Gives, gives_if, gives_or}
use Rattle.tt_plain.specs.Answers.{◌>>=◌}
use Rattle.tt_plain.specs.asked.Asked.{Asked}
use Rattle.tt_plain.specs.declared.store.Plain.{Plain}
use Rattle.tt_plain.specs.declared.store.PlainOpen.{PlainOpen}
use Rattle.tt_plain.specs.law.Isolated.{AreAmong}
use Rattle.tt_plain.specs.meaning.Outcome.{Does, change_outcome, change_seen, file_bytes, outcome_of_change, schema_numbered}
use Rattle.tt_plain.specs.meaning.Staged.{records_of}
use Rattle.tt_plain.specs.meaning.StagedRows.{added_unless, copied, field_fault, field_value, first_fault, first_field_fault, record_fault}
use Rattle.tt_plain.specs.opening.Marks.{marks_exclusively}
use Rattle.tt_plain.specs.refusal.UnknownFile.{file_named}
use Rattle.tt_script.specs.declared.script.Script.{Script}
use Rattle.tt_sql.specs.declared.change.Dml.{Dml}
use Rattle.tt_sql.specs.meaning.Changes.{BadData, Changed, Changes, NullInRow, OutOfRange, adds, replaces, stores}
use Rattle.tt_sql.specs.meaning.Scopes.{target_scope}
use Rattle.tt_value.proofs.values.Bags.{minus_none}
use Rattle.tt_value.specs.declared.value.Column.{Column}
use Rattle.tt_value.specs.declared.value.Row.{Row}
use Rattle.tt_value.specs.declared.value.Schema.{Schema}
use Rattle.tt_value.specs.declared.value.Value.{Value}
use Rattle.tt_value.specs.trees.Predicates.{is_null, takes}
use Rattle.tt_plain_laws.proofs.guard.Among.{among_filter}
use Rattle.tt_sql.specs.declared.change.Dml.TheVariants as dml

-- where a change is what its parts say, what it removes has a property
abbrev pub RemovesOnly : (List Row → Type 0) → Changed → Type 0
RemovesOnly P (Changes removed added count) = P removed
RemovesOnly P (BadData number column) = ⊤
RemovesOnly P OutOfRange = ⊤
RemovesOnly P (NullInRow column) = ⊤

stores_only : (P : List Row → Type 0) (removed added : List Row) (count : ℕ) (missing : Option ℕ) → P removed → RemovesOnly P (stores removed added count missing)
stores_only P removed added count None holds = holds
stores_only P removed added count (Some place) holds = tt

adds_only : (P : List Row → Type 0) (schema : Schema) (rows : Option (List Row)) → P [] → RemovesOnly P (adds schema rows)
adds_only P schema None holds = tt
adds_only P schema (Some rows) holds = stores_only P [] rows (length rows) _ holds

replaces_only : (P : List Row → Type 0) (schema : Schema) (removed : List Row) (added : Option (List Row)) → P removed → RemovesOnly P (replaces schema removed added)
replaces_only P schema removed None holds = tt
replaces_only P schema removed (Some added) holds = stores_only P removed added (length removed) _ holds

-- ---- COPY removes nothing, whatever its records are

module _ (P : List Row → Type 0) where
  field_only : (number place : ℕ) (column : Column) (v : Option Value) → Gives (RemovesOnly P) (field_fault number place column v)
  field_only number place column None = tt
  field_only number place column (Some v) = gives_if (RemovesOnly P) (not column.nullable && is_null v) (Some (NullInRow place)) (λ test. tt)

  fields_only : (number place : ℕ) (columns : List Column) (fields : List (List ℕ)) → Gives (RemovesOnly P) (first_field_fault number place columns fields)
  fields_only number place [] [] = tt
  fields_only number place [] (field ∷ fields) = tt
  fields_only number place (column ∷ columns) [] = tt
  fields_only number place (column ∷ columns) (field ∷ fields) =
      gives_or (RemovesOnly P) (field_fault number place column (field_value column.kind field)) (first_field_fault number (place + 1) columns fields)
      (field_only number place column (field_value column.kind field)) (fields_only number (place + 1) columns fields)

  record_only : (columns : List Column) (number : ℕ) (fields : List (List ℕ)) → Gives (RemovesOnly P) (record_fault columns number fields)
  record_only columns number fields = by (length fields == length columns)
    where
      by : (b : Bool) → Gives (RemovesOnly P) (if b then first_field_fault number 1 columns fields else Some (BadData number 0))
      by true = fields_only number 1 columns fields
      by false = tt

  records_only : (columns : List Column) (number : ℕ) (records : List (List (List ℕ))) → Gives (RemovesOnly P) (first_fault columns number records)
  records_only columns number [] = tt
  records_only columns number (fields ∷ records) =
      gives_or (RemovesOnly P) (record_fault columns number fields) (first_fault columns (number + 1) records) (record_only columns number fields) (records_only columns (number + 1) records)

  unless_only : (rows : List Row) (fault : Option Changed) → P [] → Gives (RemovesOnly P) fault → RemovesOnly P (added_unless rows fault)
  unless_only rows None none faults = none
  unless_only rows (Some fault) none faults = faults

-- ---- each change

abbrev pub IsSeen : Dml → List Row → List Row → Type 0
IsSeen d rows removed = AreAmong removed rows × (removed ≢ [] → marks_exclusively d ≡ true)

none_seen : (d : Dml) (rows : List Row) → IsSeen d rows []
none_seen d rows = (minus_none rows, λ some. absurd (some refl))

pub removed_seen : (program : Script) (store : Plain) (seen : PlainOpen) (schema : Schema) (rows : List Row) (d : Dml) → RemovesOnly (IsSeen d rows) (change_seen program store seen schema rows d)
unfolding change_seen copied
removed_seen program store seen schema rows (dml.Insert i) = adds_only (IsSeen (dml.Insert i) rows) schema _ (none_seen (dml.Insert i) rows)
removed_seen program store seen schema rows (dml.Update u) =
    replaces_only (IsSeen (dml.Update u) rows) schema (filter (takes (target_scope u.table schema) u.filter) rows) _ (among_filter (takes (target_scope u.table schema) u.filter) rows, λ some. refl)
removed_seen program store seen schema rows (dml.Delete d) = (among_filter (takes (target_scope d.table schema) d.filter) rows, λ some. refl)
removed_seen program store seen schema rows (dml.Copy c) =
    unless_only (IsSeen (dml.Copy c) rows) _ (first_fault schema.columns 1 (records_of (file_bytes program (file_named program c.file.text)))) (none_seen (dml.Copy c) rows)
    (records_only (IsSeen (dml.Copy c) rows) schema.columns 1 (records_of (file_bytes program (file_named program c.file.text))))

-- ---- what an open change does

-- it is of the target that it has seen
pub record IsOfTarget (seen : PlainOpen) (d : Dml) (table : ℕ) (removed : List Row) : Type 0 where
  pub rows : List Row
  pub target : seen.target ≡ Some (table, rows)
  pub is_seen : IsSeen d rows removed

does_only : (P : List Row → Type 0) (number : ℕ) (changed : Changed) (table : ℕ) (removed added : List Row) (count : ℕ) → change_outcome number changed ≡ Does table removed added count → RemovesOnly P changed
    → (number ≡ table) × P removed
does_only P number (Changes r a c) table removed added count e only = let same : r ≡ removed = cc in (cc, subst P same only)
does_only P number (BadData r c) table removed added count e only = absurd cc
does_only P number OutOfRange table removed added count e only = absurd cc
does_only P number (NullInRow c) table removed added count e only = absurd cc

pub does_of_target : (asked : Asked) (seen : PlainOpen) (d : Dml) (table : ℕ) (removed added : List Row) (count : ℕ) → outcome_of_change asked seen d ≡ Some (Does table removed added count) → IsOfTarget seen d table removed
does_of_target asked seen d table removed added count e = by seen.target refl e
  where
    by : (target : Option (ℕ × List Row)) → seen.target ≡ target
        → (target >>= λ target. schema_numbered asked.store target.0 >>= λ schema. Some (change_outcome target.0 (change_seen asked.program asked.store seen schema target.1 d))) ≡ Some (Does table removed added count)
        → IsOfTarget seen d table removed
    by None is f = absurd (none-some (Does table removed added count) f)
    by (Some target) is f =
        let found = bind_some (schema_numbered asked.store target.0) _ (Does table removed added count) f in
        let both = does_only (IsSeen d target.1) target.0 (change_seen asked.program asked.store seen found.0 target.1 d) table removed added count (same_Some _ (Does table removed added count) found.2)
        (removed_seen asked.program asked.store seen found.0 target.1 d) in
        record { rows = target.1; target = is ∙ ap (λ (n : ℕ). Some (n, target.1)) both.0; is_seen = both.1 }
