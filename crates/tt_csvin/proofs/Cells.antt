-- The values of a record's first fields, and the faults of the rows before a record.
use Rattle.std.proofs.Common.{◌≡◌, ℕ, zero, suc, ◌+◌, true, List, [], ◌∷◌, ◌++◌, length, map, take, drop, Option, Some, None, refl, ap, sym, ◌∙◌, arith, append_assoc, eq-eqb}
use Rattle.std.specs.Prelude.{nat_eq, option_and_then, slice_get, zip}
use Rattle.std.specs.Option.{option_or}
use Rattle.std.proofs.lemmas.List.{drop_all, take_all}
use Rattle.csv.specs.Records.{field_at}
use Rattle.tt_value.specs.declared.value.Column.{Column}
use Rattle.tt_value.specs.declared.value.Row.{Row}
use Rattle.tt_value.specs.declared.value.Value.{Value}
use Rattle.tt_value.specs.trees.Scope.{value_or_null}
use Rattle.tt_sql.specs.meaning.Changes.{Changed}
use Rattle.tt_plain.specs.meaning.StagedRows.{added_unless, field_fault, field_value, first_fault, first_field_fault, record_fault, row_of_record}
use Rattle.tt_csvin.specs.Staged.{AddsRows, RefusesAs, RefusesFile, refusal_of}
use Rattle.tt_csvin.specs.declared.StagedError.{StagedError}
use Rattle.tt_csvin.specs.declared.StagedError.TheVariants.{Memory, Refused}
use Rattle.tt_plain.specs.meaning.Staged.{records_of}
use Rattle.tt_plain.specs.meaning.StagedRows.{copied}
use Rattle.tt_value.specs.declared.value.Schema.{Schema}

abbrev pub cell_value : Column × List ℕ → Value
cell_value cell = value_or_null (field_value cell.0.kind cell.1)

-- ---- fields of a record

-- the first fields are read, and have no fault
pub record IsReadUpTo (columns : List Column) (number : ℕ) (fields : List (List ℕ)) (n : ℕ) (values : List Value) : Type 0 where
  pub as_many : length fields ≡ length columns
  pub read : values ≡ map cell_value (zip (take n columns) (take n fields))
  pub sound : first_field_fault number 1 columns fields ≡ first_field_fault number (n + 1) (drop n columns) (drop n fields)

pub field_at_is : (fields : List (List ℕ)) (i : ℕ) → field_at fields i ≡ slice_get fields i
unfolding field_at
field_at_is [] i = refl
field_at_is (f ∷ fields) zero = refl
field_at_is (f ∷ fields) (suc i) = field_at_is fields i

taken_more : {A B C : Type 0} (f : A × B → C) (xs : List A) (ys : List B) (n : ℕ) (a : A) (b : B) → slice_get xs n ≡ Some a → slice_get ys n ≡ Some b
    → map f (zip (take (n + 1) xs) (take (n + 1) ys)) ≡ map f (zip (take n xs) (take n ys)) ++ f (a, b) ∷ []
taken_more f [] ys n a b e g = absurd cc
taken_more f (x ∷ xs) [] n a b e g = absurd cc
taken_more f (x ∷ xs) (y ∷ ys) zero a b e g = let h : x ≡ a = cc in let k : y ≡ b = cc in rw (h, k) refl
taken_more {C = C} f (x ∷ xs) (y ∷ ys) (suc n) a b e g = let s : suc n + 1 ≡ suc (n + 1) = omega arith in rw s (ap (λ (cs : List C). f (x, y) ∷ cs) (taken_more f xs ys n a b e g))

dropped_more : {A : Type 0} (xs : List A) (n : ℕ) (a : A) → slice_get xs n ≡ Some a → drop n xs ≡ a ∷ drop (n + 1) xs
dropped_more [] n a e = absurd cc
dropped_more {A} (x ∷ xs) zero a e = let h : x ≡ a = cc in ap (λ (y : A). y ∷ xs) h
dropped_more (x ∷ xs) (suc n) a e = let s : suc n + 1 ≡ suc (n + 1) = omega arith in rw s (dropped_more xs n a e)

pub one_more : (columns : List Column) (number : ℕ) (fields : List (List ℕ)) (n : ℕ) (values more : List Value) (column : Column) (field : List ℕ) → IsReadUpTo columns number fields n values
    → slice_get columns n ≡ Some column → slice_get fields n ≡ Some field → field_fault number (n + 1) column (field_value column.kind field) ≡ None
    → more ≡ values ++ value_or_null (field_value column.kind field) ∷ [] → IsReadUpTo columns number fields (n + 1) more
one_more columns number fields n values more column field h at_column at_field fits is = record {
  as_many = h.as_many;
  read = is ∙ ap (λ (vs : List Value). vs ++ cell_value (column, field) ∷ []) h.read ∙ sym (taken_more cell_value columns fields n column field at_column at_field);
  sound = h.sound ∙ rw (dropped_more columns n column at_column, dropped_more fields n field at_field, fits) refl;
}

-- the field's fault is the record's
pub fault_here : (columns : List Column) (number : ℕ) (fields : List (List ℕ)) (n : ℕ) (values : List Value) (column : Column) (field : List ℕ) (fault : Changed) → IsReadUpTo columns number fields n values
    → slice_get columns n ≡ Some column → slice_get fields n ≡ Some field → field_fault number (n + 1) column (field_value column.kind field) ≡ Some fault
    → record_fault columns number fields ≡ Some fault
fault_here columns number fields n values column field fault h at_column at_field is =
    let test : nat_eq (length fields) (length columns) ≡ true = eq-eqb _ _ h.as_many in
    rw test (h.sound ∙ rw (dropped_more columns n column at_column, dropped_more fields n field at_field, is) refl)

pub all_read : (columns : List Column) (number : ℕ) (fields : List (List ℕ)) (n : ℕ) (values : List Value) → IsReadUpTo columns number fields n values → n ≡ length columns
    → (values ≡ map cell_value (zip columns fields)) × (record_fault columns number fields ≡ None)
all_read columns number fields n values h e =
    let test : nat_eq (length fields) (length columns) ≡ true = eq-eqb _ _ h.as_many in
    let columns_taken : take n columns ≡ columns = take_all n columns (omega arith) in
    let fields_taken : take n fields ≡ fields = take_all n fields (omega (arith, h.as_many)) in
    let columns_dropped : drop n columns ≡ [] = drop_all n columns (omega arith) in
    (h.read ∙ rw (columns_taken, fields_taken) refl, rw test (h.sound ∙ rw columns_dropped refl))

-- ---- refusals

-- a fault that is that of the whole
pub refused_here : (fault whole : Option Changed) (e : StagedError) → ((f : Changed) → fault ≡ Some f → whole ≡ Some f) → RefusesAs fault e → RefusesAs whole e
refused_here fault whole Memory same h = tt
refused_here None whole (Refused why) same h = absurd cc
refused_here (Some f) whole (Refused why) same h = rw (same f refl) h

-- ---- records

no_fault : {A : Type 0} (a b : Option A) → option_or a b ≡ None → (a ≡ None) × (b ≡ None)
no_fault None b e = (refl, e)
no_fault (Some x) b e = absurd cc

-- the first fault stands behind records without one
faults_behind : (columns : List Column) (n : ℕ) (done rest : List (List (List ℕ))) → first_fault columns n done ≡ None → first_fault columns n (done ++ rest) ≡ first_fault columns (n + length done) rest
faults_behind columns n [] rest e = let s : n ≡ n + 0 = omega arith in ap (λ m. first_fault columns m rest) s
faults_behind columns n (fields ∷ done) rest e =
    let parts = no_fault (record_fault columns n fields) (first_fault columns (n + 1) done) e in
    let s : n + 1 + length done ≡ n + suc (length done) = omega arith in
    ap (λ (f : Option Changed). option_or f (first_fault columns (n + 1) (done ++ rest))) parts.0
    ∙ faults_behind columns (n + 1) done rest parts.1 ∙ ap (λ m. first_fault columns m rest) s

pub one_record_more : (columns : List Column) (done : List (List (List ℕ))) (fields : List (List ℕ)) (number : ℕ) → number ≡ length done + 1 → first_fault columns 1 done ≡ None
    → record_fault columns number fields ≡ None → first_fault columns 1 (done ++ fields ∷ []) ≡ None
one_record_more columns done fields number count sound fits =
    let s : 1 + length done ≡ number = omega arith in
    faults_behind columns 1 done (fields ∷ []) sound ∙ ap (λ m. first_fault columns m (fields ∷ [])) s ∙ rw fits refl

pub copied_all : (schema : Schema) (file : List ℕ) (done : List (List (List ℕ))) (rows : List Row) → records_of file ≡ done → rows ≡ map (row_of_record schema.columns) done
    → first_fault schema.columns 1 done ≡ None → AddsRows (copied schema file) rows
unfolding copied
copied_all schema file done rows all is sound = rw (all, sound, is) refl

pub record_refused : (schema : Schema) (file : List ℕ) (done rest : List (List (List ℕ))) (fields : List (List ℕ)) (number : ℕ) (e : StagedError) → records_of file ≡ (done ++ fields ∷ []) ++ rest
    → number ≡ length done + 1 → first_fault schema.columns 1 done ≡ None → RefusesAs (record_fault schema.columns number fields) e → RefusesFile (copied schema file) e
unfolding copied
record_refused schema file done rest fields number Memory all count sound h = tt
record_refused schema file done rest fields number (Refused why) all count sound h =
    let s : 1 + length done ≡ number = omega arith in
    let first : first_fault schema.columns 1 (records_of file) ≡ option_or (record_fault schema.columns number fields) (first_fault schema.columns (number + 1) rest) =
    ap (first_fault schema.columns 1) (all ∙ append_assoc done (fields ∷ []) rest) ∙ faults_behind schema.columns 1 done (fields ∷ rest) sound ∙ ap (λ m. first_fault schema.columns m (fields ∷ rest)) s in
    rw first (by (record_fault schema.columns number fields) h)
  where
    by : (fault : Option Changed) → option_and_then refusal_of fault ≡ Some why → refusal_of (added_unless (map (row_of_record schema.columns) (records_of file)) (option_or fault (first_fault schema.columns (number + 1) rest))) ≡ Some why
    by None h = absurd cc
    by (Some f) h = h
