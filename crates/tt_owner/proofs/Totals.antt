-- The totals of a table, from the parts that it owns.
use Rattle.std.proofs.Common.{◌≡◌, ℕ, ◌+◌, Bool, true, false, ◌==◌, ◌&&◌, ◌||◌, List, [], ◌∷◌, ◌++◌, map, filter, cond, length, sum_by, refl, ap, sym, ◌∙◌, inl, inr, arith}
use Rattle.std.specs.List.{list_any}
use Rattle.std.specs.List.Sorted.{IsPermutation}
use Rattle.std.proofs.lemmas.Bool.{cases_Bool, lt-ltb}
use Rattle.std.proofs.lemmas.List.{append-nil}
use Rattle.std.proofs.lemmas.List.Sums.{sum_by-cons}
use Rattle.std.proofs.lemmas.List.Sorted.{list_any-IsPermutation, sum_by-IsPermutation}
use denote.Enum.Bare.{sameb}
use Rattle.tt_layout.specs.contracts.hold.Class.{the_type}
use Rattle.tt_layout.specs.declared.hold.Class.{Class}
use Rattle.tt_layout.specs.declared.hold.Class.TheVariants as class
use Rattle.tt_layout.specs.declared.facts.TableFacts.{TableFacts}
use Rattle.tt_layout.specs.declared.facts.PartFacts.{PartFacts}
use Rattle.tt_layout.specs.declared.facts.Facts.{Facts}
use Rattle.tt_layout.specs.Holds.{stands}
use Rattle.tt_layout.specs.Owners.{owner_of, class_of}
use Rattle.tt_value.specs.declared.value.Row.{Row}
use Rattle.tt_plain.specs.report.Metrics.{class_number, is_owned_as, bytes_owned, is_measured, metric_row, metric_rows}
use Rattle.tt_owner.specs.declared.owned.Owned.{Owned}
use Rattle.tt_owner.specs.declared.row.MetricRow.{MetricRow}
use Rattle.tt_owner.specs.Owned.{owned_of}
use Rattle.tt_owner.specs.Rows.{has_some, counted, metric_of, row_of_run, row_if, reply_row}
use Rattle.tt_owner.proofs.Lists.{list_any-map}

-- ---- sums

pub sum_by-map : {X Y : Type 0} (f : Y → ℕ) (g : X → Y) (xs : List X) → sum_by f (map g xs) ≡ sum_by (λ x. f (g x)) xs
sum_by-map f g [] = refl
sum_by-map f g (x ∷ xs) =
    sum_by-cons f (g x) (map g xs) ∙ ap (λ (n : ℕ). f (g x) + n) (sum_by-map f g xs) ∙ sym (sum_by-cons (λ x. f (g x)) x xs)

pub sum_by-same : {X : Type 0} (f g : X → ℕ) (xs : List X) → ((x : X) → f x ≡ g x) → sum_by f xs ≡ sum_by g xs
sum_by-same f g [] same = refl
sum_by-same f g (x ∷ xs) same =
    sum_by-cons f x xs ∙ ap (λ (n : ℕ). n + sum_by f xs) (same x) ∙ ap (λ (n : ℕ). g x + n) (sum_by-same f g xs same) ∙ sym (sum_by-cons g x xs)

pub sum_by-filter : {X : Type 0} (f : X → ℕ) (q : X → Bool) (xs : List X) → sum_by f (filter q xs) ≡ sum_by (λ x. cond (q x) (f x) 0) xs
sum_by-filter f q [] = refl
sum_by-filter {X = X} f q (x ∷ xs) =
    elim (cases_Bool (q x)) [
      | inl kept ↦ ap (λ (b : Bool). sum_by f (cond b (x ∷ filter q xs) (filter q xs))) kept
          ∙ sum_by-cons f x (filter q xs)
          ∙ ap (λ (n : ℕ). f x + n) (sum_by-filter f q xs)
          ∙ ap (λ (b : Bool). cond b (f x) 0 + sum_by (λ x. cond (q x) (f x) 0) xs) (sym kept)
          ∙ sym (sum_by-cons (λ x. cond (q x) (f x) 0) x xs)
      | inr left ↦ ap (λ (b : Bool). sum_by f (cond b (x ∷ filter q xs) (filter q xs))) left
          ∙ sum_by-filter f q xs
          ∙ omega arith
          ∙ ap (λ (b : Bool). cond b (f x) 0 + sum_by (λ x. cond (q x) (f x) 0) xs) (sym left)
          ∙ sym (sum_by-cons (λ x. cond (q x) (f x) 0) x xs)
    ]

-- ---- a table's totals

pub same_class : (a b : Class) → sameb the_type a b ≡ (class_number a == class_number b)
same_class class.Active class.Active = refl
same_class class.Active class.TimeTravel = refl
same_class class.Active class.FailSafe = refl
same_class class.Active class.RetainedForClone = refl
same_class class.Active class.Pending = refl
same_class class.TimeTravel class.Active = refl
same_class class.TimeTravel class.TimeTravel = refl
same_class class.TimeTravel class.FailSafe = refl
same_class class.TimeTravel class.RetainedForClone = refl
same_class class.TimeTravel class.Pending = refl
same_class class.FailSafe class.Active = refl
same_class class.FailSafe class.TimeTravel = refl
same_class class.FailSafe class.FailSafe = refl
same_class class.FailSafe class.RetainedForClone = refl
same_class class.FailSafe class.Pending = refl
same_class class.RetainedForClone class.Active = refl
same_class class.RetainedForClone class.TimeTravel = refl
same_class class.RetainedForClone class.FailSafe = refl
same_class class.RetainedForClone class.RetainedForClone = refl
same_class class.RetainedForClone class.Pending = refl
same_class class.Pending class.Active = refl
same_class class.Pending class.TimeTravel = refl
same_class class.Pending class.FailSafe = refl
same_class class.Pending class.RetainedForClone = refl
same_class class.Pending class.Pending = refl

-- what a part counts for a table in a class
abbrev pub share : Facts → ℕ → Class → PartFacts → ℕ
share facts table class part = cond (is_owned_as facts table class part) part.bytes 0

pub owned_is_shares : (facts : Facts) (table : ℕ) (class : Class) → bytes_owned facts table class ≡ sum_by (share facts table class) facts.parts
unfolding bytes_owned
owned_is_shares facts table class = sum_by-filter (λ (part : PartFacts). part.bytes) (is_owned_as facts table class) facts.parts

pub run_total : (facts : Facts) (owned run : List Owned) (table : ℕ) (class : Class) → IsPermutation (map (owned_of facts) facts.parts) owned
    → run ≡ filter (λ (part : Owned). part.owner == table) owned → sum_by (counted class) run ≡ bytes_owned facts table class
run_total facts owned run table class permuted is =
    ap (sum_by (counted class)) is
    ∙ sum_by-filter (counted class) (λ (part : Owned). part.owner == table) owned
    ∙ sum_by-IsPermutation (λ (part : Owned). cond (part.owner == table) (counted class part) 0) (map (owned_of facts) facts.parts) owned permuted
    ∙ sum_by-map (λ (part : Owned). cond (part.owner == table) (counted class part) 0) (owned_of facts) facts.parts
    ∙ sum_by-same (λ (part : PartFacts). cond (owner_of facts part == table) (counted class (owned_of facts part)) 0) (share facts table class) facts.parts
    (λ part. both (owner_of facts part == table) (class_number (class_of facts part) == class_number class) part.bytes)
    ∙ sym (owned_is_shares facts table class)
  where
    both : (a b : Bool) (n : ℕ) → cond a (cond b n 0) 0 ≡ cond (a && b) n 0
    both true b n = refl
    both false b n = refl

filter_some : (q : Owned → Bool) (xs : List Owned) → has_some (filter q xs) ≡ list_any q xs
filter_some q [] = refl
filter_some q (x ∷ xs) =
    elim (cases_Bool (q x)) [
      | inl kept ↦ ap (λ (b : Bool). has_some (cond b (x ∷ filter q xs) (filter q xs))) kept
          ∙ lt-ltb 0 (length (x ∷ filter q xs)) (omega arith)
          ∙ sym (ap (λ (b : Bool). b || list_any q xs) kept)
      | inr left ↦ ap (λ (b : Bool). has_some (cond b (x ∷ filter q xs) (filter q xs))) left
          ∙ filter_some q xs
          ∙ sym (ap (λ (b : Bool). b || list_any q xs) left)
    ]

pub run_measured : (facts : Facts) (owned run : List Owned) (table : TableFacts) → IsPermutation (map (owned_of facts) facts.parts) owned
    → run ≡ filter (λ (part : Owned). part.owner == table.number) owned → (stands facts.at table || has_some run) ≡ is_measured facts table
run_measured facts owned run table permuted is =
    ap (λ (b : Bool). stands facts.at table || b)
    (ap has_some is
    ∙ filter_some (λ (part : Owned). part.owner == table.number) owned
    ∙ sym (list_any-IsPermutation (λ (part : Owned). part.owner == table.number) (map (owned_of facts) facts.parts) owned permuted)
    ∙ list_any-map (λ (part : Owned). part.owner == table.number) (owned_of facts) facts.parts)

pub run_row : (facts : Facts) (owned run : List Owned) (table : TableFacts) → IsPermutation (map (owned_of facts) facts.parts) owned
    → run ≡ filter (λ (part : Owned). part.owner == table.number) owned → row_of_run table run ≡ metric_of facts table
run_row facts owned run table permuted is =
    let a : sum_by (counted class.Active) run ≡ bytes_owned facts table.number class.Active = run_total facts owned run table.number class.Active permuted is in
    let t : sum_by (counted class.TimeTravel) run ≡ bytes_owned facts table.number class.TimeTravel = run_total facts owned run table.number class.TimeTravel permuted is in
    let f : sum_by (counted class.FailSafe) run ≡ bytes_owned facts table.number class.FailSafe = run_total facts owned run table.number class.FailSafe permuted is in
    let r : sum_by (counted class.RetainedForClone) run ≡ bytes_owned facts table.number class.RetainedForClone = run_total facts owned run table.number class.RetainedForClone permuted is in
    let p : sum_by (counted class.Pending) run ≡ bytes_owned facts table.number class.Pending = run_total facts owned run table.number class.Pending permuted is in
    cc

-- ---- rows

pub replied : (facts : Facts) (tables : List TableFacts) → map reply_row (map (metric_of facts) tables) ≡ map (metric_row facts) tables
replied facts [] = refl
replied facts (t ∷ ts) = ap (λ (rows : List Row). metric_row facts t ∷ rows) (replied facts ts)

pub all_replied : (facts : Facts) (rows : List MetricRow) → rows ≡ map (metric_of facts) (filter (is_measured facts) facts.tables) → map reply_row rows ≡ metric_rows facts
unfolding metric_rows
all_replied facts rows is = ap (map reply_row) is ∙ replied facts (filter (is_measured facts) facts.tables)

measured : (facts : Facts) (owned run : List Owned) (table : TableFacts) (at : ℕ) (answer : Bool) → facts.at ≡ at → IsPermutation (map (owned_of facts) facts.parts) owned
    → run ≡ filter (λ (part : Owned). part.owner == table.number) owned → answer ≡ (stands at table || has_some run) → is_measured facts table ≡ answer
measured facts owned run table at answer same permuted is e =
    sym (run_measured facts owned run table permuted is) ∙ ap (λ (k : ℕ). stands k table || has_some run) same ∙ sym e

pub no_row : (facts : Facts) (owned run : List Owned) (table : TableFacts) (at : ℕ) (rows : List MetricRow) → facts.at ≡ at → IsPermutation (map (owned_of facts) facts.parts) owned
    → run ≡ filter (λ (part : Owned). part.owner == table.number) owned → false ≡ (stands at table || has_some run) → rows ≡ rows ++ row_if facts table
no_row facts owned run table at rows same permuted is e =
    sym (ap (λ (b : Bool). rows ++ cond b (metric_of facts table ∷ []) []) (measured facts owned run table at false same permuted is e) ∙ append-nil rows)

pub one_row : (facts : Facts) (owned run : List Owned) (table : TableFacts) (at : ℕ) (rows new : List MetricRow) (row : MetricRow) → facts.at ≡ at → IsPermutation (map (owned_of facts) facts.parts) owned
    → run ≡ filter (λ (part : Owned). part.owner == table.number) owned → true ≡ (stands at table || has_some run)
    → row ≡ row_of_run table run → new ≡ rows ++ row ∷ [] → new ≡ rows ++ row_if facts table
one_row facts owned run table at rows new row same permuted is e f g =
    g
    ∙ ap (λ (r : MetricRow). rows ++ r ∷ []) (f ∙ run_row facts owned run table permuted is)
    ∙ sym (ap (λ (b : Bool). rows ++ cond b (metric_of facts table ∷ []) []) (measured facts owned run table at true same permuted is e))
