-- Columns whose definitions name no column twice are found by their names.
use Rattle.std.proofs.Common.{◌≡◌, ℕ, zero, suc, ◌<◌, ◌≤◌, Bool, true, false, List, [], ◌∷◌, length, map, take, drop, get_or, Some, None, cond, refl, ap, sym, ◌∙◌, subst, arith}
use Rattle.std.specs.Prelude.{slice_get, nat_lt, if◌then◌else◌}
use Rattle.std.specs.Option.{option_map}
use Rattle.std.specs.List.{position}
use Rattle.std.specs.Str.{bytes_eq}
use Rattle.std.proofs.lemmas.Bool.{lt-ltb}
use Rattle.std.proofs.lemmas.Option.{same_Some, slice_get-map, slice_get_within, get_or_from_slice_get}
use Rattle.std.proofs.lemmas.Slice.Eq.{bytes_eq-Decides}
use Rattle.std.proofs.lemmas.List.{length-map, take_all, length-drop}
use Rattle.std.proofs.lemmas.List.Sums.{position_or_len_is}
use Rattle.tt_value.specs.declared.value.Column.{Column}
use Rattle.tt_value.specs.declared.value.Schema.{Schema}
use Rattle.tt_value.specs.declared.name.Name.{Name}
use Rattle.tt_sql.specs.declared.table.ColumnDefinition.{ColumnDefinition}
use Rattle.tt_plain.specs.WrongCounts.{is_name, mention, mentions, defined_again, defined_names, places_of, miscounted_columns}
use Rattle.tt_plain.specs.ValueKinds.{IsFoundByName}
use Rattle.tt_typer.proofs.KindLaws.{nil_parts, nil_each}
use Rattle.tt_typer.proofs.ListLaws.{all_at_place, item_there}

not_named : (b : Bool) (place : ℕ) → (if b then place ∷ [] else []) ≡ [] → b ≡ false
not_named true place is = cc
not_named false place is = refl

differ : (names : List Name) → defined_again names ≡ [] → (j i : ℕ) (a b : Name) → j < i → slice_get names j ≡ Some a → slice_get names i ≡ Some b → bytes_eq a.text b.text ≡ false
differ [] none j i a b less a_is b_is = cc
differ (name ∷ names) none zero zero a b less a_is b_is = absurd (omega (arith, less))
differ (name ∷ names) none (suc j) zero a b less a_is b_is = absurd (omega (arith, less))
differ (name ∷ names) none zero (suc i) a b less a_is b_is =
    let both = nil_parts (mentions name.text names) (defined_again names) none in
    let here = all_at_place (λ (other : Name). mention name.text other ≡ []) names (nil_each (mention name.text) names both.0) i b b_is in
    subst (λ (n : Name). bytes_eq n.text b.text ≡ false) (same_Some name a a_is) (not_named (is_name name.text b) b.place here)
differ (name ∷ names) none (suc j) (suc i) a b less a_is b_is =
    let both = nil_parts (mentions name.text names) (defined_again names) none in
    differ names both.1 j i a b (omega (arith, less)) a_is b_is

no_places : (names : List Name) → places_of names ≡ [] → length names ≡ 0
no_places [] is = refl
no_places (name ∷ names) is = cc

few : (names : List Name) → miscounted_columns names ≡ [] → defined_again names ≡ []
few names none =
    let both = nil_parts (defined_again (take 32 names)) (places_of (drop 32 names)) none in
    let short : length names ≤ 32 = omega (arith, length-drop 32 names, no_places (drop 32 names) both.1) in
    sym (ap defined_again (take_all 32 names short)) ∙ both.0

-- the text of the name at a place
name_at : (columns : List Column) (names : List Name) → map (λ (column : Column). column.name) columns ≡ map (λ (name : Name). name.text) names → (k : ℕ) (column : Column) → slice_get columns k ≡ Some column → (name : Name) × (slice_get names k ≡ Some name) × (column.name ≡ name.text)
name_at columns names same k column is =
    let wide : length columns ≡ length names = sym (length-map columns (λ (column : Column). column.name)) ∙ ap length same ∙ length-map names (λ (name : Name). name.text) in
    let name = item_there names k (subst (λ n. k < n) wide (slice_get_within columns k column is)) in
    let left = slice_get-map (λ (column : Column). column.name) columns k ∙ ap (option_map (λ (column : Column). column.name)) is in
    let right = slice_get-map (λ (name : Name). name.text) names k ∙ ap (option_map (λ (name : Name). name.text)) name.1 in
    (name.0, name.1, same_Some column.name name.0.text (sym left ∙ ap (λ texts. slice_get texts k) same ∙ right))

position_at : {A : Type 0} (test : A → Bool) (xs : List A) (k : ℕ) (d : A) → k < length xs → ((j : ℕ) → j < k → test (get_or xs j d) ≡ false) → test (get_or xs k d) ≡ true → position test xs ≡ Some k
position_at test xs k d below before here =
    let is = position_or_len_is test xs k d (omega (arith, below)) before (λ _. here) in
    ap (λ n. cond (nat_lt n (length xs)) (Some n) None) is ∙ ap (λ b. cond b (Some k) None) (lt-ltb k (length xs) below)

map_twice : (columns : List ColumnDefinition) → map (λ (name : Name). name.text) (defined_names columns) ≡ map (λ (column : ColumnDefinition). column.name.text) columns
map_twice [] = refl
map_twice (column ∷ columns) = ap (λ texts. column.name.text ∷ texts) (map_twice columns)

pub found_by_name : (schema : Schema) (columns : List ColumnDefinition) → miscounted_columns (defined_names columns) ≡ [] → map (λ (column : Column). column.name) schema.columns ≡ map (λ (column : ColumnDefinition). column.name.text) columns → IsFoundByName schema
found_by_name schema columns none same k column is =
    let names = defined_names columns in
    let texts : map (λ (column : Column). column.name) schema.columns ≡ map (λ (name : Name). name.text) names = same ∙ sym (map_twice columns) in
    let here = name_at schema.columns names texts k column is in
    position_at (λ (c : Column). bytes_eq c.name column.name) schema.columns k column (slice_get_within schema.columns k column is)
    (λ j less.
    let other = item_there schema.columns j (omega (arith, less, slice_get_within schema.columns k column is)) in
    let there = name_at schema.columns names texts j other.0 other.1 in
    let apart = differ names (few names none) j k there.0 here.0 less there.1 here.1 in
    subst (λ (c : Column). bytes_eq c.name column.name ≡ false) (sym (get_or_from_slice_get schema.columns j other.0 column other.1))
    (subst (λ text. bytes_eq text column.name ≡ false) (sym there.2) (subst (λ text. bytes_eq there.0.text text ≡ false) (sym here.2) apart)))
    (subst (λ (c : Column). bytes_eq c.name column.name ≡ true) (sym (get_or_from_slice_get schema.columns k column column is)) ((bytes_eq-Decides column.name column.name).1 refl))
