-- The columns of tables are found by their names, since no two columns of a table have one name.
use Rattle.std.proofs.Common.{◌≡◌, ℕ, zero, suc, ◌≤◌, Bool, true, false, List, [], ◌∷◌, length, map, take, drop, Some, None, refl, sym, ap, ◌∙◌, subst, arith}
use Rattle.std.specs.Prelude.{slice_get, if◌then◌else◌}
use Rattle.std.specs.List.{position}
use Rattle.std.specs.Str.{bytes_eq}
use Rattle.std.proofs.lemmas.Option.{none-some, same_Some}
use Rattle.std.proofs.lemmas.List.{take_all, length-drop}
use Rattle.tt_value.specs.declared.value.Column.{Column}
use Rattle.tt_value.specs.declared.name.Name.{Name}
use Rattle.tt_sql.specs.declared.table.ColumnDefinition.{ColumnDefinition}
use Rattle.tt_plain.specs.WrongCounts.{is_name, mention, mentions, defined_again, defined_names, places_of, miscounted_columns}
use Rattle.tt_plain.specs.definition.Create.{column_made}
use Rattle.tt_plain.proofs.Lists.{nil_both, same_itself, position_here, position_later}

-- ---- the columns of a CREATE TABLE that is not refused

not_named : (b : Bool) (place : ℕ) → (if b then place ∷ [] else []) ≡ [] → b ≡ false
not_named true place e = absurd cc
not_named false place e = refl

-- a name that is not mentioned behind a column is none of those
not_behind : (text : List ℕ) (columns : List ColumnDefinition) (k : ℕ) (column : Column) → mentions text (defined_names columns) ≡ [] → slice_get (map column_made columns) k ≡ Some column → bytes_eq text column.name ≡ false
not_behind text [] k column none at = absurd (none-some column at)
not_behind text (first ∷ columns) zero column none at =
    subst (λ (c : Column). bytes_eq text c.name ≡ false) (same_Some (column_made first) column at) (not_named (is_name text first.name) first.name.place (nil_both (mention text first.name) (mentions text (defined_names columns)) none).0)
not_behind text (first ∷ columns) (suc k) column none at = not_behind text columns k column (nil_both (mention text first.name) (mentions text (defined_names columns)) none).1 at

pub found_made : (columns : List ColumnDefinition) → defined_again (defined_names columns) ≡ [] → (k : ℕ) (column : Column) → slice_get (map column_made columns) k ≡ Some column → position (λ (c : Column). bytes_eq c.name column.name) (map column_made columns) ≡ Some k
found_made [] once k column at = absurd (none-some column at)
found_made (first ∷ columns) once zero column at =
    subst (λ (c : Column). position (λ (other : Column). bytes_eq other.name c.name) (map column_made (first ∷ columns)) ≡ Some 0) (same_Some (column_made first) column at)
    (position_here (λ (other : Column). bytes_eq other.name first.name.text) (column_made first) (map column_made columns) (same_itself first.name.text))
found_made (first ∷ columns) once (suc k) column at =
    let both = nil_both (mentions first.name.text (defined_names columns)) (defined_again (defined_names columns)) once in
    position_later (λ (c : Column). bytes_eq c.name column.name) (column_made first) (map column_made columns) k (not_behind first.name.text columns k column both.0 at) (found_made columns both.1 k column at)

no_places : (names : List Name) → places_of names ≡ [] → length names ≡ 0
no_places [] e = refl
no_places (name ∷ names) e = absurd cc

-- where no column is past the 32nd, each name stands once
pub named_once : (names : List Name) → miscounted_columns names ≡ [] → defined_again names ≡ []
named_once names none =
    let both = nil_both (defined_again (take 32 names)) (places_of (drop 32 names)) none in
    let short : length names ≤ 32 = omega (arith, length-drop 32 names, no_places (drop 32 names) both.1) in
    sym (ap defined_again (take_all 32 names short)) ∙ both.0
