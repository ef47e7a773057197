-- Rows put into groups one by one, and where the group of a key stands.
use Rattle.std.specs.Prelude.{◌≡◌, ℕ, zero, suc, List, [], ◌∷◌, ◌++◌, map, if◌then◌else◌, Option, Some, None}
use Rattle.std.specs.Option.{option_map}
use Rattle.std.specs.List.{list_any}
use Rattle.std.specs.Borrow.{Bor}
use Rattle.std.specs.BTreeMap.{BTreeMap}
use Rattle.std.specs.BTreeMap as tree
use Rattle.std.specs.declared.vec.Vec.{Vec}
use Rattle.tt_value.specs.declared.value.Row.{Row}
use Rattle.tt_value.specs.values.Order.{row_cmp, is_same_row}
use Rattle.tt_value.specs.trees.Scope.{Scope}
use Rattle.tt_sql.specs.declared.query.Selection.{Selection}
use Rattle.tt_sql.specs.meaning.Queries.{value_at, selected}
use Rattle.tt_agg.specs.Lent.{lent}

-- a row's values at these places
abbrev pub key_at : List (Option ℕ) → Row → Row
key_at places row = record { values = map (λ place. value_at place row) places }

-- the rows of each group
abbrev pub rows_of : {Z : Type 0} → List (Vec (Bor Row) Z) → List (List Row)
rows_of groups = map (λ group. lent group.items) groups

-- the row of the answer that a group gives
abbrev pub group_row : {Z : Type 0} → Scope → Selection → Vec (Bor Row) Z → Option Row
group_row scope selection group = selected scope selection (lent group.items)

-- a row behind those of the group at a place, or as a group of its own behind all
abbrev pub with_row : ℕ → Row → List (List Row) → List (List Row)
with_row place row [] = (row ∷ []) ∷ []
with_row zero row (group ∷ groups) = (group ++ row ∷ []) ∷ groups
with_row (suc place) row (group ∷ groups) = group ∷ with_row place row groups

-- where a key stands among keys
abbrev pub key_place : Row → List Row → Option ℕ
key_place key [] = None
key_place key (k ∷ keys) = if is_same_row key k then Some 0 else option_map suc (key_place key keys)

-- where it stands, or where it comes
abbrev pub place_for : Row → List Row → ℕ
place_for key [] = 0
place_for key (k ∷ keys) = if is_same_row key k then 0 else suc (place_for key keys)

abbrev pub with_key : Row → List Row → List Row
with_key key keys = if list_any (is_same_row key) keys then keys else keys ++ key ∷ []

-- the map has just the places of these keys
abbrev pub HasPlacesOf : List Row → BTreeMap Row ℕ → Type 0
HasPlacesOf keys found = (key : Row) → tree.get row_cmp found key ≡ key_place key keys
