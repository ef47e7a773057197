-- Bags of rows: sorted lists, with as many copies of a row as were put in.
use Rattle.std.specs.Prelude.{◌≡◌, ℕ, false, if◌then◌else◌, List, [], ◌∷◌, ◌++◌, count_by, ⊤}
use Rattle.tt_value.specs.declared.value.Row.{Row}
use Rattle.tt_value.specs.values.Order.{is_above, is_same_row}

-- the row stands after none of the list
abbrev pub IsLeast : Row → List Row → Type 0
IsLeast row [] = ⊤
IsLeast row (r ∷ rows) = (is_above row r ≡ false) × IsLeast row rows

-- in ascending order, copies kept
abbrev pub IsBag : List Row → Type 0
IsBag [] = ⊤
IsBag (row ∷ rows) = IsLeast row rows × IsBag rows

-- a row put where it belongs in a bag
abbrev pub insert_row : Row → List Row → List Row
insert_row row [] = row ∷ []
insert_row row (r ∷ rows) = if is_above row r then r ∷ insert_row row rows else row ∷ r ∷ rows

-- the bag of a list of rows
abbrev pub bag_of : List Row → List Row
bag_of [] = []
bag_of (row ∷ rows) = insert_row row (bag_of rows)

-- how many copies of a row a list has
abbrev pub copies_of : Row → List Row → ℕ
copies_of row rows = count_by (is_same_row row) rows

-- the copies of both
abbrev pub bag_plus : List Row → List Row → List Row
bag_plus a b = bag_of (a ++ b)

-- one copy of a row taken away, where there is one
abbrev pub without_one : Row → List Row → List Row
without_one row [] = []
without_one row (r ∷ rows) = if is_same_row row r then rows else r ∷ without_one row rows

-- one copy taken away for each copy in the other, where there is one
abbrev pub bag_minus : List Row → List Row → List Row
bag_minus a [] = a
bag_minus a (row ∷ rows) = bag_minus (without_one row a) rows
