-- The answer of a query over the rows that it reads.
use Rattle.std.specs.Prelude.{ℕ, ◌-◌, ℤ, pos, ◌+ℤ◌, Bool, true, false, not, ◌&&◌, ◌==◌, if◌then◌else◌, List, [], ◌∷◌, length, map, take, fold, Option, Some, None, slice_get, option_and_then}
use Rattle.std.specs.Option.{option_map}
use Rattle.std.specs.List.{filter, list_any, position}
use Rattle.std.specs.Ordering.{then_cmp, ordering_reverse, is_gt, is_lt}
use Rattle.std.specs.declared.cmp.Ordering.{Ordering}
use Rattle.tt_value.specs.declared.value.Value.{Value}
use Rattle.tt_value.specs.declared.value.Value.TheVariants.{Null, Int}
use Rattle.tt_value.specs.declared.value.Row.{Row}
use Rattle.tt_value.specs.declared.name.ColumnName.{ColumnName}
use Rattle.tt_value.specs.declared.name.Number.{Number}
use Rattle.tt_value.specs.declared.expression.Expr.{Expr}
use Rattle.tt_value.specs.declared.expression.Expr.{out-Expr}
use Rattle.tt_value.specs.declared.expression.Term.{out-Term}
use Rattle.tt_value.specs.declared.expression.Factor.{Factor}
use Rattle.tt_value.specs.declared.expression.Factor.TheVariants.{Column}
use Rattle.tt_value.specs.values.Order.{value_cmp, row_cmp, is_same_row}
use Rattle.tt_value.specs.trees.Scope.{Scope, column_value, value_or_null}
use Rattle.tt_value.specs.trees.Expressions.{value_of, in_range}
use Rattle.tt_value.specs.trees.Predicates.{takes, is_null}
use Rattle.tt_sql.specs.declared.query.Query.{Query}
use Rattle.tt_sql.specs.declared.query.Selection.{Selection}
use Rattle.tt_sql.specs.declared.query.Selection.TheVariants.{All, Listed}
use Rattle.tt_sql.specs.declared.query.Item.{Item}
use Rattle.tt_sql.specs.declared.query.Item.TheVariants as item
use Rattle.tt_sql.specs.declared.query.Key.{Key}
use Rattle.tt_sql.specs.declared.query.KeyColumn.{KeyColumn}
use Rattle.tt_sql.specs.declared.query.KeyColumn.TheVariants as key

-- ---- lists that may lack something

abbrev pub all_some : {A : Type 0} → List (Option A) → Option (List A)
all_some [] = Some []
all_some (x ∷ xs) = option_and_then (λ first. option_map (λ others. first ∷ others) (all_some xs)) x

-- ---- groups

abbrev pub is_aggregate : Item → Bool
is_aggregate (item.Expr e) = false
is_aggregate _ = true

abbrev pub has_aggregate : Selection → Bool
has_aggregate (All place) = false
has_aggregate (Listed items) = list_any is_aggregate items

-- the values by which a row is grouped
abbrev pub group_key : Scope → List ColumnName → Row → Row
group_key scope columns row = record { values = map (column_value scope row) columns }

-- each row once, where it stands first
abbrev pub each_once : List Row → List Row
each_once [] = []
each_once (row ∷ rows) = row ∷ filter (λ other. not (is_same_row row other)) (each_once rows)

-- the rows of each key; NULLs are one key
abbrev pub grouped : (Row → Row) → List Row → List (List Row)
grouped key_of rows = map (λ k. filter (λ row. is_same_row k (key_of row)) rows) (each_once (map key_of rows))

-- What gives one row of the answer: each row by itself; where there is an aggregate or GROUP BY a group, and
-- all rows are one group where there is no GROUP BY.
abbrev pub groups_of : Scope → Query → List Row → List (List Row)
groups_of scope query rows =
    if length query.group == 0 then (if has_aggregate query.selection then rows ∷ [] else map (λ row. row ∷ []) rows)
    else grouped (group_key scope query.group) rows

-- ---- items

-- the values of a column that are not NULL
abbrev pub column_values : Scope → ColumnName → List Row → List Value
column_values scope c rows = filter (λ v. not (is_null v)) (map (λ row. column_value scope row c) rows)

abbrev pub int_of : Value → ℤ
int_of (Int n) = n
int_of _ = pos 0

-- the sum of numbers; NULL over none, and out of range where it leaves 64 bits
abbrev pub sum_of : List Value → Option Value
sum_of [] = Some Null
sum_of (v ∷ vs) = in_range (fold (λ sum next. sum +ℤ int_of next) (int_of v) vs)

abbrev pub lesser : Value → Value → Value
lesser a b = if is_lt (value_cmp b a) then b else a

abbrev pub greater : Value → Value → Value
greater a b = if is_gt (value_cmp b a) then b else a

-- the one that is preferred of all; NULL of none
abbrev pub best_of : (Value → Value → Value) → List Value → Value
best_of better [] = Null
best_of better (v ∷ vs) = fold better v vs

-- an expression on the first row of a group: on its row, or on a column by which the group is made
abbrev pub first_value : Scope → Expr → List Row → Option Value
first_value scope e [] = Some Null
first_value scope e (row ∷ rows) = value_of scope row e

abbrev pub item_value : Scope → List Row → Item → Option Value
item_value scope rows (item.Expr e) = first_value scope e rows
item_value scope rows (item.CountAll place) = Some (Int (pos (length rows)))
item_value scope rows (item.Count place c) = Some (Int (pos (length (column_values scope c rows))))
item_value scope rows (item.Sum place c) = sum_of (column_values scope c rows)
item_value scope rows (item.Min place c) = Some (best_of lesser (column_values scope c rows))
item_value scope rows (item.Max place c) = Some (best_of greater (column_values scope c rows))

abbrev pub no_values : Row
no_values = record { values = [] }

abbrev pub first_row : List Row → Row
first_row [] = no_values
first_row (row ∷ rows) = row

-- the row of the answer that a group gives; none where a value is out of range
abbrev pub selected : Scope → Selection → List Row → Option Row
selected scope (All place) rows = Some (first_row rows)
selected scope (Listed items) rows = option_map (λ vs. record { values = vs }) (all_some (map (item_value scope rows) items))

-- ---- order

abbrev pub plain_factor : Factor → Option ColumnName
plain_factor (Column c) = Some c
plain_factor _ = None

-- the column that an expression is, where it is a name alone
abbrev pub plain_column : Expr → Option ColumnName
plain_column e =
    let sum = out-Expr e in
    let product = out-Term sum.first in
    if length sum.others == 0 && length product.others == 0 then plain_factor product.first else None

abbrev pub same_place : Option ℕ → Option ℕ → Bool
same_place (Some a) (Some b) = a == b
same_place _ _ = false

abbrev pub is_item_of : Scope → ColumnName → Item → Bool
is_item_of scope c (item.Expr e) = same_place (scope.place_of c) (option_and_then scope.place_of (plain_column e))
is_item_of scope c _ = false

-- where a key's values stand in the rows of the answer: by position from 1, or the first plain item of the column
abbrev pub key_place : Scope → Selection → KeyColumn → Option ℕ
key_place scope selection (key.Position n) = Some (n.value - 1)
key_place scope (All place) (key.Column c) = scope.place_of c
key_place scope (Listed items) (key.Column c) = position (is_item_of scope c) items

abbrev pub value_at : Option ℕ → Row → Value
value_at k row = value_or_null (option_and_then (λ i. slice_get row.values i) k)

-- DESC reverses one key, NULL included
abbrev pub key_cmp : Scope → Selection → Key → Row → Row → Ordering
key_cmp scope selection k a b =
    let ascending = value_cmp (value_at (key_place scope selection k.by) a) (value_at (key_place scope selection k.by) b) in
    if k.descending then ordering_reverse ascending else ascending

-- by the keys, and what ties by whole rows
abbrev pub answer_cmp : Scope → Selection → List Key → Row → Row → Ordering
answer_cmp scope selection [] = row_cmp
answer_cmp scope selection (k ∷ keys) = then_cmp (key_cmp scope selection k) (answer_cmp scope selection keys)

abbrev pub insert_by : (Row → Row → Ordering) → Row → List Row → List Row
insert_by cmp row [] = row ∷ []
insert_by cmp row (r ∷ rows) = if is_gt (cmp row r) then r ∷ insert_by cmp row rows else row ∷ r ∷ rows

abbrev pub sorted_by : (Row → Row → Ordering) → List Row → List Row
sorted_by cmp [] = []
sorted_by cmp (row ∷ rows) = insert_by cmp row (sorted_by cmp rows)

abbrev pub limited : Option Number → List Row → List Row
limited None rows = rows
limited (Some n) rows = take n.value rows

-- in the order of the answer, and no more rows than the limit
unfoldable pub arranged : Scope → Query → List Row → List Row
arranged scope query rows = limited query.limit (sorted_by (answer_cmp scope query.selection query.order) rows)

-- ---- the answer

-- the rows that the query takes
abbrev pub taken_rows : Scope → Query → List Row → List Row
taken_rows scope query rows = filter (takes scope query.filter) rows

-- the rows of the answer in no order, given the rows that are taken; none where a value or a sum is out of range
unfoldable pub selected_rows : Scope → Query → List Row → Option (List Row)
selected_rows scope query rows = all_some (map (selected scope query.selection) (groups_of scope query rows))

-- The answer; none where it is out of range, whatever the limit.
unfoldable pub answer_of : Scope → Query → List Row → Option (List Row)
answer_of scope query rows = option_map (arranged scope query) (selected_rows scope query (taken_rows scope query rows))
