-- The values of a column, row by row, and the groups of a query.
use Rattle.std.proofs.Common.{◌≡◌, ℕ, List, [], ◌∷◌, ◌++◌, map, length, not, cond, if◌then◌else◌, ◌==◌, Bool, true, false, Option, Some, None, Ok, Err, Result, IfOk, refl, ap, sym, subst, ◌∙◌, suc, arith}
use Rattle.std.specs.Prelude.{option_and_then, slice_get}
use Rattle.std.specs.Option.{option_map, option_to_list}
use Rattle.std.specs.Borrow.{Bor}
use Rattle.std.specs.declared.vec.Vec.{Vec}
use Rattle.tt_value.specs.declared.value.Value.{Value}
use Rattle.tt_value.specs.declared.value.Value.TheVariants.{Null, Int, Date, Text}
use Rattle.tt_value.specs.declared.value.Row.{Row}
use Rattle.tt_value.specs.declared.name.ColumnName.{ColumnName}
use Rattle.tt_value.specs.trees.Scope.{Scope, value_or_null}
use Rattle.tt_value.specs.trees.Predicates.{is_null}
use Rattle.std.proofs.lemmas.Bool.{ne_eqb}
use Rattle.tt_sql.specs.declared.query.Query.{Query}
use Rattle.tt_sql.specs.declared.query.Selection.{Selection}
use Rattle.tt_sql.specs.declared.query.Selection.TheVariants.{All}
use Rattle.tt_sql.specs.meaning.Queries.{column_values, value_at, selected, all_some, grouped, group_key, has_aggregate, selected_rows}
use Rattle.tt_agg.specs.Lent.{lent}
use Rattle.tt_agg.specs.Groups.{key_at, rows_of, group_row}
use Rattle.tt_agg.specs.Selected.{IsWhole, unless_null, present_at, single_row, whole_row, grouped_rows, ungrouped_rows}

kept_value : (found : Option Value) (later : List Value) → cond (not (is_null (value_or_null found))) (value_or_null found ∷ later) later ≡ option_to_list (unless_null found) ++ later
kept_value None later = refl
kept_value (Some Null) later = refl
kept_value (Some (Int n)) later = refl
kept_value (Some (Date day)) later = refl
kept_value (Some (Text bytes)) later = refl

pub values-cons : (scope : Scope) (c : ColumnName) (row : Row) (rows : List Row) → column_values scope c (row ∷ rows) ≡ option_to_list (present_at (scope.place_of c) row) ++ column_values scope c rows
values-cons scope c row rows =
    kept_value (option_and_then (λ k. slice_get row.values k) (scope.place_of c)) (column_values scope c rows)

map_twice : {A B C : Type 0} (g : B → C) (f : A → B) (xs : List A) → map g (map f xs) ≡ map (λ x. g (f x)) xs
map_twice g f [] = refl
map_twice g f (x ∷ xs) = ap (λ ys. g (f x) ∷ ys) (map_twice g f xs)

pub group_rows : {Z : Type 0} (scope : Scope) (selection : Selection) (groups : List (Vec (Bor Row) Z)) → map (group_row scope selection) groups ≡ map (selected scope selection) (rows_of groups)
group_rows scope selection groups = sym (map_twice (selected scope selection) (λ (group : Vec (Bor Row) _). lent group.items) groups)

-- the key at the places of columns is the key of the columns
pub keys_alike : (scope : Scope) (columns : List ColumnName) (row : Row) → map (λ place. value_at place row) (map scope.place_of columns) ≡ map (λ c. value_at (scope.place_of c) row) columns
keys_alike scope columns row = map_twice (λ place. value_at place row) scope.place_of columns

keys_same : (scope : Scope) (columns : List ColumnName) → key_at (map scope.place_of columns) ≡ group_key scope columns
keys_same scope columns = λ i row. record { values = keys_alike scope columns row i }

pub grouped_is : {Z : Type 0} (scope : Scope) (query : Query) (places : List (Option ℕ)) (groups : List (Vec (Bor Row) Z)) (rows : List Row) → places ≡ map scope.place_of query.group → rows_of groups ≡ grouped (key_at places) rows → all_some (map (group_row scope query.selection) groups) ≡ grouped_rows scope query rows
unfolding grouped_rows
grouped_is scope query places groups rows p e =
    ap all_some (group_rows scope query.selection groups)
    ∙ ap (λ (all : List (List Row)). all_some (map (selected scope query.selection) all)) (e ∙ ap (λ (key : Row → Row). grouped key rows) (ap key_at p ∙ keys_same scope query.group))

-- ---- with and without GROUP BY

one_alone : {A : Type 0} (o : Option A) → all_some (o ∷ []) ≡ option_map (λ x. x ∷ []) o
one_alone None = refl
one_alone (Some x) = refl

no_less : (columns : List ColumnName) → (columns ≡ [] → ⊥) → (length columns == 0) ≡ false
no_less [] some = absurd (some refl)
no_less (c ∷ columns) some = ne_eqb (suc (length columns)) 0 (λ e. absurd (omega (arith, e)))

pub of_groups : (scope : Scope) (query : Query) (rows : List Row) → (query.group ≡ [] → ⊥) → grouped_rows scope query rows ≡ selected_rows scope query rows
unfolding selected_rows grouped_rows
of_groups scope query rows some =
    sym (ap (λ (none : Bool). all_some (map (selected scope query.selection) (if none then (if has_aggregate query.selection then rows ∷ [] else map (λ row. row ∷ []) rows) else grouped (group_key scope query.group) rows))) (no_less query.group some))

of_selection : (b : Bool) (scope : Scope) (selection : Selection) (rows : List Row) → all_some (map (selected scope selection) (if b then rows ∷ [] else map (λ row. row ∷ []) rows)) ≡ (if b then option_map (λ row. row ∷ []) (selected scope selection rows) else all_some (map (single_row scope selection) rows))
of_selection true scope selection rows = one_alone (selected scope selection rows)
of_selection false scope selection rows = ap all_some (map_twice (selected scope selection) (λ row. row ∷ []) rows)

pub of_rows : (scope : Scope) (query : Query) (rows : List Row) → query.group ≡ [] → ungrouped_rows scope query.selection rows ≡ selected_rows scope query rows
unfolding selected_rows ungrouped_rows
of_rows scope query rows none =
    sym (ap (λ (columns : List ColumnName). all_some (map (selected scope query.selection) (if length columns == 0 then (if has_aggregate query.selection then rows ∷ [] else map (λ row. row ∷ []) rows) else grouped (group_key scope query.group) rows))) none
    ∙ of_selection (has_aggregate query.selection) scope query.selection rows)

-- what is there where the call answered is that which it equals
pub ok_is : {F E A : Type 0} (seen : F → A) (r : Result F E) (a b : A) → a ≡ b → IfOk r (λ found. seen found ≡ a) → IfOk r (λ found. seen found ≡ b)
ok_is seen (Ok found) a b e h = h ∙ e
ok_is seen (Err error) a b e h = h

pub ungrouped_if : (b : Bool) (scope : Scope) (selection : Selection) (rows : List Row) → has_aggregate selection ≡ b → (if b then whole_row scope selection rows else all_some (map (single_row scope selection) rows)) ≡ ungrouped_rows scope selection rows
unfolding ungrouped_rows
ungrouped_if b scope selection rows e =
    ap (λ (b : Bool). if b then whole_row scope selection rows else all_some (map (single_row scope selection) rows)) (sym e)

abbrev IsNo : Bool → Type 0
IsNo true = ⊥
IsNo false = Unit {0}

pub false_true : false ≡ true → ⊥
false_true e = subst IsNo e tt

-- ---- whole rows

rows_alone : (scope : Scope) (place : ℕ) (rows : List Row) → all_some (map (single_row scope (All place)) rows) ≡ Some rows
rows_alone scope place [] = refl
rows_alone scope place (row ∷ rows) = ap (option_map (λ later. row ∷ later)) (rows_alone scope place rows)

all_alone : (scope : Scope) (place : ℕ) (rows : List Row) → ungrouped_rows scope (All place) rows ≡ Some rows
unfolding ungrouped_rows
all_alone scope place rows = rows_alone scope place rows

pub whole_rows : (query : Query) (place : ℕ) → query.selection ≡ All place → query.group ≡ [] → IsWhole query
whole_rows query place all none scope rows =
    sym (of_rows scope query rows none) ∙ (ap (λ (selection : Selection). ungrouped_rows scope selection rows) all ∙ all_alone scope place rows)
