-- The rows of an answer are of the kinds of the query's items, and each key of its order has a place in them.
use Rattle.std.proofs.Common.{◌≡◌, ℕ, ◌<◌, ℤ, Bool, true, false, not, ◌&&◌, ◌||◌, ◌==◌, cond, List, [], ◌∷◌, ◌++◌, length, map, Option, Some, None, is_some, refl, ap, sym, ◌∙◌, subst, arith}
use Rattle.std.specs.Prelude.{slice_get, option_and_then, IfSome, MatchOption, fold, if◌then◌else◌, nat_le, nat_lt, ◌+ℤ◌}
use Rattle.std.specs.Option.{option_map}
use Rattle.std.specs.Ordering.{is_gt, is_lt}
use Rattle.std.specs.declared.cmp.Ordering.{Ordering}
use Rattle.std.specs.List.{AllZip, AllByRecursion, list_any, filter, position_or_len}
use Rattle.std.proofs.lemmas.Bool.{and_parts, leb-true, ltb-true}
use Rattle.std.proofs.lemmas.Option.{same_Some, none-some, slice_get_within, get_or_from_slice_get}
use Rattle.std.proofs.lemmas.List.{length-map}
use Rattle.tt_value.specs.declared.value.Kind.{Kind}
use Rattle.tt_value.specs.declared.value.Kind.TheVariants as kinds
use Rattle.tt_value.specs.declared.value.Value.{Value}
use Rattle.tt_value.specs.declared.value.Value.TheVariants.{Null, Int, Date, Text}
use Rattle.tt_value.specs.declared.value.Column.{Column}
use Rattle.tt_value.specs.declared.value.Row.{Row}
use Rattle.tt_value.specs.declared.name.ColumnName.{ColumnName}
use Rattle.tt_value.specs.declared.name.Number.{Number}
use Rattle.tt_value.specs.declared.name.Literal.{Literal}
use Rattle.tt_value.specs.declared.expression.Expr.{Expr}
use Rattle.tt_value.specs.values.Order.{value_cmp, is_same_row}
use Rattle.tt_value.specs.trees.Scope.{Scope, column_in, column_kind, column_value, kind_of}
use Rattle.tt_value.specs.trees.Expressions.{value_of}
use Rattle.tt_value.specs.trees.Predicates.{is_null, takes}
use Rattle.tt_sql.specs.declared.query.Query.{Query}
use Rattle.tt_sql.specs.declared.query.Selection.{Selection}
use Rattle.tt_sql.specs.declared.query.Selection.TheVariants as selection
use Rattle.tt_sql.specs.declared.query.Item.{Item}
use Rattle.tt_sql.specs.declared.query.Item.TheVariants as item
use Rattle.tt_sql.specs.declared.query.Key.{Key}
use Rattle.tt_sql.specs.declared.query.KeyColumn.{KeyColumn}
use Rattle.tt_sql.specs.declared.query.KeyColumn.TheVariants as key
use Rattle.tt_sql.specs.meaning.Queries.{all_some, has_aggregate, group_key, each_once, grouped, column_values, int_of, sum_of, lesser, greater, best_of, first_value, item_value, selected, is_item_of, key_place, answer_cmp, insert_by, sorted_by, limited, arranged, taken_rows, selected_rows, answer_of}
use Rattle.tt_plain.specs.Places.{each, if_there, column_begin}
use Rattle.tt_plain.specs.Kinds.{fits}
use Rattle.tt_plain.specs.Expressions.{part_of, lone_literal}
use Rattle.tt_plain.specs.UnknownColumns.{unknown_name, unknown_in_expr, unknown_in_predicate, unknown_in_item, unknown_in_selection, item_count, unknown_key, unknown_in_key, unknown_in_query}
use Rattle.tt_plain.specs.TypeMismatches.{is_grouped, misfit_in_item, misfit_in_selection, misfit_in_predicate, ungrouped_selection, ungrouped_in_query, misfit_in_query, value_fits, item_fits}
use Rattle.tt_plain.specs.ValueKinds.{IsOf, HasKinds, column_kinds}
use Rattle.tt_plain.specs.QueryKinds.{item_kind, answer_kinds, IsQueryTyped, IsCounted, HasPlace}
use Rattle.tt_typer.proofs.KindLaws.{nil_parts, nil_each, column_has_value}
use Rattle.tt_typer.proofs.ListLaws.{if_either, all_map, all_weaker, all_any, all_both, all_filter, all_take, all_from_places, zip_from_mapped, zip_of_mapped, all_there, position_none}
use Rattle.tt_typer.proofs.ExpressionKinds.{expression_fits}
use Rattle.tt_typer.proofs.LoneLiterals.{lone_value}
use Rattle.tt_typer.proofs.StoredRows.{GoesInto, null_goes, literal_goes, value_goes}

-- ---- what is in order in the parts of a query

pub record QueryParts (scope : Scope) (q : Query) : Type 0 where
  pub selection_known : unknown_in_selection scope q.selection ≡ []
  pub filter_known : if_there (unknown_in_predicate scope) q.filter ≡ []
  pub group_known : each (unknown_name scope) q.group ≡ []
  pub order_known : each (unknown_in_key scope q.selection) q.order ≡ []
  pub grouped : ungrouped_in_query scope q ≡ []
  pub selection_fits : misfit_in_selection scope q.selection ≡ []
  pub filter_fits : if_there (misfit_in_predicate scope) q.filter ≡ []

pub query_parts : (scope : Scope) (q : Query) → IsQueryTyped scope q → QueryParts scope q
unfolding unknown_in_query misfit_in_query
query_parts scope q typed =
    let first = nil_parts (unknown_in_selection scope q.selection) (if_there (unknown_in_predicate scope) q.filter ++ (each (unknown_name scope) q.group ++ each (unknown_in_key scope q.selection) q.order)) typed.columns in
    let second = nil_parts (if_there (unknown_in_predicate scope) q.filter) (each (unknown_name scope) q.group ++ each (unknown_in_key scope q.selection) q.order) first.1 in
    let third = nil_parts (each (unknown_name scope) q.group) (each (unknown_in_key scope q.selection) q.order) second.1 in
    let one = nil_parts (ungrouped_in_query scope q) (misfit_in_selection scope q.selection ++ if_there (misfit_in_predicate scope) q.filter) typed.kinds in
    let two = nil_parts (misfit_in_selection scope q.selection) (if_there (misfit_in_predicate scope) q.filter) one.1 in
    record { selection_known = first.0; filter_known = second.0; group_known = third.0; order_known = third.1; grouped = one.0; selection_fits = two.0; filter_fits = two.1 }

-- ---- values of a column, and what is made of them

in_range_if : (b : Bool) (n : ℤ) → IfSome (cond b (Some (Int n)) None) (IsOf (Some kinds.Int))
in_range_if true n = refl
in_range_if false n = tt

sum_is_int : (vs : List Value) → IfSome (sum_of vs) (IsOf (Some kinds.Int))
sum_is_int [] = tt
sum_is_int (v ∷ vs) = in_range_if _ (fold (λ sum next. sum +ℤ int_of next) (int_of v) vs)

pub best_kept : (P : Value → Type 0) (better : Value → Value → Value) → ((a b : Value) → P a → P b → P (better a b)) → (vs : List Value) (v : Value) → P v → AllByRecursion P vs → P (fold better v vs)
best_kept P better keeps [] v here all = here
best_kept P better keeps (w ∷ vs) v here all = best_kept P better keeps vs (better v w) (keeps v w here all.0) all.1

best_is_of : (kind : Option Kind) (better : Value → Value → Value) → ((a b : Value) → IsOf kind a → IsOf kind b → IsOf kind (better a b)) → (vs : List Value) → AllByRecursion (IsOf kind) vs → IsOf kind (best_of better vs)
best_is_of kind better keeps [] all = tt
best_is_of kind better keeps (v ∷ vs) all = best_kept (IsOf kind) better keeps vs v all.0 all.1

lesser_is_of : (kind : Option Kind) (a b : Value) → IsOf kind a → IsOf kind b → IsOf kind (lesser a b)
lesser_is_of kind a b p q = if_either (IsOf kind) (is_lt (value_cmp b a)) b a q p

greater_is_of : (kind : Option Kind) (a b : Value) → IsOf kind a → IsOf kind b → IsOf kind (greater a b)
greater_is_of kind a b p q = if_either (IsOf kind) (is_gt (value_cmp b a)) b a q p

-- a value that is not NULL is of its kind exactly
exact_kind : (kind : Option Kind) (v : Value) → IsOf kind v → not (is_null v) ≡ true → kind_of v ≡ kind
exact_kind kind Null of there = cc
exact_kind kind (Int n) of there = of
exact_kind kind (Date day) of there = of
exact_kind kind (Text bytes) of there = of

passing_by : {A : Type 0} (P Q : A → Type 0) (test : A → Bool) → ((x : A) → P x → test x ≡ true → Q x) → (x : A) (xs : List A) → P x → AllByRecursion Q (filter test xs) → (b : Bool) → test x ≡ b → AllByRecursion Q (cond b (x ∷ filter test xs) (filter test xs))
passing_by P Q test imply x xs here later true is = (imply x here is, later)
passing_by P Q test imply x xs here later false is = later

all_passing : {A : Type 0} (P Q : A → Type 0) (test : A → Bool) → ((x : A) → P x → test x ≡ true → Q x) → (xs : List A) → AllByRecursion P xs → AllByRecursion Q (filter test xs)
all_passing P Q test imply [] all = tt
all_passing P Q test imply (x ∷ xs) all = passing_by P Q test imply x xs all.0 (all_passing P Q test imply xs all.1) (test x) refl

-- ---- lists of rows and of groups

pub option_map_some : {A B : Type 0} (f : A → B) (o : Option A) (y : B) → option_map f o ≡ Some y → (x : A) × (o ≡ Some x) × (f x ≡ y)
option_map_some f None y is = absurd (none-some y is)
option_map_some f (Some x) y is = (x, refl, same_Some (f x) y is)

-- from each item of a list to what belongs to it in another
pub all_across : {A B : Type 0} (P : A → Type 0) (R : A → B → Type 0) (Q : B → Type 0) → ((x : A) (y : B) → P x → R x y → Q y) → (xs : List A) (ys : List B) → AllByRecursion P xs → AllZip R xs ys → AllByRecursion Q ys
all_across P R Q imply [] [] all zipped = tt
all_across P R Q imply [] (y ∷ ys) all zipped = absurd zipped
all_across P R Q imply (x ∷ xs) [] all zipped = tt
all_across P R Q imply (x ∷ xs) (y ∷ ys) all zipped = (imply x y all.0 zipped.0, all_across P R Q imply xs ys all.1 zipped.1)

zip_given : {A B : Type 0} (P : A → Type 0) (R S : A → B → Type 0) → ((x : A) (y : B) → P x → R x y → S x y) → (xs : List A) (ys : List B) → AllByRecursion P xs → AllZip R xs ys → AllZip S xs ys
zip_given P R S imply [] [] all zipped = tt
zip_given P R S imply [] (y ∷ ys) all zipped = zipped
zip_given P R S imply (x ∷ xs) [] all zipped = zipped
zip_given P R S imply (x ∷ xs) (y ∷ ys) all zipped = (imply x y all.0 zipped.0, zip_given P R S imply xs ys all.1 zipped.1)

-- the groups of a query with these parts
abbrev pub groups_by : Scope → Selection → List ColumnName → List Row → List (List Row)
groups_by scope selection group rows =
    if length group == 0 then (if has_aggregate selection then rows ∷ [] else map (λ row. row ∷ []) rows)
    else grouped (group_key scope group) rows

module _ (P : Row → Type 0) where
  inserted_kept : (cmp : Row → Row → Ordering) (row : Row) → P row → (rows : List Row) → AllByRecursion P rows → AllByRecursion P (insert_by cmp row rows)
  inserted_kept cmp row here [] all = (here, tt)
  inserted_kept cmp row here (r ∷ rows) all = if_either (AllByRecursion P) (is_gt (cmp row r)) (r ∷ insert_by cmp row rows) (row ∷ r ∷ rows) (all.0, inserted_kept cmp row here rows all.1) (here, (all.0, all.1))

  sorted_kept : (cmp : Row → Row → Ordering) (rows : List Row) → AllByRecursion P rows → AllByRecursion P (sorted_by cmp rows)
  sorted_kept cmp [] all = tt
  sorted_kept cmp (row ∷ rows) all = inserted_kept cmp row all.0 (sorted_by cmp rows) (sorted_kept cmp rows all.1)

  limited_kept : (limit : Option Number) (rows : List Row) → AllByRecursion P rows → AllByRecursion P (limited limit rows)
  limited_kept None rows all = all
  limited_kept (Some n) rows all = all_take P n.value rows all

  arranged_kept : (scope : Scope) (q : Query) (rows : List Row) → AllByRecursion P rows → AllByRecursion P (arranged scope q rows)
  unfolding arranged
  arranged_kept scope q rows all = limited_kept q.limit (sorted_by (answer_cmp scope q.selection q.order) rows) (sorted_kept (answer_cmp scope q.selection q.order) rows all)

  pub groups_kept : (scope : Scope) (selection : Selection) (group : List ColumnName) (rows : List Row) → AllByRecursion P rows → AllByRecursion (AllByRecursion P) (groups_by scope selection group rows)
  groups_kept scope selection group rows all =
      let key_of = group_key scope group in
      if_either (AllByRecursion (AllByRecursion P)) (length group == 0)
      (if has_aggregate selection then rows ∷ [] else map (λ row. row ∷ []) rows) (grouped key_of rows)
      (if_either (AllByRecursion (AllByRecursion P)) (has_aggregate selection) (rows ∷ []) (map (λ row. row ∷ []) rows) (all, tt)
      (all_map (AllByRecursion P) (λ row. row ∷ []) rows (all_weaker P (λ row. AllByRecursion P (row ∷ [])) (λ row here. (here, tt)) rows all)))
      (all_map (AllByRecursion P) (λ k. filter (λ row. is_same_row k (key_of row)) rows) (each_once (map key_of rows))
      (all_any (λ k. AllByRecursion P (filter (λ row. is_same_row k (key_of row)) rows)) (λ k. all_filter P (λ row. is_same_row k (key_of row)) rows all) (each_once (map key_of rows))))

-- ---- what items give

module _ (scope : Scope) where
  abbrev pub Kinds : Row → Type 0
  Kinds row = HasKinds (column_kinds scope.columns) row

  column_values_are_of : (c : ColumnName) → unknown_name scope c ≡ [] → (rows : List Row) → AllByRecursion Kinds rows → AllByRecursion (IsOf (column_kind scope c)) (map (λ row. column_value scope row c) rows)
  column_values_are_of c known rows all =
      all_map (IsOf (column_kind scope c)) (λ row. column_value scope row c) rows
      (all_weaker Kinds (λ row. IsOf (column_kind scope c) (column_value scope row c)) (λ row have. (column_has_value scope row c have known).of_kind) rows all)

  -- each value that an aggregate takes is of the kind of its column
  pub aggregated_kinds : (c : ColumnName) → unknown_name scope c ≡ [] → (rows : List Row) → AllByRecursion Kinds rows → AllByRecursion (λ v. kind_of v ≡ column_kind scope c) (column_values scope c rows)
  aggregated_kinds c known rows all =
      all_passing (IsOf (column_kind scope c)) (λ v. kind_of v ≡ column_kind scope c) (λ v. not (is_null v)) (λ v of there. exact_kind (column_kind scope c) v of there) (map (λ row. column_value scope row c) rows) (column_values_are_of c known rows all)

  taken_values_are_of : (c : ColumnName) → unknown_name scope c ≡ [] → (rows : List Row) → AllByRecursion Kinds rows → AllByRecursion (IsOf (column_kind scope c)) (column_values scope c rows)
  taken_values_are_of c known rows all =
      all_filter (IsOf (column_kind scope c)) (λ v. not (is_null v)) (map (λ row. column_value scope row c) rows) (column_values_are_of c known rows all)

  first_is_of : (e : Expr) → unknown_in_expr scope e ≡ [] → (part_of scope e).misfits ≡ [] → (rows : List Row) → AllByRecursion Kinds rows → IfSome (first_value scope e rows) (IsOf (part_of scope e).kind)
  first_is_of e known fit [] all = tt
  first_is_of e known fit (row ∷ rows) all = (expression_fits scope row all.0 e known fit).of_kind

  pub item_is_of : (i : Item) → unknown_in_item scope i ≡ [] → misfit_in_item scope i ≡ [] → (rows : List Row) → AllByRecursion Kinds rows → IfSome (item_value scope rows i) (IsOf (item_kind scope i))
  item_is_of (item.Expr e) known fit rows all = first_is_of e known fit rows all
  item_is_of (item.CountAll place) known fit rows all = refl
  item_is_of (item.Count place c) known fit rows all = refl
  item_is_of (item.Sum place c) known fit rows all = sum_is_int (column_values scope c rows)
  item_is_of (item.Min place c) known fit rows all = best_is_of (column_kind scope c) lesser (lesser_is_of (column_kind scope c)) (column_values scope c rows) (taken_values_are_of c known rows all)
  item_is_of (item.Max place c) known fit rows all = best_is_of (column_kind scope c) greater (greater_is_of (column_kind scope c)) (column_values scope c rows) (taken_values_are_of c known rows all)

  -- what an item gives goes into each column that the item fits
  abbrev pub GoesWhereFits : Item → Value → Type 0
  GoesWhereFits i v = (kind : Kind) → item_fits scope (Some kind) i ≡ true → GoesInto kind v

  expr_goes : (e : Expr) (row : Row) → Kinds row → unknown_in_expr scope e ≡ [] → (part_of scope e).misfits ≡ [] → (kind : Kind) (o : Option Literal) → lone_literal e ≡ o → value_fits scope (Some kind) o (part_of scope e).kind ≡ true → (r : Option Value) → value_of scope row e ≡ r → IfSome r (GoesInto kind)
  expr_goes e row have known fit kind o o_is fits_there None r_is = tt
  expr_goes e row have known fit kind None o_is fits_there (Some v) r_is =
      value_goes kind (part_of scope e).kind v fits_there (subst (λ r. IfSome r (IsOf (part_of scope e).kind)) r_is (expression_fits scope row have e known fit).of_kind)
  expr_goes e row have known fit kind (Some l) o_is fits_there (Some v) r_is =
      subst (GoesInto kind) (same_Some l.value v (sym (lone_value scope row e l o_is) ∙ r_is)) (literal_goes kind l.value fits_there)

  pub expression_goes : (e : Expr) (row : Row) → Kinds row → unknown_in_expr scope e ≡ [] → (part_of scope e).misfits ≡ [] → (kind : Kind) → value_fits scope (Some kind) (lone_literal e) (part_of scope e).kind ≡ true → (v : Value) → value_of scope row e ≡ Some v → GoesInto kind v
  expression_goes e row have known fit kind fits_there v is = expr_goes e row have known fit kind (lone_literal e) refl fits_there (Some v) is

  value_goes_where_fits : (i : Item) → ((kind : Kind) → item_fits scope (Some kind) i ≡ true → fits (Some kind) (item_kind scope i) ≡ true) → (o : Option Value) → IfSome o (IsOf (item_kind scope i)) → IfSome o (GoesWhereFits i)
  value_goes_where_fits i weaker None of = tt
  value_goes_where_fits i weaker (Some v) of = λ kind fit. value_goes kind (item_kind scope i) v (weaker kind fit) of

  first_goes : (e : Expr) → unknown_in_expr scope e ≡ [] → (part_of scope e).misfits ≡ [] → (rows : List Row) → AllByRecursion Kinds rows → (o : Option Value) → first_value scope e rows ≡ o → IfSome o (GoesWhereFits (item.Expr e))
  first_goes e known fit rows all None is = tt
  first_goes e known fit [] all (Some v) is = λ kind fits_there. subst (GoesInto kind) (same_Some Null v is) (null_goes kind)
  first_goes e known fit (row ∷ rows) all (Some v) is = λ kind fits_there. expression_goes e row all.0 known fit kind fits_there v is

  pub item_goes : (i : Item) → unknown_in_item scope i ≡ [] → misfit_in_item scope i ≡ [] → (rows : List Row) → AllByRecursion Kinds rows → IfSome (item_value scope rows i) (GoesWhereFits i)
  item_goes (item.Expr e) known fit rows all = first_goes e known fit rows all (first_value scope e rows) refl
  item_goes (item.CountAll place) known fit rows all = value_goes_where_fits (item.CountAll place) (λ kind fit. fit) (item_value scope rows (item.CountAll place)) (item_is_of (item.CountAll place) known fit rows all)
  item_goes (item.Count place c) known fit rows all = value_goes_where_fits (item.Count place c) (λ kind fit. fit) (item_value scope rows (item.Count place c)) (item_is_of (item.Count place c) known fit rows all)
  item_goes (item.Sum place c) known fit rows all = value_goes_where_fits (item.Sum place c) (λ kind fit. fit) (item_value scope rows (item.Sum place c)) (item_is_of (item.Sum place c) known fit rows all)
  item_goes (item.Min place c) known fit rows all = value_goes_where_fits (item.Min place c) (λ kind fit. fit) (item_value scope rows (item.Min place c)) (item_is_of (item.Min place c) known fit rows all)
  item_goes (item.Max place c) known fit rows all = value_goes_where_fits (item.Max place c) (λ kind fit. fit) (item_value scope rows (item.Max place c)) (item_is_of (item.Max place c) known fit rows all)

  -- ---- rows of the answer

  star_rows : (place : ℕ) (rows answer : List Row) → AllByRecursion Kinds rows → all_some (map (selected scope (selection.All place)) (map (λ row. row ∷ []) rows)) ≡ Some answer → AllByRecursion Kinds answer
  star_rows place rows answer all is =
      all_across Kinds (λ row r. selected scope (selection.All place) (row ∷ []) ≡ Some r) Kinds
      (λ row r have same. subst Kinds (same_Some row r same) have) rows answer all
      (zip_from_mapped (λ group r. selected scope (selection.All place) group ≡ Some r) (λ row. row ∷ []) rows answer (all_there (selected scope (selection.All place)) (map (λ row. row ∷ []) rows) answer is))

  if_there_value : (P : Value → Type 0) (o : Option Value) (v : Value) → IfSome o P → o ≡ Some v → P v
  if_there_value P o v there is = subst (λ o. IfSome o P) is there

  abbrev InOrder : Item → Type 0
  InOrder i = (unknown_in_item scope i ≡ []) × (misfit_in_item scope i ≡ [])

  -- each value is as its item says
  listed_rows : (R : Item → Value → Type 0) → ((i : Item) → unknown_in_item scope i ≡ [] → misfit_in_item scope i ≡ [] → (rows : List Row) → AllByRecursion Kinds rows → IfSome (item_value scope rows i) (R i)) → (items : List Item) → AllByRecursion InOrder items → (groups : List (List Row)) (answer : List Row) → AllByRecursion (AllByRecursion Kinds) groups → all_some (map (selected scope (selection.Listed items)) groups) ≡ Some answer → AllByRecursion (λ row. AllZip R items row.values) answer
  listed_rows R says items good groups answer all is =
      all_across (AllByRecursion Kinds) (λ group r. selected scope (selection.Listed items) group ≡ Some r) (λ row. AllZip R items row.values)
      (λ group r kinds same.
      let made = option_map_some (λ vs. record { values = vs }) (all_some (map (item_value scope group) items)) r same in
      subst (λ (row : Row). AllZip R items row.values) made.2
      (zip_given InOrder (λ i v. item_value scope group i ≡ Some v) R (λ i v fine v_is. if_there_value (R i) (item_value scope group i) v (says i fine.0 fine.1 group kinds) v_is) items made.0 good (all_there (item_value scope group) items made.0 made.1)))
      groups answer all (all_there (selected scope (selection.Listed items)) groups answer is)

  items_in_order : (items : List Item) → unknown_in_selection scope (selection.Listed items) ≡ [] → misfit_in_selection scope (selection.Listed items) ≡ [] → AllByRecursion InOrder items
  items_in_order items known fit = all_both (λ i. unknown_in_item scope i ≡ []) (λ i. misfit_in_item scope i ≡ []) items (nil_each (unknown_in_item scope) items known) (nil_each (misfit_in_item scope) items fit)

  -- what holds of the rows of a star, or of those of listed items, holds of the rows of an answer
  selected_rows_are : (Q : Selection → Row → Type 0) → ((place : ℕ) (row : Row) → Kinds row → Q (selection.All place) row) → (R : Item → Value → Type 0) → ((i : Item) → unknown_in_item scope i ≡ [] → misfit_in_item scope i ≡ [] → (rows : List Row) → AllByRecursion Kinds rows → IfSome (item_value scope rows i) (R i)) → ((items : List Item) (row : Row) → AllZip R items row.values → Q (selection.Listed items) row) → (s : Selection) (group : List ColumnName) → (if is_grouped s group then ungrouped_selection scope group s else []) ≡ [] → unknown_in_selection scope s ≡ [] → misfit_in_selection scope s ≡ [] → (rows answer : List Row) → AllByRecursion Kinds rows → all_some (map (selected scope s) (groups_by scope s group rows)) ≡ Some answer → AllByRecursion (Q s) answer
  selected_rows_are Q star R says listed (selection.All place) [] none known fit rows answer all is =
      all_weaker Kinds (Q (selection.All place)) (star place) answer (star_rows place rows answer all is)
  selected_rows_are Q star R says listed (selection.All place) (c ∷ group) none known fit rows answer all is = cc
  selected_rows_are Q star R says listed (selection.Listed items) group none known fit rows answer all is =
      all_weaker (λ row. AllZip R items row.values) (Q (selection.Listed items)) (listed items) answer
      (listed_rows R says items (items_in_order items known fit) (groups_by scope (selection.Listed items) group rows) answer (groups_kept Kinds scope (selection.Listed items) group rows all) is)

  pub answers_are : (Q : Selection → Row → Type 0) → ((place : ℕ) (row : Row) → Kinds row → Q (selection.All place) row) → (R : Item → Value → Type 0) → ((i : Item) → unknown_in_item scope i ≡ [] → misfit_in_item scope i ≡ [] → (rows : List Row) → AllByRecursion Kinds rows → IfSome (item_value scope rows i) (R i)) → ((items : List Item) (row : Row) → AllZip R items row.values → Q (selection.Listed items) row) → (q : Query) → IsQueryTyped scope q → (rows answer : List Row) → AllByRecursion Kinds rows → answer_of scope q rows ≡ Some answer → AllByRecursion (Q q.selection) answer
  unfolding answer_of selected_rows
  answers_are Q star R says listed q typed rows answer all is =
      let parts = query_parts scope q typed in
      let made = option_map_some (arranged scope q) (selected_rows scope q (taken_rows scope q rows)) answer is in
      subst (AllByRecursion (Q q.selection)) made.2
      (arranged_kept (Q q.selection) scope q made.0
      (selected_rows_are Q star R says listed q.selection q.group parts.grouped parts.selection_known parts.selection_fits (taken_rows scope q rows) made.0 (all_filter Kinds (takes scope q.filter) rows all) made.1))

  pub answer_has_kinds : (q : Query) → IsQueryTyped scope q → (rows answer : List Row) → AllByRecursion Kinds rows → answer_of scope q rows ≡ Some answer → AllByRecursion (HasKinds (answer_kinds scope q.selection)) answer
  answer_has_kinds =
      answers_are (λ s row. HasKinds (answer_kinds scope s) row) (λ place row have. have)
      (λ i v. IsOf (item_kind scope i) v) item_is_of
      (λ items row all. zip_of_mapped IsOf (item_kind scope) items row.values all)

  -- ---- keys

  any_somewhere : {A : Type 0} (test : A → Bool) (xs : List A) → AllByRecursion (λ x. test x ≡ false) xs → list_any test xs ≡ true → ⊥
  any_somewhere test [] all is = cc
  any_somewhere test (x ∷ xs) all is = any_somewhere test xs all.1 (sym (ap (λ b. b || list_any test xs) all.0) ∙ is)

  position_where_any : {A : Type 0} (test : A → Bool) (xs : List A) → list_any test xs ≡ true → (b : Bool) → nat_lt (position_or_len test xs) (length xs) ≡ b → MatchOption (cond b (Some (position_or_len test xs)) None) ⊥ (λ p. p < length xs)
  position_where_any test xs is true b_is = ltb-true (position_or_len test xs) (length xs) b_is
  position_where_any test xs is false b_is =
      any_somewhere test xs (all_from_places (λ x. test x ≡ false) xs (λ k x x_is.
      subst (λ y. test y ≡ false) (get_or_from_slice_get xs k x x x_is)
      (position_none test xs (ap (λ b. cond b (Some (position_or_len test xs)) None) b_is) k x (slice_get_within xs k x x_is)))) is

  none_else : (b : Bool) (place : ℕ) → (if b then [] else place ∷ []) ≡ [] → b ≡ true
  none_else true place is = refl
  none_else false place is = cc

  place_within : (o : Option ℕ) → is_some (option_and_then (λ k. slice_get scope.columns k) o) ≡ true → MatchOption o ⊥ (λ p. p < length scope.columns)
  place_within None is = cc
  place_within (Some k) is = there (slice_get scope.columns k) refl is
    where
      there : (o : Option Column) → slice_get scope.columns k ≡ o → is_some o ≡ true → k < length scope.columns
      there None o_is some = cc
      there (Some column) o_is some = slice_get_within scope.columns k column o_is

  key_has_place : (s : Selection) (k : KeyColumn) → unknown_key scope s k ≡ [] → MatchOption (key_place scope s k) ⊥ (λ p. p < item_count scope s)
  key_has_place s (key.Position n) none =
      let both = and_parts (nat_le 1 n.value) (nat_le n.value (item_count scope s)) (none_else (nat_le 1 n.value && nat_le n.value (item_count scope s)) n.place none) in
      let least = leb-true 1 n.value both.0 in
      let most = leb-true n.value (item_count scope s) both.1 in
      omega (arith, least, most)
  key_has_place (selection.All place) (key.Column c) none = place_within (scope.place_of c) (none_else (is_some (column_in scope c)) (column_begin c) none)
  key_has_place (selection.Listed items) (key.Column c) none =
      position_where_any (is_item_of scope c) items (none_else (list_any (is_item_of scope c) items) (column_begin c) none) (nat_lt (position_or_len (is_item_of scope c) items) (length items)) refl

  key_is_counted : (s : Selection) (k : KeyColumn) → unknown_key scope s k ≡ [] → IsCounted k
  key_is_counted s (key.Position n) none =
      leb-true 1 n.value (and_parts (nat_le 1 n.value) (nat_le n.value (item_count scope s)) (none_else (nat_le 1 n.value && nat_le n.value (item_count scope s)) n.place none)).0
  key_is_counted s (key.Column c) none = tt

  pub answer_width : (s : Selection) → length (answer_kinds scope s) ≡ item_count scope s
  answer_width (selection.All place) = length-map scope.columns (λ (column : Column). Some column.kind)
  answer_width (selection.Listed items) = length-map items (item_kind scope)

  pub keys_have_places : (q : Query) → IsQueryTyped scope q → AllByRecursion (HasPlace scope q.selection) q.order
  keys_have_places q typed =
      all_weaker (λ (k : Key). unknown_in_key scope q.selection k ≡ []) (HasPlace scope q.selection)
      (λ k none. record { counted = key_is_counted q.selection k.by none; place = subst (λ n. MatchOption (key_place scope q.selection k.by) ⊥ (λ p. p < n)) (sym (answer_width q.selection)) (key_has_place q.selection k.by none) })
      q.order (nil_each (unknown_in_key scope q.selection) q.order (query_parts scope q typed).order_known)
