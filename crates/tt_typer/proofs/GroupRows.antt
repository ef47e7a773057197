-- Groups whose first row is read are not empty.
use Rattle.std.proofs.Common.{◌≡◌, ℕ, zero, suc, ◌<◌, Bool, true, false, not, ◌==◌, cond, List, [], ◌∷◌, length, map, Some, refl, ap, sym, ◌∙◌, arith}
use Rattle.std.specs.Prelude.{slice_get, if◌then◌else◌}
use Rattle.std.specs.List.{All, AllByRecursion, list_all, filter}
use Rattle.std.proofs.lemmas.Bool.{and_from, ne_eqb, false≢true}
use Rattle.std.proofs.lemmas.Option.{same_Some}
use Rattle.std.proofs.lemmas.List.Elements.{All-from_recursion}
use Rattle.tt_value.specs.declared.value.Row.{Row}
use Rattle.tt_value.specs.declared.name.ColumnName.{ColumnName}
use Rattle.tt_value.specs.values.Order.{is_same_row}
use Rattle.tt_value.proofs.values.Ties.{row_eq-Decides}
use Rattle.tt_value.specs.trees.Scope.{Scope}
use Rattle.tt_sql.specs.declared.query.Query.{Query}
use Rattle.tt_sql.specs.declared.query.Selection.{Selection}
use Rattle.tt_sql.specs.declared.query.Selection.TheVariants as selection
use Rattle.tt_sql.specs.declared.query.Item.{Item}
use Rattle.tt_sql.specs.declared.query.Item.TheVariants as item
use Rattle.tt_sql.specs.meaning.Queries.{is_aggregate, has_aggregate, group_key, each_once, grouped, groups_of}
use Rattle.tt_plain.specs.Places.{each}
use Rattle.tt_plain.specs.TypeMismatches.{is_grouped, ungrouped_item, ungrouped_selection}
use Rattle.tt_plain.specs.QueryKinds.{IsQueryTyped, reads_first_row}
use Rattle.tt_typer.proofs.KindLaws.{nil_parts}
use Rattle.tt_typer.proofs.ListLaws.{if_either, all_map, all_any, all_filter, all_from_places}
use Rattle.tt_typer.proofs.QueryAnswers.{groups_by, query_parts}

abbrev HasRows : List Row → Type 0
HasRows group = 0 < length group

passes_here : (b : Bool) (row : Row) (rows : List Row) → b ≡ true → HasRows (cond b (row ∷ rows) rows)
passes_here true row rows is = omega arith
passes_here false row rows is = cc

some_pass : (test : Row → Bool) (rows : List Row) (k : ℕ) (row : Row) → slice_get rows k ≡ Some row → test row ≡ true → HasRows (filter test rows)
some_pass test [] k row is passes = cc
some_pass test (r ∷ rows) zero row is passes = passes_here (test r) r (filter test rows) (ap test (same_Some r row is) ∙ passes)
some_pass test (r ∷ rows) (suc k) row is passes =
    let later = some_pass test rows k row is passes in
    if_either HasRows (test r) (r ∷ filter test rows) (filter test rows) (omega arith) later

all_once : (P : Row → Type 0) (rows : List Row) → AllByRecursion P rows → AllByRecursion P (each_once rows)
all_once P [] all = tt
all_once P (row ∷ rows) all = (all.0, all_filter P (λ other. not (is_same_row row other)) (each_once rows) (all_once P rows all.1))

grouped_rows : (key_of : Row → Row) (rows : List Row) → AllByRecursion HasRows (grouped key_of rows)
grouped_rows key_of rows =
    all_map HasRows (λ k. filter (λ row. is_same_row k (key_of row)) rows) (each_once (map key_of rows))
    (all_once (λ k. HasRows (filter (λ row. is_same_row k (key_of row)) rows)) (map key_of rows)
    (all_map (λ k. HasRows (filter (λ row. is_same_row k (key_of row)) rows)) key_of rows
    (all_from_places (λ r. HasRows (filter (λ row. is_same_row (key_of r) (key_of row)) rows)) rows
    (λ i r is. some_pass (λ row. is_same_row (key_of r) (key_of row)) rows i r is ((row_eq-Decides (key_of r) (key_of r)).1 refl)))))

single_rows : (rows : List Row) → AllByRecursion HasRows (map (λ row. row ∷ []) rows)
single_rows rows = all_map HasRows (λ row. row ∷ []) rows (all_any (λ row. HasRows (row ∷ [])) (λ row. omega arith) rows)

plain_rows : (b : Bool) (rows : List Row) → b ≡ false → AllByRecursion HasRows (if b then rows ∷ [] else map (λ row. row ∷ []) rows)
plain_rows true rows is = cc
plain_rows false rows is = single_rows rows

otherwise : (b : Bool) (xs ys : List (List Row)) → b ≡ false → AllByRecursion HasRows ys → AllByRecursion HasRows (if b then xs else ys)
otherwise true xs ys is all = cc
otherwise false xs ys is all = all

module _ (scope : Scope) where
  is_aggregate_alone : (i : Item) → ungrouped_item scope [] i ≡ [] → is_aggregate i ≡ true
  is_aggregate_alone (item.Expr e) none = cc
  is_aggregate_alone (item.CountAll place) none = refl
  is_aggregate_alone (item.Count place c) none = refl
  is_aggregate_alone (item.Sum place c) none = refl
  is_aggregate_alone (item.Min place c) none = refl
  is_aggregate_alone (item.Max place c) none = refl

  all_aggregates : (items : List Item) → each (ungrouped_item scope []) items ≡ [] → list_all is_aggregate items ≡ true
  all_aggregates [] none = refl
  all_aggregates (i ∷ items) none =
      let both = nil_parts (ungrouped_item scope [] i) (each (ungrouped_item scope []) items) none in
      and_from (is_aggregate i) (list_all is_aggregate items) (is_aggregate_alone i both.0) (all_aggregates items both.1)

  no_aggregate : (items : List Item) (b : Bool) → (if b then each (ungrouped_item scope []) items else []) ≡ [] → not (list_all is_aggregate items) ≡ true → b ≡ false
  no_aggregate items true none reads = absurd (false≢true (ap not (sym (all_aggregates items none)) ∙ reads))
  no_aggregate items false none reads = refl

  have_rows : (s : Selection) (group : List ColumnName) (rows : List Row) → (if is_grouped s group then ungrouped_selection scope group s else []) ≡ [] → reads_first_row s ≡ true → AllByRecursion HasRows (groups_by scope s group rows)
  have_rows (selection.All place) [] rows none reads = single_rows rows
  have_rows (selection.Listed items) [] rows none reads = plain_rows (has_aggregate (selection.Listed items)) rows (no_aggregate items (has_aggregate (selection.Listed items)) none reads)
  have_rows s (c ∷ group) rows none reads =
      otherwise (length (c ∷ group) == 0) (if has_aggregate s then rows ∷ [] else map (λ row. row ∷ []) rows) (grouped (group_key scope (c ∷ group)) rows)
      (ne_eqb (length (c ∷ group)) 0 (λ is. omega (arith, is))) (grouped_rows (group_key scope (c ∷ group)) rows)

  pub groups_have_rows : (q : Query) → IsQueryTyped scope q → reads_first_row q.selection ≡ true → (rows : List Row) → All HasRows (groups_of scope q rows)
  groups_have_rows q typed reads rows = All-from_recursion HasRows (groups_of scope q rows) (have_rows q.selection q.group rows (query_parts scope q typed).grouped reads)
