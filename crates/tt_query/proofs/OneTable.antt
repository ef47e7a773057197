-- Queries over one table.
use Rattle.std.proofs.Common.{◌≡◌, ◌<◌, ◌^◌, Bool, List, [], ◌∷◌, ◌++◌, length, map, Option, Some, None, refl, ap, sym, subst, ◌∙◌}
use Rattle.std.specs.Prelude.{if◌then◌else◌}
use Rattle.std.specs.Option.{option_map}
use Rattle.std.specs.List.{filter}
use Rattle.tt_value.specs.declared.value.Column.{Column}
use Rattle.tt_value.specs.declared.value.Row.{Row}
use Rattle.tt_value.specs.declared.value.Schema.{Schema}
use Rattle.tt_value.specs.trees.Scope.{Scope, table_scope}
use Rattle.tt_value.specs.trees.Predicates.{takes}
use Rattle.tt_sql.specs.declared.query.Join.{Join}
use Rattle.tt_sql.specs.declared.query.Query.{Query}
use Rattle.tt_sql.specs.meaning.Queries.{answer_of, arranged, selected_rows, taken_rows}
use Rattle.tt_sql.specs.meaning.Scopes.{query_scope, target_scope}
use Rattle.tt_plain.specs.Places.{each, if_there}
use Rattle.tt_plain.specs.UnknownColumns.{unknown_in_predicate, unknown_in_query, unknown_in_selection, unknown_name, unknown_in_key}
use Rattle.tt_typer.proofs.KindLaws.{nil_parts}
use Rattle.tt_typer.proofs.OneTable.{one_scope, columns_in_one}
use Rattle.tt_state.specs.declared.ticket.Seen.{Seen}
use Rattle.tt_scope.specs.Places.{HasPlaces}
use Rattle.tt_state.specs.Held.{rows_held}
use Rattle.tt_scan.specs.Held.{rows_taken}
use Rattle.tt_scan.proofs.Names.{same_takes}
use Rattle.tt_query.specs.Answer.{IsOver, answer_from}

scope_is : (schema : Schema) (query : Query) → query.joins ≡ [] → query_scope (schema ∷ []) query ≡ target_scope query.first.table schema
scope_is schema query none = one_scope query (schema ∷ []) none (sym (ap (λ (joins : List Join). length (query.first.table ∷ map (λ (join : Join). join.source.table) joins)) none))

filter_same : (p q : Row → Bool) (rows : List Row) → ((row : Row) → p row ≡ q row) → filter p rows ≡ filter q rows
filter_same p q [] each_is = refl
filter_same p q (row ∷ rows) each_is = rw (each_is row) (ap (λ xs. if q row then row ∷ xs else xs) (filter_same p q rows each_is))

filter_known : (scope : Scope) (query : Query) → unknown_in_query scope query ≡ [] → if_there (unknown_in_predicate scope) query.filter ≡ []
unfolding unknown_in_query
filter_known scope query known =
    let behind = nil_parts (unknown_in_selection scope query.selection) (if_there (unknown_in_predicate scope) query.filter ++ (each (unknown_name scope) query.group ++ each (unknown_in_key scope query.selection) query.order)) known in
    (nil_parts (if_there (unknown_in_predicate scope) query.filter) (each (unknown_name scope) query.group ++ each (unknown_in_key scope query.selection) query.order) behind.1).0

-- what the scan takes is what the query takes
pub taken_is : (seen : Seen) (query : Query) → IsOver seen query → rows_taken seen.schema query.filter (rows_held seen) ≡ taken_rows (query_scope (seen.schema ∷ []) query) query (rows_held seen)
taken_is seen query is =
    let scope = scope_is seen.schema query is.joins in
    let known = filter_known (target_scope query.first.table seen.schema) query (subst (λ s. unknown_in_query s query ≡ []) scope is.names) in
    filter_same (takes (table_scope seen.schema) query.filter) (takes (target_scope query.first.table seen.schema) query.filter) (rows_held seen) (λ row. sym (same_takes query.first.table seen.schema query.filter known row))
    ∙ ap (λ s. taken_rows s query (rows_held seen)) (sym scope)

pub places_there : (schema : Schema) (query : Query) → query.joins ≡ [] → length schema.columns < 2 ^ 64 → HasPlaces (schema ∷ []) query
places_there schema query none few = subst (λ (s : Scope). length s.columns < 2 ^ 64) (sym (scope_is schema query none)) (subst (λ (columns : List Column). length columns < 2 ^ 64) (sym (columns_in_one query.first.table schema)) few)

-- ---- from the rows that were taken to the answer

module _ (seen : Seen) (query : Query) (is : IsOver seen query) (schemas : List Schema) (taken : List Row) (one : schemas ≡ seen.schema ∷ []) (took : taken ≡ rows_taken seen.schema query.filter (rows_held seen)) where
  abbrev scope : Scope
  scope = query_scope (seen.schema ∷ []) query

  chosen_of : (result : Option (List Row)) → selected_rows (query_scope schemas query) query taken ≡ result → selected_rows scope query (taken_rows scope query (rows_held seen)) ≡ result
  chosen_of result chosen =
      ap (selected_rows scope query) (sym (taken_is seen query is) ∙ sym took)
      ∙ subst (λ (ss : List Schema). selected_rows (query_scope ss query) query taken ≡ result) one chosen

  pub answered : (selected answer : List Row) → selected_rows (query_scope schemas query) query taken ≡ Some selected → answer ≡ arranged (query_scope schemas query) query selected → answer_from seen query ≡ Some answer
  unfolding answer_of
  answered selected answer chosen put =
      ap (option_map (arranged scope query)) (chosen_of (Some selected) chosen)
      ∙ ap Some (sym (subst (λ (ss : List Schema). answer ≡ arranged (query_scope ss query) query selected) one put))

  pub out_of_range : selected_rows (query_scope schemas query) query taken ≡ None → answer_from seen query ≡ None
  unfolding answer_of
  out_of_range none = ap (option_map (arranged scope query)) (chosen_of None none)
