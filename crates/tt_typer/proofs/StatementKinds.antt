-- What accepted queries and changes do with kinds.
use Rattle.std.proofs.Common.{◌≡◌, ℕ, true, not, List, [], ◌∷◌, Option, Some, is_some, map, refl, ap, ◌∙◌, subst}
use Rattle.std.specs.List.{All, AllByRecursion}
use Rattle.std.proofs.lemmas.List.Elements.{All-from_recursion, recursion_from_All, filter_passes}
use Rattle.std.proofs.lemmas.Bool.{false≢true}
use Rattle.tt_value.specs.declared.value.Kind.{Kind}
use Rattle.tt_value.specs.declared.value.Kind.TheVariants as kinds
use Rattle.tt_value.specs.declared.value.Value.{Value}
use Rattle.tt_value.specs.declared.value.Value.TheVariants.{Null, Int, Date, Text}
use Rattle.tt_value.specs.declared.value.Column.{Column}
use Rattle.tt_value.specs.declared.value.Schema.{Schema}
use Rattle.tt_value.specs.declared.value.Row.{Row}
use Rattle.tt_value.specs.declared.name.Name.{Name}
use Rattle.tt_value.specs.declared.name.TableName.{TableName}
use Rattle.tt_value.specs.declared.name.ColumnName.{ColumnName}
use Rattle.tt_value.specs.declared.predicate.Predicate.{Predicate}
use Rattle.tt_value.specs.trees.Scope.{Scope, column_kind, column_value, kind_of}
use Rattle.tt_value.specs.trees.Expressions.{value_of}
use Rattle.tt_value.specs.trees.Predicates.{is_null, truth_of}
use Rattle.tt_sql.specs.declared.query.Query.{Query}
use Rattle.tt_sql.specs.declared.query.Selection.{Selection}
use Rattle.tt_sql.specs.declared.query.Selection.TheVariants as selection
use Rattle.tt_sql.specs.declared.query.Item.{Item}
use Rattle.tt_sql.specs.declared.query.Item.TheVariants as item
use Rattle.tt_sql.specs.declared.change.Dml.TheVariants as dml
use Rattle.tt_sql.specs.declared.change.Insert.{Insert}
use Rattle.tt_sql.specs.declared.change.InsertSource.{InsertSource}
use Rattle.tt_sql.specs.declared.change.InsertSource.TheVariants as source
use Rattle.tt_sql.specs.declared.change.Update.{Update}
use Rattle.tt_sql.specs.declared.change.Delete.{Delete}
use Rattle.tt_sql.specs.declared.change.Set.{Set}
use Rattle.tt_sql.specs.declared.statement.Statement.TheVariants as statement
use Rattle.tt_sql.specs.meaning.Scopes.{query_scope, target_scope}
use Rattle.tt_sql.specs.meaning.Queries.{answer_of, column_values, groups_of}
use Rattle.tt_sql.specs.meaning.Changes.{inserted_values, in_order}
use Rattle.tt_plain.specs.Places.{each, if_there, column_begin}
use Rattle.tt_plain.specs.Kinds.{fits, unless}
use Rattle.tt_plain.specs.Columns.{column_named}
use Rattle.tt_plain.specs.Expressions.{part_of}
use Rattle.tt_plain.specs.UnknownColumns.{unknown_name, unknown_in_selection, unknown_among, unknown_in_expr, unknown_in_predicate, unknown_in_item, unknown_in_set, unknown_in_source}
use Rattle.tt_plain.specs.WrongCounts.{width, named_again, miscounted_source}
use Rattle.tt_plain.specs.TypeMismatches.{misfit_in_selection, kind_in, expr_fits, misfit_in_item, misfit_in_predicate, misfit_in_query, misfit_into, misfit_in_set, misfit_in_source}
use Rattle.tt_plain.specs.TypingRefusal.{IsWellTyped}
use Rattle.tt_plain.specs.ValueKinds.{HasKinds, column_kinds, IsFoundByName}
use Rattle.tt_plain.specs.StrictMeaning.{value_there, strict_value_of, strict_truth_of}
use Rattle.tt_plain.specs.QueryKinds.{answer_kinds, IsQueryTyped, HasValues, KeepsToKinds, HasPlace}
use Rattle.tt_plain.specs.ChangeKinds.{SourceHasKinds, IsReadBy, AreReadBy, SetKeepsToKinds}
use Rattle.tt_typer.proofs.KindLaws.{nil_parts, nil_each, fits_unless, none_there, column_has_value}
use Rattle.tt_typer.proofs.ListLaws.{all_weaker, all_both, zip_weaker}
use Rattle.tt_typer.proofs.ExpressionKinds.{expression_fits}
use Rattle.tt_typer.proofs.PredicateKinds.{predicate_fits}
use Rattle.tt_typer.proofs.StoredRows.{GoesInto, Enters}
use Rattle.tt_typer.proofs.QueryAnswers.{groups_kept, query_parts, aggregated_kinds, answer_has_kinds, keys_have_places}
use Rattle.tt_typer.proofs.ChangedRows.{IsStored, inserted_stored, in_scope, set_goes}

-- ---- queries

filter_is : (f : Predicate → List ℕ) (o : Option Predicate) (p : Predicate) → if_there f o ≡ [] → o ≡ Some p → f p ≡ []
filter_is f o p none is = subst (λ o. if_there f o ≡ []) is none

-- a value that is not NULL, of a column in which numbers fit, is a number
number_kind : (v : Value) (kind : Option Kind) → kind_of v ≡ kind → fits (Some kinds.Int) kind ≡ true → not (is_null v) ≡ true → kind_of v ≡ Some kinds.Int
number_kind Null kind of fit there = cc
number_kind (Int n) kind of fit there = refl
number_kind (Date day) kind of fit there = absurd (false≢true (ap (fits (Some kinds.Int)) of ∙ fit))
number_kind (Text bytes) kind of fit there = absurd (false≢true (ap (fits (Some kinds.Int)) of ∙ fit))

module _ (scope : Scope) where
  abbrev Kinds : Row → Type 0
  Kinds row = HasKinds (column_kinds scope.columns) row

  summed_kinds : (c : ColumnName) → unknown_name scope c ≡ [] → fits (Some kinds.Int) (column_kind scope c) ≡ true → (rows : List Row) → AllByRecursion Kinds rows → AllByRecursion (λ v. kind_of v ≡ Some kinds.Int) (column_values scope c rows)
  summed_kinds c known fit rows all =
      let vs = map (λ row. column_value scope row c) rows in
      all_weaker (λ v. (kind_of v ≡ column_kind scope c) × (not (is_null v) ≡ true)) (λ v. kind_of v ≡ Some kinds.Int)
      (λ v both. number_kind v (column_kind scope c) both.0 fit both.1) (column_values scope c rows)
      (all_both (λ v. kind_of v ≡ column_kind scope c) (λ v. not (is_null v) ≡ true) (column_values scope c rows) (aggregated_kinds scope c known rows all)
      (recursion_from_All (λ v. not (is_null v) ≡ true) (column_values scope c rows) (filter_passes (λ v. not (is_null v)) vs)))

  has_values : (rows : List Row) → AllByRecursion Kinds rows → (c : ColumnName) → unknown_name scope c ≡ [] → (kind : Option Kind) → All (λ v. kind_of v ≡ kind) (column_values scope c rows) → HasValues scope rows kind c
  has_values rows all c known kind kinds = record {
    there = All-from_recursion (λ row. value_there scope row c ≡ Some (column_value scope row c)) rows
        (all_weaker Kinds (λ row. value_there scope row c ≡ Some (column_value scope row c)) (λ row have. (column_has_value scope row c have known).is) rows all);
    of_kind = kinds;
  }

  column_keeps : (rows : List Row) → AllByRecursion Kinds rows → (c : ColumnName) → unknown_name scope c ≡ [] → HasValues scope rows (column_kind scope c) c
  column_keeps rows all c known = has_values rows all c known (column_kind scope c) (All-from_recursion (λ v. kind_of v ≡ column_kind scope c) (column_values scope c rows) (aggregated_kinds scope c known rows all))

  item_keeps : (rows : List Row) → AllByRecursion Kinds rows → (i : Item) → unknown_in_item scope i ≡ [] → misfit_in_item scope i ≡ [] → KeepsToKinds scope rows i
  item_keeps rows all (item.Expr e) known fit =
      All-from_recursion (λ row. strict_value_of scope row e ≡ Some (value_of scope row e)) rows
      (all_weaker Kinds (λ row. strict_value_of scope row e ≡ Some (value_of scope row e)) (λ row have. (expression_fits scope row have e known fit).is) rows all)
  item_keeps rows all (item.CountAll place) known fit = tt
  item_keeps rows all (item.Count place c) known fit = column_keeps rows all c known
  item_keeps rows all (item.Sum place c) known fit = has_values rows all c known (Some kinds.Int) (All-from_recursion (λ v. kind_of v ≡ Some kinds.Int) (column_values scope c rows) (summed_kinds c known (fits_unless (fits (Some kinds.Int) (column_kind scope c)) (column_begin c) fit) rows all))
  item_keeps rows all (item.Min place c) known fit = column_keeps rows all c known
  item_keeps rows all (item.Max place c) known fit = column_keeps rows all c known

  module _ (q : Query) (typed : IsQueryTyped scope q) where
    pub filter_keeps : (row : Row) → Kinds row → (p : Predicate) → q.filter ≡ Some p → strict_truth_of scope row p ≡ Some (truth_of scope row p)
    filter_keeps row have p is =
        let parts = query_parts scope q typed in
        predicate_fits scope row have p (filter_is (unknown_in_predicate scope) q.filter p parts.filter_known is) (filter_is (misfit_in_predicate scope) q.filter p parts.filter_fits is)

    items_keep_of : (s : Selection) (items : List Item) → unknown_in_selection scope s ≡ [] → misfit_in_selection scope s ≡ [] → s ≡ selection.Listed items → (rows : List Row) → AllByRecursion Kinds rows → AllByRecursion (KeepsToKinds scope rows) items
    items_keep_of s items known fit is rows all =
        let names : each (unknown_in_item scope) items ≡ [] = subst (λ s. unknown_in_selection scope s ≡ []) is known in
        let parts : each (misfit_in_item scope) items ≡ [] = subst (λ s. misfit_in_selection scope s ≡ []) is fit in
        all_weaker (λ i. (unknown_in_item scope i ≡ []) × (misfit_in_item scope i ≡ [])) (KeepsToKinds scope rows) (λ i both. item_keeps rows all i both.0 both.1) items
        (all_both (λ i. unknown_in_item scope i ≡ []) (λ i. misfit_in_item scope i ≡ []) items (nil_each (unknown_in_item scope) items names) (nil_each (misfit_in_item scope) items parts))

    pub items_keep : (items : List Item) → q.selection ≡ selection.Listed items → (rows : List Row) → All Kinds rows → All (KeepsToKinds scope rows) items
    items_keep items is rows all =
        let parts = query_parts scope q typed in
        All-from_recursion (KeepsToKinds scope rows) items (items_keep_of q.selection items parts.selection_known parts.selection_fits is rows (recursion_from_All Kinds rows all))

    pub answer_keeps : (rows answer : List Row) → All Kinds rows → answer_of scope q rows ≡ Some answer → All (HasKinds (answer_kinds scope q.selection)) answer
    answer_keeps rows answer all is =
        All-from_recursion (HasKinds (answer_kinds scope q.selection)) answer (answer_has_kinds scope q typed rows answer (recursion_from_All Kinds rows all) is)

    pub keys_keep : All (HasPlace scope q.selection) q.order
    keys_keep = All-from_recursion (HasPlace scope q.selection) q.order (keys_have_places scope q typed)

    pub groups_keep : (rows : List Row) → All Kinds rows → All (λ group. All Kinds group) (groups_of scope q rows)
    groups_keep rows all =
        All-from_recursion (λ group. All Kinds group) (groups_of scope q rows)
        (all_weaker (AllByRecursion Kinds) (λ group. All Kinds group) (λ group kinds. All-from_recursion Kinds group kinds) (groups_of scope q rows)
        (groups_kept Kinds scope q.selection q.group rows (recursion_from_All Kinds rows all)))

    pub group_keeps : (row : Row) → Kinds row → All (λ c. value_there scope row c ≡ Some (column_value scope row c)) q.group
    group_keeps row have =
        All-from_recursion (λ c. value_there scope row c ≡ Some (column_value scope row c)) q.group
        (all_weaker (λ c. unknown_name scope c ≡ []) (λ c. value_there scope row c ≡ Some (column_value scope row c)) (λ c known. (column_has_value scope row c have known).is) q.group
        (nil_each (unknown_name scope) q.group (query_parts scope q typed).group_known))

-- ---- statements with a query

source_typed : (schema : Schema) (names : Option (List Name)) (sources : List Schema) (s : InsertSource) (q : Query) → s ≡ source.Query q → unknown_in_source sources s ≡ [] → misfit_in_source schema names sources s ≡ [] → IsQueryTyped (query_scope sources q) q
source_typed schema names sources s q is known fit =
    let parts = nil_parts (misfit_in_query (query_scope sources q) q) (misfit_into schema names (query_scope sources q) q.selection) (subst (λ s. misfit_in_source schema names sources s ≡ []) is fit) in
    record { columns = subst (λ s. unknown_in_source sources s ≡ []) is known; kinds = parts.0 }

pub insert_typed : (schema : Schema) (sources : List Schema) (i : Insert) (q : Query) → IsWellTyped (schema ∷ sources) (statement.Dml (dml.Insert i)) → i.source ≡ source.Query q → IsQueryTyped (query_scope sources q) q
insert_typed schema sources i q typed is =
    let known = nil_parts (if_there (each (unknown_among schema)) i.columns) (unknown_in_source sources i.source) typed.columns in
    source_typed schema i.columns sources i.source q is known.1 typed.kinds

-- ---- changes

is_read : (column : Column) (v : Value) → GoesInto column.kind v → IsReadBy column v
is_read column v goes = record { read = goes.read; of_kind = goes.of_kind }

module _ (schema : Schema) (sources : List Schema) where
  pub inserted_are_read : IsFoundByName schema → (read : List Row) (i : Insert) (given : List (List Value)) → IsWellTyped (schema ∷ sources) (statement.Dml (dml.Insert i)) → SourceHasKinds sources read i.source → inserted_values sources read i.source ≡ Some given → All (AreReadBy schema i.columns) given
  inserted_are_read found read i given typed have is =
      let known = nil_parts (if_there (each (unknown_among schema)) i.columns) (unknown_in_source sources i.source) typed.columns in
      let counted = nil_parts (if_there (named_again schema) i.columns) (miscounted_source sources (width schema i.columns) i.source) typed.counts in
      All-from_recursion (AreReadBy schema i.columns) given
      (all_weaker (IsStored schema found i.columns) (AreReadBy schema i.columns)
      (λ values stored. record { count = stored.0; read = zip_weaker Enters IsReadBy is_read schema.columns (in_order schema i.columns values) stored.1 }) given
      (inserted_stored schema found i.columns sources read i.source known.1 counted.1 typed.kinds have given is))

  listed_named : (o : Option (List Name)) (names : List Name) → if_there (each (unknown_among schema)) o ≡ [] → o ≡ Some names → AllByRecursion (λ name. is_some (column_named schema name) ≡ true) names
  listed_named o names known is =
      all_weaker (λ name. unknown_among schema name ≡ []) (λ name. is_some (column_named schema name) ≡ true)
      (λ name none. let column = none_there name.place (column_named schema name) none in ap is_some column.1) names
      (nil_each (unknown_among schema) names (subst (λ o. if_there (each (unknown_among schema)) o ≡ []) is known))

  pub listed_are_columns : (i : Insert) (names : List Name) → IsWellTyped (schema ∷ sources) (statement.Dml (dml.Insert i)) → i.columns ≡ Some names → All (λ name. is_some (column_named schema name) ≡ true) names
  listed_are_columns i names typed is =
      let known = nil_parts (if_there (each (unknown_among schema)) i.columns) (unknown_in_source sources i.source) typed.columns in
      All-from_recursion (λ name. is_some (column_named schema name) ≡ true) names (listed_named i.columns names known.0 is)

  abbrev SetTyped : TableName → Set → Type 0
  SetTyped table s = (unknown_in_set table schema s ≡ []) × (misfit_in_set table schema s ≡ [])

  sets_typed : (u : Update) → IsWellTyped (schema ∷ sources) (statement.Dml (dml.Update u)) → AllByRecursion (SetTyped u.table) u.sets
  sets_typed u typed =
      let known = nil_parts (each (unknown_in_set u.table schema) u.sets) (if_there (unknown_in_predicate (target_scope u.table schema)) u.filter) typed.columns in
      let fit = nil_parts (each (misfit_in_set u.table schema) u.sets) (if_there (misfit_in_predicate (target_scope u.table schema)) u.filter) typed.kinds in
      all_both (λ s. unknown_in_set u.table schema s ≡ []) (λ s. misfit_in_set u.table schema s ≡ []) u.sets (nil_each (unknown_in_set u.table schema) u.sets known.0) (nil_each (misfit_in_set u.table schema) u.sets fit.0)

  set_keeps : IsFoundByName schema → (u : Update) (row : Row) → HasKinds (column_kinds schema.columns) row → (s : Set) → SetTyped u.table s → SetKeepsToKinds u.table schema row s
  set_keeps found u row own s both =
      let scope = target_scope u.table schema in
      let have = in_scope u.table schema row own in
      let names = nil_parts (unknown_among schema s.column) (unknown_in_expr scope s.value) both.0 in
      let parts = nil_parts (unless (expr_fits scope (kind_in (column_named schema s.column)) s.value) ((part_of scope s.value).place)) (part_of scope s.value).misfits both.1 in
      let column = none_there s.column.place (column_named schema s.column) names.0 in
      record {
        value = (expression_fits scope row have s.value names.1 parts.1).is;
        column = column.0;
        named = column.1;
        read = λ v is. is_read column.0 v (set_goes u.table schema found row have s both column.0 column.1 v is);
      }

  pub sets_keep : IsFoundByName schema → (u : Update) (row : Row) → IsWellTyped (schema ∷ sources) (statement.Dml (dml.Update u)) → HasKinds (column_kinds schema.columns) row → All (SetKeepsToKinds u.table schema row) u.sets
  sets_keep found u row typed own =
      All-from_recursion (SetKeepsToKinds u.table schema row) u.sets (all_weaker (SetTyped u.table) (SetKeepsToKinds u.table schema row) (set_keeps found u row own) u.sets (sets_typed u typed))

  pub update_filter_keeps : (u : Update) (row : Row) (p : Predicate) → IsWellTyped (schema ∷ sources) (statement.Dml (dml.Update u)) → HasKinds (column_kinds schema.columns) row → u.filter ≡ Some p → strict_truth_of (target_scope u.table schema) row p ≡ Some (truth_of (target_scope u.table schema) row p)
  update_filter_keeps u row p typed own is =
      let scope = target_scope u.table schema in
      let known = nil_parts (each (unknown_in_set u.table schema) u.sets) (if_there (unknown_in_predicate scope) u.filter) typed.columns in
      let fit = nil_parts (each (misfit_in_set u.table schema) u.sets) (if_there (misfit_in_predicate scope) u.filter) typed.kinds in
      predicate_fits scope row (in_scope u.table schema row own) p (filter_is (unknown_in_predicate scope) u.filter p known.1 is) (filter_is (misfit_in_predicate scope) u.filter p fit.1 is)

  pub delete_filter_keeps : (d : Delete) (row : Row) (p : Predicate) → IsWellTyped (schema ∷ sources) (statement.Dml (dml.Delete d)) → HasKinds (column_kinds schema.columns) row → d.filter ≡ Some p → strict_truth_of (target_scope d.table schema) row p ≡ Some (truth_of (target_scope d.table schema) row p)
  delete_filter_keeps d row p typed own is =
      let scope = target_scope d.table schema in
      predicate_fits scope row (in_scope d.table schema row own) p (filter_is (unknown_in_predicate scope) d.filter p typed.columns is) (filter_is (misfit_in_predicate scope) d.filter p typed.kinds is)
