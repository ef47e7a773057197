-- The rows that an accepted change adds are of the kinds of their columns, with no NULL where none may stand.
use Rattle.std.proofs.Common.{◌≡◌, ℕ, ◌<◌, Bool, true, false, cond, ◌==◌, List, [], ◌∷◌, length, map, Option, Some, None, refl, sym, ◌∙◌, subst, arith}
use Rattle.std.specs.Prelude.{slice_get, IfSome, if◌then◌else◌}
use Rattle.std.specs.Option.{option_map}
use Rattle.std.specs.List.{All, AllZip, AllByRecursion, filter, zip}
use Rattle.std.specs.Str.{bytes_eq}
use Rattle.std.proofs.lemmas.Bool.{eqb-true}
use Rattle.std.proofs.lemmas.Option.{same_Some, slice_get_within}
use Rattle.std.proofs.lemmas.Slice.Eq.{bytes_eq-Decides}
use Rattle.std.proofs.lemmas.List.{length-map}
use Rattle.std.proofs.lemmas.List.Elements.{recursion_from_All}
use Rattle.tt_value.specs.declared.value.Kind.{Kind}
use Rattle.tt_value.specs.declared.value.Value.{Value}
use Rattle.tt_value.specs.declared.value.Column.{Column}
use Rattle.tt_value.specs.declared.value.Schema.{Schema}
use Rattle.tt_value.specs.declared.value.Row.{Row}
use Rattle.tt_value.specs.declared.name.Name.{Name}
use Rattle.tt_value.specs.declared.name.Literal.{Literal}
use Rattle.tt_value.specs.declared.name.TableName.{TableName}
use Rattle.tt_value.specs.trees.Scope.{Scope}
use Rattle.tt_value.specs.trees.Expressions.{value_of}
use Rattle.tt_value.specs.trees.Predicates.{takes}
use Rattle.tt_sql.specs.declared.query.Query.{Query}
use Rattle.tt_sql.specs.declared.query.Item.{Item}
use Rattle.tt_sql.specs.declared.change.Dml.{Dml}
use Rattle.tt_sql.specs.declared.change.Dml.TheVariants as dml
use Rattle.tt_sql.specs.declared.change.Insert.{Insert}
use Rattle.tt_sql.specs.declared.change.InsertSource.{InsertSource}
use Rattle.tt_sql.specs.declared.change.InsertSource.TheVariants as source
use Rattle.tt_sql.specs.declared.change.Tuple.{Tuple}
use Rattle.tt_sql.specs.declared.change.Update.{Update}
use Rattle.tt_sql.specs.declared.change.Set.{Set}
use Rattle.tt_sql.specs.declared.statement.Statement.TheVariants as statement
use Rattle.tt_sql.specs.meaning.Scopes.{query_scope, target_scope}
use Rattle.tt_sql.specs.meaning.Queries.{all_some, answer_of}
use Rattle.tt_sql.specs.meaning.Changes.{Changes, Staged, Records, BadRecord, NullInRecord, for_column, in_order, stored_row, tuple_values, inserted_values, adds, insert_change, set_value, updated_row, replaces, update_change, copy_change, change_of}
use Rattle.tt_plain.specs.Places.{each, each_at, if_there}
use Rattle.tt_plain.specs.Kinds.{fits, unless}
use Rattle.tt_plain.specs.Columns.{column_named}
use Rattle.tt_plain.specs.Expressions.{part_of}
use Rattle.tt_plain.specs.UnknownColumns.{item_count, unknown_among, unknown_in_expr, unknown_in_predicate, unknown_in_set, unknown_in_source}
use Rattle.tt_plain.specs.WrongCounts.{width, named_again, unless_equal, miscounted_tuple, miscounted_source}
use Rattle.tt_plain.specs.TypeMismatches.{kind_in, target_kind, expr_fits, item_fits, item_begin, misfit_in_tuple, misfit_item, misfit_column, misfit_into, misfit_in_query, misfit_in_source, misfit_in_set, misfit_in_predicate}
use Rattle.tt_plain.specs.TypingRefusal.{IsWellTyped}
use Rattle.tt_plain.specs.ValueKinds.{IsOf, HasKinds, column_kinds, IsRowOf, IsFoundByName}
use Rattle.tt_plain.specs.QueryKinds.{answer_kinds, IsQueryTyped}
use Rattle.tt_plain.specs.ChangeKinds.{SourceHasKinds, ReadHasKinds, StagedAreRows}
use Rattle.tt_typer.proofs.KindLaws.{nil_parts, nil_each, fits_unless}
use Rattle.tt_typer.proofs.ListLaws.{all_map, all_weaker, all_both, all_filter, zip_from_places, zip_at_place, zip_lengths, zip_from_mapped, zip_of_mapped, pair_at_place, item_there, each_place, all_there}
use Rattle.tt_typer.proofs.OneTable.{columns_in_one}
use Rattle.tt_typer.proofs.StoredRows.{GoesInto, Enters, AllGo, named_column, ordered_enter, stored_kinds, tuple_enters, rows_stored, value_goes}
use Rattle.tt_typer.proofs.QueryAnswers.{GoesWhereFits, item_goes, answers_are, answer_has_kinds, answer_width, all_across, option_map_some, expression_goes}

-- ---- INSERT

equal_if : (b : Bool) (place : ℕ) → (if b then [] else place ∷ []) ≡ [] → b ≡ true
equal_if true place is = refl
equal_if false place is = cc

equal_counts : (place a b : ℕ) → unless_equal place a b ≡ [] → a ≡ b
equal_counts place a b is = eqb-true a b (equal_if (a == b) place is)

module _ (schema : Schema) (found : IsFoundByName schema) (names : Option (List Name)) where
  abbrev pub IsStored : List Value → Type 0
  IsStored values = (length values ≡ width schema names) × AllZip Enters schema.columns (in_order schema names values)

  tuples_stored : (tuples : List Tuple) → each (miscounted_tuple (width schema names)) tuples ≡ [] → each (misfit_in_tuple schema names) tuples ≡ [] → AllByRecursion IsStored (map tuple_values tuples)
  tuples_stored tuples counted fit =
      all_map IsStored tuple_values tuples
      (all_weaker (λ t. (miscounted_tuple (width schema names) t ≡ []) × (misfit_in_tuple schema names t ≡ [])) (λ t. IsStored (tuple_values t))
      (λ t both.
      let same = equal_counts t.place (length t.values) (width schema names) both.0 in
      (length-map t.values (λ (l : Literal). l.value) ∙ same, tuple_enters schema found names t same both.1))
      tuples
      (all_both (λ t. miscounted_tuple (width schema names) t ≡ []) (λ t. misfit_in_tuple schema names t ≡ []) tuples (nil_each (miscounted_tuple (width schema names)) tuples counted) (nil_each (misfit_in_tuple schema names) tuples fit)))

  module _ (scope : Scope) where
    star_goes : (place : ℕ) (row : Row) → each_at (misfit_column schema names place) 0 scope.columns ≡ [] → HasKinds (column_kinds scope.columns) row → AllGo schema names row.values
    star_goes place row fit have p kind v target v_is =
        let own = zip_from_mapped IsOf (λ (column : Column). Some column.kind) scope.columns row.values have in
        let same = zip_lengths (λ (column : Column) (v : Value). IsOf (Some column.kind) v) scope.columns row.values own in
        let within = slice_get_within row.values p v v_is in
        let column = item_there scope.columns p (omega (arith, same, within)) in
        let there = fits_unless (fits (target_kind schema names p) (Some column.0.kind)) place (each_place (misfit_column schema names place) scope.columns fit p column.0 column.1) in
        value_goes kind (Some column.0.kind) v (subst (λ (k : Option Kind). fits k (Some column.0.kind) ≡ true) target there)
        (zip_at_place (λ (column : Column) (v : Value). IsOf (Some column.kind) v) scope.columns row.values own p column.0 v column.1 v_is)

    items_go : (items : List Item) (row : Row) → each_at (misfit_item schema names scope) 0 items ≡ [] → AllZip (GoesWhereFits scope) items row.values → AllGo schema names row.values
    items_go items row fit all p kind v target v_is =
        let same = zip_lengths (GoesWhereFits scope) items row.values all in
        let within = slice_get_within row.values p v v_is in
        let i = item_there items p (omega (arith, same, within)) in
        let there = fits_unless (item_fits scope (target_kind schema names p) i.0) (item_begin scope i.0) (each_place (misfit_item schema names scope) items fit p i.0 i.1) in
        zip_at_place (GoesWhereFits scope) items row.values all p i.0 v i.1 v_is kind (subst (λ (k : Option Kind). item_fits scope k i.0 ≡ true) target there)

    answer_stored : (q : Query) → IsQueryTyped scope q → unless_equal q.place (item_count scope q.selection) (width schema names) ≡ [] → misfit_into schema names scope q.selection ≡ [] → (read answer : List Row) → AllByRecursion (HasKinds (column_kinds scope.columns)) read → answer_of scope q read ≡ Some answer → AllByRecursion IsStored (map (λ (row : Row). row.values) answer)
    answer_stored q typed counted fit read answer have is =
        let go = answers_are scope (λ s row. misfit_into schema names scope s ≡ [] → AllGo schema names row.values)
        (λ place row own fit. star_goes place row fit own) (GoesWhereFits scope) (item_goes scope) (λ items row all fit. items_go items row fit all) q typed read answer have is in
        let kinds = answer_has_kinds scope q typed read answer have is in
        let wide = equal_counts q.place (item_count scope q.selection) (width schema names) counted in
        all_map IsStored (λ (row : Row). row.values) answer
        (all_weaker (λ (row : Row). (misfit_into schema names scope q.selection ≡ [] → AllGo schema names row.values) × HasKinds (answer_kinds scope q.selection) row) (λ (row : Row). IsStored row.values)
        (λ row both.
        let same : length row.values ≡ width schema names = sym (zip_lengths IsOf (answer_kinds scope q.selection) row.values both.1) ∙ answer_width scope q.selection ∙ wide in
        (same, ordered_enter schema found names row.values same (both.0 fit)))
        answer (all_both (λ (row : Row). misfit_into schema names scope q.selection ≡ [] → AllGo schema names row.values) (HasKinds (answer_kinds scope q.selection)) answer go kinds))

  pub inserted_stored : (sources : List Schema) (read : List Row) (s : InsertSource) → unknown_in_source sources s ≡ [] → miscounted_source sources (width schema names) s ≡ [] → misfit_in_source schema names sources s ≡ [] → SourceHasKinds sources read s → (given : List (List Value)) → inserted_values sources read s ≡ Some given → AllByRecursion IsStored given
  inserted_stored sources read (source.Values tuples) known counted fit have given is =
      subst (AllByRecursion IsStored) (same_Some (map tuple_values tuples) given is) (tuples_stored tuples counted fit)
  inserted_stored sources read (source.Query q) known counted fit have given is =
      let scope = query_scope sources q in
      let both = nil_parts (misfit_in_query scope q) (misfit_into schema names scope q.selection) fit in
      let made = option_map_some (map (λ (row : Row). row.values)) (answer_of scope q read) given is in
      subst (AllByRecursion IsStored) made.2
      (answer_stored scope q (record { columns = known; kinds = both.0 }) counted both.1 read made.0 (recursion_from_All (HasKinds (column_kinds scope.columns)) read have) made.1)

added_by : (schema : Schema) (o : Option (List Row)) (removed added : List Row) (count : ℕ) → ((rows : List Row) → o ≡ Some rows → AllByRecursion (HasKinds (column_kinds schema.columns)) rows) → adds schema o ≡ Changes removed added count → AllByRecursion (IsRowOf schema) added
added_by schema None removed added count have is = cc
added_by schema (Some rows) removed added count have is = rows_stored schema [] rows (length rows) removed added count (have rows refl) is

insert_adds : (schema : Schema) → IsFoundByName schema → (sources : List Schema) (read : List Row) (i : Insert) → unknown_in_source sources i.source ≡ [] → miscounted_source sources (width schema i.columns) i.source ≡ [] → misfit_in_source schema i.columns sources i.source ≡ [] → SourceHasKinds sources read i.source → (removed added : List Row) (count : ℕ) → insert_change schema sources read i ≡ Changes removed added count → AllByRecursion (IsRowOf schema) added
insert_adds schema found sources read i known counted fit have removed added count is =
    added_by schema (option_map (map (stored_row schema i.columns)) (inserted_values sources read i.source)) removed added count
    (λ rows rows_are.
    let made = option_map_some (map (stored_row schema i.columns)) (inserted_values sources read i.source) rows rows_are in
    subst (AllByRecursion (HasKinds (column_kinds schema.columns))) made.2
    (all_map (HasKinds (column_kinds schema.columns)) (stored_row schema i.columns) made.0
    (all_weaker (IsStored schema found i.columns) (λ values. HasKinds (column_kinds schema.columns) (stored_row schema i.columns values)) (λ values stored. stored_kinds schema.columns (in_order schema i.columns values) stored.1) made.0
    (inserted_stored schema found i.columns sources read i.source known counted fit have made.0 made.1))))
    is

-- ---- UPDATE

zip_width : {A B : Type 0} (xs : List A) (ys : List B) → length xs ≡ length ys → length (zip xs ys) ≡ length xs
zip_width [] ys same = refl
zip_width (x ∷ xs) [] same = absurd (omega (arith, same))
zip_width (x ∷ xs) (y ∷ ys) same = let later = zip_width xs ys (omega (arith, same)) in omega (arith, later)

-- a row of a table is of the kinds of the columns that names mean
pub in_scope : (table : TableName) (schema : Schema) (row : Row) → HasKinds (column_kinds schema.columns) row → HasKinds (column_kinds (target_scope table schema).columns) row
in_scope table schema row have = subst (λ (columns : List Column). HasKinds (column_kinds columns) row) (sym (columns_in_one table schema)) have

out_of_scope : (table : TableName) (schema : Schema) (row : Row) → HasKinds (column_kinds (target_scope table schema).columns) row → HasKinds (column_kinds schema.columns) row
out_of_scope table schema row have = subst (λ (columns : List Column). HasKinds (column_kinds columns) row) (columns_in_one table schema) have

module _ (table : TableName) (schema : Schema) (found : IsFoundByName schema) where
  abbrev scope : Scope
  scope = target_scope table schema

  abbrev Known : Set → Type 0
  Known s = (unknown_in_set table schema s ≡ []) × (misfit_in_set table schema s ≡ [])

  module _ (row : Row) (have : HasKinds (column_kinds scope.columns) row) where
    pub set_goes : (s : Set) → (unknown_in_set table schema s ≡ []) × (misfit_in_set table schema s ≡ []) → (column : Column) → column_named schema s.column ≡ Some column → (v : Value) → value_of scope row s.value ≡ Some v → GoesInto column.kind v
    set_goes s known column named v is =
        let names = nil_parts (unknown_among schema s.column) (unknown_in_expr scope s.value) known.0 in
        let both = nil_parts (unless (expr_fits scope (kind_in (column_named schema s.column)) s.value) ((part_of scope s.value).place)) (part_of scope s.value).misfits known.1 in
        let there = fits_unless (expr_fits scope (kind_in (column_named schema s.column)) s.value) ((part_of scope s.value).place) both.0 in
        expression_goes scope s.value row have names.1 both.1 column.kind (subst (λ (o : Option Column). expr_fits scope (kind_in o) s.value ≡ true) named there) v is

    set_gives : (s : Set) → Known s → (column : Column) → column_named schema s.column ≡ Some column → (r : Option Value) → value_of scope row s.value ≡ r → IfSome (option_map (for_column column) r) (IsOf (Some column.kind))
    set_gives s known column named None is = tt
    set_gives s known column named (Some v) is = (set_goes s known column named v is).of_kind

    set_by : (k : ℕ) (column : Column) → slice_get schema.columns k ≡ Some column → (v : Value) (s : Set) (sets : List Set) → Known s → IfSome (set_value scope sets row (column, v)) (IsOf (Some column.kind)) → (b : Bool) → bytes_eq s.column.text column.name ≡ b → IfSome (cond b (option_map (for_column column) (value_of scope row s.value)) (set_value scope sets row (column, v))) (IsOf (Some column.kind))
    set_by k column is v s sets known later true same = set_gives s known column (named_column schema found k column s.column is (sym ((bytes_eq-Decides s.column.text column.name).0 same))) (value_of scope row s.value) refl
    set_by k column is v s sets known later false same = later

    set_is_of : (k : ℕ) (column : Column) → slice_get schema.columns k ≡ Some column → (v : Value) → IsOf (Some column.kind) v → (sets : List Set) → AllByRecursion Known sets → IfSome (set_value scope sets row (column, v)) (IsOf (Some column.kind))
    set_is_of k column is v of [] known = of
    set_is_of k column is v of (s ∷ sets) known = set_by k column is v s sets known.0 (set_is_of k column is v of sets known.1) (bytes_eq s.column.text column.name) refl

    if_there_is : (kind : Option Kind) (o : Option Value) (v : Value) → IfSome o (IsOf kind) → o ≡ Some v → IsOf kind v
    if_there_is kind o v there is = subst (λ o. IfSome o (IsOf kind)) is there

    set_row : (sets : List Set) → AllByRecursion Known sets → (values : List Value) → AllZip (λ cell v. set_value scope sets row cell ≡ Some v) (zip scope.columns row.values) values → AllZip IsOf (column_kinds scope.columns) values
    set_row sets known values all =
        let own = zip_from_mapped IsOf (λ (column : Column). Some column.kind) scope.columns row.values have in
        let old : length scope.columns ≡ length row.values = zip_lengths (λ (column : Column) (v : Value). IsOf (Some column.kind) v) scope.columns row.values own in
        let new = zip_lengths (λ cell v. set_value scope sets row cell ≡ Some v) (zip scope.columns row.values) values all in
        let wide : length scope.columns ≡ length values = sym (zip_width scope.columns row.values old) ∙ new in
        zip_of_mapped IsOf (λ (column : Column). Some column.kind) scope.columns values
        (zip_from_places (λ (column : Column) (v : Value). IsOf (Some column.kind) v) scope.columns values wide
        (λ k column v is v_is.
        let before = item_there row.values k (subst (λ n. k < n) old (slice_get_within scope.columns k column is)) in
        let of = zip_at_place (λ (column : Column) (v : Value). IsOf (Some column.kind) v) scope.columns row.values own k column before.0 is before.1 in
        let set = zip_at_place (λ cell v. set_value scope sets row cell ≡ Some v) (zip scope.columns row.values) values all k (column, before.0) v (pair_at_place scope.columns row.values k column before.0 is before.1) v_is in
        if_there_is (Some column.kind) (set_value scope sets row (column, before.0)) v
        (set_is_of k column (subst (λ (columns : List Column). slice_get columns k ≡ Some column) (columns_in_one table schema) is) before.0 of sets known) set))

    updated_kinds : (sets : List Set) → AllByRecursion Known sets → (new : Row) → updated_row scope sets row ≡ Some new → HasKinds (column_kinds scope.columns) new
    updated_kinds sets known new is =
        let made = option_map_some (λ vs. record { values = vs }) (all_some (map (set_value scope sets row) (zip scope.columns row.values))) new is in
        subst (HasKinds (column_kinds scope.columns)) made.2 (set_row sets known made.0 (all_there (set_value scope sets row) (zip scope.columns row.values) made.0 made.1))

  replaced_by : (gone : List Row) (o : Option (List Row)) (removed added : List Row) (count : ℕ) → ((rows : List Row) → o ≡ Some rows → AllByRecursion (HasKinds (column_kinds schema.columns)) rows) → replaces schema gone o ≡ Changes removed added count → AllByRecursion (IsRowOf schema) added
  replaced_by gone None removed added count have is = cc
  replaced_by gone (Some rows) removed added count have is = rows_stored schema gone rows (length gone) removed added count (have rows refl) is

  updated_all : (sets : List Set) → AllByRecursion Known sets → (gone rows : List Row) → AllByRecursion (IsRowOf schema) gone → all_some (map (updated_row scope sets) gone) ≡ Some rows → AllByRecursion (HasKinds (column_kinds schema.columns)) rows
  updated_all sets known gone rows have is =
      all_across (IsRowOf schema) (λ row new. updated_row scope sets row ≡ Some new) (HasKinds (column_kinds schema.columns))
      (λ row new own made. out_of_scope table schema new (updated_kinds row (in_scope table schema row own.kinds) sets known new made))
      gone rows have (all_there (updated_row scope sets) gone rows is)

update_adds : (schema : Schema) → IsFoundByName schema → (rows : List Row) → AllByRecursion (IsRowOf schema) rows → (u : Update) → each (unknown_in_set u.table schema) u.sets ≡ [] → each (misfit_in_set u.table schema) u.sets ≡ [] → (removed added : List Row) (count : ℕ) → update_change schema rows u ≡ Changes removed added count → AllByRecursion (IsRowOf schema) added
update_adds schema found rows have u known fit removed added count is =
    let gone = filter (takes (target_scope u.table schema) u.filter) rows in
    let sets = all_both (λ s. unknown_in_set u.table schema s ≡ []) (λ s. misfit_in_set u.table schema s ≡ []) u.sets (nil_each (unknown_in_set u.table schema) u.sets known) (nil_each (misfit_in_set u.table schema) u.sets fit) in
    replaced_by u.table schema found gone (all_some (map (updated_row (target_scope u.table schema) u.sets) gone)) removed added count
    (λ new new_are. updated_all u.table schema found u.sets sets gone new (all_filter (IsRowOf schema) (takes (target_scope u.table schema) u.filter) rows have) new_are)
    is

-- ---- any change

none_added : (gone removed added : List Row) (n count : ℕ) → Changes gone [] n ≡ Changes removed added count → [] ≡ added
none_added gone removed added n count is = cc

copy_adds : (schema : Schema) (staged : Staged) → StagedAreRows schema staged → (removed added : List Row) (count : ℕ) → copy_change staged ≡ Changes removed added count → AllByRecursion (IsRowOf schema) added
copy_adds schema (Records rows) have removed added count is =
    let rows_are : rows ≡ added = cc in
    subst (AllByRecursion (IsRowOf schema)) rows_are (recursion_from_All (IsRowOf schema) rows have)
copy_adds schema (BadRecord number column) have removed added count is = cc
copy_adds schema (NullInRecord column) have removed added count is = cc

pub change_adds : (schema : Schema) (sources : List Schema) (rows read : List Row) (staged : Staged) (d : Dml) → IsFoundByName schema → IsWellTyped (schema ∷ sources) (statement.Dml d) → All (IsRowOf schema) rows → ReadHasKinds sources read d → StagedAreRows schema staged → (removed added : List Row) (count : ℕ) → change_of schema rows sources read staged d ≡ Changes removed added count → AllByRecursion (IsRowOf schema) added
unfolding change_of
change_adds schema sources rows read staged (dml.Insert i) found typed own have staged_are removed added count is =
    let known = nil_parts (if_there (each (unknown_among schema)) i.columns) (unknown_in_source sources i.source) typed.columns in
    let counted = nil_parts (if_there (named_again schema) i.columns) (miscounted_source sources (width schema i.columns) i.source) typed.counts in
    insert_adds schema found sources read i known.1 counted.1 typed.kinds have removed added count is
change_adds schema sources rows read staged (dml.Update u) found typed own have staged_are removed added count is =
    let known = nil_parts (each (unknown_in_set u.table schema) u.sets) (if_there (unknown_in_predicate (target_scope u.table schema)) u.filter) typed.columns in
    let fit = nil_parts (each (misfit_in_set u.table schema) u.sets) (if_there (misfit_in_predicate (target_scope u.table schema)) u.filter) typed.kinds in
    update_adds schema found rows (recursion_from_All (IsRowOf schema) rows own) u known.0 fit.0 removed added count is
change_adds schema sources rows read staged (dml.Delete d) found typed own have staged_are removed added count is =
    let gone = filter (takes (target_scope d.table schema) d.filter) rows in
    subst (AllByRecursion (IsRowOf schema)) (none_added gone removed added (length gone) count is) tt
change_adds schema sources rows read staged (dml.Copy c) found typed own have staged_are removed added count is = copy_adds schema staged staged_are removed added count is
