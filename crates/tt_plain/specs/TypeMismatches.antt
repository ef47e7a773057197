-- TypeMismatch: kinds that do not fit, or an item that is neither an aggregate nor a group column.
use Rattle.std.specs.Prelude.{ℕ, Bool, true, false, ◌&&◌, if◌then◌else◌, List, [], ◌∷◌, ◌++◌, drop, Option, Some, None}
use Rattle.std.specs.List.{list_any}
use Rattle.tt_value.specs.declared.value.Kind.{Kind}
use Rattle.tt_value.specs.declared.value.Kind.TheVariants as kinds
use Rattle.tt_value.specs.declared.value.Column.{Column}
use Rattle.tt_value.specs.declared.value.Schema.{Schema}
use Rattle.tt_value.specs.declared.name.Name.{Name}
use Rattle.tt_value.specs.declared.name.TableName.{TableName}
use Rattle.tt_value.specs.declared.name.ColumnName.{ColumnName}
use Rattle.tt_value.specs.declared.name.Literal.{Literal}
use Rattle.tt_value.specs.declared.predicate.Operand.{Operand}
use Rattle.tt_value.specs.declared.predicate.Operand.TheVariants as operand
use Rattle.tt_value.specs.declared.predicate.Predicate.{Predicate}
use Rattle.tt_value.specs.declared.predicate.Conjunction.{Conjunction}
use Rattle.tt_value.specs.declared.predicate.Unit.{Unit}
use Rattle.tt_value.specs.declared.predicate.Unit.TheFolds.{fold-Predicate, fold-Conjunction, fold-Unit}
use Rattle.tt_value.specs.declared.predicate.Unit.TheOpen.{Predicate-F, Conjunction-F, Unit-F}
use Rattle.tt_value.specs.declared.expression.Expr.{Expr}
use Rattle.tt_value.specs.trees.Scope.{Scope, column_kind}
use Rattle.tt_value.specs.trees.Predicates.{operand_kind}
use Rattle.tt_sql.specs.declared.query.Query.{Query}
use Rattle.tt_sql.specs.declared.query.Selection.{Selection}
use Rattle.tt_sql.specs.declared.query.Selection.TheVariants as selection
use Rattle.tt_sql.specs.declared.query.Item.{Item}
use Rattle.tt_sql.specs.declared.query.Item.TheVariants as item
use Rattle.tt_sql.specs.declared.change.Dml.{Dml}
use Rattle.tt_sql.specs.declared.change.Dml.TheVariants as dml
use Rattle.tt_sql.specs.declared.change.InsertSource.{InsertSource}
use Rattle.tt_sql.specs.declared.change.InsertSource.TheVariants as source
use Rattle.tt_sql.specs.declared.change.Tuple.{Tuple}
use Rattle.tt_sql.specs.declared.change.Set.{Set}
use Rattle.tt_sql.specs.declared.change.Update.{Update}
use Rattle.tt_sql.specs.declared.statement.Statement.{Statement}
use Rattle.tt_sql.specs.declared.statement.Statement.TheVariants as statement
use Rattle.tt_plain.specs.Places.{each, each_at, if_there, column_begin}
use Rattle.tt_sql.specs.meaning.Queries.{is_item_of, has_aggregate}
use Rattle.tt_sql.specs.meaning.Scopes.{query_scope, target_scope}
use Rattle.tt_plain.specs.Columns.{column_named, target_column}
use Rattle.tt_plain.specs.Expressions.{part_of, lone_literal}
use Rattle.tt_plain.specs.Kinds.{fits, literal_fits, unless, misfit_literal, is_date_kind, is_text}
use Rattle.tt_plain.specs.Tables.{schema_at}

-- ---- over the columns that the names of a query or of a filter may mean

abbrev pub is_quoted : Operand → Bool
is_quoted (operand.Column c) = false
is_quoted (operand.Literal l) = is_text l.value

-- a query over groups, or over all rows as one
abbrev pub is_grouped : Selection → List ColumnName → Bool
is_grouped s [] = has_aggregate s
is_grouped s (c ∷ group) = true

module _ (scope : Scope) where
  abbrev pub is_date : Operand → Bool
  is_date a = is_date_kind (operand_kind scope a)

  abbrev pub misfit_operand : Option Kind → Operand → List ℕ
  misfit_operand other (operand.Column c) = unless (fits other (column_kind scope c)) (column_begin c)
  misfit_operand other (operand.Literal l) = misfit_literal other l

  -- A text in quotes beside a DATE is at fault itself; else it is the right side.
  abbrev pub misfit_comparison : Operand → Operand → List ℕ
  misfit_comparison a b =
      if is_quoted a && is_date b then misfit_operand (operand_kind scope b) a
      else misfit_operand (operand_kind scope a) b

  -- the same with a literal on the right
  abbrev pub misfit_beside : Operand → Literal → List ℕ
  misfit_beside a l = misfit_comparison a (operand.Literal l)

  abbrev pub unit_misfits : Unit-F (List ℕ) (List ℕ) (List ℕ) → List ℕ
  unit_misfits (Unit-F.Not u) = u
  unit_misfits (Unit-F.Bracket p) = p
  unit_misfits (Unit-F.Compare a c b) = misfit_comparison a b
  unit_misfits (Unit-F.IsNull a negated) = []
  unit_misfits (Unit-F.In a negated literals) = each (misfit_beside a) literals
  unit_misfits (Unit-F.Between a negated least greatest) = misfit_beside a least ++ misfit_beside a greatest
  unit_misfits (Unit-F.StartsWith c front) = unless (fits (Some kinds.Varchar) (column_kind scope c)) (column_begin c)

  abbrev pub conjunction_misfits : Conjunction-F (List ℕ) (List ℕ) (List ℕ) → List ℕ
  conjunction_misfits c = c.first ++ each (λ x. x) c.others

  abbrev pub predicate_misfits : Predicate-F (List ℕ) (List ℕ) (List ℕ) → List ℕ
  predicate_misfits p = p.first ++ each (λ x. x) p.others

  unfoldable pub misfit_in_unit : Unit → List ℕ
  misfit_in_unit = fold-Unit (List ℕ) (List ℕ) (List ℕ) unit_misfits conjunction_misfits predicate_misfits

  unfoldable pub misfit_in_conjunction : Conjunction → List ℕ
  misfit_in_conjunction = fold-Conjunction (List ℕ) (List ℕ) (List ℕ) unit_misfits conjunction_misfits predicate_misfits

  unfoldable pub misfit_in_predicate : Predicate → List ℕ
  misfit_in_predicate = fold-Predicate (List ℕ) (List ℕ) (List ℕ) unit_misfits conjunction_misfits predicate_misfits

  abbrev pub misfit_in_item : Item → List ℕ
  misfit_in_item (item.Expr e) = (part_of scope e).misfits
  misfit_in_item (item.CountAll place) = []
  misfit_in_item (item.Count place c) = []
  misfit_in_item (item.Sum place c) = unless (fits (Some kinds.Int) (column_kind scope c)) (column_begin c)
  misfit_in_item (item.Min place c) = []
  misfit_in_item (item.Max place c) = []

  -- the column that an item is, if it is one alone, is one of the group's
  abbrev pub is_group_item : List ColumnName → Item → Bool
  is_group_item group i = list_any (λ c. is_item_of scope c i) group

  -- in a query over groups, or over all rows as one
  abbrev pub ungrouped_item : List ColumnName → Item → List ℕ
  ungrouped_item group (item.Expr e) = unless (is_group_item group (item.Expr e)) ((part_of scope e).place)
  ungrouped_item group _ = []

  abbrev pub ungrouped_selection : List ColumnName → Selection → List ℕ
  ungrouped_selection group (selection.All place) = place ∷ []
  ungrouped_selection group (selection.Listed items) = each (ungrouped_item group) items

  abbrev pub misfit_in_selection : Selection → List ℕ
  misfit_in_selection (selection.All place) = []
  misfit_in_selection (selection.Listed items) = each misfit_in_item items

  abbrev pub ungrouped_in_query : Query → List ℕ
  ungrouped_in_query q = if is_grouped q.selection q.group then ungrouped_selection q.group q.selection else []

  unfoldable pub misfit_in_query : Query → List ℕ
  misfit_in_query q = ungrouped_in_query q ++ (misfit_in_selection q.selection ++ if_there misfit_in_predicate q.filter)

-- ---- values that go into a column

abbrev pub kind_in : Option Column → Option Kind
kind_in None = None
kind_in (Some column) = Some column.kind

-- the kind of the column into which a value goes that stands at a place
abbrev pub target_kind : Schema → Option (List Name) → ℕ → Option Kind
target_kind schema names k = kind_in (target_column schema names k)

abbrev pub misfit_value : Schema → Option (List Name) → ℕ → Literal → List ℕ
misfit_value schema names k l = misfit_literal (target_kind schema names k) l

-- the values of a tuple, into the columns of an INSERT
abbrev pub misfit_in_tuple : Schema → Option (List Name) → Tuple → List ℕ
misfit_in_tuple schema names t = each_at (misfit_value schema names) 0 t.values

-- An expression into a column: a text in quotes alone may be a date.
module _ (scope : Scope) where
  abbrev pub value_fits : Option Kind → Option Literal → Option Kind → Bool
  value_fits wanted (Some l) kind = literal_fits wanted l.value
  value_fits wanted None kind = fits wanted kind

  abbrev pub expr_fits : Option Kind → Expr → Bool
  expr_fits wanted e = value_fits wanted (lone_literal e) ((part_of scope e).kind)

  abbrev pub item_fits : Option Kind → Item → Bool
  item_fits wanted (item.Expr e) = expr_fits wanted e
  item_fits wanted (item.CountAll place) = fits wanted (Some kinds.Int)
  item_fits wanted (item.Count place c) = fits wanted (Some kinds.Int)
  item_fits wanted (item.Sum place c) = fits wanted (Some kinds.Int)
  item_fits wanted (item.Min place c) = fits wanted (column_kind scope c)
  item_fits wanted (item.Max place c) = fits wanted (column_kind scope c)

  abbrev pub item_begin : Item → ℕ
  item_begin (item.Expr e) = (part_of scope e).place
  item_begin (item.CountAll place) = place
  item_begin (item.Count place c) = place
  item_begin (item.Sum place c) = place
  item_begin (item.Min place c) = place
  item_begin (item.Max place c) = place

abbrev pub misfit_item : Schema → Option (List Name) → Scope → ℕ → Item → List ℕ
misfit_item target names scope k i = unless (item_fits scope (target_kind target names k) i) (item_begin scope i)

abbrev pub misfit_column : Schema → Option (List Name) → ℕ → ℕ → Column → List ℕ
misfit_column target names place k column = unless (fits (target_kind target names k) (Some column.kind)) place

-- the items of a query, each into the column at its place; a star has all columns
abbrev pub misfit_into : Schema → Option (List Name) → Scope → Selection → List ℕ
misfit_into target names scope (selection.All place) = each_at (misfit_column target names place) 0 scope.columns
misfit_into target names scope (selection.Listed items) = each_at (misfit_item target names scope) 0 items

abbrev pub misfit_in_source : Schema → Option (List Name) → List Schema → InsertSource → List ℕ
misfit_in_source target names sources (source.Values tuples) = each (misfit_in_tuple target names) tuples
misfit_in_source target names sources (source.Query q) =
    misfit_in_query (query_scope sources q) q ++ misfit_into target names (query_scope sources q) q.selection

abbrev pub misfit_in_set : TableName → Schema → Set → List ℕ
misfit_in_set table schema s =
    unless (expr_fits (target_scope table schema) (kind_in (column_named schema s.column)) s.value) ((part_of (target_scope table schema) s.value).place)
    ++ (part_of (target_scope table schema) s.value).misfits

abbrev pub misfit_in_update : Schema → Update → List ℕ
misfit_in_update schema u = each (misfit_in_set u.table schema) u.sets ++ if_there (misfit_in_predicate (target_scope u.table schema)) u.filter

abbrev pub misfit_in_dml : List Schema → Dml → List ℕ
misfit_in_dml schemas (dml.Insert i) = misfit_in_source (schema_at schemas 0) i.columns (drop 1 schemas) i.source
misfit_in_dml schemas (dml.Update u) = misfit_in_update (schema_at schemas 0) u
misfit_in_dml schemas (dml.Delete d) = if_there (misfit_in_predicate (target_scope d.table (schema_at schemas 0))) d.filter
misfit_in_dml schemas (dml.Copy c) = []

-- the places of all parts whose kinds do not fit
abbrev pub type_mismatches : List Schema → Statement → List ℕ
type_mismatches schemas (statement.Query q) = misfit_in_query (query_scope schemas q) q
type_mismatches schemas (statement.Explain q) = misfit_in_query (query_scope schemas q) q
type_mismatches schemas (statement.Dml d) = misfit_in_dml schemas d
type_mismatches schemas _ = []
