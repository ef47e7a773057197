-- UnknownColumn: a name that is no column there, or a position that is no item.
use Rattle.std.specs.Prelude.{ℕ, Bool, ◌&&◌, nat_le, if◌then◌else◌, List, [], ◌∷◌, ◌++◌, length, drop, is_some}
use Rattle.std.specs.List.{list_any}
use Rattle.std.specs.Str.{bytes_eq}
use Rattle.tt_value.specs.declared.value.Schema.{Schema}
use Rattle.tt_value.specs.declared.name.Name.{Name}
use Rattle.tt_value.specs.declared.name.TableName.{TableName}
use Rattle.tt_value.specs.declared.name.ColumnName.{ColumnName}
use Rattle.tt_value.specs.declared.predicate.Operand.{Operand}
use Rattle.tt_value.specs.declared.predicate.Operand.TheVariants as operand
use Rattle.tt_value.specs.declared.predicate.Predicate.{Predicate}
use Rattle.tt_value.specs.declared.predicate.Conjunction.{Conjunction}
use Rattle.tt_value.specs.declared.predicate.Unit.{Unit}
use Rattle.tt_value.specs.declared.predicate.Unit.TheFolds.{fold-Predicate, fold-Conjunction, fold-Unit}
use Rattle.tt_value.specs.declared.predicate.Unit.TheOpen.{Predicate-F, Conjunction-F, Unit-F}
use Rattle.tt_value.specs.declared.expression.Expr.{Expr}
use Rattle.tt_value.specs.declared.expression.Term.{Term}
use Rattle.tt_value.specs.declared.expression.Factor.{Factor}
use Rattle.tt_value.specs.declared.expression.Factor.TheOpen.{Factor-F, Expr-F, Term-F}
use Rattle.tt_value.specs.trees.Scope.{Scope, column_in}
use Rattle.tt_sql.specs.declared.query.Query.{Query}
use Rattle.tt_sql.specs.declared.query.Selection.{Selection}
use Rattle.tt_sql.specs.declared.query.Selection.TheVariants as selection
use Rattle.tt_sql.specs.declared.query.Item.{Item}
use Rattle.tt_sql.specs.declared.query.Item.TheVariants as item
use Rattle.tt_sql.specs.declared.query.Key.{Key}
use Rattle.tt_sql.specs.declared.query.KeyColumn.{KeyColumn}
use Rattle.tt_sql.specs.declared.query.KeyColumn.TheVariants as key
use Rattle.tt_sql.specs.declared.change.Dml.{Dml}
use Rattle.tt_sql.specs.declared.change.Dml.TheVariants as dml
use Rattle.tt_sql.specs.declared.change.Insert.{Insert}
use Rattle.tt_sql.specs.declared.change.InsertSource.{InsertSource}
use Rattle.tt_sql.specs.declared.change.InsertSource.TheVariants as source
use Rattle.tt_sql.specs.declared.change.Set.{Set}
use Rattle.tt_sql.specs.declared.change.Update.{Update}
use Rattle.tt_sql.specs.declared.table.Change.{Change}
use Rattle.tt_sql.specs.declared.table.Change.TheVariants as change
use Rattle.tt_sql.specs.declared.table.ColumnDefinition.{ColumnDefinition}
use Rattle.tt_sql.specs.declared.table.CreatedTable.{CreatedTable}
use Rattle.tt_sql.specs.declared.statement.Statement.{Statement}
use Rattle.tt_sql.specs.declared.statement.Statement.TheVariants as statement
use Rattle.tt_plain.specs.Places.{each, if_there, where_none, column_begin}
use Rattle.tt_sql.specs.meaning.Queries.{is_item_of}
use Rattle.tt_sql.specs.meaning.Scopes.{query_scope, target_scope}
use Rattle.tt_plain.specs.Columns.{column_named}
use Rattle.tt_plain.specs.Expressions.{Step, fold_expr, fold_term, fold_factor}
use Rattle.tt_plain.specs.Tables.{schema_at}

-- ---- over the columns that the names of a query or of a filter may mean

module _ (scope : Scope) where
  abbrev pub unknown_name : ColumnName → List ℕ
  unknown_name c = where_none (column_begin c) (column_in scope c)

  abbrev pub factor_unknown : Step (List ℕ) Factor-F
  factor_unknown (Factor-F.Literal l) = []
  factor_unknown (Factor-F.Column c) = unknown_name c
  factor_unknown (Factor-F.Bracket place e) = e
  factor_unknown (Factor-F.Negated place f) = f

  abbrev pub term_unknown : Step (List ℕ) Term-F
  term_unknown t = t.first ++ each (λ x. x) t.others

  abbrev pub expr_unknown : Step (List ℕ) Expr-F
  expr_unknown e = e.first ++ each (λ x. x) e.others

  unfoldable pub unknown_in_factor : Factor → List ℕ
  unknown_in_factor = fold_factor (List ℕ) factor_unknown (λ a. a.term) expr_unknown term_unknown

  unfoldable pub unknown_in_term : Term → List ℕ
  unknown_in_term = fold_term (List ℕ) factor_unknown (λ a. a.term) expr_unknown term_unknown

  unfoldable pub unknown_in_expr : Expr → List ℕ
  unknown_in_expr = fold_expr (List ℕ) factor_unknown (λ a. a.term) expr_unknown term_unknown

  abbrev pub unknown_in_operand : Operand → List ℕ
  unknown_in_operand (operand.Column c) = unknown_name c
  unknown_in_operand (operand.Literal l) = []

  abbrev pub unit_unknown : Unit-F (List ℕ) (List ℕ) (List ℕ) → List ℕ
  unit_unknown (Unit-F.Not u) = u
  unit_unknown (Unit-F.Bracket p) = p
  unit_unknown (Unit-F.Compare a c b) = unknown_in_operand a ++ unknown_in_operand b
  unit_unknown (Unit-F.IsNull a negated) = unknown_in_operand a
  unit_unknown (Unit-F.In a negated literals) = unknown_in_operand a
  unit_unknown (Unit-F.Between a negated least greatest) = unknown_in_operand a
  unit_unknown (Unit-F.StartsWith c front) = unknown_name c

  abbrev pub conjunction_unknown : Conjunction-F (List ℕ) (List ℕ) (List ℕ) → List ℕ
  conjunction_unknown c = c.first ++ each (λ x. x) c.others

  abbrev pub predicate_unknown : Predicate-F (List ℕ) (List ℕ) (List ℕ) → List ℕ
  predicate_unknown p = p.first ++ each (λ x. x) p.others

  unfoldable pub unknown_in_unit : Unit → List ℕ
  unknown_in_unit = fold-Unit (List ℕ) (List ℕ) (List ℕ) unit_unknown conjunction_unknown predicate_unknown

  unfoldable pub unknown_in_conjunction : Conjunction → List ℕ
  unknown_in_conjunction = fold-Conjunction (List ℕ) (List ℕ) (List ℕ) unit_unknown conjunction_unknown predicate_unknown

  unfoldable pub unknown_in_predicate : Predicate → List ℕ
  unknown_in_predicate = fold-Predicate (List ℕ) (List ℕ) (List ℕ) unit_unknown conjunction_unknown predicate_unknown

  abbrev pub unknown_in_item : Item → List ℕ
  unknown_in_item (item.Expr e) = unknown_in_expr e
  unknown_in_item (item.CountAll place) = []
  unknown_in_item (item.Count place c) = unknown_name c
  unknown_in_item (item.Sum place c) = unknown_name c
  unknown_in_item (item.Min place c) = unknown_name c
  unknown_in_item (item.Max place c) = unknown_name c

  abbrev pub unknown_in_selection : Selection → List ℕ
  unknown_in_selection (selection.All place) = []
  unknown_in_selection (selection.Listed items) = each unknown_in_item items

  -- whether a column stands as an item; each column stands in a star
  abbrev pub stands_as_item : Selection → ColumnName → Bool
  stands_as_item (selection.All place) c = is_some (column_in scope c)
  stands_as_item (selection.Listed items) c = list_any (is_item_of scope c) items

  abbrev pub item_count : Selection → ℕ
  item_count (selection.All place) = length scope.columns
  item_count (selection.Listed items) = length items

  abbrev pub unknown_key : Selection → KeyColumn → List ℕ
  unknown_key s (key.Column c) = if stands_as_item s c then [] else column_begin c ∷ []
  unknown_key s (key.Position n) = if nat_le 1 n.value && nat_le n.value (item_count s) then [] else n.place ∷ []

  -- a column that stands as an item, or the position of an item from 1
  abbrev pub unknown_in_key : Selection → Key → List ℕ
  unknown_in_key s k = unknown_key s k.by

  unfoldable pub unknown_in_query : Query → List ℕ
  unknown_in_query q =
      unknown_in_selection q.selection ++ (if_there unknown_in_predicate q.filter
      ++ (each unknown_name q.group ++ each (unknown_in_key q.selection) q.order))

-- ---- over the columns of one table

abbrev pub unknown_among : Schema → Name → List ℕ
unknown_among schema name = where_none name.place (column_named schema name)

abbrev pub unknown_in_source : List Schema → InsertSource → List ℕ
unknown_in_source sources (source.Values tuples) = []
unknown_in_source sources (source.Query q) = unknown_in_query (query_scope sources q) q

-- into a table of the first schema, from tables of the others
abbrev pub unknown_in_insert : Schema → List Schema → Insert → List ℕ
unknown_in_insert target sources i = if_there (each (unknown_among target)) i.columns ++ unknown_in_source sources i.source

abbrev pub unknown_in_set : TableName → Schema → Set → List ℕ
unknown_in_set table schema s = unknown_among schema s.column ++ unknown_in_expr (target_scope table schema) s.value

abbrev pub unknown_in_update : Schema → Update → List ℕ
unknown_in_update schema u = each (unknown_in_set u.table schema) u.sets ++ if_there (unknown_in_predicate (target_scope u.table schema)) u.filter

abbrev pub unknown_in_dml : List Schema → Dml → List ℕ
unknown_in_dml schemas (dml.Insert i) = unknown_in_insert (schema_at schemas 0) (drop 1 schemas) i
unknown_in_dml schemas (dml.Update u) = unknown_in_update (schema_at schemas 0) u
unknown_in_dml schemas (dml.Delete d) = if_there (unknown_in_predicate (target_scope d.table (schema_at schemas 0))) d.filter
unknown_in_dml schemas (dml.Copy c) = []

abbrev pub is_defined : List ColumnDefinition → Name → Bool
is_defined columns name = list_any (λ (column : ColumnDefinition). bytes_eq column.name.text name.text) columns

-- the clustering key is one of the columns that are defined
abbrev pub unknown_in_create : CreatedTable → List ℕ
unknown_in_create c = if_there (λ name. if is_defined c.columns name then [] else name.place ∷ []) c.options.cluster_by

abbrev pub unknown_in_change : Schema → Change → List ℕ
unknown_in_change schema (change.ClusterBy name) = unknown_among schema name
unknown_in_change schema _ = []

-- the places of all names and positions that are no columns
abbrev pub unknown_columns : List Schema → Statement → List ℕ
unknown_columns schemas (statement.Query q) = unknown_in_query (query_scope schemas q) q
unknown_columns schemas (statement.Explain q) = unknown_in_query (query_scope schemas q) q
unknown_columns schemas (statement.Dml d) = unknown_in_dml schemas d
unknown_columns schemas (statement.Create c) = unknown_in_create c
unknown_columns schemas (statement.Alter a) = unknown_in_change (schema_at schemas 0) a.change
unknown_columns schemas _ = []
