-- Statements without their places: each is 0.
use Rattle.std.specs.Prelude.{List, map, option_map}
use Rattle.tt_value.specs.declared.name.Name.{Name}
use Rattle.tt_value.specs.declared.name.Number.{Number}
use Rattle.tt_value.specs.declared.name.Quoted.{Quoted}
use Rattle.tt_value.specs.declared.name.Literal.{Literal}
use Rattle.tt_value.specs.declared.name.ColumnName.{ColumnName}
use Rattle.tt_value.specs.declared.name.TableName.{TableName}
use Rattle.tt_value.specs.declared.expression.Expr.{Expr, roll-Expr}
use Rattle.tt_value.specs.declared.expression.Term.{Term, roll-Term}
use Rattle.tt_value.specs.declared.expression.Addend.{Addend, roll-Addend}
use Rattle.tt_value.specs.declared.expression.Factor.{Factor, roll-Factor}
use Rattle.tt_value.specs.declared.expression.Factor.TheFolds.{fold-Expr, fold-Term, fold-Addend, fold-Factor}
use Rattle.tt_value.specs.declared.expression.Factor.TheOpen.{Factor-F}
use Rattle.tt_value.specs.declared.predicate.Operand.{Operand}
use Rattle.tt_value.specs.declared.predicate.Operand.TheVariants as operands
use Rattle.tt_value.specs.declared.predicate.Predicate.{Predicate, roll-Predicate}
use Rattle.tt_value.specs.declared.predicate.Conjunction.{Conjunction, roll-Conjunction}
use Rattle.tt_value.specs.declared.predicate.Unit.{Unit as Test, roll-Unit}
use Rattle.tt_value.specs.declared.predicate.Unit.TheFolds.{fold-Predicate, fold-Conjunction, fold-Unit}
use Rattle.tt_value.specs.declared.predicate.Unit.TheOpen.{Unit-F}
use Rattle.tt_sql.specs.declared.query.Clause.{Clause}
use Rattle.tt_sql.specs.declared.query.Item.{Item}
use Rattle.tt_sql.specs.declared.query.Item.TheVariants as items
use Rattle.tt_sql.specs.declared.query.Join.{Join}
use Rattle.tt_sql.specs.declared.query.Key.{Key}
use Rattle.tt_sql.specs.declared.query.KeyColumn.{KeyColumn}
use Rattle.tt_sql.specs.declared.query.KeyColumn.TheVariants as keys
use Rattle.tt_sql.specs.declared.query.Moment.{Moment}
use Rattle.tt_sql.specs.declared.query.Moment.TheVariants as moments
use Rattle.tt_sql.specs.declared.query.Pair.{Pair}
use Rattle.tt_sql.specs.declared.query.Query.{Query}
use Rattle.tt_sql.specs.declared.query.Selection.{Selection}
use Rattle.tt_sql.specs.declared.query.Selection.TheVariants as selections
use Rattle.tt_sql.specs.declared.query.Source.{Source}
use Rattle.tt_sql.specs.declared.change.Dml.{Dml}
use Rattle.tt_sql.specs.declared.change.Dml.TheVariants as dml
use Rattle.tt_sql.specs.declared.change.InsertSource.{InsertSource}
use Rattle.tt_sql.specs.declared.change.InsertSource.TheVariants as sources
use Rattle.tt_sql.specs.declared.change.Set.{Set}
use Rattle.tt_sql.specs.declared.change.Tuple.{Tuple}
use Rattle.tt_sql.specs.declared.table.Change.{Change}
use Rattle.tt_sql.specs.declared.table.Change.TheVariants as changes
use Rattle.tt_sql.specs.declared.table.ColumnDefinition.{ColumnDefinition}
use Rattle.tt_sql.specs.declared.table.TableOptions.{TableOptions}
use Rattle.tt_sql.specs.declared.statement.Statement.{Statement}
use Rattle.tt_sql.specs.declared.statement.Statement.TheVariants as statements

-- ---- names, numbers and literals

abbrev pub unplaced_name : Name → Name
unplaced_name n = record n { place = 0 }

abbrev pub unplaced_column : ColumnName → ColumnName
unplaced_column c = record { table = option_map unplaced_name c.table; name = unplaced_name c.name }

abbrev pub unplaced_table : TableName → TableName
unplaced_table t = record { schema = option_map unplaced_name t.schema; name = unplaced_name t.name }

abbrev pub unplaced_number : Number → Number
unplaced_number n = record n { place = 0 }

abbrev pub unplaced_quoted : Quoted → Quoted
unplaced_quoted q = record q { place = 0 }

abbrev pub unplaced_literal : Literal → Literal
unplaced_literal l = record l { place = 0 }

-- ---- expressions

-- one level of a tree, whose parts have no places any more
abbrev pub factor_unplaced : Factor-F Factor Addend Expr Term → Factor-F Factor Addend Expr Term
factor_unplaced (Factor-F.Literal l) = Factor-F.Literal (unplaced_literal l)
factor_unplaced (Factor-F.Column c) = Factor-F.Column (unplaced_column c)
factor_unplaced (Factor-F.Bracket place e) = Factor-F.Bracket 0 e
factor_unplaced (Factor-F.Negated place f) = Factor-F.Negated 0 f

abbrev pub factor_step : Factor-F Factor Addend Expr Term → Factor
factor_step y = roll-Factor (factor_unplaced y)

unfoldable pub unplaced_expr : Expr → Expr
unplaced_expr = fold-Expr Factor Addend Expr Term factor_step roll-Addend roll-Expr roll-Term

unfoldable pub unplaced_term : Term → Term
unplaced_term = fold-Term Factor Addend Expr Term factor_step roll-Addend roll-Expr roll-Term

unfoldable pub unplaced_addend : Addend → Addend
unplaced_addend = fold-Addend Factor Addend Expr Term factor_step roll-Addend roll-Expr roll-Term

unfoldable pub unplaced_factor : Factor → Factor
unplaced_factor = fold-Factor Factor Addend Expr Term factor_step roll-Addend roll-Expr roll-Term

-- ---- predicates

abbrev pub unplaced_operand : Operand → Operand
unplaced_operand (operands.Column c) = operands.Column (unplaced_column c)
unplaced_operand (operands.Literal l) = operands.Literal (unplaced_literal l)

abbrev pub unit_unplaced : Unit-F Test Conjunction Predicate → Unit-F Test Conjunction Predicate
unit_unplaced (Unit-F.Not u) = Unit-F.Not u
unit_unplaced (Unit-F.Bracket p) = Unit-F.Bracket p
unit_unplaced (Unit-F.Compare a c b) = Unit-F.Compare (unplaced_operand a) c (unplaced_operand b)
unit_unplaced (Unit-F.IsNull a negated) = Unit-F.IsNull (unplaced_operand a) negated
unit_unplaced (Unit-F.In a negated literals) = Unit-F.In (unplaced_operand a) negated (map unplaced_literal literals)
unit_unplaced (Unit-F.Between a negated least greatest) = Unit-F.Between (unplaced_operand a) negated (unplaced_literal least) (unplaced_literal greatest)
unit_unplaced (Unit-F.StartsWith c front) = Unit-F.StartsWith (unplaced_column c) (unplaced_quoted front)

abbrev pub unit_step : Unit-F Test Conjunction Predicate → Test
unit_step y = roll-Unit (unit_unplaced y)

unfoldable pub unplaced_predicate : Predicate → Predicate
unplaced_predicate = fold-Predicate Test Conjunction Predicate unit_step roll-Conjunction roll-Predicate

unfoldable pub unplaced_conjunction : Conjunction → Conjunction
unplaced_conjunction = fold-Conjunction Test Conjunction Predicate unit_step roll-Conjunction roll-Predicate

unfoldable pub unplaced_unit : Test → Test
unplaced_unit = fold-Unit Test Conjunction Predicate unit_step roll-Conjunction roll-Predicate

-- ---- queries

abbrev pub unplaced_item : Item → Item
unplaced_item (items.Expr e) = items.Expr (unplaced_expr e)
unplaced_item (items.CountAll place) = items.CountAll 0
unplaced_item (items.Count place c) = items.Count 0 (unplaced_column c)
unplaced_item (items.Sum place c) = items.Sum 0 (unplaced_column c)
unplaced_item (items.Min place c) = items.Min 0 (unplaced_column c)
unplaced_item (items.Max place c) = items.Max 0 (unplaced_column c)

abbrev pub unplaced_selection : Selection → Selection
unplaced_selection (selections.All place) = selections.All 0
unplaced_selection (selections.Listed xs) = selections.Listed (map unplaced_item xs)

abbrev pub unplaced_moment : Moment → Moment
unplaced_moment (moments.Timestamp n) = moments.Timestamp n
unplaced_moment (moments.Offset o) = moments.Offset (record o { factors = map unplaced_number o.factors })
unplaced_moment (moments.Statement q) = moments.Statement (unplaced_quoted q)

abbrev pub unplaced_clause : Clause → Clause
unplaced_clause c = record c { moment = unplaced_moment c.moment }

abbrev pub unplaced_source : Source → Source
unplaced_source s = record { table = unplaced_table s.table; clause = option_map unplaced_clause s.clause }

abbrev pub unplaced_pair : Pair → Pair
unplaced_pair p = record { left = unplaced_column p.left; right = unplaced_column p.right }

abbrev pub unplaced_join : Join → Join
unplaced_join j = record { source = unplaced_source j.source; pairs = map unplaced_pair j.pairs }

abbrev pub unplaced_key_column : KeyColumn → KeyColumn
unplaced_key_column (keys.Column c) = keys.Column (unplaced_column c)
unplaced_key_column (keys.Position n) = keys.Position (unplaced_number n)

abbrev pub unplaced_key : Key → Key
unplaced_key k = record k { by = unplaced_key_column k.by }

abbrev pub unplaced_query : Query → Query
unplaced_query q = record {
  place = 0;
  selection = unplaced_selection q.selection;
  first = unplaced_source q.first;
  joins = map unplaced_join q.joins;
  filter = option_map unplaced_predicate q.filter;
  group = map unplaced_column q.group;
  order = map unplaced_key q.order;
  limit = option_map unplaced_number q.limit;
}

-- ---- changes and tables

abbrev pub unplaced_tuple : Tuple → Tuple
unplaced_tuple t = record { place = 0; values = map unplaced_literal t.values }

abbrev pub unplaced_insert_source : InsertSource → InsertSource
unplaced_insert_source (sources.Values tuples) = sources.Values (map unplaced_tuple tuples)
unplaced_insert_source (sources.Query q) = sources.Query (unplaced_query q)

abbrev pub unplaced_names : List Name → List Name
unplaced_names names = map unplaced_name names

abbrev pub unplaced_set : Set → Set
unplaced_set s = record { column = unplaced_name s.column; value = unplaced_expr s.value }

abbrev pub unplaced_dml : Dml → Dml
unplaced_dml (dml.Insert i) = dml.Insert (record { table = unplaced_table i.table; columns = option_map unplaced_names i.columns; source = unplaced_insert_source i.source })
unplaced_dml (dml.Update u) = dml.Update (record { table = unplaced_table u.table; sets = map unplaced_set u.sets; filter = option_map unplaced_predicate u.filter })
unplaced_dml (dml.Delete d) = dml.Delete (record { table = unplaced_table d.table; filter = option_map unplaced_predicate d.filter })
unplaced_dml (dml.Copy c) = dml.Copy (record { table = unplaced_table c.table; file = unplaced_quoted c.file })

abbrev pub unplaced_definition : ColumnDefinition → ColumnDefinition
unplaced_definition d = record d { name = unplaced_name d.name }

abbrev pub unplaced_options : TableOptions → TableOptions
unplaced_options o = record { cluster_by = option_map unplaced_name o.cluster_by; retention = option_map unplaced_number o.retention }

abbrev pub unplaced_change : Change → Change
unplaced_change (changes.RenameTo t) = changes.RenameTo (unplaced_table t)
unplaced_change (changes.SwapWith t) = changes.SwapWith (unplaced_table t)
unplaced_change (changes.SetRetention n) = changes.SetRetention (unplaced_number n)
unplaced_change (changes.ClusterBy n) = changes.ClusterBy (unplaced_name n)
unplaced_change changes.DropClusteringKey = changes.DropClusteringKey
unplaced_change changes.SuspendRecluster = changes.SuspendRecluster
unplaced_change changes.ResumeRecluster = changes.ResumeRecluster

-- ---- statements

abbrev pub unplaced_statement : Statement → Statement
unplaced_statement (statements.Query q) = statements.Query (unplaced_query q)
unplaced_statement (statements.Dml d) = statements.Dml (unplaced_dml d)
unplaced_statement (statements.Create c) = statements.Create (record c { table = unplaced_table c.table; columns = map unplaced_definition c.columns; options = unplaced_options c.options })
unplaced_statement (statements.Clone c) = statements.Clone (record c { table = unplaced_table c.table; source = unplaced_source c.source })
unplaced_statement (statements.Drop t) = statements.Drop (unplaced_table t)
unplaced_statement (statements.Undrop t) = statements.Undrop (unplaced_table t)
unplaced_statement (statements.Truncate t) = statements.Truncate (unplaced_table t)
unplaced_statement (statements.Alter a) = statements.Alter (record { table = unplaced_table a.table; change = unplaced_change a.change })
unplaced_statement statements.Begin = statements.Begin
unplaced_statement statements.Commit = statements.Commit
unplaced_statement statements.Rollback = statements.Rollback
unplaced_statement (statements.Wait w) = statements.Wait (record w { amount = unplaced_number w.amount })
unplaced_statement (statements.Explain q) = statements.Explain (unplaced_query q)
unplaced_statement (statements.Show history) = statements.Show history
unplaced_statement statements.Metrics = statements.Metrics
unplaced_statement (statements.Depth t) = statements.Depth (unplaced_table t)
