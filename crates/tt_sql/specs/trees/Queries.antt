-- The queries that stand in a statement, with at most so many levels.
use Rattle.std.specs.Prelude.{◌≡◌, ℕ, ◌<◌, ◌≤◌, ◌^◌, [], length, ⊤}
use Rattle.tt_value.specs.declared.name.Number.{Number}
use Rattle.tt_sql.specs.declared.query.Clause.{Clause}
use Rattle.tt_sql.specs.declared.query.Item.{Item}
use Rattle.tt_sql.specs.declared.query.Item.TheVariants as item
use Rattle.tt_sql.specs.declared.query.Key.{Key}
use Rattle.tt_sql.specs.declared.query.KeyColumn.{KeyColumn}
use Rattle.tt_sql.specs.declared.query.KeyColumn.TheVariants as key
use Rattle.tt_sql.specs.declared.query.Moment.{Moment}
use Rattle.tt_sql.specs.declared.query.Moment.TheVariants as moment
use Rattle.tt_sql.specs.declared.query.Query.{Query}
use Rattle.tt_sql.specs.declared.query.Selection.{Selection}
use Rattle.tt_sql.specs.declared.query.Selection.TheVariants as selection
use Rattle.tt_sql.specs.declared.query.Source.{Source}
use Rattle.tt_sql.specs.trees.Lists.{Each, IsListed, WhenThere}
use Rattle.tt_sql.specs.trees.Leaves.{IsMoment}
use Rattle.tt_sql.specs.trees.Expressions.{IsWrittenColumn, IsWrittenTable, IsWrittenNumber, IsWrittenQuoted, IsWrittenExpr, IsWrittenPredicate}

abbrev pub IsWrittenItem : ℕ → Item → Type 0
IsWrittenItem levels (item.Expr e) = IsWrittenExpr levels e
IsWrittenItem levels (item.CountAll place) = ⊤
IsWrittenItem levels (item.Count place c) = IsWrittenColumn c
IsWrittenItem levels (item.Sum place c) = IsWrittenColumn c
IsWrittenItem levels (item.Min place c) = IsWrittenColumn c
IsWrittenItem levels (item.Max place c) = IsWrittenColumn c

abbrev pub IsWrittenSelection : ℕ → Selection → Type 0
IsWrittenSelection levels (selection.All place) = ⊤
IsWrittenSelection levels (selection.Listed items) = IsListed (IsWrittenItem levels) items

-- of at most nine digits
abbrev pub IsShortNumber : Number → Type 0
IsShortNumber n = n.value < 10 ^ 9

abbrev pub IsWrittenMoment : Moment → Type 0
IsWrittenMoment (moment.Timestamp n) = IsMoment n
IsWrittenMoment (moment.Offset o) = IsListed IsShortNumber o.factors × (length o.factors ≤ 3)
IsWrittenMoment (moment.Statement q) = IsWrittenQuoted q

abbrev pub IsWrittenClause : Clause → Type 0
IsWrittenClause c = IsWrittenMoment c.moment

abbrev pub IsWrittenSource : Source → Type 0
IsWrittenSource s = IsWrittenTable s.table × WhenThere IsWrittenClause s.clause

abbrev pub IsWrittenKeyColumn : KeyColumn → Type 0
IsWrittenKeyColumn (key.Column c) = IsWrittenColumn c
IsWrittenKeyColumn (key.Position n) = IsWrittenNumber n

abbrev pub IsWrittenKey : Key → Type 0
IsWrittenKey k = IsWrittenKeyColumn k.by

-- one table, and no further tables yet
pub record IsWrittenQuery (levels : ℕ) (q : Query) : Type 0 where
  pub selection : IsWrittenSelection levels q.selection
  pub table : IsWrittenSource q.first
  pub joins : q.joins ≡ []
  pub filter : WhenThere (IsWrittenPredicate levels) q.filter
  pub group : Each IsWrittenColumn q.group
  pub order : Each IsWrittenKey q.order
  pub limit : WhenThere IsWrittenNumber q.limit
