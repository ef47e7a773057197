-- Queries that their marks determine: dates are days of the years 1 to 9999, and lists that have to stand there are
-- not empty. All that the grammar gives are among them, and those with further tables.
use Rattle.std.specs.Prelude.{◌≡◌, None, ⊤}
use Rattle.tt_value.specs.declared.name.ColumnName.{ColumnName}
use Rattle.tt_value.specs.declared.name.TableName.{TableName}
use Rattle.tt_sql.specs.declared.query.Clause.{Clause}
use Rattle.tt_sql.specs.declared.query.Item.{Item}
use Rattle.tt_sql.specs.declared.query.Item.TheVariants as item
use Rattle.tt_sql.specs.declared.query.Join.{Join}
use Rattle.tt_sql.specs.declared.query.Moment.{Moment}
use Rattle.tt_sql.specs.declared.query.Moment.TheVariants as moment
use Rattle.tt_sql.specs.declared.query.Query.{Query}
use Rattle.tt_sql.specs.declared.query.Selection.{Selection}
use Rattle.tt_sql.specs.declared.query.Selection.TheVariants as selection
use Rattle.tt_sql.specs.declared.query.Source.{Source}
use Rattle.tt_sql.specs.trees.Lists.{Each, IsListed, WhenThere}
use Rattle.tt_sql.specs.determined.Expressions.{IsGivenExpr, IsGivenPredicate}

-- names with no other in front, as the grammar gives them
abbrev pub IsAlone : ColumnName → Type 0
IsAlone c = c.table ≡ None

abbrev pub IsAloneTable : TableName → Type 0
IsAloneTable t = t.schema ≡ None

abbrev pub IsGivenItem : Item → Type 0
IsGivenItem (item.Expr e) = IsGivenExpr e
IsGivenItem (item.CountAll place) = ⊤
IsGivenItem (item.Count place c) = ⊤
IsGivenItem (item.Sum place c) = ⊤
IsGivenItem (item.Min place c) = ⊤
IsGivenItem (item.Max place c) = ⊤

abbrev pub IsGivenSelection : Selection → Type 0
IsGivenSelection (selection.All place) = ⊤
IsGivenSelection (selection.Listed items) = IsListed IsGivenItem items

abbrev pub IsGivenMoment : Moment → Type 0
IsGivenMoment (moment.Timestamp n) = ⊤
IsGivenMoment (moment.Offset o) = IsListed (λ n. ⊤) o.factors
IsGivenMoment (moment.Statement q) = ⊤

abbrev pub IsGivenClause : Clause → Type 0
IsGivenClause c = IsGivenMoment c.moment

abbrev pub IsGivenSource : Source → Type 0
IsGivenSource s = WhenThere IsGivenClause s.clause

abbrev pub IsGivenJoin : Join → Type 0
IsGivenJoin j = IsGivenSource j.source × IsListed (λ p. ⊤) j.pairs

pub record IsGivenQuery (q : Query) : Type 0 where
  pub selection : IsGivenSelection q.selection
  pub source : IsGivenSource q.first
  pub joins : Each IsGivenJoin q.joins
  pub filter : WhenThere IsGivenPredicate q.filter
