-- The kinds of what a query gives, and what stands where nothing in it is refused.
use Rattle.std.specs.Prelude.{◌≡◌, ⊤, ◌<◌, ◌≤◌, Bool, true, not, List, [], length, map, Option, Some, MatchOption}
use Rattle.std.specs.List.{All, list_all}
use Rattle.tt_value.specs.declared.value.Kind.{Kind}
use Rattle.tt_value.specs.declared.value.Kind.TheVariants as kinds
use Rattle.tt_value.specs.declared.value.Row.{Row}
use Rattle.tt_value.specs.declared.name.ColumnName.{ColumnName}
use Rattle.tt_value.specs.trees.Scope.{Scope, column_kind, column_value, kind_of}
use Rattle.tt_value.specs.trees.Expressions.{value_of}
use Rattle.tt_sql.specs.declared.query.Query.{Query}
use Rattle.tt_sql.specs.declared.query.Selection.{Selection}
use Rattle.tt_sql.specs.declared.query.Selection.TheVariants as selection
use Rattle.tt_sql.specs.declared.query.Item.{Item}
use Rattle.tt_sql.specs.declared.query.Item.TheVariants as item
use Rattle.tt_sql.specs.declared.query.Key.{Key}
use Rattle.tt_sql.specs.declared.query.KeyColumn.{KeyColumn}
use Rattle.tt_sql.specs.declared.query.KeyColumn.TheVariants as key
use Rattle.tt_sql.specs.meaning.Queries.{is_aggregate, column_values, key_place}
use Rattle.tt_plain.specs.Expressions.{part_of}
use Rattle.tt_plain.specs.UnknownColumns.{unknown_in_query}
use Rattle.tt_plain.specs.TypeMismatches.{misfit_in_query}
use Rattle.tt_plain.specs.ValueKinds.{column_kinds}
use Rattle.tt_plain.specs.StrictMeaning.{value_there, strict_value_of}

abbrev pub item_kind : Scope → Item → Option Kind
item_kind scope (item.Expr e) = (part_of scope e).kind
item_kind scope (item.CountAll place) = Some kinds.Int
item_kind scope (item.Count place c) = Some kinds.Int
item_kind scope (item.Sum place c) = Some kinds.Int
item_kind scope (item.Min place c) = column_kind scope c
item_kind scope (item.Max place c) = column_kind scope c

-- those of the items, or of all columns
abbrev pub answer_kinds : Scope → Selection → List (Option Kind)
answer_kinds scope (selection.All place) = column_kinds scope.columns
answer_kinds scope (selection.Listed items) = map (item_kind scope) items

pub record IsQueryTyped (scope : Scope) (q : Query) : Type 0 where
  pub columns : unknown_in_query scope q ≡ []
  pub kinds : misfit_in_query scope q ≡ []

-- A name has a value in each row, and those that are not NULL are of this kind.
pub record HasValues (scope : Scope) (rows : List Row) (kind : Option Kind) (c : ColumnName) : Type 0 where
  pub there : All (λ row. value_there scope row c ≡ Some (column_value scope row c)) rows
  pub of_kind : All (λ v. kind_of v ≡ kind) (column_values scope c rows)

-- An item over rows meets no case that kinds exclude: each name is a column, SUM adds numbers, and MIN and MAX compare values of one kind.
abbrev pub KeepsToKinds : Scope → List Row → Item → Type 0
KeepsToKinds scope rows (item.Expr e) = All (λ row. strict_value_of scope row e ≡ Some (value_of scope row e)) rows
KeepsToKinds scope rows (item.CountAll place) = ⊤
KeepsToKinds scope rows (item.Count place c) = HasValues scope rows (column_kind scope c) c
KeepsToKinds scope rows (item.Sum place c) = HasValues scope rows (Some kinds.Int) c
KeepsToKinds scope rows (item.Min place c) = HasValues scope rows (column_kind scope c) c
KeepsToKinds scope rows (item.Max place c) = HasValues scope rows (column_kind scope c) c

-- positions are counted from 1
abbrev pub IsCounted : KeyColumn → Type 0
IsCounted (key.Position n) = 1 ≤ n.value
IsCounted (key.Column c) = ⊤

-- A key of the order is one of the values of a row of the answer.
pub record HasPlace (scope : Scope) (s : Selection) (k : Key) : Type 0 where
  pub counted : IsCounted k.by
  pub place : MatchOption (key_place scope s k.by) ⊥ (λ place. place < length (answer_kinds scope s))

-- a star, or an item that is no aggregate, is read on the first row of a group
abbrev pub reads_first_row : Selection → Bool
reads_first_row (selection.All place) = true
reads_first_row (selection.Listed items) = not (list_all is_aggregate items)
