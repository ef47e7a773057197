-- Queries that only ask how many rows there are.
use Rattle.std.specs.Prelude.{ℕ, Bool, true, false, not, ◌&&◌, ◌==◌, if◌then◌else◌, List, length, Option, Some, None}
use Rattle.std.specs.List.{list_all}
use Rattle.tt_sql.specs.declared.query.Item.{Item}
use Rattle.tt_sql.specs.declared.query.Item.TheVariants as item
use Rattle.tt_sql.specs.declared.query.Query.{Query}
use Rattle.tt_sql.specs.declared.query.Selection.{Selection}
use Rattle.tt_sql.specs.declared.query.Selection.TheVariants.{All, Listed}

-- the number of all rows
abbrev pub is_count : Item → Bool
is_count (item.CountAll place) = true
is_count (item.Expr e) = false
is_count (item.Count place c) = false
is_count (item.Sum place c) = false
is_count (item.Min place c) = false
is_count (item.Max place c) = false

-- how many items, where there are some and each of them is that
abbrev pub counts_of : List Item → Option ℕ
counts_of items = if not (length items == 0) && list_all is_count items then Some (length items) else None

abbrev pub count_items : Selection → Option ℕ
count_items (All place) = None
count_items (Listed items) = counts_of items

-- and there are no groups
abbrev pub counts_in : Query → Option ℕ
counts_in query = if length query.group == 0 then count_items query.selection else None
