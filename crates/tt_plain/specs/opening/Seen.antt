-- The rows that a statement sees of a table when it begins.
use Rattle.std.specs.Prelude.{List, None, Option, Some, find, nat_abs, ℕ, ◌==◌}
use Rattle.tt_value.specs.declared.value.Row.{Row}
use Rattle.tt_value.specs.values.Bags.{bag_minus, bag_plus}
use Rattle.tt_sql.specs.declared.query.Clause.{Clause}
use Rattle.tt_sql.specs.declared.query.Source.{Source}
use Rattle.tt_plain.specs.declared.store.PlainPending.{PlainPending}
use Rattle.tt_plain.specs.declared.store.PlainSession.{PlainSession}
use Rattle.tt_plain.specs.declared.store.PlainTable.{PlainTable}
use Rattle.tt_plain.specs.Answers.{◌>>=◌}
use Rattle.tt_plain.specs.asked.Asked.{Asked, state_asked, table_asked}
use Rattle.tt_plain.specs.opening.Point.{At, NoStatement, NotEnded, Point, point_of}
use Rattle.tt_plain.specs.stored.Tables.{current_rows, rows_at}

abbrev pub pending_of : PlainSession → ℕ → Option PlainPending
pending_of state table = find (λ (pending : PlainPending). pending.table == table) state.pending

-- rows with what a transaction added, and without what is gone for it
abbrev pub rows_with : List Row → PlainPending → List Row
rows_with rows pending = bag_minus (bag_plus rows pending.added) pending.gone

abbrev pub changed_rows : List Row → Option PlainPending → List Row
changed_rows rows None = rows
changed_rows rows (Some pending) = rows_with rows pending

-- What a session sees of a table now: what is committed, and what is pending in its own transaction.
unfoldable pub visible_rows : PlainSession → PlainTable → List Row
visible_rows state table = changed_rows (current_rows table) (pending_of state table.number)

-- At the point of a clause only what was committed there is seen. A point that is not refused is no moment before 0.
abbrev pub rows_at_point : PlainTable → Point → Option (List Row)
rows_at_point table (At x) = Some (rows_at table (nat_abs x))
rows_at_point table NoStatement = None
rows_at_point table NotEnded = None

abbrev pub rows_by_clause : Asked → PlainTable → Option Clause → Option (List Row)
rows_by_clause asked table None = Some (visible_rows (state_asked asked) table)
rows_by_clause asked table (Some clause) = rows_at_point table (point_of asked clause)

-- a table that is read, by its number, with the rows that are seen of it
unfoldable pub rows_seen : Asked → Source → Option (ℕ × List Row)
rows_seen asked s = do
  table ← table_asked asked s.table
  rows ← rows_by_clause asked table s.clause
  Some (table.number, rows)
