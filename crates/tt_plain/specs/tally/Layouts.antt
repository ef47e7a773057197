-- The layouts of tables: the parts of each version, and those that a session sees.
use Rattle.std.specs.List.{list_all}
use Rattle.std.specs.Prelude.{Bool, List, None, Option, Some, [], drop, find, nat_abs, nat_lt, option_map, slice_get, unwrap_or, zip, ℕ, ◌&&◌, ◌-◌, ◌==◌}
use Rattle.tt_sql.specs.declared.query.Clause.{Clause}
use Rattle.tt_sql.specs.declared.query.Source.{Source}
use Rattle.tt_layout.specs.Chain.{current_of, layout_at}
use Rattle.tt_layout.specs.Numbers.{changed}
use Rattle.tt_plain.specs.declared.store.PlainTable.{PlainTable}
use Rattle.tt_plain.specs.declared.tally.Tally.{Tally}
use Rattle.tt_plain.specs.declared.tally.TallyPending.{TallyPending}
use Rattle.tt_plain.specs.asked.Asked.{Asked, table_asked}
use Rattle.tt_plain.specs.opening.Point.{At, NoStatement, NotEnded, Point, point_of}

-- the layouts of the table of a number, in order
abbrev pub layouts_of : Tally → ℕ → List (ℕ × List ℕ)
layouts_of tally table = unwrap_or (slice_get tally.layouts (table - 1)) []

abbrev pub current_parts : Tally → ℕ → List ℕ
current_parts tally table = current_of (layouts_of tally table)

-- the parts of the last layout that has begun by a moment
abbrev pub parts_at : Tally → ℕ → ℕ → List ℕ
parts_at tally table moment = unwrap_or (layout_at (layouts_of tally table) moment) []

abbrev pub is_pending_of : ℕ → ℕ → TallyPending → Bool
is_pending_of session table pending = pending.session == session && pending.table == table

abbrev pub lists_of : Tally → ℕ → ℕ → Option TallyPending
lists_of tally session table = find (is_pending_of session table) tally.pending

abbrev pub changed_parts : List ℕ → Option TallyPending → List ℕ
changed_parts parts None = parts
changed_parts parts (Some pending) = changed parts pending.gone pending.added

-- what a session sees of a table now: the current layout, without what is gone for its transaction and with what that added
abbrev pub parts_seen : Tally → ℕ → ℕ → List ℕ
parts_seen tally session table = changed_parts (current_parts tally table) (lists_of tally session table)

-- ---- what a statement sees when it begins, as with rows

abbrev pub parts_at_point : Tally → ℕ → Point → List ℕ
parts_at_point tally table (At x) = parts_at tally table (nat_abs x)
parts_at_point tally table NoStatement = []
parts_at_point tally table NotEnded = []

abbrev pub parts_by_clause : Asked → ℕ → Option Clause → List ℕ
parts_by_clause asked table None = parts_seen asked.store.tally asked.session table
parts_by_clause asked table (Some clause) = parts_at_point asked.store.tally table (point_of asked clause)

-- a table that is read, by its number, with the parts that are seen of it
abbrev pub source_parts : Asked → Source → Option (ℕ × List ℕ)
source_parts asked s = option_map (λ (table : PlainTable). (table.number, parts_by_clause asked table.number s.clause)) (table_asked asked s.table)

-- Each list of part numbers that an entry has ascends.
abbrev pub is_ascending : List ℕ → Bool
is_ascending numbers = list_all (λ pair. nat_lt pair.0 pair.1) (zip numbers (drop 1 numbers))
