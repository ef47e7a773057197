-- The tables of the store: the one of a number, which are live, and their rows now and at a moment.
use Rattle.std.specs.List.{last_or}
use Rattle.std.specs.Prelude.{Bool, List, None, Option, Some, [], filter, is_none, nat_le, slice_get, ℕ, ◌-◌}
use Rattle.tt_value.specs.declared.value.Row.{Row}
use Rattle.tt_plain.specs.declared.store.Plain.{Plain}
use Rattle.tt_plain.specs.declared.store.PlainTable.{PlainTable}
use Rattle.tt_plain.specs.declared.store.Version.{Version}

-- tables are numbered from 1
abbrev pub table_numbered : Plain → ℕ → Option PlainTable
table_numbered store number = slice_get store.tables (number - 1)

abbrev pub is_live : PlainTable → Bool
is_live table = is_none table.dropped

abbrev pub rows_of : Option Version → List Row
rows_of None = []
rows_of (Some version) = version.rows

-- the rows of the last version
abbrev pub current_rows : PlainTable → List Row
current_rows table = rows_of (last_or None table.versions)

abbrev pub is_begun_at : ℕ → Version → Bool
is_begun_at moment version = nat_le version.begun moment

-- The rows at a moment: those of the last version that has begun by then. That a table is dropped does not matter.
unfoldable pub rows_at : PlainTable → ℕ → List Row
rows_at table moment = rows_of (last_or None (filter (is_begun_at moment) table.versions))
