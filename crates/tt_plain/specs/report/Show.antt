-- SHOW TABLES: a row for each live table by number, and with HISTORY for each dropped one in Time Travel too.
use Rattle.std.specs.Prelude.{Bool, List, None, Option, Some, [], codes, filter, if◌then◌else◌, length, map, option_and_then, slice_get, ℕ, ◌&&◌, ◌||◌, ◌∷◌}
use Rattle.tt_value.specs.declared.value.Column.{Column}
use Rattle.tt_value.specs.declared.value.Row.{Row}
use Rattle.tt_value.specs.declared.value.Value.{Value}
use Rattle.tt_retain.specs.Retention.{days_of}
use Rattle.tt_plain.specs.declared.store.PlainTable.{PlainTable}
use Rattle.tt_plain.specs.asked.Asked.{Asked}
use Rattle.tt_plain.specs.refusal.NothingToUndrop.{is_in_time_travel}
use Rattle.tt_plain.specs.report.Values.{number_value, row_of}
use Rattle.tt_plain.specs.stored.Tables.{current_rows, is_live}
use Rattle.tt_value.specs.declared.value.Value.TheVariants as value

abbrev pub kind_name : (transient : Bool) → List ℕ
kind_name transient = if transient then codes "TRANSIENT" else codes "PERMANENT"

abbrev pub column_name : Option Column → Value
column_name None = value.Null
column_name (Some column) = value.Text column.name

-- the name of the clustering key, or NULL
abbrev pub key_name : PlainTable → Value
key_name table = column_name (option_and_then (slice_get table.schema.columns) table.key)

abbrev pub moment_or_null : Option ℕ → Value
moment_or_null None = value.Null
moment_or_null (Some moment) = number_value moment

-- number, name, kind, days of retention, key, rows of the last version, and the moment of the drop
abbrev pub show_row : PlainTable → Row
show_row table = row_of (
    number_value table.number ∷ value.Text table.name ∷ value.Text (kind_name table.transient) ∷ number_value (days_of table.regimes)
    ∷ key_name table ∷ number_value (length (current_rows table)) ∷ moment_or_null table.dropped ∷ [])

abbrev pub is_shown : ℕ → (history : Bool) → PlainTable → Bool
is_shown moment history table = is_live table || (history && is_in_time_travel moment table)

abbrev pub show_rows : Asked → (history : Bool) → List Row
show_rows asked history = map show_row (filter (is_shown asked.moment history) asked.store.tables)
