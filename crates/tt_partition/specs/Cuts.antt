-- Rows cut into tables of so many rows each, in their order; the last has as many as are left.
use Rattle.std.specs.Prelude.{ℕ, ◌+◌, ◌-◌, ◌*◌, ◌/◌, List, length, map, take, drop}
use Rattle.std.specs.List.{range_with_len}
use Rattle.tt_value.specs.declared.value.Kind.{Kind}
use Rattle.tt_value.specs.declared.value.Column.{Column}
use Rattle.tt_value.specs.declared.value.Schema.{Schema}
use Rattle.tt_value.specs.declared.value.Row.{Row}
use Rattle.tt_partition.specs.Table.{Table}

abbrev pub column_kinds : List Column → List Kind
column_kinds columns = map (λ (column : Column). column.kind) columns

abbrev pub kinds_of : Schema → List Kind
kinds_of schema = column_kinds schema.columns

-- these rows as a table of the schema's columns
abbrev pub table_with : Schema → List Row → Table
table_with schema rows = record { kinds = kinds_of schema; rows = rows }

-- the table at a place: the `cap` rows from there on, or those that are left
abbrev pub cut_at : List Kind → ℕ → List Row → ℕ → Table
cut_at kinds cap rows k = record { kinds = kinds; rows = take cap (drop (k * cap) rows) }

-- how many tables there are
abbrev pub cut_count : ℕ → List Row → ℕ
cut_count cap rows = (length rows + (cap - 1)) / cap

abbrev pub cut : List Kind → ℕ → List Row → List Table
cut kinds cap rows = map (cut_at kinds cap rows) (range_with_len 0 (cut_count cap rows))
