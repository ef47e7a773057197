-- What a statement holds of its tables.
use Rattle.std.specs.Prelude.{ℕ, List, map}
use Rattle.std.specs.List.{flat_map}
use Rattle.tt_value.specs.declared.value.Row.{Row}
use Rattle.tt_value.specs.declared.value.Schema.{Schema}
use Rattle.tt_partition.specs.Table.{Table}
use Rattle.tt_state.specs.declared.ticket.Seen.{Seen}

-- the rows of the parts that are held of a table, in order
abbrev pub rows_held : Seen → List Row
rows_held held = flat_map (λ (part : ℕ × Table). part.1.rows) held.parts

-- the schemas of the tables that are held
abbrev pub schemas_held : List Seen → List Schema
schemas_held tables = map (λ (held : Seen). held.schema) tables
