-- 4, UnknownColumn: a name or a position is no column there, or the table of which the depth is asked has no key.
use Rattle.std.specs.Prelude.{List, None, Option, Some, [], ℕ, ◌++◌}
use Rattle.tt_value.specs.declared.name.TableName.{TableName}
use Rattle.tt_history.specs.declared.reply.Refusal.{Refusal}
use Rattle.tt_plain.specs.declared.store.PlainTable.{PlainTable}
use Rattle.tt_plain.specs.asked.Asked.{Asked, in_statement, request_asked, schemas_asked, table_asked}
use Rattle.tt_plain.specs.asked.Request.{Gauges, Request, Tells}
use Rattle.tt_plain.specs.Places.{table_begin, where_none}
use Rattle.tt_plain.specs.refusal.{at_leftmost}
use Rattle.tt_plain.specs.UnknownColumns.{unknown_columns}
use Rattle.tt_history.specs.declared.reply.Refusal.TheVariants as refusal

abbrev pub place_without_key : TableName → Option PlainTable → List ℕ
place_without_key name None = []
place_without_key name (Some table) = where_none (table_begin name) table.key

abbrev pub tables_without_key : Asked → Request → List ℕ
tables_without_key asked (Tells (Gauges name)) = place_without_key name (table_asked asked name)
tables_without_key asked _ = []

abbrev pub unknown_column_places : Asked → List ℕ
unknown_column_places asked =
    in_statement (λ s. unknown_columns (schemas_asked asked s) s) asked.read ++ tables_without_key asked (request_asked asked)

abbrev pub unknown_column : Asked → Option Refusal
unknown_column asked = at_leftmost refusal.UnknownColumn (unknown_column_places asked)
