-- Refusals 4 to 7 of a statement, together.
use Rattle.std.specs.Prelude.{List, Option, Some, filter_map, option_map, ◌≡◌}
use Rattle.tt_value.specs.declared.name.TableName.{TableName}
use Rattle.tt_value.specs.declared.value.Schema.{Schema}
use Rattle.tt_sql.specs.declared.statement.Statement.{Statement}
use Rattle.tt_history.specs.declared.reply.Refusal.{Refusal}
use Rattle.tt_plain.specs.declared.store.PlainTable.{PlainTable}
use Rattle.tt_plain.specs.asked.Asked.{Asked, schemas_asked, table_asked}
use Rattle.tt_plain.specs.refusal.{at_leftmost}
use Rattle.tt_plain.specs.refusal.UnknownColumn.{place_without_key}
use Rattle.tt_plain.specs.TypingRefusal.{typing_refusal}
use Rattle.tt_history.specs.declared.reply.Refusal.TheVariants as refusal
use Rattle.tt_sql.specs.declared.statement.Statement.TheVariants as statement

-- a table that a name means
pub record IsFound (asked : Asked) (name : TableName) : Type 0 where
  pub table : PlainTable
  pub so : table_asked asked name ≡ Some table

abbrev pub schemas_named : Asked → List TableName → List Schema
schemas_named asked names = filter_map (λ name. option_map (λ (table : PlainTable). table.schema) (table_asked asked name)) names

abbrev pub without_key : Asked → TableName → Option Refusal
without_key asked name = at_leftmost refusal.UnknownColumn (place_without_key name (table_asked asked name))

-- a depth is asked of a table with a key, and no other statement of what the typer does not know
abbrev pub typed_by : Asked → Statement → Option Refusal
typed_by asked (statement.Depth name) = without_key asked name
typed_by asked s = typing_refusal (schemas_asked asked s) s
