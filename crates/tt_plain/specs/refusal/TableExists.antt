-- 3, TableExists: a name that the statement gives to a table is live.
use Rattle.std.specs.Prelude.{List, None, Option, Some, [], if◌then◌else◌, ℕ, ◌∷◌}
use Rattle.tt_value.specs.declared.name.TableName.{TableName}
use Rattle.tt_sql.specs.declared.table.Change.{Change}
use Rattle.tt_history.specs.declared.reply.Refusal.{Refusal}
use Rattle.tt_plain.specs.declared.store.PlainTable.{PlainTable}
use Rattle.tt_plain.specs.asked.Asked.{Asked, request_asked, table_asked}
use Rattle.tt_plain.specs.asked.Request.{Alters, Clones, Creates, Defines, Definition, Drops, Request, Truncates, Undrops}
use Rattle.tt_plain.specs.Places.{each, table_begin}
use Rattle.tt_plain.specs.refusal.{at_leftmost}
use Rattle.tt_sql.specs.declared.table.Change.TheVariants as change
use Rattle.tt_history.specs.declared.reply.Refusal.TheVariants as refusal

abbrev pub renamed_to : Change → List TableName
renamed_to (change.RenameTo name) = name ∷ []
renamed_to _ = []

-- A table that is replaced may be live.
abbrev pub names_in_definition : Definition → List TableName
names_in_definition (Creates c) = if c.replaces then [] else c.table ∷ []
names_in_definition (Clones c) = if c.replaces then [] else c.table ∷ []
names_in_definition (Undrops name) = name ∷ []
names_in_definition (Alters table change) = renamed_to change
names_in_definition (Drops name) = []
names_in_definition (Truncates name) = []

abbrev pub names_given : Request → List TableName
names_given (Defines d) = names_in_definition d
names_given _ = []

abbrev pub place_where_live : TableName → Option PlainTable → List ℕ
place_where_live name None = []
place_where_live name (Some table) = table_begin name ∷ []

abbrev pub live_names : Asked → List ℕ
live_names asked = each (λ name. place_where_live name (table_asked asked name)) (names_given (request_asked asked))

abbrev pub table_exists : Asked → Option Refusal
table_exists asked = at_leftmost refusal.TableExists (live_names asked)
