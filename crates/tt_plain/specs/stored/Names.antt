-- Which table a name means.
use Rattle.std.specs.Prelude.{Option, bytes_eq, find, ℕ, ◌&&◌}
use Rattle.tt_value.specs.declared.name.TableName.{TableName}
use Rattle.tt_plain.specs.declared.store.Plain.{Plain}
use Rattle.tt_plain.specs.declared.store.PlainTable.{PlainTable}
use Rattle.tt_plain.specs.stored.Tables.{is_live}

-- For each session it is the live table of the name, for as long as no session has tables of its own.
unfoldable pub table_named : Plain → ℕ → TableName → Option PlainTable
table_named store session name = find (λ (table : PlainTable). is_live table && bytes_eq table.name name.name.text) store.tables
