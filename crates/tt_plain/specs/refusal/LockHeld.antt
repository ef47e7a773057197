-- 17, LockHeld: another session's mark stands in the way.
use Rattle.std.specs.Prelude.{Bool, List, Option, [], if◌then◌else◌, option_map, ℕ}
use Rattle.tt_value.specs.declared.name.TableName.{TableName}
use Rattle.tt_sql.specs.declared.change.Dml.{Dml}
use Rattle.tt_history.specs.declared.reply.Refusal.{Refusal}
use Rattle.tt_plain.specs.declared.store.PlainSession.{PlainSession}
use Rattle.tt_plain.specs.declared.store.PlainTable.{PlainTable}
use Rattle.tt_plain.specs.asked.Asked.{Asked, request_asked, table_asked}
use Rattle.tt_plain.specs.asked.Request.{Alters, Clones, Creates, Defines, Definition, Drops, Request, Truncates, Undrops, Writes}
use Rattle.tt_plain.specs.Places.{if_there}
use Rattle.tt_plain.specs.refusal.{head_of}
use Rattle.tt_plain.specs.stored.Sessions.{has_exclusive_mark, has_mark, others_with}
use Rattle.tt_sql.specs.declared.change.Dml.TheVariants as dml
use Rattle.tt_history.specs.declared.reply.Refusal.TheVariants as refusal

-- the other sessions of which a test on the number of the table that a name means holds
abbrev pub others_on : (ℕ → PlainSession → Bool) → Asked → TableName → List ℕ
others_on test asked name =
    if_there (λ (table : PlainTable). others_with (test table.number) asked.store asked.session) (table_asked asked name)

-- the sessions with an exclusive mark on the table of a name, which an exclusive mark cannot stand beside
abbrev pub exclusive_holders : Asked → TableName → List ℕ
exclusive_holders asked name = others_on has_exclusive_mark asked name

-- the sessions with any mark on it, under which it cannot go
abbrev pub holders : Asked → TableName → List ℕ
holders asked name = others_on has_mark asked name

abbrev pub change_holders : Asked → Dml → List ℕ
change_holders asked (dml.Insert i) = []
change_holders asked (dml.Update u) = exclusive_holders asked u.table
change_holders asked (dml.Delete d) = exclusive_holders asked d.table
change_holders asked (dml.Copy c) = []

abbrev pub definition_holders : Asked → Definition → List ℕ
definition_holders asked (Creates c) = if c.replaces then holders asked c.table else []
definition_holders asked (Clones c) = if c.replaces then holders asked c.table else []
definition_holders asked (Drops name) = holders asked name
definition_holders asked (Undrops name) = []
definition_holders asked (Truncates name) = holders asked name
definition_holders asked (Alters name change) = []

abbrev pub holders_asked : Asked → Request → List ℕ
holders_asked asked (Writes d) = change_holders asked d
holders_asked asked (Defines d) = definition_holders asked d
holders_asked asked _ = []

-- the first such session in the order of the script
abbrev pub lock_held : Asked → Option Refusal
lock_held asked = option_map refusal.LockHeld (head_of (holders_asked asked (request_asked asked)))
