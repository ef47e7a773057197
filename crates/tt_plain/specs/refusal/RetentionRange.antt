-- 8, RetentionRange: more days of retention than the table's kind may have.
use Rattle.std.specs.Prelude.{Bool, List, Option, Some, [], false, if◌then◌else◌, nat_le, true, ℕ, ◌∷◌}
use Rattle.tt_value.specs.declared.name.Number.{Number}
use Rattle.tt_sql.specs.declared.table.Change.{Change}
use Rattle.tt_sql.specs.declared.table.TableKind.{TableKind}
use Rattle.tt_history.specs.declared.reply.Refusal.{Refusal}
use Rattle.tt_plain.specs.declared.store.PlainTable.{PlainTable}
use Rattle.tt_plain.specs.asked.Asked.{Asked, request_asked, table_asked}
use Rattle.tt_plain.specs.asked.Request.{Alters, Creates, Defines, Request}
use Rattle.tt_plain.specs.Places.{if_there}
use Rattle.tt_plain.specs.refusal.{at_leftmost}
use Rattle.tt_sql.specs.declared.table.Change.TheVariants as change
use Rattle.tt_history.specs.declared.reply.Refusal.TheVariants as refusal
use Rattle.tt_sql.specs.declared.table.TableKind.TheVariants as tablekind

-- only a permanent table has Fail-safe, and more than a day of Time Travel
abbrev pub is_transient : TableKind → Bool
is_transient tablekind.Permanent = false
is_transient tablekind.Transient = true
is_transient tablekind.Temporary = true

abbrev pub most_days : (transient : Bool) → ℕ
most_days transient = if transient then 1 else 90

abbrev pub days_beyond : (transient : Bool) → Number → List ℕ
days_beyond transient days = if nat_le days.value (most_days transient) then [] else days.place ∷ []

abbrev pub altered_beyond : Option PlainTable → Change → List ℕ
altered_beyond (Some table) (change.SetRetention days) = days_beyond table.transient days
altered_beyond _ _ = []

abbrev pub days_out_of_range : Asked → Request → List ℕ
days_out_of_range asked (Defines (Creates c)) = if_there (days_beyond (is_transient c.kind)) c.options.retention
days_out_of_range asked (Defines (Alters name change)) = altered_beyond (table_asked asked name) change
days_out_of_range asked _ = []

abbrev pub retention_range : Asked → Option Refusal
retention_range asked = at_leftmost refusal.RetentionRange (days_out_of_range asked (request_asked asked))
