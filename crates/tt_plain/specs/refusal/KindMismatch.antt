-- 9, KindMismatch: a permanent clone of a transient table.
use Rattle.std.specs.Prelude.{List, None, Option, Some, [], if◌then◌else◌, ℕ, ◌∷◌}
use Rattle.tt_value.specs.declared.name.TableName.{TableName}
use Rattle.tt_history.specs.declared.reply.Refusal.{Refusal}
use Rattle.tt_plain.specs.declared.store.PlainTable.{PlainTable}
use Rattle.tt_plain.specs.asked.Asked.{Asked, request_asked, table_asked}
use Rattle.tt_plain.specs.asked.Request.{Clones, Defines, Request}
use Rattle.tt_plain.specs.Places.{table_begin}
use Rattle.tt_plain.specs.refusal.{at_leftmost}
use Rattle.tt_plain.specs.refusal.RetentionRange.{is_transient}
use Rattle.tt_history.specs.declared.reply.Refusal.TheVariants as refusal

abbrev pub transient_source : TableName → Option PlainTable → List ℕ
transient_source name None = []
transient_source name (Some table) = if table.transient then table_begin name ∷ [] else []

abbrev pub misfit_sources : Asked → Request → List ℕ
misfit_sources asked (Defines (Clones c)) = if is_transient c.kind then [] else transient_source c.source.table (table_asked asked c.source.table)
misfit_sources asked _ = []

abbrev pub kind_mismatch : Asked → Option Refusal
kind_mismatch asked = at_leftmost refusal.KindMismatch (misfit_sources asked (request_asked asked))
