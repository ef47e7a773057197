-- 16, NothingToUndrop: no dropped table of the name is in Time Travel.
use Rattle.std.specs.List.{reduce}
use Rattle.std.specs.Prelude.{Bool, None, Option, Some, bytes_eq, false, filter, if◌then◌else◌, int_lt, is_none, nat_lt, pos, unwrap_or, ℕ, ◌&&◌}
use Rattle.tt_value.specs.declared.name.TableName.{TableName}
use Rattle.tt_retain.specs.Horizon.{horizon_of}
use Rattle.tt_retain.specs.Retention.{Retention}
use Rattle.tt_history.specs.declared.reply.Refusal.{Refusal}
use Rattle.tt_plain.specs.declared.store.PlainTable.{PlainTable}
use Rattle.tt_plain.specs.asked.Asked.{Asked, request_asked}
use Rattle.tt_plain.specs.asked.Request.{Defines, Request, Undrops}
use Rattle.tt_plain.specs.refusal.{where_true}
use Rattle.tt_history.specs.declared.reply.Refusal.TheVariants as refusal

abbrev pub is_within : Retention → ℕ → Option ℕ → Bool
is_within regimes moment None = false
is_within regimes moment (Some dropped) = int_lt (horizon_of regimes (pos moment)) (pos dropped)

-- a table that is dropped, and not beyond the horizon
abbrev pub is_in_time_travel : ℕ → PlainTable → Bool
is_in_time_travel moment table = is_within table.regimes moment table.dropped

abbrev pub is_undroppable : Asked → TableName → PlainTable → Bool
is_undroppable asked name table = bytes_eq table.name name.name.text && is_in_time_travel asked.moment table

abbrev pub drop_moment : PlainTable → ℕ
drop_moment table = unwrap_or table.dropped 0

abbrev pub later_dropped : PlainTable → PlainTable → PlainTable
later_dropped a b = if nat_lt (drop_moment a) (drop_moment b) then b else a

-- the one that was dropped last
abbrev pub table_to_undrop : Asked → TableName → Option PlainTable
table_to_undrop asked name = reduce later_dropped (filter (is_undroppable asked name) asked.store.tables)

abbrev pub lacks_table : Asked → Request → Bool
lacks_table asked (Defines (Undrops name)) = is_none (table_to_undrop asked name)
lacks_table asked _ = false

abbrev pub nothing_to_undrop : Asked → Option Refusal
nothing_to_undrop asked = where_true (lacks_table asked (request_asked asked)) refusal.NothingToUndrop
