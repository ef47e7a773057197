-- 14, NotYetMade: a point is below the making of its table.
use Rattle.std.specs.Prelude.{None, Option, Some, filter_map, if◌then◌else◌, int_lt, option_map, pos, ℕ, ℤ}
use Rattle.tt_history.specs.declared.reply.Refusal.{Refusal}
use Rattle.tt_plain.specs.declared.store.PlainTable.{PlainTable}
use Rattle.tt_plain.specs.asked.Asked.{Asked}
use Rattle.tt_plain.specs.opening.Point.{travels_asked}
use Rattle.tt_plain.specs.refusal.{head_of}
use Rattle.tt_history.specs.declared.reply.Refusal.TheVariants as refusal

abbrev pub made_later : PlainTable × ℤ → Option ℕ
made_later travel = if int_lt travel.1 (pos travel.0.made) then Some travel.0.made else None

abbrev pub not_yet_made : Asked → Option Refusal
not_yet_made asked = option_map refusal.NotYetMade (head_of (filter_map made_later (travels_asked asked)))
