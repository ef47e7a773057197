-- 15, OutsideRetention: a point is below the horizon of its table.
use Rattle.std.specs.Prelude.{None, Option, Some, filter_map, if◌then◌else◌, int_lt, option_map, pos, ℕ, ℤ}
use Rattle.tt_retain.specs.Horizon.{horizon_of}
use Rattle.tt_history.specs.declared.reply.Refusal.{Refusal}
use Rattle.tt_plain.specs.declared.store.PlainTable.{PlainTable}
use Rattle.tt_plain.specs.asked.Asked.{Asked}
use Rattle.tt_plain.specs.opening.Point.{travels_asked}
use Rattle.tt_plain.specs.refusal.{head_of}
use Rattle.tt_history.specs.declared.reply.Refusal.TheVariants as refusal

abbrev pub horizon_beyond : ℕ → PlainTable × ℤ → Option ℤ
horizon_beyond moment travel =
    let horizon = horizon_of travel.0.regimes (pos moment) in
    if int_lt travel.1 horizon then Some horizon else None

abbrev pub outside_retention : Asked → Option Refusal
outside_retention asked = option_map refusal.OutsideRetention (head_of (filter_map (horizon_beyond asked.moment) (travels_asked asked)))
