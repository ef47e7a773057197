-- 11, InFuture: a point is above the moment.
use Rattle.std.specs.List.{list_any}
use Rattle.std.specs.Prelude.{Bool, Option, false, int_lt, pos, ℕ}
use Rattle.tt_history.specs.declared.reply.Refusal.{Refusal}
use Rattle.tt_plain.specs.asked.Asked.{Asked}
use Rattle.tt_plain.specs.opening.Point.{At, NoStatement, NotEnded, Point, points_asked}
use Rattle.tt_plain.specs.refusal.{where_true}
use Rattle.tt_history.specs.declared.reply.Refusal.TheVariants as refusal

abbrev pub is_above_moment : ℕ → Point → Bool
is_above_moment moment (At x) = int_lt (pos moment) x
is_above_moment moment NoStatement = false
is_above_moment moment NotEnded = false

abbrev pub in_future : Asked → Option Refusal
in_future asked = where_true (list_any (is_above_moment asked.moment) (points_asked asked)) refusal.InFuture
