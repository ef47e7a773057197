-- 13, StatementOpen: the statement in a clause has an entry, and no point yet.
use Rattle.std.specs.List.{list_any}
use Rattle.std.specs.Prelude.{Bool, Option, false, true}
use Rattle.tt_history.specs.declared.reply.Refusal.{Refusal}
use Rattle.tt_plain.specs.asked.Asked.{Asked}
use Rattle.tt_plain.specs.opening.Point.{At, NoStatement, NotEnded, Point, points_asked}
use Rattle.tt_plain.specs.refusal.{where_true}
use Rattle.tt_history.specs.declared.reply.Refusal.TheVariants as refusal

abbrev pub is_not_ended : Point → Bool
is_not_ended (At x) = false
is_not_ended NoStatement = false
is_not_ended NotEnded = true

abbrev pub statement_open : Asked → Option Refusal
statement_open asked = where_true (list_any is_not_ended (points_asked asked)) refusal.StatementOpen
