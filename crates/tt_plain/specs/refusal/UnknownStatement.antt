-- 12, UnknownStatement: the text in a clause is no query id of a statement with an entry.
use Rattle.std.specs.List.{list_any}
use Rattle.std.specs.Prelude.{Bool, Option, false, true}
use Rattle.tt_history.specs.declared.reply.Refusal.{Refusal}
use Rattle.tt_plain.specs.asked.Asked.{Asked}
use Rattle.tt_plain.specs.opening.Point.{At, NoStatement, NotEnded, Point, points_asked}
use Rattle.tt_plain.specs.refusal.{where_true}
use Rattle.tt_history.specs.declared.reply.Refusal.TheVariants as refusal

abbrev pub is_no_statement : Point → Bool
is_no_statement (At x) = false
is_no_statement NoStatement = true
is_no_statement NotEnded = false

abbrev pub unknown_statement : Asked → Option Refusal
unknown_statement asked = where_true (list_any is_no_statement (points_asked asked)) refusal.UnknownStatement
