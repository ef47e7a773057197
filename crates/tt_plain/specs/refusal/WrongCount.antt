-- 5, WrongCount: another number of values than of columns, a column that stands twice, or more than 32 columns.
use Rattle.std.specs.Prelude.{Option}
use Rattle.tt_history.specs.declared.reply.Refusal.{Refusal}
use Rattle.tt_plain.specs.asked.Asked.{Asked, in_statement, schemas_asked}
use Rattle.tt_plain.specs.refusal.{at_leftmost}
use Rattle.tt_plain.specs.WrongCounts.{wrong_counts}
use Rattle.tt_history.specs.declared.reply.Refusal.TheVariants as refusal

abbrev pub wrong_count : Asked → Option Refusal
wrong_count asked = at_leftmost refusal.WrongCount (in_statement (λ s. wrong_counts (schemas_asked asked s) s) asked.read)
