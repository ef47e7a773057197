-- Of several refusals the one with the least number is given.
use Rattle.std.specs.Prelude.{List, Option, [], ◌∷◌}
use Rattle.tt_history.specs.declared.reply.Refusal.{Refusal}
use Rattle.tt_plain.specs.asked.Asked.{Asked}
use Rattle.tt_plain.specs.refusal.{first_some}
use Rattle.tt_plain.specs.refusal.ClockEnd.{clock_end}
use Rattle.tt_plain.specs.refusal.InFuture.{in_future}
use Rattle.tt_plain.specs.refusal.InTransaction.{in_transaction}
use Rattle.tt_plain.specs.refusal.KindMismatch.{kind_mismatch}
use Rattle.tt_plain.specs.refusal.LockHeld.{lock_held}
use Rattle.tt_plain.specs.refusal.NotYetMade.{not_yet_made}
use Rattle.tt_plain.specs.refusal.NothingToUndrop.{nothing_to_undrop}
use Rattle.tt_plain.specs.refusal.NullInNotNull.{null_in_not_null}
use Rattle.tt_plain.specs.refusal.OutsideRetention.{outside_retention}
use Rattle.tt_plain.specs.refusal.RetentionRange.{retention_range}
use Rattle.tt_plain.specs.refusal.StatementOpen.{statement_open}
use Rattle.tt_plain.specs.refusal.Syntax.{syntax}
use Rattle.tt_plain.specs.refusal.TableExists.{table_exists}
use Rattle.tt_plain.specs.refusal.TypeMismatch.{type_mismatch}
use Rattle.tt_plain.specs.refusal.UnknownColumn.{unknown_column}
use Rattle.tt_plain.specs.refusal.UnknownFile.{unknown_file}
use Rattle.tt_plain.specs.refusal.UnknownStatement.{unknown_statement}
use Rattle.tt_plain.specs.refusal.UnknownTable.{unknown_table}
use Rattle.tt_plain.specs.refusal.WrongCount.{wrong_count}

-- each refusal, in the order of the numbers
abbrev pub refusals : Asked → List (Option Refusal)
refusals asked =
    syntax asked ∷ unknown_table asked ∷ table_exists asked ∷ unknown_column asked ∷ wrong_count asked ∷ type_mismatch asked
    ∷ null_in_not_null asked ∷ retention_range asked ∷ kind_mismatch asked ∷ unknown_file asked ∷ in_future asked
    ∷ unknown_statement asked ∷ statement_open asked ∷ not_yet_made asked ∷ outside_retention asked ∷ nothing_to_undrop asked
    ∷ lock_held asked ∷ clock_end asked ∷ in_transaction asked ∷ []

unfoldable pub refusal_of : Asked → Option Refusal
refusal_of asked = first_some (refusals asked)
