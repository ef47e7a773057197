-- The refusals of a statement in groups, in the order of their numbers.
use Rattle.std.specs.Prelude.{List, Option, [], ◌++◌, ◌∷◌}
use Rattle.tt_history.specs.declared.reply.Refusal.{Refusal}
use Rattle.tt_plain.specs.asked.Asked.{Asked}
use Rattle.tt_plain.specs.refusal.ClockEnd.{clock_end}
use Rattle.tt_plain.specs.refusal.InTransaction.{in_transaction}
use Rattle.tt_plain.specs.refusal.KindMismatch.{kind_mismatch}
use Rattle.tt_plain.specs.refusal.LockHeld.{lock_held}
use Rattle.tt_plain.specs.refusal.NothingToUndrop.{nothing_to_undrop}
use Rattle.tt_plain.specs.refusal.NullInNotNull.{null_in_not_null}
use Rattle.tt_plain.specs.refusal.RetentionRange.{retention_range}
use Rattle.tt_plain.specs.refusal.TableExists.{table_exists}
use Rattle.tt_plain.specs.refusal.TypeMismatch.{type_mismatch}
use Rattle.tt_plain.specs.refusal.UnknownColumn.{unknown_column}
use Rattle.tt_plain.specs.refusal.UnknownFile.{unknown_file}
use Rattle.tt_plain.specs.refusal.WrongCount.{wrong_count}
use Rattle.tt_model_asked.specs.TravelAs.{refusals_of_points}

abbrev pub refusals_of_typing : Asked → List (Option Refusal)
refusals_of_typing asked = unknown_column asked ∷ wrong_count asked ∷ type_mismatch asked ∷ null_in_not_null asked ∷ []

abbrev pub refusals_of_content : Asked → List (Option Refusal)
refusals_of_content asked = retention_range asked ∷ kind_mismatch asked ∷ unknown_file asked ∷ []

abbrev pub refusals_of_state : Asked → List (Option Refusal)
refusals_of_state asked = nothing_to_undrop asked ∷ lock_held asked ∷ clock_end asked ∷ in_transaction asked ∷ []

abbrev pub refusals_of_the_rest : Asked → List (Option Refusal)
refusals_of_the_rest asked = refusals_of_content asked ++ refusals_of_points asked ++ refusals_of_state asked

abbrev pub refusals_of_tables : Asked → List (Option Refusal)
refusals_of_tables asked = table_exists asked ∷ refusals_of_typing asked ++ refusals_of_the_rest asked
