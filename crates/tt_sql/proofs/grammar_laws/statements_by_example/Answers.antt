-- The machine computes them.
use Rattle.std.proofs.Common.{refl}
use Rattle.tt_value.specs.calendar.Reading.{day_of, timestamp_of}
use Rattle.tt_sql.specs.machine.Machine.{run, step, close, close_part, enter}
use Rattle.tt_sql.specs.machine.Factored.{read_other, read_unit}
use Rattle.tt_sql.specs.grammar.TokenKinds.{word_kind, number_kind, text_kind, sign_kind, undoubled}
use Rattle.tt_sql.proofs.machine.Statements.{statement_ok}
use Rattle.tt_sql.proofs.grammar_laws.statements_by_example.Goals as goal

pub returns-clause-star : goal.returns-clause-star
unfolding run step close close_part enter read_other read_unit word_kind number_kind text_kind sign_kind undoubled day_of timestamp_of
returns-clause-star c = statement_ok 256 0 _ _ refl

pub returns-clause-count_all : goal.returns-clause-count_all
unfolding run step close close_part enter read_other read_unit word_kind number_kind text_kind sign_kind undoubled day_of timestamp_of
returns-clause-count_all c = statement_ok 256 0 _ _ refl

pub returns-clause-count_is_a_name : goal.returns-clause-count_is_a_name
unfolding run step close close_part enter read_other read_unit word_kind number_kind text_kind sign_kind undoubled day_of timestamp_of
returns-clause-count_is_a_name c = statement_ok 256 0 _ _ refl

pub returns-clause-least_number : goal.returns-clause-least_number
unfolding run step close close_part enter read_other read_unit word_kind number_kind text_kind sign_kind undoubled day_of timestamp_of
returns-clause-least_number c = statement_ok 256 0 _ _ refl

pub returns-clause-minus_of_a_number_opens_no_level : goal.returns-clause-minus_of_a_number_opens_no_level
unfolding run step close close_part enter read_other read_unit word_kind number_kind text_kind sign_kind undoubled day_of timestamp_of
returns-clause-minus_of_a_number_opens_no_level c = statement_ok 0 0 _ _ refl

pub returns-clause-view_of_storage : goal.returns-clause-view_of_storage
unfolding run step close close_part enter read_other read_unit word_kind number_kind text_kind sign_kind undoubled day_of timestamp_of
returns-clause-view_of_storage c = statement_ok 256 0 _ _ refl

pub returns-clause-name_before_number : goal.returns-clause-name_before_number
unfolding run step close close_part enter read_other read_unit word_kind number_kind text_kind sign_kind undoubled day_of timestamp_of
returns-clause-name_before_number c = statement_ok 256 0 _ _ refl

pub returns-clause-not_and : goal.returns-clause-not_and
unfolding run step close close_part enter read_other read_unit word_kind number_kind text_kind sign_kind undoubled day_of timestamp_of
returns-clause-not_and c = statement_ok 256 0 _ _ refl

pub returns-clause-either : goal.returns-clause-either
unfolding run step close close_part enter read_other read_unit word_kind number_kind text_kind sign_kind undoubled day_of timestamp_of
returns-clause-either c = statement_ok 256 0 _ _ refl

pub returns-clause-temporary_is_a_name : goal.returns-clause-temporary_is_a_name
unfolding run step close close_part enter read_other read_unit word_kind number_kind text_kind sign_kind undoubled day_of timestamp_of
returns-clause-temporary_is_a_name c = statement_ok 256 0 _ _ refl
