-- The machine computes them.
use Rattle.std.proofs.Common.{refl, codes}
use Rattle.tt_value.specs.calendar.Reading.{day_of, timestamp_of}
use Rattle.tt_sql.specs.machine.Machine.{run, step, close, close_part, enter}
use Rattle.tt_sql.specs.grammar.Examples.{tokens, deep}
use Rattle.tt_sql.proofs.grammar.Examples.{spaced_known}
use Rattle.tt_sql.specs.machine.Factored.{read_other, read_unit}
use Rattle.tt_sql.specs.grammar.TokenKinds.{word_kind, number_kind, text_kind, sign_kind, undoubled}
use Rattle.tt_sql.proofs.machine.Statements.{statement_err}
use Rattle.tt_sql.proofs.grammar_laws.faults_by_example.Goals as goal

pub returns-clause-cut : goal.returns-clause-cut
unfolding run step close close_part enter read_other read_unit word_kind number_kind text_kind sign_kind undoubled day_of timestamp_of
returns-clause-cut c = statement_err 256 8 _ 8 (spaced_known 0 (tokens (codes "SELECT *"))) refl

pub returns-clause-misspelt : goal.returns-clause-misspelt
unfolding run step close close_part enter read_other read_unit word_kind number_kind text_kind sign_kind undoubled day_of timestamp_of
returns-clause-misspelt c = statement_err 256 15 _ 9 (spaced_known 0 (tokens (codes "SELECT * FORM t"))) refl

pub returns-clause-reserved_word : goal.returns-clause-reserved_word
unfolding run step close close_part enter read_other read_unit word_kind number_kind text_kind sign_kind undoubled day_of timestamp_of
returns-clause-reserved_word c = statement_err 256 19 _ 14 (spaced_known 0 (tokens (codes "SELECT * FROM order"))) refl

pub returns-clause-too_large : goal.returns-clause-too_large
unfolding run step close close_part enter read_other read_unit word_kind number_kind text_kind sign_kind undoubled day_of timestamp_of
returns-clause-too_large c = statement_err 256 33 _ 7 (spaced_known 0 (tokens (codes "SELECT 9223372036854775808 FROM t"))) refl

pub returns-clause-level_too_many : goal.returns-clause-level_too_many
unfolding run step close close_part enter read_other read_unit word_kind number_kind text_kind sign_kind undoubled day_of timestamp_of
returns-clause-level_too_many c = statement_err 1 23 _ 9 (spaced_known 0 (tokens (codes "SELECT ( ( x ) ) FROM t"))) refl

pub returns-clause-minus_too_many : goal.returns-clause-minus_too_many
unfolding run step close close_part enter read_other read_unit word_kind number_kind text_kind sign_kind undoubled day_of timestamp_of
returns-clause-minus_too_many c = statement_err 0 17 _ 7 (spaced_known 0 (tokens (codes "SELECT - x FROM t"))) refl

pub returns-clause-minus_before_no_factor : goal.returns-clause-minus_before_no_factor
unfolding run step close close_part enter read_other read_unit word_kind number_kind text_kind sign_kind undoubled day_of timestamp_of
returns-clause-minus_before_no_factor c = statement_err 0 15 _ 9 (spaced_known 0 (tokens (codes "SELECT - FROM t"))) refl

pub returns-clause-negation_too_many : goal.returns-clause-negation_too_many
unfolding run step close close_part enter read_other read_unit word_kind number_kind text_kind sign_kind undoubled day_of timestamp_of
returns-clause-negation_too_many c = statement_err 1 33 _ 24 (spaced_known 0 (tokens (codes "DELETE FROM t WHERE NOT NOT x = 1"))) refl

pub returns-clause-option_twice : goal.returns-clause-option_twice
unfolding run step close close_part enter read_other read_unit word_kind number_kind text_kind sign_kind undoubled day_of timestamp_of
returns-clause-option_twice c = statement_err 256 58 _ 42 (spaced_known 0 (tokens (codes "CREATE TABLE t ( x INT ) CLUSTER BY ( x ) CLUSTER BY ( x )"))) refl

pub returns-clause-wrong_unit : goal.returns-clause-wrong_unit
unfolding run step close close_part enter read_other read_unit word_kind number_kind text_kind sign_kind undoubled day_of timestamp_of
returns-clause-wrong_unit c = statement_err 256 32 _ 23 (spaced_known 0 (tokens (codes "CALL SYSTEM$WAIT ( 3 , 'weeks' )"))) refl

pub returns-clause-no_such_day : goal.returns-clause-no_such_day
unfolding run step close close_part enter read_other read_unit word_kind number_kind text_kind sign_kind undoubled day_of timestamp_of
returns-clause-no_such_day c = statement_err 256 41 _ 29 (spaced_known 0 (tokens (codes "DELETE FROM t WHERE x = DATE '2023-02-29'"))) refl

pub returns-clause-more_behind : goal.returns-clause-more_behind
unfolding run step close close_part enter read_other read_unit word_kind number_kind text_kind sign_kind undoubled day_of timestamp_of
returns-clause-more_behind c = statement_err 256 16 _ 12 (spaced_known 0 (tokens (codes "COMMIT WORK WORK"))) refl

pub returns-clause-levels_left : goal.returns-clause-levels_left
unfolding run step close close_part enter read_other read_unit word_kind number_kind text_kind sign_kind undoubled day_of timestamp_of
returns-clause-levels_left c = statement_err 256 533 _ 533 (spaced_known 0 (deep 256)) refl

pub returns-clause-levels_passed : goal.returns-clause-levels_passed
unfolding run step close close_part enter read_other read_unit word_kind number_kind text_kind sign_kind undoubled day_of timestamp_of
returns-clause-levels_passed c = statement_err 256 535 _ 534 (spaced_known 0 (deep 257)) refl

pub returns-clause-no_temporary_table : goal.returns-clause-no_temporary_table
unfolding run step close close_part enter read_other read_unit word_kind number_kind text_kind sign_kind undoubled day_of timestamp_of
returns-clause-no_temporary_table c = statement_err 256 34 _ 7 (spaced_known 0 (tokens (codes "CREATE TEMPORARY TABLE t ( x INT )"))) refl

pub returns-clause-no_table_in_front : goal.returns-clause-no_table_in_front
unfolding run step close close_part enter read_other read_unit word_kind number_kind text_kind sign_kind undoubled day_of timestamp_of
returns-clause-no_table_in_front c = statement_err 256 19 _ 9 (spaced_known 0 (tokens (codes "SELECT t . x FROM t"))) refl

pub returns-clause-no_schema_in_front : goal.returns-clause-no_schema_in_front
unfolding run step close close_part enter read_other read_unit word_kind number_kind text_kind sign_kind undoubled day_of timestamp_of
returns-clause-no_schema_in_front c = statement_err 256 16 _ 13 (spaced_known 0 (tokens (codes "DROP TABLE s . t"))) refl
