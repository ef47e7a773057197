-- The derivation is one, the fault is one, and where there is one there is not the other.
use Rattle.std.proofs.Common.{[], ◌∷◌}
use Rattle.tt_sql.proofs.grammar.Faults.{one_fault, no_fault}
use Rattle.tt_sql.proofs.machine.Statements.{one_statement, lexemes_known}
use Rattle.tt_sql.proofs.grammar.Quotes.{unquoted-spelling}
use Rattle.tt_sql.specs.grammar.Written.{statement, written_rule}
use Rattle.tt_sql.proofs.grammar_laws.tokens_have_one_reading.Goals as goal

pub returns : goal.returns
returns c = record {
  derivation = one_statement;
  fault = λ levels end ts a b. one_fault written_rule [] (statement levels ∷ []) end ts a b;
  not_both = λ levels end ts m at f. no_fault written_rule [] (statement levels ∷ []) end ts at m f;
  known = lexemes_known;
  meant = unquoted-spelling;
}
