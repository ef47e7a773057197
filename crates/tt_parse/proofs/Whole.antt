-- From the machine's reading of a whole text to the grammar as it is written.
use Rattle.std.proofs.Common.{◌≡◌, ℕ, List, [], ◌∷◌, length, Result, Ok, Err, IfOk, ap, ◌∙◌, append-nil}
use Rattle.tt_sql.specs.declared.statement.Statement.{Statement}
use Rattle.tt_sql.specs.grammar.Grammar.{Lexeme, Mark}
use Rattle.tt_sql.specs.machine.Machine.{run, step, close, with_marks}
use Rattle.tt_sql.specs.grammar.TokenKinds.{lexemes}
use Rattle.tt_sql.specs.machine.Factored.{read_rule, read_statement}
use Rattle.tt_sql.specs.marks.Statements.{statement_marks}
use Rattle.tt_lex.specs.TokensOf.{tokens_of}
use Rattle.tt_lex.specs.declared.Token.{Token}
use Rattle.tt_sql.specs.machine.Reading.{read_run}
use Rattle.tt_sql.proofs.machine.Statements.{statement_ok, statement_err, lexemes_known}
use Rattle.tt_sql.specs.determined.Statements.{IsGivenStatement}
use Rattle.tt_sql.specs.text.StatementOf.{IsTextOf, most_levels, statement_of}
use Rattle.tt_sql.proofs.text.StatementOf.{found_fault, found_statement, is_fault_of, is_text_of}
use Rattle.tt_terminal.specs.declared.error.ParseError.{ParseError}
use Rattle.tt_terminal.specs.declared.error.ParseError.TheVariants.{Syntax, Memory}
use Rattle.tt_terminal.specs.declared.rest.Rest.{Rest}
use Rattle.tt_terminal.specs.Reading.{Passes, Fails, seen}
use Rattle.tt_parse.specs.Parsed.{GivesStatement, IsAtFault, Says}

-- ---- to the text

-- what the machine says of the tokens of a text is the statement of the text
pub says_answers : (text : List ℕ) (tokens : List Token) → tokens_of text ≡ Ok tokens → (result : Result Statement ParseError) → Says most_levels (length text) (lexemes text tokens) result → IfOk result IsGivenStatement → GivesStatement result (statement_of text)
says_answers text tokens has (Ok s) says given = found_statement text tokens s has given (statement_ok most_levels (length text) (lexemes text tokens) (statement_marks s) says)
says_answers text tokens has (Err (Syntax y)) says given = found_fault text tokens y.place has (statement_err most_levels (length text) (lexemes text tokens) y.place (lexemes_known text tokens) says)
says_answers text tokens has (Err Memory) says given = tt

pub answers_found : (text : List ℕ) (result : Result Statement ParseError) → GivesStatement result (statement_of text) → IfOk result (λ s. IsTextOf text s)
answers_found text (Ok s) e = is_text_of text s e
answers_found text (Err e) h = tt

pub answers_fault : (text : List ℕ) (result : Result Statement ParseError) → GivesStatement result (statement_of text) → IsAtFault text result
answers_fault text (Ok s) e = tt
answers_fault text (Err (Syntax y)) e = is_fault_of text y.place e
answers_fault text (Err Memory) e = tt

-- ---- from readers

pub says_goes : {levels : ℕ} {r : Rest} {m : List Mark} {s : Rest} → Passes [] (read_statement levels) r m s → seen s ≡ [] → read_run levels (length r.text.now) (seen r) ≡ Ok m
unfolding run close
says_goes {levels = levels} {r = r} {m = m} {s = s} p e =
    p.goes.on [] [] ∙ ap (λ (ts : List Lexeme). with_marks m (run read_rule (length r.text.now) (p.goes.gone []) [] ts)) e ∙ ap (λ (x : List Mark). Ok x) (append-nil m)

pub says_more : {levels : ℕ} {r : Rest} {m : List Mark} {s : Rest} (t : Lexeme) (ts : List Lexeme) → Passes [] (read_statement levels) r m s → seen s ≡ t ∷ ts → read_run levels (length r.text.now) (seen r) ≡ Err t.place
unfolding run step
says_more {levels = levels} {r = r} {m = m} {s = s} t ts p e =
    p.goes.on [] [] ∙ ap (λ (us : List Lexeme). with_marks m (run read_rule (length r.text.now) (p.goes.gone []) [] us)) e

pub says_fault : {levels : ℕ} {r : Rest} {at : ℕ} → Fails [] (read_statement levels) r at → read_run levels (length r.text.now) (seen r) ≡ Err at
says_fault f = f.halts.on [] []
