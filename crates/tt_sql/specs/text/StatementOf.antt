-- The statement of a text, or the place of its fault.
use Rattle.std.specs.Prelude.{◌≡◌, ℕ, List, length, Option, Some, None, Result, Ok, Err, ◌⊎◌}
use Rattle.tt_lex.specs.declared.Token.{Token}
use Rattle.tt_lex.specs.declared.LexFault.{LexFault}
use Rattle.tt_lex.specs.declared.LexFault.TheVariants.{BadByte, UnclosedText, UnclosedComment, BackslashInText, TextTooLong}
use Rattle.tt_lex.specs.TokensOf.{tokens_of}
use Rattle.tt_sql.specs.declared.statement.Statement.{Statement}
use Rattle.tt_sql.specs.grammar.Grammar.{Mark}
use Rattle.tt_sql.specs.grammar.Statements.{IsStatement, HasFaultAt}
use Rattle.tt_sql.specs.machine.Reading.{read_run}
use Rattle.tt_sql.specs.grammar.TokenKinds.{lexemes}
use Rattle.tt_sql.specs.trees.Statements.{IsWrittenStatement}
use Rattle.tt_sql.specs.marks.Statements.{statement_marks}
use Rattle.tt_sql.specs.machine.StatementTrees.{statement_tree}

-- how many levels may be open
abbrev pub most_levels : ℕ
most_levels = 256

abbrev pub fault_place : LexFault → ℕ
fault_place (BadByte place) = place
fault_place (UnclosedText place) = place
fault_place (UnclosedComment place) = place
fault_place (BackslashInText place) = place
fault_place (TextTooLong place) = place

-- ---- which texts are statements, and which have a fault

-- the tokens of the text spell this statement
pub record IsTextOf (text : List ℕ) (s : Statement) : Type 0 where
  pub tokens : List Token
  pub has : tokens_of text ≡ Ok tokens
  pub spelled : IsStatement most_levels (statement_marks s) (lexemes text tokens)
  pub written : IsWrittenStatement most_levels s

-- a fault within a token
pub record HasTokenFault (text : List ℕ) (at : ℕ) : Type 0 where
  pub fault : LexFault
  pub has : tokens_of text ≡ Err fault
  pub here : at ≡ fault_place fault

-- a fault of the tokens
pub record HasGrammarFault (text : List ℕ) (at : ℕ) : Type 0 where
  pub tokens : List Token
  pub has : tokens_of text ≡ Ok tokens
  pub here : HasFaultAt most_levels (length text) (lexemes text tokens) at

abbrev pub HasSyntaxFault : List ℕ → ℕ → Type 0
HasSyntaxFault text at = HasTokenFault text at ⊎ HasGrammarFault text at

-- ---- the statement

-- the statement that has these marks
abbrev pub of_tree : ℕ → Option Statement → Result Statement ℕ
of_tree end None = Err end
of_tree end (Some s) = Ok s

abbrev pub of_reading : ℕ → Result (List Mark) ℕ → Result Statement ℕ
of_reading end (Ok m) = of_tree end (statement_tree m)
of_reading end (Err place) = Err place

abbrev pub of_tokens : List ℕ → Result (List Token) LexFault → Result Statement ℕ
of_tokens text (Ok tokens) = of_reading (length text) (read_run most_levels (length text) (lexemes text tokens))
of_tokens text (Err fault) = Err (fault_place fault)

unfoldable pub statement_of : List ℕ → Result Statement ℕ
statement_of text = of_tokens text (tokens_of text)
