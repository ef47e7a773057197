-- The tokens of a printed statement are its words, each where it stands in the text.
use Rattle.std.specs.Prelude.{◌≡◌, ℕ, ◌+◌, List, [], ◌∷◌, length, Some}
use Rattle.tt_lex.specs.declared.Token.{Token}
use Rattle.tt_lex.specs.declared.TokenKind.{TokenKind}
use Rattle.tt_lex.specs.Lexis.{Piece, IsPiece, spelling, kind_of}
use Rattle.tt_sql.specs.grammar.Grammar.{Lexeme}
use Rattle.tt_sql.specs.grammar.TokenKinds.{lexeme, token_kind}
use Rattle.tt_sql.specs.declared.statement.Statement.{Statement}
use Rattle.tt_print.specs.text.Statements.{statement_words}

-- this word is one token of the lexer
pub record IsToken (word : List ℕ) : Type 0 where
  pub piece : Piece
  pub right : IsPiece piece
  pub text_is : spelling piece ≡ word
  pub kind : TokenKind
  pub kind_is : kind_of piece ≡ Some kind

abbrev pub AreTokens : List (List ℕ) → Type 0
AreTokens [] = Unit {0}
AreTokens (word ∷ words) = IsToken word × AreTokens words

-- Each of its words is one token: its names are words, and its texts have bytes that a quoted text may have.
abbrev pub IsWritable : Statement → Type 0
IsWritable statement = AreTokens (statement_words statement)

-- words one behind another with a blank between any two, the first of them at this place
abbrev pub tokens_at : ℕ → List (List ℕ) → List Token
tokens_at at [] = []
tokens_at at (word ∷ words) = record { start = at; «end» = at + length word; kind = token_kind word } ∷ tokens_at (at + length word + 1) words

-- the tokens of a printed statement
abbrev pub printed_tokens : Statement → List Token
printed_tokens statement = tokens_at 0 (statement_words statement)

-- the same as the grammar sees them
abbrev pub lexemes_at : ℕ → List (List ℕ) → List Lexeme
lexemes_at at [] = []
lexemes_at at (word ∷ words) = lexeme (token_kind word) word at ∷ lexemes_at (at + length word + 1) words
