-- What is known of the tokens of a text before they have kinds.
use Rattle.std.specs.Prelude.{◌≡◌, ℕ, ◌<◌, ◌≤◌, List, length}
use Rattle.std.specs.Str.{IsUtf8}
use Rattle.tt_lex.specs.declared.Token.{Token}
use Rattle.tt_lex.specs.declared.TokenKind.TheVariants.{Quoted}
use Rattle.tt_lex.specs.Lexis.{IsSpelled, text_of}
use Rattle.tt_sql.specs.grammar.TokenKinds.{unquoted}

-- a token of the text; what a quoted text means is again a text
pub record IsToken (text : List ℕ) (token : Token) : Type 0 where
  pub low : token.start < token.«end»
  pub high : token.«end» ≤ length text
  pub spelled : IsSpelled text token
  pub valid : token.kind ≡ Quoted → IsUtf8 (unquoted (text_of text token))
