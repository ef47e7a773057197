-- What is known of tokens, as the grammar sees them.
use Rattle.std.specs.Prelude.{◌≡◌, ℕ, ◌<◌, ◌==◌, Bool, true, false, ◌&&◌, List, [], ◌∷◌, Some}
use Rattle.tt_lex.specs.declared.TokenKind.{TokenKind}
use Rattle.tt_lex.specs.Lexis.{Piece, IsPiece, spelling, kind_of}
use Rattle.tt_sql.specs.grammar.Grammar.{Lexeme}
use Rattle.tt_sql.specs.grammar.TokenKinds.{lexeme}

-- the kinds of tokens are among these
unfoldable pub AreKinds : ℕ → List Lexeme → Type 0
AreKinds kinds [] = Unit {0}
AreKinds kinds (t ∷ ts) = (t.kind < kinds) × AreKinds kinds ts

-- the tokens begin with tokens of these kinds
abbrev pub begins_with : List ℕ → List Lexeme → Bool
begins_with [] ts = true
begins_with (k ∷ ks) [] = false
begins_with (k ∷ ks) (t ∷ ts) = (t.kind == k) && begins_with ks ts

-- a token, as the grammar sees it
pub record IsLexeme (t : Lexeme) : Type 0 where
  pub piece : Piece
  pub right : IsPiece piece
  pub kind : TokenKind
  pub kind_is : kind_of piece ≡ Some kind
  pub place : ℕ
  pub seen : t ≡ lexeme kind (spelling piece) place

abbrev pub AreLexemes : List Lexeme → Type 0
AreLexemes [] = Unit {0}
AreLexemes (t ∷ ts) = IsLexeme t × AreLexemes ts
