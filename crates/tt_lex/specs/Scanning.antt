-- What the parts of the lexer find at the front of what is left of a text.
use Rattle.std.specs.Prelude.{◌≡◌, ◌≢◌, ℕ, false, List, ◌∷◌, ◌++◌, length, ◌==◌, codes}
use Rattle.std.specs.Char.{is_ascii_digit}
use Rattle.tt_lex.specs.declared.scan.Front.{Front}
use Rattle.tt_lex.specs.declared.scan.Inside.{Inside}
use Rattle.tt_lex.specs.Lexis.{Piece, is_white, is_word_start, is_quote, doubled, NotClosed, spelling, IsPiece, EndsBefore, StopsAt, kind_of}

-- a piece stands at the front: a token of this kind, or none, and of this length
pub record Takes (rest : List ℕ) (front : Front) : Type 0 where
  pub piece : Piece
  pub behind : List ℕ
  pub parts : rest ≡ spelling piece ++ behind
  pub right : IsPiece piece
  pub ends : EndsBefore piece behind
  pub kind_is : front.kind ≡ kind_of piece
  pub length_is : front.length ≡ length (spelling piece)

-- behind an opening quote the bytes of a text stand, and its closing quote
pub record Closes (rest : List ℕ) (inside : Inside) : Type 0 where
  pub text : List ℕ
  pub behind : List ℕ
  pub parts : rest ≡ doubled text ++ 39 ∷ behind
  pub ends : StopsAt is_quote behind
  pub written_is : inside.written ≡ length (doubled text)
  pub meant_is : inside.meant ≡ length text

-- so many bytes of a comment stand here, and then the first `*/`
abbrev pub ClosesComment : List ℕ → ℕ → Type 0
ClosesComment rest n = (body : List ℕ) × (behind : List ℕ) × (rest ≡ body ++ (codes "*/" ++ behind)) × NotClosed body × (n ≡ length body)

-- nothing but a sign can begin here
pub record BeginsNoOther (first : ℕ) (more : List ℕ) : Type 0 where
  pub no_white : is_white first ≡ false
  pub no_word : is_word_start first ≡ false
  pub no_number : is_ascii_digit first ≡ false
  pub no_quote : first ≢ 39
  pub no_line_comment : first ≡ 45 → StopsAt (λ b. b == 45) more
  pub no_block_comment : first ≡ 47 → StopsAt (λ b. b == 42) more
