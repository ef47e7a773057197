-- The words of the language, as bytes: what a word, a number, a quoted text, a sign and a comment are, how
-- a text is put together from them, and which fault a text has where it is not.
use Rattle.std.specs.Prelude.{◌≡◌, ◌≢◌, ℕ, ◌+◌, ◌<◌, ◌≤◌, Bool, false, ◌||◌, not, ◌==◌, nat_lt, if◌then◌else◌, IsTrue, List, [], ◌∷◌, ◌++◌, length, slice_index, take, drop, ◌-◌, Option, Some, None, Result, Ok, Err, ◌⊎◌, codes}
use Rattle.std.specs.List.{flat_map, list_all, list_any}
use Rattle.std.specs.Char.{is_ascii_alphabetic, is_ascii_digit}
use Rattle.std.specs.Str.{bytes_eq, IsCharBoundary}
use Rattle.std.specs.Global.{Vec}
use Rattle.tt_lex.specs.declared.Token.{Token}
use Rattle.tt_lex.specs.declared.TokenKind.{TokenKind}
use Rattle.tt_lex.specs.declared.TokenKind.TheVariants as kinds
use Rattle.tt_lex.specs.declared.LexFault.{LexFault}
use Rattle.tt_lex.specs.declared.LexFault.TheVariants.{BadByte, UnclosedText, UnclosedComment, BackslashInText, TextTooLong}
use Rattle.tt_lex.specs.declared.TokensError.{TokensError}
use Rattle.tt_lex.specs.declared.TokensError.TheVariants.{Lex, Memory}

-- ---- bytes

-- space, tab, carriage return and line feed
abbrev pub is_white : ℕ → Bool
is_white b = b == 32 || b == 9 || b == 13 || b == 10

-- a letter or `_`
abbrev pub is_word_start : ℕ → Bool
is_word_start b = is_ascii_alphabetic b || b == 95

-- also a digit or `$`
abbrev pub is_word_part : ℕ → Bool
is_word_part b = is_word_start b || is_ascii_digit b || b == 36

abbrev pub is_quote : ℕ → Bool
is_quote b = b == 39

-- a byte of a line, which a line feed ends
abbrev pub is_line_byte : ℕ → Bool
is_line_byte b = not (b == 10)

-- what may stand in a quoted text: no control character and no backslash
abbrev pub is_text_byte : ℕ → Bool
is_text_byte b = not (nat_lt b 32 || b == 127 || b == 92)

-- the signs
abbrev pub is_sign : List ℕ → Bool
is_sign (a ∷ []) = list_any (λ s. s == a) (codes "(),.;*+-=<>")
is_sign (a ∷ b ∷ []) = list_any (bytes_eq (a ∷ b ∷ [])) (codes "<>" ∷ codes "!=" ∷ codes "<=" ∷ codes ">=" ∷ codes "=>" ∷ codes "::" ∷ [])
is_sign _ = false

-- ---- pieces

-- A text consists of pieces: one character of white space, a comment, or a token.
pub data Piece : Type 0 where
  Blank : ℕ → Piece
  -- what stands behind `--`, and what stands between `/*` and `*/`
  LineComment : List ℕ → Piece
  BlockComment : List ℕ → Piece
  Word : List ℕ → Piece
  Number : List ℕ → Piece
  -- the text that is meant, in which a quote stands once
  Quoted : List ℕ → Piece
  Sign : List ℕ → Piece

-- within quotes each quote is written twice
abbrev pub doubled : List ℕ → List ℕ
doubled text = flat_map (λ b. if is_quote b then b ∷ b ∷ [] else b ∷ []) text

abbrev pub spelling : Piece → List ℕ
spelling (Blank b) = b ∷ []
spelling (LineComment body) = codes "--" ++ body
spelling (BlockComment body) = codes "/*" ++ (body ++ codes "*/")
spelling (Word bytes) = bytes
spelling (Number bytes) = bytes
spelling (Quoted text) = 39 ∷ (doubled text ++ 39 ∷ [])
spelling (Sign bytes) = bytes

-- no `*` in these bytes has a `/` behind it
abbrev pub NotClosed : List ℕ → Type 0
NotClosed bytes = (k : ℕ) → slice_index bytes k ≡ 42 → slice_index bytes (k + 1) ≢ 47

-- what a piece is by itself
abbrev pub IsPiece : Piece → Type 0
IsPiece (Blank b) = IsTrue (is_white b)
IsPiece (LineComment body) = IsTrue (list_all is_line_byte body)
IsPiece (BlockComment body) = NotClosed body
IsPiece (Word []) = ⊥
IsPiece (Word (b ∷ bytes)) = IsTrue (is_word_start b) × IsTrue (list_all is_word_part bytes)
IsPiece (Number []) = ⊥
IsPiece (Number (b ∷ bytes)) = IsTrue (is_ascii_digit b) × IsTrue (list_all is_ascii_digit bytes)
IsPiece (Quoted text) = IsTrue (list_all is_text_byte text) × (length text ≤ 65535)
IsPiece (Sign bytes) = IsTrue (is_sign bytes)

-- the next byte, if there is one, fails the test
abbrev pub StopsAt : (ℕ → Bool) → List ℕ → Type 0
StopsAt goes_on [] = Unit {0}
StopsAt goes_on (b ∷ rest) = goes_on b ≡ false

-- Each piece is taken as long as it is: what may not stand behind it. Of the signs, and of these and `--`,
-- the longest is taken.
abbrev pub EndsBefore : Piece → List ℕ → Type 0
EndsBefore (Blank b) rest = Unit {0}
EndsBefore (LineComment body) rest = StopsAt is_line_byte rest
EndsBefore (BlockComment body) rest = Unit {0}
EndsBefore (Word bytes) rest = StopsAt is_word_part rest
EndsBefore (Number bytes) rest = StopsAt is_ascii_digit rest
EndsBefore (Quoted text) rest = StopsAt is_quote rest
EndsBefore (Sign bytes) rest = StopsAt (λ b. is_sign (bytes ++ b ∷ []) || bytes_eq (bytes ++ b ∷ []) (codes "--")) rest

-- ---- whole texts

abbrev pub spelled : List Piece → List ℕ
spelled pieces = flat_map spelling pieces

-- each is a piece, and ends before the next one or before the rest
abbrev pub ArePieces : List Piece → List ℕ → Type 0
ArePieces [] rest = Unit {0}
ArePieces (piece ∷ pieces) rest = IsPiece piece × EndsBefore piece (spelled pieces ++ rest) × ArePieces pieces rest

-- the kind of token that a piece is, if it is one
abbrev pub kind_of : Piece → Option TokenKind
kind_of (Blank b) = None
kind_of (LineComment body) = None
kind_of (BlockComment body) = None
kind_of (Word bytes) = Some kinds.Word
kind_of (Number bytes) = Some kinds.Number
kind_of (Quoted text) = Some kinds.Quoted
kind_of (Sign bytes) = Some kinds.Sign

-- a token from start to end, if it is one, in front of others
abbrev pub with_token : Option TokenKind → ℕ → ℕ → List Token → List Token
with_token None start end tokens = tokens
with_token (Some kind) start end tokens = record { start = start; «end» = end; kind = kind } ∷ tokens

-- the tokens among the pieces, the first of which stands at this place
abbrev pub tokens_from : ℕ → List Piece → List Token
tokens_from at [] = []
tokens_from at (piece ∷ pieces) = with_token (kind_of piece) at (at + length (spelling piece)) (tokens_from (at + length (spelling piece)) pieces)

-- the text is put together from pieces, and these are the tokens among them
pub record HasTokens (text : List ℕ) (tokens : List Token) : Type 0 where
  pub pieces : List Piece
  pub whole : text ≡ spelled pieces
  pub each : ArePieces pieces []
  pub kept : tokens ≡ tokens_from 0 pieces

-- the bytes of a token
abbrev pub text_of : List ℕ → Token → List ℕ
text_of text token = take (token.«end» - token.start) (drop token.start text)

-- the bytes of a token are a piece of its kind
pub record IsSpelled (text : List ℕ) (token : Token) : Type 0 where
  pub piece : Piece
  pub right : IsPiece piece
  pub kind_is : kind_of piece ≡ Some token.kind
  pub text_is : text_of text token ≡ spelling piece

-- ---- faults

-- a quoted text stands here, of whatever bytes, and this is what is meant
pub record IsQuotedAt (rest text : List ℕ) : Type 0 where
  pub behind : List ℕ
  pub parts : rest ≡ spelling (Quoted text) ++ behind
  pub ends : EndsBefore (Quoted text) behind

-- A quoted text stands here that is not too long, and this byte is the first in it that may not be there;
-- before are the bytes from its opening quote on.
pub record RefusesInText (rest before : List ℕ) (refused : ℕ) : Type 0 where
  pub text : List ℕ
  pub quoted : IsQuotedAt rest text
  pub short : length text ≤ 65535
  pub after : List ℕ
  pub parts : 39 ∷ doubled text ≡ before ++ refused ∷ after
  pub allowed : IsTrue (list_all is_text_byte before)
  pub not_allowed : is_text_byte refused ≡ false

-- no piece, no quote and no comment begins here, and the text does not end
pub record BeginsNothing (rest : List ℕ) : Type 0 where
  pub some_byte : rest ≢ []
  pub no_piece : (piece : Piece) (behind : List ℕ) → IsPiece piece → rest ≢ spelling piece ++ behind
  pub no_quote : (behind : List ℕ) → rest ≢ 39 ∷ behind
  pub no_comment : (behind : List ℕ) → rest ≢ codes "/*" ++ behind

-- the rest of the text, which begins at this place, begins with this fault
abbrev pub IsFault : LexFault → ℕ → List ℕ → Type 0
IsFault (UnclosedText place) at rest = (place ≡ at) × (text : List ℕ) × (rest ≡ 39 ∷ doubled text)
IsFault (TextTooLong place) at rest = (place ≡ at) × (text : List ℕ) × IsQuotedAt rest text × (65535 < length text)
IsFault (BackslashInText place) at rest = (before : List ℕ) × RefusesInText rest before 92 × (place ≡ at + length before)
IsFault (UnclosedComment place) at rest = (place ≡ at) × (body : List ℕ) × (rest ≡ codes "/*" ++ body) × NotClosed body
IsFault (BadByte place) at rest = ((place ≡ at) × BeginsNothing rest) ⊎ ((before : List ℕ) × (refused : ℕ) × RefusesInText rest before refused × (refused ≢ 92) × (place ≡ at + length before))

-- pieces stand in front of it: so this is the first fault of the text from the left
pub record HasFault (text : List ℕ) (fault : LexFault) : Type 0 where
  pub pieces : List Piece
  pub rest : List ℕ
  pub whole : text ≡ spelled pieces ++ rest
  pub each : ArePieces pieces rest
  pub here : IsFault fault (length (spelled pieces)) rest

-- ---- what a call returns

-- a fault, unless memory ran out
abbrev pub IfFault : Result (Vec Token) TokensError → (LexFault → Type 0) → Type 0
IfFault (Ok tokens) P = Unit {0}
IfFault (Err Memory) P = Unit {0}
IfFault (Err (Lex fault)) P = P fault

-- these tokens, unless memory ran out
abbrev pub GivesTokens : List Token → Result (Vec Token) TokensError → Type 0
GivesTokens tokens (Ok given) = given.items ≡ tokens
GivesTokens tokens (Err Memory) = Unit {0}
GivesTokens tokens (Err (Lex fault)) = ⊥

-- this fault, unless memory ran out
abbrev pub GivesFault : LexFault → Result (Vec Token) TokensError → Type 0
GivesFault fault (Ok given) = ⊥
GivesFault fault (Err Memory) = Unit {0}
GivesFault fault (Err (Lex given)) = given ≡ fault

-- none is empty, and each ends at or before the beginning of the next, within these places
abbrev pub AreInOrder : ℕ → ℕ → List Token → Type 0
AreInOrder low high [] = low ≤ high
AreInOrder low high (token ∷ tokens) = (low ≤ token.start) × (token.start < token.«end») × AreInOrder token.«end» high tokens

-- a token begins and ends between characters of the text
abbrev pub IsBetweenCharacters : List ℕ → Token → Type 0
IsBetweenCharacters text token = IsCharBoundary text token.start × IsCharBoundary text token.«end»
