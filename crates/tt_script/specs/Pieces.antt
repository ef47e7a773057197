-- What a session's body is made of: white space, comments, texts in quotes, semicolons that cut, and other bytes.
use Rattle.std.specs.Prelude.{◌≡◌, ◌≢◌, ℕ, ◌+◌, false, ◌||◌, ◌&&◌, ◌==◌, IsTrue, List, [], ◌∷◌, ◌++◌, length, slice_index, replicate, codes}
use Rattle.std.specs.List.{flat_map, list_all}
use Rattle.tt_script.specs.declared.cut.ByteKind.{ByteKind}
use Rattle.tt_script.specs.declared.cut.ByteKind.TheVariants as kinds
use Rattle.tt_script.specs.Bytes.{is_white, is_line_byte, is_no_quote}

pub data Piece : Type 0 where
  -- space, tab, carriage return or line feed
  White : ℕ → Piece
  -- what stands behind `--` on its line
  LineComment : List ℕ → Piece
  -- what stands between `/*` and `*/`, or behind a `/*` that is not closed
  BlockComment : List ℕ → Piece
  OpenComment : List ℕ → Piece
  -- What stands between two quotes, or behind a quote that is not closed. Where a quote is written twice in a text,
  -- one such piece ends and the next begins.
  Quoted : List ℕ → Piece
  OpenText : List ℕ → Piece
  -- a semicolon
  Semicolon : Piece
  Other : ℕ → Piece

abbrev pub spelling : Piece → List ℕ
spelling (White b) = b ∷ []
spelling (LineComment body) = codes "--" ++ body
spelling (BlockComment body) = codes "/*" ++ (body ++ codes "*/")
spelling (OpenComment body) = codes "/*" ++ body
spelling (Quoted text) = 39 ∷ (text ++ 39 ∷ [])
spelling (OpenText text) = 39 ∷ text
spelling Semicolon = 59 ∷ []
spelling (Other b) = b ∷ []

-- no `*` in these bytes has a `/` behind it
abbrev pub NotClosed : List ℕ → Type 0
NotClosed bytes = (k : ℕ) → slice_index bytes k ≡ 42 → slice_index bytes (k + 1) ≢ 47

-- what a piece is by itself
abbrev pub IsPiece : Piece → Type 0
IsPiece (White b) = IsTrue (is_white b)
IsPiece (LineComment body) = IsTrue (list_all is_line_byte body)
IsPiece (BlockComment body) = NotClosed body
IsPiece (OpenComment body) = NotClosed body
IsPiece (Quoted text) = IsTrue (list_all is_no_quote text)
IsPiece (OpenText text) = IsTrue (list_all is_no_quote text)
IsPiece Semicolon = Unit {0}
IsPiece (Other b) = (is_white b ≡ false) × (b ≢ 39) × (b ≢ 59)

-- What may stand behind a piece. A comment `--` goes on to its line's end, what is not closed goes on to the end, and
-- a byte that begins a comment with the next one is no piece by itself.
abbrev pub EndsBefore : Piece → List ℕ → Type 0
EndsBefore (LineComment body) [] = Unit {0}
EndsBefore (LineComment body) (b ∷ rest) = b ≡ 10
EndsBefore (OpenComment body) rest = rest ≡ []
EndsBefore (OpenText text) rest = rest ≡ []
EndsBefore (Other b) [] = Unit {0}
EndsBefore (Other b) (c ∷ rest) = ((b == 45 && c == 45) || (b == 47 && c == 42)) ≡ false
EndsBefore piece rest = Unit {0}

abbrev pub spelled : List Piece → List ℕ
spelled pieces = flat_map spelling pieces

-- each is a piece, and ends before the next one or at the end
abbrev pub ArePieces : List Piece → Type 0
ArePieces [] = Unit {0}
ArePieces (piece ∷ pieces) = IsPiece piece × EndsBefore piece (spelled pieces) × ArePieces pieces

-- white space and comments may stand around a statement, and a semicolon cuts
abbrev pub kind_of : Piece → ByteKind
kind_of (White b) = kinds.Gap
kind_of (LineComment body) = kinds.Gap
kind_of (BlockComment body) = kinds.Gap
kind_of (OpenComment body) = kinds.Gap
kind_of (Quoted text) = kinds.Solid
kind_of (OpenText text) = kinds.Solid
kind_of Semicolon = kinds.Cut
kind_of (Other b) = kinds.Solid

-- the kind of each byte of pieces
abbrev pub kinds_of : List Piece → List ByteKind
kinds_of pieces = flat_map (λ piece. replicate (length (spelling piece)) (kind_of piece)) pieces

-- the body is spelled by pieces
abbrev pub IsMadeUp : List ℕ → Type 0
IsMadeUp body = (pieces : List Piece) × (body ≡ spelled pieces) × ArePieces pieces
