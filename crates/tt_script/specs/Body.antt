-- The statements of a session's body. What each byte of a body is, is computed here from the left; that it is what
-- the body's pieces say is a law (`a_body_has_one_cut`).
use Rattle.std.specs.Prelude.{ℕ, ◌+◌, Bool, true, false, ◌||◌, ◌&&◌, ◌==◌, nat_lt, if◌then◌else◌, List, [], ◌∷◌, ◌++◌, length, slice_index}
use Rattle.std.specs.List.{prefix_len, slice_split}
use Rattle.tt_script.specs.declared.cut.ByteKind.{ByteKind}
use Rattle.tt_script.specs.declared.cut.ByteKind.TheVariants.{Gap, Cut, Solid}
use Rattle.tt_script.specs.declared.cut.Inside.{Inside}
use Rattle.tt_script.specs.declared.cut.Inside.TheVariants.{Nothing, QuotedText, LineComment, OpeningStar, BlockComment, Star}
use Rattle.tt_script.specs.Bytes.{is_white}

-- whether this byte begins a comment with the next one
abbrev pub begins_comment : ℕ → ℕ → Bool
begins_comment byte next = (byte == 45 && next == 45) || (byte == 47 && next == 42)

-- what a byte is, inside of this, and with this byte behind it
abbrev pub kind_at : Inside → ℕ → ℕ → ByteKind
kind_at Nothing byte next = if byte == 59 then Cut else (if is_white byte || begins_comment byte next then Gap else Solid)
kind_at QuotedText byte next = Solid
kind_at LineComment byte next = Gap
kind_at OpeningStar byte next = Gap
kind_at BlockComment byte next = Gap
kind_at Star byte next = Gap

-- what the byte behind it is inside of
abbrev pub inside_after : Inside → ℕ → ℕ → Inside
inside_after Nothing byte next =
    if byte == 39 then QuotedText
    else (if byte == 45 && next == 45 then LineComment
    else (if byte == 47 && next == 42 then OpeningStar else Nothing))
inside_after QuotedText byte next = if byte == 39 then Nothing else QuotedText
inside_after LineComment byte next = if byte == 10 then Nothing else LineComment
inside_after OpeningStar byte next = BlockComment
inside_after BlockComment byte next = if byte == 42 then Star else BlockComment
inside_after Star byte next = if byte == 47 then Nothing else (if byte == 42 then Star else BlockComment)

-- the kind of each byte
abbrev pub kinds_in : Inside → List ℕ → List ByteKind
kinds_in inside [] = []
kinds_in inside (byte ∷ bytes) = kind_at inside byte (slice_index bytes 0) ∷ kinds_in (inside_after inside byte (slice_index bytes 0)) bytes

abbrev pub is_cut : ByteKind → Bool
is_cut Gap = false
is_cut Cut = true
is_cut Solid = false

abbrev pub is_gap : ByteKind → Bool
is_gap Gap = true
is_gap Cut = false
is_gap Solid = false

-- The span of a part that begins at this place, of so many bytes, of which so many in front are white space and comments.
-- A part of nothing else is no statement.
abbrev pub part_span : ℕ → ℕ → ℕ → List (ℕ × ℕ)
part_span at gap size = if nat_lt gap size then (at + gap, at + size) ∷ [] else []

-- Where the statements stand in parts that were cut, the first part beginning at this place: from the first byte that is
-- neither white space nor in a comment to the part's end.
unfoldable pub spans_from : ℕ → List (List ByteKind) → List (ℕ × ℕ)
spans_from at [] = []
spans_from at (part ∷ parts) = part_span at (prefix_len is_gap part) (length part) ++ spans_from (at + (length part + 1)) parts

-- the statements of a body that begins at this place: it is cut at each semicolon outside texts and comments
abbrev pub statements_in : ℕ → List ℕ → List (ℕ × ℕ)
statements_in at body = spans_from at (slice_split is_cut (kinds_in Nothing body))
