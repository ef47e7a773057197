-- Each token begins and ends between characters, since its first and its last byte are ASCII.
use Rattle.std.proofs.Common.{◌≡◌, ℕ, ◌+◌, ◌-◌, ◌<◌, Bool, true, ◌&&◌, nat_lt, List, [], ◌∷◌, ◌++◌, length, get_or, Option, Some, None, All, refl, sym, ap, subst, ◌∙◌, append_assoc, zero, suc, add-zero, arith, codes}
use Rattle.std.specs.List.{list_all, AllByRecursion}
use Rattle.std.specs.Char.{is_ascii_digit}
use Rattle.std.specs.Str.{IsUtf8, IsCharBoundary}
use Rattle.std.proofs.lemmas.Bool.{and_parts, ltb-true, false≢true, or_left}
use Rattle.std.proofs.lemmas.Bool.Decides.{nat_tests}
use Rattle.std.proofs.lemmas.Str.{IsCharBoundary-before_ascii, IsCharBoundary-after_ascii}
use Rattle.std.proofs.lemmas.List.{append-nil, length-append, get_or_at, get_or-append-add, get_or_append_left}
use Rattle.std.proofs.lemmas.List.Elements.{All-from_recursion}
use Rattle.tt_lex.specs.declared.Token.{Token}
use Rattle.tt_lex.specs.declared.TokenKind.{TokenKind}
use Rattle.tt_lex.specs.Lexis.{Piece, Blank, LineComment, BlockComment, Word, Number, Quoted, Sign, is_word_start, is_word_part, is_sign, doubled, spelling, spelled, IsPiece, ArePieces, kind_of, with_token, tokens_from, HasTokens, IsBetweenCharacters}
use Rattle.tt_lex.specs.answer.Fronts.{spelling_some}
use Rattle.tt_lex.proofs.OneWay.{any_byte, any_bytes}

-- the first and the last byte are ASCII
pub record HasEdges (bytes : List ℕ) : Type 0 where
  pub first : get_or bytes 0 0 < 128
  pub last : get_or bytes (length bytes - 1) 0 < 128

ascii_all : (test : ℕ → Bool) (bytes : List ℕ) → ((b : ℕ) → test b ≡ true → b < 128) → list_all test bytes ≡ true → (i : ℕ) → get_or bytes i 0 < 128
ascii_all test [] ascii passes i = omega arith
ascii_all test (b ∷ bytes) ascii passes zero = ascii b (and_parts (test b) (list_all test bytes) passes).0
ascii_all test (b ∷ bytes) ascii passes (suc i) = ascii_all test bytes ascii (and_parts (test b) (list_all test bytes) passes).1 i

edges : (test : ℕ → Bool) (bytes : List ℕ) → ((b : ℕ) → test b ≡ true → b < 128) → list_all test bytes ≡ true → HasEdges bytes
edges test bytes ascii passes = record { first = ascii_all test bytes ascii passes 0; last = ascii_all test bytes ascii passes (length bytes - 1) }

word_part_ascii : (b : ℕ) → is_word_part b ≡ true → b < 128
word_part_ascii b part = grind (arith, nat_tests)

start_is_part : (b : ℕ) → is_word_start b ≡ true → is_word_part b ≡ true
start_is_part b start = or_left _ _ (or_left _ _ start)

digit_ascii : (b : ℕ) → is_ascii_digit b ≡ true → b < 128
digit_ascii b digit = grind (arith, nat_tests)

is_ascii_sign : List ℕ → Bool
is_ascii_sign sign = nat_lt (get_or sign 0 0) 128 && nat_lt (get_or sign 1 0) 128

sign_edges : (bytes : List ℕ) → is_sign bytes ≡ true → HasEdges bytes
unfolding is_ascii_sign
sign_edges [] sign = absurd (false≢true sign)
sign_edges (a ∷ []) sign =
    let lt = ltb-true a 128 (any_byte (λ b. nat_lt b 128) a (codes "(),.;*+-=<>") sign refl) in
    record { first = lt; last = lt }
sign_edges (a ∷ b ∷ []) sign =
    let p = and_parts (nat_lt a 128) (nat_lt b 128) (any_bytes is_ascii_sign (a ∷ b ∷ []) (codes "<>" ∷ codes "!=" ∷ codes "<=" ∷ codes ">=" ∷ codes "=>" ∷ codes "::" ∷ []) sign refl) in
    record { first = ltb-true a 128 p.0; last = ltb-true b 128 p.1 }
sign_edges (a ∷ b ∷ c ∷ bytes) sign = absurd (false≢true sign)

quoted_edges : (text : List ℕ) → HasEdges (spelling (Quoted text))
quoted_edges text =
    let n = length (doubled text) in
    let place : length (spelling (Quoted text)) - 1 ≡ suc n = omega (arith, length-append (doubled text) (39 ∷ [])) in
    let here : get_or (doubled text ++ 39 ∷ []) n 0 ≡ 39 = get_or_at (doubled text) 39 [] 0 n refl in
    record { first = omega arith; last = rw (place, here) (omega arith) }

-- for a piece that is a token
abbrev pub EdgesIf : Option TokenKind → List ℕ → Type 0
EdgesIf None bytes = Unit {0}
EdgesIf (Some kind) bytes = HasEdges bytes

piece_edges : (piece : Piece) → IsPiece piece → EdgesIf (kind_of piece) (spelling piece)
piece_edges (Blank b) right = tt
piece_edges (LineComment body) right = tt
piece_edges (BlockComment body) right = tt
piece_edges (Word []) right = absurd right
piece_edges (Word (b ∷ bytes)) right = edges is_word_part (b ∷ bytes) word_part_ascii (rw (start_is_part b right.0, right.1) refl)
piece_edges (Number []) right = absurd right
piece_edges (Number (b ∷ bytes)) right = edges is_ascii_digit (b ∷ bytes) digit_ascii (rw (right.0, right.1) refl)
piece_edges (Quoted text) right = quoted_edges text
piece_edges (Sign bytes) right = sign_edges bytes right

between : (text front bytes behind : List ℕ) (at : ℕ) → IsUtf8 text → text ≡ front ++ (bytes ++ behind) → at ≡ length front → 0 < length bytes → HasEdges bytes → IsCharBoundary text at × IsCharBoundary text (at + length bytes)
between text front bytes behind at utf8 parts here some found =
    let long : length text ≡ at + (length bytes + length behind) = omega (arith, here, ap length parts, length-append front (bytes ++ behind), length-append bytes behind) in
    let byte_at : (i : ℕ) → i < length bytes → get_or text (at + i) 0 ≡ get_or bytes i 0 = λ i lt. rw here (ap (λ (xs : List ℕ). get_or xs (length front + i) 0) parts ∙ get_or-append-add front (bytes ++ behind) i 0 ∙ get_or_append_left bytes behind 0 i lt) in
    let first_byte : get_or text at 0 < 128 = omega (arith, ap (λ (n : ℕ). get_or text n 0) (add-zero at), byte_at 0 some, found.first) in
    let last_byte : get_or text (at + (length bytes - 1)) 0 < 128 = omega (arith, byte_at (length bytes - 1) (omega arith), found.last) in
    let next : at + (length bytes - 1) + 1 ≡ at + length bytes = omega arith in
    (IsCharBoundary-before_ascii text at (omega arith) first_byte, subst (IsCharBoundary text) next (IsCharBoundary-after_ascii text (at + (length bytes - 1)) utf8 (omega arith) last_byte))

put_first : (text : List ℕ) (kind : Option TokenKind) (bytes : List ℕ) (at : ℕ) (tokens : List Token) → (HasEdges bytes → IsCharBoundary text at × IsCharBoundary text (at + length bytes)) → EdgesIf kind bytes → AllByRecursion (IsBetweenCharacters text) tokens → AllByRecursion (IsBetweenCharacters text) (with_token kind at (at + length bytes) tokens)
put_first text None bytes at tokens here found more = more
put_first text (Some kind) bytes at tokens here found more = (here found, more)

tokens-between : (text front : List ℕ) (pieces : List Piece) (rest : List ℕ) (at : ℕ) → IsUtf8 text → text ≡ front ++ (spelled pieces ++ rest) → at ≡ length front → ArePieces pieces rest → AllByRecursion (IsBetweenCharacters text) (tokens_from at pieces)
tokens-between text front [] rest at utf8 parts here each = tt
tokens-between text front (piece ∷ pieces) rest at utf8 parts here each =
    let bytes = spelling piece in
    let behind = spelled pieces ++ rest in
    let first : text ≡ front ++ (bytes ++ behind) = parts ∙ ap (λ (xs : List ℕ). front ++ xs) (append_assoc bytes (spelled pieces) rest) in
    let further : text ≡ (front ++ bytes) ++ behind = first ∙ sym (append_assoc front bytes behind) in
    let more = tokens-between text (front ++ bytes) pieces rest (at + length bytes) utf8 further (omega (arith, here, length-append front bytes)) each.2 in
    put_first text (kind_of piece) bytes at (tokens_from (at + length bytes) pieces) (between text front bytes behind at utf8 first here (spelling_some piece each.0)) (piece_edges piece each.0) more

pub HasTokens-between : (text : List ℕ) (tokens : List Token) → IsUtf8 text → HasTokens text tokens → All (IsBetweenCharacters text) tokens
HasTokens-between text tokens utf8 h =
    let whole : text ≡ [] ++ (spelled h.pieces ++ []) = h.whole ∙ sym (append-nil (spelled h.pieces)) in
    All-from_recursion (IsBetweenCharacters text) tokens (rw h.kept (tokens-between text [] h.pieces [] 0 utf8 whole refl h.each))
