-- Tokens stand in order, and each has the bytes of a piece.
use Rattle.std.proofs.Common.{◌≡◌, ℕ, ◌+◌, ◌-◌, ◌<◌, ◌≤◌, All, List, [], ◌∷◌, ◌++◌, length, take, drop, Option, Some, None, refl, sym, ap, subst, ◌∙◌, append_assoc, arith}
use Rattle.std.specs.List.{AllByRecursion}
use Rattle.std.proofs.lemmas.List.{append-nil, length-append, take_at, drop_at}
use Rattle.std.proofs.lemmas.List.Elements.{All-from_recursion}
use Rattle.tt_lex.specs.declared.Token.{Token}
use Rattle.tt_lex.specs.declared.TokenKind.{TokenKind}
use Rattle.tt_lex.specs.Lexis.{Piece, spelling, spelled, IsPiece, ArePieces, kind_of, with_token, tokens_from, HasTokens, AreInOrder, IsSpelled}
use Rattle.tt_lex.specs.answer.Fronts.{spelling_some}

-- ---- order

tokens-in_order : (at : ℕ) (pieces : List Piece) (rest : List ℕ) → ArePieces pieces rest → AreInOrder at (at + length (spelled pieces)) (tokens_from at pieces)
tokens-in_order at [] rest each = omega arith
tokens-in_order at (piece ∷ pieces) rest each =
    let next = at + length (spelling piece) in
    let more = tokens-in_order next pieces rest each.2 in
    let place : next + length (spelled pieces) ≡ at + length (spelled (piece ∷ pieces)) = omega (arith, length-append (spelling piece) (spelled pieces)) in
    put_first (kind_of piece) at next (at + length (spelled (piece ∷ pieces))) (tokens_from next pieces) (omega (arith, spelling_some piece each.0)) (subst (λ (n : ℕ). AreInOrder next n (tokens_from next pieces)) place more)
  where
    lower : (low middle high : ℕ) (tokens : List Token) → low ≤ middle → AreInOrder middle high tokens → AreInOrder low high tokens
    lower low middle high [] le order = omega arith
    lower low middle high (token ∷ tokens) le order = (omega (arith, order.0), order.1, order.2)

    put_first : (kind : Option TokenKind) (start next high : ℕ) (tokens : List Token) → start < next → AreInOrder next high tokens → AreInOrder start high (with_token kind start next tokens)
    put_first None start next high tokens lt order = lower start next high tokens (omega arith) order
    put_first (Some kind) start next high tokens lt order = (omega arith, lt, order)

pub HasTokens-in_order : (text : List ℕ) (tokens : List Token) → HasTokens text tokens → AreInOrder 0 (length text) tokens
HasTokens-in_order text tokens h =
    let order = tokens-in_order 0 h.pieces [] h.each in
    let long : 0 + length (spelled h.pieces) ≡ length text = omega (arith, ap length h.whole) in
    rw h.kept (subst (λ (n : ℕ). AreInOrder 0 n (tokens_from 0 h.pieces)) long order)

-- ---- what the tokens say

token_text : (text front bytes behind : List ℕ) (at : ℕ) → text ≡ front ++ (bytes ++ behind) → at ≡ length front → take (at + length bytes - at) (drop at text) ≡ bytes
token_text text front bytes behind at parts here =
    let count : at + length bytes - at ≡ length bytes = omega arith in
    let there : drop at text ≡ bytes ++ behind = ap (drop at) parts ∙ drop_at front (bytes ++ behind) at (sym here) in
    rw (count, there) (take_at bytes behind (length bytes) refl)

put_spelled : (text : List ℕ) (piece : Piece) (kind : Option TokenKind) (at : ℕ) (tokens : List Token) → IsPiece piece → kind_of piece ≡ kind → take (at + length (spelling piece) - at) (drop at text) ≡ spelling piece → AllByRecursion (IsSpelled text) tokens → AllByRecursion (IsSpelled text) (with_token kind at (at + length (spelling piece)) tokens)
put_spelled text piece None at tokens right kind_is text_is more = more
put_spelled text piece (Some kind) at tokens right kind_is text_is more = (record { piece = piece; right = right; kind_is = kind_is; text_is = text_is }, more)

tokens-spelled : (text front : List ℕ) (pieces : List Piece) (rest : List ℕ) (at : ℕ) → text ≡ front ++ (spelled pieces ++ rest) → at ≡ length front → ArePieces pieces rest → AllByRecursion (IsSpelled text) (tokens_from at pieces)
tokens-spelled text front [] rest at parts here each = tt
tokens-spelled text front (piece ∷ pieces) rest at parts here each =
    let bytes = spelling piece in
    let behind = spelled pieces ++ rest in
    let first : text ≡ front ++ (bytes ++ behind) = parts ∙ ap (λ (xs : List ℕ). front ++ xs) (append_assoc bytes (spelled pieces) rest) in
    let further : text ≡ (front ++ bytes) ++ behind = first ∙ sym (append_assoc front bytes behind) in
    let more = tokens-spelled text (front ++ bytes) pieces rest (at + length bytes) further (omega (arith, here, length-append front bytes)) each.2 in
    put_spelled text piece (kind_of piece) at (tokens_from (at + length bytes) pieces) each.0 refl (token_text text front bytes behind at first here) more

pub HasTokens-spelled : (text : List ℕ) (tokens : List Token) → HasTokens text tokens → All (IsSpelled text) tokens
HasTokens-spelled text tokens h =
    let whole : text ≡ [] ++ (spelled h.pieces ++ []) = h.whole ∙ sym (append-nil (spelled h.pieces)) in
    All-from_recursion (IsSpelled text) tokens (rw h.kept (tokens-spelled text [] h.pieces [] 0 whole refl h.each))
