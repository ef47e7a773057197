-- Pieces are divided off the front of a text one after another.
use Rattle.std.proofs.Common.{◌≡◌, ℕ, ◌+◌, ◌<◌, List, [], ◌∷◌, ◌++◌, length, drop, Option, Some, None, refl, sym, ap, subst, ◌∙◌, append_assoc, add-zero, zero-add, arith}
use Rattle.std.proofs.lemmas.List.{append-nil, length-append, drop_at}
use Rattle.std.proofs.lemmas.List.Concat.{flat_map-append}
use Rattle.tt_lex.specs.declared.Token.{Token}
use Rattle.tt_lex.specs.declared.TokenKind.{TokenKind}
use Rattle.tt_lex.specs.declared.LexFault.{LexFault}
use Rattle.tt_lex.specs.declared.scan.Front.{Front}
use Rattle.tt_lex.specs.Lexis.{Piece, spelling, spelled, IsPiece, EndsBefore, ArePieces, kind_of, with_token, tokens_from, HasTokens, HasFault, IsFault}
use Rattle.tt_lex.specs.Scanning.{Takes}
use Rattle.tt_lex.specs.answer.Fronts.{spelling_some}

-- these bytes of the text are pieces, with these tokens among them, and the rest is left
pub record HasRead (text rest : List ℕ) (at : ℕ) (tokens : List Token) : Type 0 where
  pub pieces : List Piece
  pub whole : text ≡ spelled pieces ++ rest
  pub each : ArePieces pieces rest
  pub kept : tokens ≡ tokens_from 0 pieces
  pub here : at ≡ length (spelled pieces)

pub at_start : (text : List ℕ) → HasRead text text 0 []
at_start text = record { pieces = []; whole = refl; each = tt; kept = refl; here = refl }

spelled-push : (pieces : List Piece) (piece : Piece) → spelled (pieces ++ piece ∷ []) ≡ spelled pieces ++ spelling piece
spelled-push pieces piece = flat_map-append spelling pieces (piece ∷ []) ∙ ap (λ (xs : List ℕ). spelled pieces ++ xs) (append-nil (spelling piece))

ArePieces-push : (pieces : List Piece) (piece : Piece) (rest behind : List ℕ) → rest ≡ spelling piece ++ behind → ArePieces pieces rest → IsPiece piece → EndsBefore piece behind → ArePieces (pieces ++ piece ∷ []) behind
ArePieces-push [] piece rest behind e each right ends = (right, ends, tt)
ArePieces-push (first ∷ pieces) piece rest behind e each right ends =
    let moved : spelled pieces ++ rest ≡ spelled (pieces ++ piece ∷ []) ++ behind = ap (λ (xs : List ℕ). spelled pieces ++ xs) e ∙ sym (append_assoc (spelled pieces) (spelling piece) behind) ∙ ap (λ (xs : List ℕ). xs ++ behind) (sym (spelled-push pieces piece)) in
    (each.0, subst (EndsBefore first) moved each.1, ArePieces-push pieces piece rest behind e each.2 right ends)

-- the tokens of one more piece come last
with_token-append : (kind : Option TokenKind) (start end' : ℕ) (xs ys : List Token) → with_token kind start end' (xs ++ ys) ≡ with_token kind start end' xs ++ ys
with_token-append None start end' xs ys = refl
with_token-append (Some kind) start end' xs ys = refl

tokens_from-push : (at : ℕ) (pieces : List Piece) (piece : Piece) → tokens_from at (pieces ++ piece ∷ []) ≡ tokens_from at pieces ++ with_token (kind_of piece) (at + length (spelled pieces)) (at + length (spelled pieces) + length (spelling piece)) []
tokens_from-push at [] piece = rw add-zero refl
tokens_from-push at (first ∷ pieces) piece =
    let next = at + length (spelling first) in
    let count : at + length (spelled (first ∷ pieces)) ≡ next + length (spelled pieces) = omega (arith, length-append (spelling first) (spelled pieces)) in
    rw (tokens_from-push next pieces piece, count) (with_token-append (kind_of first) at next (tokens_from next pieces) _)

pub one_more : (text rest : List ℕ) (at : ℕ) (tokens : List Token) (front : Front) → HasRead text rest at tokens → Takes rest front
    → HasRead text (drop front.length rest) (at + front.length) (tokens ++ with_token front.kind at (at + front.length) [])
one_more text rest at tokens front so_far taken =
    let piece = taken.piece in
    let behind_is : drop front.length rest ≡ taken.behind = ap (drop front.length) taken.parts ∙ drop_at (spelling piece) taken.behind front.length (sym taken.length_is) in
    let bytes_is = spelled-push so_far.pieces piece in
    rw behind_is (record {
      pieces = so_far.pieces ++ piece ∷ [];
      whole = so_far.whole ∙ ap (λ (xs : List ℕ). spelled so_far.pieces ++ xs) taken.parts ∙ sym (append_assoc (spelled so_far.pieces) (spelling piece) taken.behind) ∙ ap (λ (xs : List ℕ). xs ++ taken.behind) (sym bytes_is);
      each = ArePieces-push so_far.pieces piece rest taken.behind taken.parts so_far.each taken.right taken.ends;
      kept = rw (tokens_from-push 0 so_far.pieces piece, zero-add, ← so_far.kept, taken.kind_is, taken.length_is, so_far.here) refl;
      here = omega (arith, so_far.here, taken.length_is, ap length bytes_is, length-append (spelled so_far.pieces) (spelling piece));
    })

pub takes_some : (rest : List ℕ) (front : Front) → Takes rest front → 0 < front.length
takes_some rest front taken = omega (arith, taken.length_is, spelling_some taken.piece taken.right)

pub at_end : (text rest : List ℕ) (at : ℕ) (tokens : List Token) → HasRead text rest at tokens → rest ≡ [] → HasTokens text tokens
at_end text rest at tokens so_far ended =
    record {
      pieces = so_far.pieces;
      whole = so_far.whole ∙ ap (λ (xs : List ℕ). spelled so_far.pieces ++ xs) ended ∙ append-nil (spelled so_far.pieces);
      each = subst (ArePieces so_far.pieces) ended so_far.each;
      kept = so_far.kept;
    }

pub at_fault : (text rest : List ℕ) (at : ℕ) (tokens : List Token) (fault : LexFault) → HasRead text rest at tokens → IsFault fault at rest → HasFault text fault
at_fault text rest at tokens fault so_far here =
    record {
      pieces = so_far.pieces;
      rest = rest;
      whole = so_far.whole;
      each = so_far.each;
      here = subst (λ (n : ℕ). IsFault fault n rest) so_far.here here;
    }
