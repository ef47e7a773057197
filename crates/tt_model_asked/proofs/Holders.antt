-- The first session that stands in the way.
use Rattle.std.proofs.Common.{◌≡◌, ℕ, ◌+◌, ◌<◌, ◌≤◌, Bool, true, false, cond, List, ◌∷◌, length, drop, get_or, Option, Some, None, refl, ap, sym, ◌∙◌}
use Rattle.std.specs.Prelude.{◌==◌, ◌&&◌, not}
use Rattle.std.proofs.lemmas.List.{drop_all}
use Rattle.tt_plain.specs.declared.store.PlainSession.{PlainSession}
use Rattle.tt_plain.specs.refusal.{head_of}
use Rattle.tt_model_asked.specs.MarkAs.{stands_in_way, holders_among}
use Rattle.tt_typer.proofs.Leftmost.{from_item}

abbrev first_among : Bool → (table session first : ℕ) → List PlainSession → Option ℕ
first_among exclusive table session first states = head_of (holders_among exclusive table session first states)

step : (exclusive : Bool) (table session first : ℕ) (state : PlainSession) (states : List PlainSession) (own marked : Bool) → (first == session) ≡ own → stands_in_way exclusive table state ≡ marked
    → first_among exclusive table session first (state ∷ states) ≡ cond (not own && marked) (Some first) (first_among exclusive table session (first + 1) states)
step exclusive table session first state states own false o m = rw m (same own)
  where
    same : (own : Bool) → first_among exclusive table session (first + 1) states ≡ cond (not own && false) (Some first) (first_among exclusive table session (first + 1) states)
    same true = refl
    same false = refl
step exclusive table session first state states true true o m = rw (m, o) refl
step exclusive table session first state states false true o m = rw (m, o) refl

abbrev pub HasFirst : Bool → (table session : ℕ) → List PlainSession → ℕ → Type 0
HasFirst exclusive table session states place =
    first_among exclusive table session place (drop place states) ≡ first_among exclusive table session 0 states

at_place : (exclusive : Bool) (table session : ℕ) (states : List PlainSession) (place : ℕ) (state : PlainSession) (own marked : Bool) → place < length states → state ≡ get_or states place state → (place == session) ≡ own → stands_in_way exclusive table state ≡ marked
    → HasFirst exclusive table session states place
    → cond (not own && marked) (Some place) (first_among exclusive table session (place + 1) (drop (place + 1) states)) ≡ first_among exclusive table session 0 states
at_place exclusive table session states place state own marked below is o m so_far =
    sym (step exclusive table session place state (drop (place + 1) states) own marked o m)
    ∙ ap (first_among exclusive table session place) (sym (from_item states place state below is))
    ∙ so_far

pub found : (exclusive : Bool) (table session : ℕ) (states : List PlainSession) (place : ℕ) (state : PlainSession) → place < length states → state ≡ get_or states place state → (place == session) ≡ false → stands_in_way exclusive table state ≡ true
    → HasFirst exclusive table session states place → Some place ≡ first_among exclusive table session 0 states
found exclusive table session states place state below is o m so_far = at_place exclusive table session states place state false true below is o m so_far

pub passed : (exclusive : Bool) (table session : ℕ) (states : List PlainSession) (place : ℕ) (state : PlainSession) (own marked : Bool) → place < length states → state ≡ get_or states place state → (place == session) ≡ own → stands_in_way exclusive table state ≡ marked
    → (not own && marked) ≡ false → HasFirst exclusive table session states place → HasFirst exclusive table session states (place + 1)
passed exclusive table session states place state own marked below is o m pass so_far =
    ap (λ b. cond b (Some place) (first_among exclusive table session (place + 1) (drop (place + 1) states))) (sym pass)
    ∙ at_place exclusive table session states place state own marked below is o m so_far

pub ended : (exclusive : Bool) (table session : ℕ) (states : List PlainSession) (place : ℕ) → length states ≤ place → HasFirst exclusive table session states place → None ≡ first_among exclusive table session 0 states
ended exclusive table session states place past so_far = ap (first_among exclusive table session place) (sym (drop_all place states past)) ∙ so_far
