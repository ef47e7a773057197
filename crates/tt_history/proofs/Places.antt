-- The places of a session's entries, one entry after the other.
use Rattle.std.proofs.Common.{◌≡◌, ℕ, suc, ◌+◌, ◌<◌, ◌≤◌, true, false, List, [], ◌∷◌, ◌++◌, length, drop, drop-cons, get_or, refl, sym, ap, ◌∙◌, append_assoc, arith}
use Rattle.std.proofs.lemmas.Grind.{common_steps}
use Rattle.std.proofs.lemmas.List.{append-nil}
use Rattle.tt_history.specs.declared.history.Entry.{Entry}
use Rattle.tt_history.specs.Projection.{is_session, places_from}

-- ---- a session's places

entry_and_others : (entries : List Entry) (place : ℕ) (d : Entry) → place < length entries → drop place entries ≡ get_or entries place d ∷ drop (place + 1) entries
entry_and_others entries place d within =
    let next : suc place ≡ place + 1 = omega arith in
    drop-cons entries place d within ∙ ap (λ (k : ℕ). get_or entries place d ∷ drop k entries) next

pub place_is_kept : (session : ℕ) (entries : List Entry) (place : ℕ) (d : Entry) (front total : List ℕ) → place < length entries → is_session session (get_or entries place d).actor ≡ true
    → front ++ places_from session place (drop place entries) ≡ total → (front ++ place ∷ []) ++ places_from session (place + 1) (drop (place + 1) entries) ≡ total
place_is_kept session entries place d front total within own so_far = append_assoc front (place ∷ []) (places_from session (place + 1) (drop (place + 1) entries)) ∙ sym (rw (entry_and_others entries place d within, own) refl) ∙ so_far

pub place_is_skipped : (session : ℕ) (entries : List Entry) (place : ℕ) (d : Entry) (front total : List ℕ) → place < length entries → is_session session (get_or entries place d).actor ≡ false
    → front ++ places_from session place (drop place entries) ≡ total → front ++ places_from session (place + 1) (drop (place + 1) entries) ≡ total
place_is_skipped session entries place d front total within other so_far = sym (rw (entry_and_others entries place d within, other) refl) ∙ so_far

nothing_left : (entries : List Entry) (place : ℕ) → length entries ≤ place → drop place entries ≡ []
nothing_left entries place h = grind (arith, common_steps)

pub places_end : (session : ℕ) (entries : List Entry) (place : ℕ) (front total : List ℕ) → length entries ≤ place → front ++ places_from session place (drop place entries) ≡ total → front ≡ total
places_end session entries place front total past so_far = sym (append-nil front) ∙ sym (rw (nothing_left entries place past) refl) ∙ so_far
