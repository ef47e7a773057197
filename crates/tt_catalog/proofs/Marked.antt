-- A shared mark of a session that had none: it is the only one of the session, and the others have theirs.
use Rattle.std.specs.Prelude.{Bool, List, None, Some, [], cond, false, find, if◌then◌else◌, is_some, option_map, refl, true, ℕ, ◌&&◌, ◌==◌, ◌∷◌, ◌≡◌, ◌≢◌}
use Rattle.std.specs.Ordering.{match_ordering}
use Rattle.std.specs.declared.cmp.Ordering.TheVariants.{Equal, Greater, Less}
use Rattle.std.proofs.Common.{ap, sym, ◌∙◌}
use Rattle.std.proofs.lemmas.Bool.{and_from, ne_eqb}
use Rattle.tt_marks.proofs.Laws.{is_mark_of_tied, mark_parts}
use Rattle.tt_marks.specs.Changes.{marked, shared, with_mark}
use Rattle.tt_marks.specs.Marks.{is_mark_of, mark_cmp, marks_of}
use Rattle.tt_marks.specs.declared.mark.Mark.{Mark}
use Rattle.tt_plain.proofs.Tests.{same_test}

same_session : (m y : Mark) → mark_cmp m y ≡ Equal → m.session ≡ y.session
same_session m y e =
    (mark_parts y.session y.table m (is_mark_of_tied y.session y.table m y e ∙ and_from (y.session == y.session) (y.table == y.table) (same_test y.session) (same_test y.table))).0

-- ---- a mark in its place

not_of : (s other session : ℕ) → s ≡ session → session ≢ other → (s == other) ≡ false
not_of s other session is ne = ne_eqb s other (λ e. ne (sym is ∙ e))

others_keep : (session other : ℕ) (mark : Mark) (marks : List Mark) → mark.session ≡ session → session ≢ other → marks_of other (with_mark mark marks) ≡ marks_of other marks
others_keep session other mark [] is ne = ap (λ b. cond b (mark ∷ []) []) (not_of mark.session other session is ne)
others_keep session other mark (y ∷ ms) is ne =
    elim (mark_cmp mark y) as (λ r. mark_cmp mark y ≡ r → marks_of other (match_ordering r (mark ∷ y ∷ ms) (mark ∷ ms) (y ∷ with_mark mark ms)) ≡ marks_of other (y ∷ ms)) [
      | Less ↦ λ e. ap (λ b. cond b (mark ∷ marks_of other (y ∷ ms)) (marks_of other (y ∷ ms))) (not_of mark.session other session is ne)
      | Equal ↦ λ e.
          ap (λ b. cond b (mark ∷ marks_of other ms) (marks_of other ms)) (not_of mark.session other session is ne)
          ∙ sym (ap (λ b. cond b (y ∷ marks_of other ms) (marks_of other ms)) (not_of y.session other session (sym (same_session mark y e) ∙ is) ne))
      | Greater ↦ λ e. ap (λ xs. cond (y.session == other) (y ∷ xs) xs) (others_keep session other mark ms is ne)
    ] refl

-- no mark of the session is among them
none_here : (b : Bool) (y : Mark) (ms : List Mark) → cond b (y ∷ ms) ms ≡ [] → (b ≡ false) × (ms ≡ [])
none_here true y ms e = absurd cc
none_here false y ms e = (refl, e)

alone_now : (session : ℕ) (mark : Mark) (marks : List Mark) → mark.session ≡ session → marks_of session marks ≡ [] → marks_of session (with_mark mark marks) ≡ mark ∷ []
alone_now session mark [] is none = ap (λ b. cond b (mark ∷ []) []) (ap (λ s. s == session) is ∙ same_test session)
alone_now session mark (y ∷ ms) is none =
    let here = none_here (y.session == session) y (marks_of session ms) none in
    let own : (mark.session == session) ≡ true = ap (λ s. s == session) is ∙ same_test session in
    elim (mark_cmp mark y) as (λ r. mark_cmp mark y ≡ r → marks_of session (match_ordering r (mark ∷ y ∷ ms) (mark ∷ ms) (y ∷ with_mark mark ms)) ≡ mark ∷ []) [
      | Less ↦ λ e. ap (λ b. cond b (mark ∷ marks_of session (y ∷ ms)) (marks_of session (y ∷ ms))) own ∙ ap (λ xs. mark ∷ xs) none
      | Equal ↦ λ e. ap (λ b. cond b (mark ∷ marks_of session ms) (marks_of session ms)) own ∙ ap (λ xs. mark ∷ xs) here.1
      | Greater ↦ λ e. ap (λ b. cond b (y ∷ marks_of session (with_mark mark ms)) (marks_of session (with_mark mark ms))) here.0 ∙ alone_now session mark ms is here.1
    ] refl

-- ---- shared

unmarked : (session table : ℕ) (marks : List Mark) → marks_of session marks ≡ [] → find (is_mark_of session table) marks ≡ None
unmarked session table [] none = refl
unmarked session table (y ∷ ms) none =
    let here = none_here (y.session == session) y (marks_of session ms) none in
    ap (λ b. cond (b && y.table == table) (Some y) (find (is_mark_of session table) ms)) here.0 ∙ unmarked session table ms here.1

shared_is : (session table : ℕ) (marks : List Mark) → marks_of session marks ≡ [] → shared session table marks ≡ marked session table false marks
shared_is session table marks none =
    ap (λ o. if is_some (option_map (λ (mark : Mark). mark.exclusive) o) then marks else marked session table false marks) (unmarked session table marks none)

pub own_marked : (session table : ℕ) (exclusive : Bool) (marks : List Mark) → marks_of session marks ≡ [] → marks_of session (marked session table exclusive marks) ≡ record { session = session; table = table; exclusive = exclusive } ∷ []
own_marked session table exclusive marks none = alone_now session (record { session = session; table = table; exclusive = exclusive }) marks refl none

pub others_marked : (session table other : ℕ) (exclusive : Bool) (marks : List Mark) → other ≢ session → marks_of other (marked session table exclusive marks) ≡ marks_of other marks
others_marked session table other exclusive marks ne = others_keep session other (record { session = session; table = table; exclusive = exclusive }) marks refl (λ e. ne (sym e))

pub own_shared : (session table : ℕ) (marks : List Mark) → marks_of session marks ≡ [] → marks_of session (shared session table marks) ≡ record { session = session; table = table; exclusive = false } ∷ []
own_shared session table marks none =
    ap (marks_of session) (shared_is session table marks none) ∙ alone_now session (record { session = session; table = table; exclusive = false }) marks refl none

pub others_shared : (session table other : ℕ) (marks : List Mark) → marks_of session marks ≡ [] → other ≢ session → marks_of other (shared session table marks) ≡ marks_of other marks
others_shared session table other marks none ne =
    ap (marks_of other) (shared_is session table marks none)
    ∙ others_keep session other (record { session = session; table = table; exclusive = false }) marks refl (λ e. ne (sym e))
