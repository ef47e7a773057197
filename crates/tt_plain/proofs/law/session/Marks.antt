-- A mark that is put: the list ascends, keeps what was there, and adds no second holder.
use Rattle.std.specs.List.{enumerate_from, list_any}
use Rattle.std.specs.Prelude.{Bool, List, Some, [], false, filter, map, nat_lt, not, refl, slice_get, true, ℕ, ◌++◌, ◌+◌, ◌<◌, ◌==◌, ◌||◌, ◌∷◌, ◌≡◌}
use Rattle.std.proofs.Common.{ap, arith, cond, inl, inr, subst, suc, sym, zero, ◌∙◌, ◌⊎◌}
use Rattle.std.proofs.Math.Bool.{or-true}
use Rattle.std.proofs.lemmas.Bool.{and_parts, eq-eqb, false≢true, ltb-false, ltb-true, or_cases}
use Rattle.std.proofs.lemmas.List.Folds.{list_any-append}
use Rattle.std.proofs.lemmas.Option.{none-some, same_Some}
use Rattle.tt_plain.proofs.Tests.{same_number}
use Rattle.tt_plain.proofs.law.Lists.{any_at, any_filtered, any_of_filter, every-append, every-filter, every_from, every_kept, every_on, two-append, two-filter}
use Rattle.tt_plain.specs.declared.store.Plain.{Plain}
use Rattle.tt_plain.specs.declared.store.PlainMark.{PlainMark}
use Rattle.tt_plain.specs.declared.store.PlainSession.{PlainSession}
use Rattle.tt_plain.specs.law.Lists.{Every}
use Rattle.tt_plain.specs.law.Sound.{AreKept, AscendBy, is_kept_by}
use Rattle.tt_plain.specs.opening.Marks.{is_exclusive_on, with_mark}
use Rattle.tt_plain.specs.stored.Sessions.{others_with}

abbrev Below : PlainMark → PlainMark → Type 0
Below a b = a.table < b.table

abbrev new_mark : ℕ → Bool → List PlainMark → PlainMark
new_mark table exclusive marks = record { table = table; exclusive = exclusive || list_any (is_exclusive_on table) marks }

abbrev before_it : ℕ → List PlainMark → List PlainMark
before_it table marks = filter (λ (mark : PlainMark). nat_lt mark.table table) marks

abbrev behind_it : ℕ → List PlainMark → List PlainMark
behind_it table marks = filter (λ (mark : PlainMark). nat_lt table mark.table) marks

pub marks_put : (table : ℕ) (exclusive : Bool) (marks : List PlainMark) → AscendBy (λ (mark : PlainMark). mark.table) marks → AscendBy (λ (mark : PlainMark). mark.table) (with_mark table exclusive marks)
marks_put table exclusive marks two =
    let above : Every (λ (mark : PlainMark). nat_lt table mark.table ≡ true) (behind_it table marks) = every_kept (λ (mark : PlainMark). nat_lt table mark.table) marks in
    two-append Below (before_it table marks) (new_mark table exclusive marks ∷ behind_it table marks) (two-filter Below (λ (mark : PlainMark). nat_lt mark.table table) marks two) (
      every_on (λ (mark : PlainMark). nat_lt table mark.table ≡ true) (λ (mark : PlainMark). table < mark.table) (behind_it table marks) (λ mark h. ltb-true table mark.table h) above,
      two-filter Below (λ (mark : PlainMark). nat_lt table mark.table) marks two,
    )
    (every_on (λ (mark : PlainMark). nat_lt mark.table table ≡ true) (λ (mark : PlainMark). Every (Below mark) (new_mark table exclusive marks ∷ behind_it table marks)) (before_it table marks)
    (λ mark below. (
      ltb-true mark.table table below,
      every_on (λ (other : PlainMark). nat_lt table other.table ≡ true) (Below mark) (behind_it table marks)
          (λ other h. omega (arith, ltb-true mark.table table below, ltb-true table other.table h)) above,
    ))
    (every_kept (λ (mark : PlainMark). nat_lt mark.table table) marks))

pub marked_put : (P : PlainMark → Type 0) (table : ℕ) (exclusive : Bool) (marks : List PlainMark) → Every P marks → P (new_mark table exclusive marks) → Every P (with_mark table exclusive marks)
marked_put P table exclusive marks all here =
    every-append P (before_it table marks) (new_mark table exclusive marks ∷ behind_it table marks) (every-filter P (λ (mark : PlainMark). nat_lt mark.table table) marks all)
    (here, every-filter P (λ (mark : PlainMark). nat_lt table mark.table) marks all)

-- ---- what was there is kept

kept_itself : (mark : PlainMark) → is_kept_by mark mark ≡ true
kept_itself mark = rw (eq-eqb mark.table mark.table refl) (either mark.exclusive)
  where
    either : (b : Bool) → (b || not b) ≡ true
    either true = refl
    either false = refl

pub all_kept : (marks : List PlainMark) → AreKept marks marks
all_kept marks = every_from (λ (mark : PlainMark). list_any (is_kept_by mark) marks ≡ true) marks (λ place mark at. any_at (is_kept_by mark) marks place mark at (kept_itself mark))

any_either : (test : PlainMark → Bool) (xs ys : List PlainMark) → (list_any test xs ≡ true) ⊎ (list_any test ys ≡ true) → list_any test (xs ++ ys) ≡ true
any_either test xs ys (inl h) = list_any-append test xs ys ∙ rw h refl
any_either test xs ys (inr h) = list_any-append test xs ys ∙ rw h (or-true (list_any test xs))

new_keeps : (table : ℕ) (exclusive : Bool) (marks : List PlainMark) (place : ℕ) (mark : PlainMark) → slice_get marks place ≡ Some mark → mark.table ≡ table → is_kept_by mark (new_mark table exclusive marks) ≡ true
new_keeps table exclusive marks place mark at same = rw (eq-eqb table mark.table (sym same)) (strong mark.exclusive refl)
  where
    strong : (b : Bool) → mark.exclusive ≡ b → ((exclusive || list_any (is_exclusive_on table) marks) || not b) ≡ true
    strong true e =
        let held : list_any (is_exclusive_on table) marks ≡ true = any_at (is_exclusive_on table) marks place mark at (rw (eq-eqb mark.table table same, e) refl) in
        rw held (rw (or-true exclusive) refl)
    strong false e = or-true (exclusive || list_any (is_exclusive_on table) marks)

pub kept_put : (table : ℕ) (exclusive : Bool) (marks : List PlainMark) → AreKept marks (with_mark table exclusive marks)
kept_put table exclusive marks =
    every_from (λ (mark : PlainMark). list_any (is_kept_by mark) (with_mark table exclusive marks) ≡ true) marks (λ place mark at.
    any_either (is_kept_by mark) (before_it table marks) (new_mark table exclusive marks ∷ behind_it table marks) (where_it_is place mark at))
  where
    where_it_is : (place : ℕ) (mark : PlainMark) → slice_get marks place ≡ Some mark
        → (list_any (is_kept_by mark) (before_it table marks) ≡ true) ⊎ (list_any (is_kept_by mark) (new_mark table exclusive marks ∷ behind_it table marks) ≡ true)
    where_it_is place mark at = by (nat_lt mark.table table) refl (nat_lt table mark.table) refl
      where
        by : (b : Bool) → nat_lt mark.table table ≡ b → (d : Bool) → nat_lt table mark.table ≡ d
            → (list_any (is_kept_by mark) (before_it table marks) ≡ true) ⊎ (list_any (is_kept_by mark) (new_mark table exclusive marks ∷ behind_it table marks) ≡ true)
        by true e d f = inl (any_filtered (is_kept_by mark) (λ (m : PlainMark). nat_lt m.table table) marks place mark at e (kept_itself mark))
        by false e true f = inr (rw (any_filtered (is_kept_by mark) (λ (m : PlainMark). nat_lt table m.table) marks place mark at f (kept_itself mark)) (or-true (is_kept_by mark (new_mark table exclusive marks))))
        by false e false f = inr (rw (new_keeps table exclusive marks place mark at (omega (arith, ltb-false mark.table table e, ltb-false table mark.table f))) refl)

-- ---- an exclusive mark was there, or is the new one

pub exclusive_put : (table : ℕ) (exclusive : Bool) (marks : List PlainMark) (t : ℕ) → list_any (is_exclusive_on t) (with_mark table exclusive marks) ≡ true
    → (list_any (is_exclusive_on t) marks ≡ true) ⊎ ((t ≡ table) × (exclusive ≡ true))
exclusive_put table exclusive marks t e =
    elim (or_cases (list_any (is_exclusive_on t) (before_it table marks)) (list_any (is_exclusive_on t) (new_mark table exclusive marks ∷ behind_it table marks))
    (sym (list_any-append (is_exclusive_on t) (before_it table marks) (new_mark table exclusive marks ∷ behind_it table marks)) ∙ e)) [
      | inl h ↦ inl (any_of_filter (is_exclusive_on t) (λ (mark : PlainMark). nat_lt mark.table table) marks h)
      | inr h ↦ elim (or_cases (is_exclusive_on t (new_mark table exclusive marks)) (list_any (is_exclusive_on t) (behind_it table marks)) h) [
        | inl k ↦
            let both = and_parts (table == t) (exclusive || list_any (is_exclusive_on table) marks) k in
            elim (or_cases exclusive (list_any (is_exclusive_on table) marks) both.1) [
              | inl x ↦ inr (sym (same_number table t both.0), x)
              | inr x ↦ inl (subst (λ (n : ℕ). list_any (is_exclusive_on n) marks ≡ true) (same_number table t both.0) x)
            ]
        | inr k ↦ inl (any_of_filter (is_exclusive_on t) (λ (mark : PlainMark). nat_lt table mark.table) marks k)
      ]
    ]

-- ---- no other session has a mark

abbrev others_from : (PlainSession → Bool) → ℕ → ℕ → List PlainSession → List ℕ
others_from test session n sessions =
    filter (λ other. not (other == session)) (map (λ found. found.0) (filter (λ (found : ℕ × PlainSession). test found.1) (enumerate_from n sessions)))

no_rest : (test : PlainSession → Bool) (b : Bool) (session n : ℕ) (head : PlainSession) (rest : List (ℕ × PlainSession))
    → filter (λ other. not (other == session)) (map (λ found. found.0) (cond b ((n, head) ∷ rest) rest)) ≡ [] → filter (λ other. not (other == session)) (map (λ found. found.0) rest) ≡ []
no_rest test true session n head rest e = by (not (n == session)) e
  where
    by : (b : Bool) → cond b (n ∷ filter (λ other. not (other == session)) (map (λ found. found.0) rest)) (filter (λ other. not (other == session)) (map (λ found. found.0) rest)) ≡ [] → filter (λ other. not (other == session)) (map (λ found. found.0) rest) ≡ []
    by true f = absurd cc
    by false f = f
no_rest test false session n head rest e = e

head_only : (b : Bool) (session n : ℕ) (head : PlainSession) (rest : List (ℕ × PlainSession)) → b ≡ true
    → filter (λ other. not (other == session)) (map (λ found. found.0) (cond b ((n, head) ∷ rest) rest)) ≡ [] → n ≡ session
head_only true session n head rest is e = by (n == session) refl e
  where
    by : (b : Bool) → (n == session) ≡ b → cond (not b) (n ∷ filter (λ other. not (other == session)) (map (λ found. found.0) rest)) (filter (λ other. not (other == session)) (map (λ found. found.0) rest)) ≡ [] → n ≡ session
    by true f g = same_number n session f
    by false f g = absurd cc
head_only false session n head rest is e = absurd (false≢true is)

none_of_others : (test : PlainSession → Bool) (session n k : ℕ) (sessions : List PlainSession) (state : PlainSession) → others_from test session n sessions ≡ [] → slice_get sessions k ≡ Some state → test state ≡ true → n + k ≡ session
none_of_others test session n k [] state none at e = absurd (none-some state at)
none_of_others test session n zero (head ∷ sessions) state none at e =
    omega (arith, head_only (test head) session n head (filter (λ (found : ℕ × PlainSession). test found.1) (enumerate_from (n + 1) sessions)) (ap test (same_Some head state at) ∙ e) none)
none_of_others test session n (suc k) (head ∷ sessions) state none at e =
    omega (arith, none_of_others test session (n + 1) k sessions state (no_rest test (test head) session n head (filter (λ (found : ℕ × PlainSession). test found.1) (enumerate_from (n + 1) sessions)) none) at e)

pub others_free : (test : PlainSession → Bool) (store : Plain) (session other : ℕ) (state : PlainSession) → others_with test store session ≡ [] → slice_get store.sessions other ≡ Some state → test state ≡ true → other ≡ session
others_free test store session other state none at e = omega (arith, none_of_others test session 0 other store.sessions state none at e)
