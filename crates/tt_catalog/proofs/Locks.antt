-- The session that has a table for itself: what is kept of the marks tells the same one as the sessions of the store.
use Rattle.std.specs.List.{enumerate_from, list_any}
use Rattle.std.specs.Prelude.{Bool, List, None, Option, Some, [], cond, false, filter, find, map, not, option_map, refl, slice_get, true, unwrap_or, ℕ, ◌&&◌, ◌+◌, ◌==◌, ◌||◌, ◌∷◌, ◌≡◌, ◌≢◌}
use Rattle.std.proofs.Common.{ap, arith, suc, sym, ◌∙◌}
use Rattle.std.proofs.lemmas.Bool.{and_parts, false≢true, ne_eqb}
use Rattle.std.proofs.lemmas.Option.{none-some, same_Some}
use Rattle.tt_marks.specs.Marks.{is_of_other, marks_of, marks_on, other_exclusive_holder}
use Rattle.tt_marks.specs.declared.mark.Mark.{Mark}
use Rattle.tt_plain.proofs.Tests.{same_number, same_test}
use Rattle.tt_plain.proofs.law.session.Marks.{others_free}
use Rattle.tt_plain.specs.declared.store.Plain.{Plain}
use Rattle.tt_plain.specs.declared.store.PlainMark.{PlainMark}
use Rattle.tt_plain.specs.declared.store.PlainSession.{PlainSession}
use Rattle.tt_plain.specs.law.Sound.{HaveOneHolder}
use Rattle.tt_plain.specs.refusal.{head_of}
use Rattle.tt_plain.specs.stored.Sessions.{has_exclusive_mark, new_session, others_with, session_at}
use Rattle.tt_state.specs.Keeps.{AreMarks, mark_of}

-- ---- among the sessions of the store

abbrev passing : (PlainSession → Bool) → ℕ → List PlainSession → List (ℕ × PlainSession)
passing test n sessions = filter (λ (found : ℕ × PlainSession). test found.1) (enumerate_from n sessions)

abbrev others_in : ℕ → List (ℕ × PlainSession) → List ℕ
others_in session found = filter (λ other. not (other == session)) (map (λ f. f.0) found)

abbrev others_from : (PlainSession → Bool) → ℕ → ℕ → List PlainSession → List ℕ
others_from test session n sessions = others_in session (passing test n sessions)

record IsOther (test : PlainSession → Bool) (session n : ℕ) (sessions : List PlainSession) (x : ℕ) : Type 0 where
  place : ℕ
  state : PlainSession
  at : slice_get sessions place ≡ Some state
  counted : x ≡ n + place
  passes : test state ≡ true
  other : x ≢ session

later_other : (test : PlainSession → Bool) (session n x : ℕ) (head : PlainSession) (sessions : List PlainSession) → IsOther test session (n + 1) sessions x → IsOther test session n (head ∷ sessions) x
later_other test session n x head sessions is = record {
  place = suc is.place;
  state = is.state;
  at = is.at;
  counted = omega (arith, is.counted);
  passes = is.passes;
  other = is.other;
}

found_other : (test : PlainSession → Bool) (session n : ℕ) (sessions : List PlainSession) (x : ℕ) → head_of (others_from test session n sessions) ≡ Some x → IsOther test session n sessions x
found_other test session n [] x e = absurd (none-some x e)
found_other test session n (head ∷ sessions) x e = by (test head) refl e (λ f. later_other test session n x head sessions (found_other test session (n + 1) sessions x f))
  where
    here : (b : Bool) → (n == session) ≡ b → test head ≡ true → head_of (cond (not b) (n ∷ others_from test session (n + 1) sessions) (others_from test session (n + 1) sessions)) ≡ Some x → (head_of (others_from test session (n + 1) sessions) ≡ Some x → IsOther test session n (head ∷ sessions) x) → IsOther test session n (head ∷ sessions) x
    here true is passes f behind = behind f
    here false is passes f behind = record {
      place = 0;
      state = head;
      at = refl;
      counted = omega (arith, same_Some n x f);
      passes = passes;
      other = λ g. absurd (false≢true (sym is ∙ ap (λ m. m == session) (same_Some n x f ∙ g) ∙ same_test session));
    }

    by : (b : Bool) → test head ≡ b → head_of (others_in session (cond b ((n, head) ∷ passing test (n + 1) sessions) (passing test (n + 1) sessions))) ≡ Some x
        → (head_of (others_from test session (n + 1) sessions) ≡ Some x → IsOther test session n (head ∷ sessions) x) → IsOther test session n (head ∷ sessions) x
    by true is f behind = here (n == session) refl is f behind
    by false is f behind = behind f

-- ---- among the marks that are kept

abbrev is_exclusive_at : ℕ → Mark → Bool
is_exclusive_at number mark = mark.table == number && mark.exclusive

abbrev takes_other : ℕ → Mark → Bool
takes_other session mark = mark.exclusive && is_of_other session mark

abbrev session_in : Mark → ℕ
session_in mark = mark.session

-- a mark that is found is one of its session's
abbrev IsMarkFound : ℕ → ℕ → ℕ → List Mark → Type 0
IsMarkFound session number y marks = (y ≢ session) × (list_any (is_exclusive_at number) (marks_of y marks) ≡ true)

or_true : (b : Bool) → (b || true) ≡ true
or_true true = refl
or_true false = refl

wider : (number : ℕ) (mark : Mark) (marks : List Mark) (b : Bool) → list_any (is_exclusive_at number) marks ≡ true → list_any (is_exclusive_at number) (cond b (mark ∷ marks) marks) ≡ true
wider number mark marks true f = ap (λ b. is_exclusive_at number mark || b) f ∙ or_true (is_exclusive_at number mark)
wider number mark marks false f = f

found_mark : (session number y : ℕ) (marks : List Mark) → option_map session_in (find (takes_other session) (marks_on number marks)) ≡ Some y → IsMarkFound session number y marks
found_mark session number y [] e = absurd (none-some y e)
found_mark session number y (mark ∷ marks) e =
    by (λ f. let behind = found_mark session number y marks f in (behind.0, wider number mark (marks_of y marks) (mark.session == y) behind.1)) (mark.table == number) refl e
  where
    here : (option_map session_in (find (takes_other session) (marks_on number marks)) ≡ Some y → IsMarkFound session number y (mark ∷ marks)) → (b : Bool) → takes_other session mark ≡ b → (mark.table == number) ≡ true
        → option_map session_in (cond b (Some mark) (find (takes_other session) (marks_on number marks))) ≡ Some y → IsMarkFound session number y (mark ∷ marks)
    here later true is table f =
        let both = and_parts mark.exclusive (not (mark.session == session)) is in
        let same : mark.session ≡ y = same_Some mark.session y f in (
          λ g. false≢true (sym (ap not (ap (λ m. m == session) (same ∙ g) ∙ same_test session)) ∙ both.1),
          ap (λ b. list_any (is_exclusive_at number) (cond b (mark ∷ marks_of y marks) (marks_of y marks))) (ap (λ m. m == y) same ∙ same_test y)
              ∙ ap (λ b. (b && mark.exclusive) || list_any (is_exclusive_at number) (marks_of y marks)) table
              ∙ ap (λ b. b || list_any (is_exclusive_at number) (marks_of y marks)) both.0,
        )
    here later false is table f = later f

    by : (option_map session_in (find (takes_other session) (marks_on number marks)) ≡ Some y → IsMarkFound session number y (mark ∷ marks)) → (b : Bool) → (mark.table == number) ≡ b
        → option_map session_in (find (takes_other session) (cond b (mark ∷ marks_on number marks) (marks_on number marks))) ≡ Some y → IsMarkFound session number y (mark ∷ marks)
    by later true is f = here later (takes_other session mark) refl is f
    by later false is f = later f

-- and where none is found no other session has one
no_some : {A : Type 0} (x : A) → Some x ≡ None → ⊥
no_some x e = none-some x (sym e)

found_none : (session number : ℕ) (mark : Mark) (marks : List Mark) (b : Bool) → takes_other session mark ≡ b → option_map session_in (cond b (Some mark) (find (takes_other session) marks)) ≡ None
    → (takes_other session mark ≡ false) × (option_map session_in (find (takes_other session) marks) ≡ None)
found_none session number mark marks true is f = absurd (no_some mark.session f)
found_none session number mark marks false is f = (is, f)

rest_none : (session number : ℕ) (mark : Mark) (marks : List Mark) (b : Bool) → option_map session_in (find (takes_other session) (cond b (mark ∷ marks) marks)) ≡ None → option_map session_in (find (takes_other session) marks) ≡ None
rest_none session number mark marks true f = (found_none session number mark marks (takes_other session mark) refl f).1
rest_none session number mark marks false f = f

no_mark : (session number y : ℕ) (marks : List Mark) → y ≢ session → list_any (is_exclusive_at number) (marks_of y marks) ≡ true
    → option_map session_in (find (takes_other session) (marks_on number marks)) ≡ None → ⊥
no_mark session number y [] ne some none = false≢true some
no_mark session number y (mark ∷ marks) ne some none =
    by (λ f. no_mark session number y marks ne f (rest_none session number mark (marks_on number marks) (mark.table == number) none)) (mark.session == y) refl some (mark.table == number) refl none
  where
    own : (list_any (is_exclusive_at number) (marks_of y marks) ≡ true → ⊥) → (x : Bool) → is_exclusive_at number mark ≡ x → (x || list_any (is_exclusive_at number) (marks_of y marks)) ≡ true → (mark.session == y) ≡ true
        → (b : Bool) → (mark.table == number) ≡ b → option_map session_in (find (takes_other session) (cond b (mark ∷ marks_on number marks) (marks_on number marks))) ≡ None → ⊥
    own behind true is f same true table g =
        let exclusive : mark.exclusive ≡ true = (and_parts (mark.table == number) mark.exclusive is).1 in
        let apart : not (mark.session == session) ≡ true = ap not (ne_eqb mark.session session (λ h. ne (sym (same_number mark.session y same) ∙ h))) in
        let taken : takes_other session mark ≡ true = ap (λ b. b && is_of_other session mark) exclusive ∙ apart in
        false≢true (sym (found_none session number mark (marks_on number marks) (takes_other session mark) refl g).0 ∙ taken)
    own behind true is f same false table g = false≢true (sym table ∙ (and_parts (mark.table == number) mark.exclusive is).0)
    own behind false is f same b table g = behind f

    by : (list_any (is_exclusive_at number) (marks_of y marks) ≡ true → ⊥) → (b : Bool) → (mark.session == y) ≡ b → list_any (is_exclusive_at number) (cond b (mark ∷ marks_of y marks) (marks_of y marks)) ≡ true
        → (t : Bool) → (mark.table == number) ≡ t → option_map session_in (find (takes_other session) (cond t (mark ∷ marks_on number marks) (marks_on number marks))) ≡ None → ⊥
    by behind true is f t table g = own behind (is_exclusive_at number mark) refl f is t table g
    by behind false is f t table g = behind f

-- ---- both are one

same_any : (number session : ℕ) (marks : List PlainMark) → list_any (is_exclusive_at number) (map (mark_of session) marks) ≡ list_any (λ (mark : PlainMark). mark.table == number && mark.exclusive) marks
same_any number session [] = refl
same_any number session (mark ∷ marks) = ap (λ b. (mark.table == number && mark.exclusive) || b) (same_any number session marks)

module _ (store : Plain) (marks : List Mark) (session number : ℕ) (are : AreMarks store marks) (one : HaveOneHolder store.sessions number) where
  -- a session with a mark is there
  there : (y : ℕ) → has_exclusive_mark number (session_at store y) ≡ true → slice_get store.sessions y ≡ Some (session_at store y)
  there y e = by (slice_get store.sessions y) refl e
    where
      by : (o : Option PlainSession) → slice_get store.sessions y ≡ o → has_exclusive_mark number (unwrap_or o new_session) ≡ true → slice_get store.sessions y ≡ Some (session_at store y)
      by None is f = absurd (false≢true f)
      by (Some state) is f = is ∙ ap (λ (s : PlainSession). Some s) (sym (ap (λ (o : Option PlainSession). unwrap_or o new_session) is))

  kept_any : (y : ℕ) → list_any (is_exclusive_at number) (marks_of y marks) ≡ has_exclusive_mark number (session_at store y)
  kept_any y = ap (list_any (is_exclusive_at number)) (are y) ∙ same_any number y (session_at store y).marks

  pub holder_tied : head_of (others_with (has_exclusive_mark number) store session) ≡ other_exclusive_holder session number marks
  holder_tied = by (head_of (others_with (has_exclusive_mark number) store session)) refl (other_exclusive_holder session number marks) refl
    where
      by : (a : Option ℕ) → head_of (others_with (has_exclusive_mark number) store session) ≡ a → (b : Option ℕ) → other_exclusive_holder session number marks ≡ b
          → head_of (others_with (has_exclusive_mark number) store session) ≡ other_exclusive_holder session number marks
      by None left None right = left ∙ sym right
      by (Some x) left None right =
          let is = found_other (has_exclusive_mark number) session 0 store.sessions x left in
          let same : x ≡ is.place = omega (arith, is.counted) in
          let at : slice_get store.sessions x ≡ Some is.state = ap (slice_get store.sessions) same ∙ is.at in
          let state : session_at store x ≡ is.state = ap (λ (o : Option PlainSession). unwrap_or o new_session) at in
          absurd (no_mark session number x marks is.other (kept_any x ∙ ap (has_exclusive_mark number) state ∙ is.passes) right)
      by None left (Some y) right =
          let is = found_mark session number y marks right in
          let held : has_exclusive_mark number (session_at store y) ≡ true = sym (kept_any y) ∙ is.1 in
          absurd (is.0 (others_free (has_exclusive_mark number) store session y (session_at store y) (no_head (others_with (has_exclusive_mark number) store session) left) (there y held) held))
        where
          no_head : (xs : List ℕ) → head_of xs ≡ None → xs ≡ []
          no_head [] e = refl
          no_head (x ∷ xs) e = absurd (none-some x (sym e))
      by (Some x) left (Some y) right =
          let first = found_other (has_exclusive_mark number) session 0 store.sessions x left in
          let second = found_mark session number y marks right in
          let held : has_exclusive_mark number (session_at store y) ≡ true = sym (kept_any y) ∙ second.1 in
          let same : x ≡ first.place = omega (arith, first.counted) in
          let at : slice_get store.sessions x ≡ Some first.state = ap (slice_get store.sessions) same ∙ first.at in
          left ∙ ap Some (one x y first.state (session_at store y) at (there y held) first.passes held) ∙ sym right
