-- What is found of a session and a table among lists, after some were put in their place or have ended.
use Rattle.std.specs.Option.{option_or}
use Rattle.std.specs.Prelude.{Bool, List, None, Some, false, filter, find, if◌then◌else◌, nat_lt, not, refl, true, ℕ, ◌++◌, ◌+◌, ◌<◌, ◌==◌, ◌∷◌, ◌≡◌}
use Rattle.std.proofs.Common.{ap, arith, cond, inl, inr, sym, ◌∙◌, ◌⊎◌}
use Rattle.std.proofs.lemmas.Bool.{and_parts, cases_order, eq-eqb, eqb-true, false≢true}
use Rattle.std.proofs.lemmas.Bool.Decides.{nat_tests}
use Rattle.tt_plain.specs.declared.store.PlainPending.{PlainPending}
use Rattle.tt_plain.specs.declared.tally.TallyPending.{TallyPending}
use Rattle.tt_plain.specs.effect.End.{with_pending}
use Rattle.tt_plain.specs.tally.Changes.{stands_before, with_lists}
use Rattle.tt_plain.specs.tally.Layouts.{is_pending_of}
use Rattle.tt_plain_laws.proofs.parts.Views.{find-append, find_implied, find_none, or_none}

abbrev All_pass : {A : Type 0} → (A → Bool) → (A → Bool) → Type 0
All_pass {A} test keep = (y : A) → test y ≡ true → keep y ≡ true

abbrev None_passes : {A : Type 0} → (A → Bool) → (A → Bool) → Type 0
None_passes {A} test keep = (y : A) → test y ≡ true → keep y ≡ false

placed_find : {A : Type 0} (test before behind : A → Bool) (x : A) (all : List A) → (test x ≡ true → None_passes test before)
    → (test x ≡ false → (All_pass test before × None_passes test behind) ⊎ (None_passes test before × All_pass test behind))
    → find test (filter before all ++ x ∷ filter behind all) ≡ (if test x then Some x else find test all)
placed_find test before behind x all same other = find-append test (filter before all) (x ∷ filter behind all) ∙ by (test x) refl
  where
    by : (b : Bool) → test x ≡ b → option_or (find test (filter before all)) (cond b (Some x) (find test (filter behind all))) ≡ (if b then Some x else find test all)
    by true e = ap (λ o. option_or o (Some x)) (find_none test before all (same e))
    by false e = elim (other e) [
      | inl h ↦ ap (λ o. option_or o (find test (filter behind all))) (find_implied test before all h.0) ∙ ap (option_or (find test all)) (find_none test behind all h.1) ∙ or_none (find test all)
      | inr h ↦ ap (λ o. option_or o (find test (filter behind all))) (find_none test before all h.0) ∙ find_implied test behind all h.1
    ]

less : (m n : ℕ) → m < n → nat_lt m n ≡ true
less m n h = grind (arith, nat_tests)

not_less : (m n : ℕ) → n < m + 1 → nat_lt m n ≡ false
not_less m n h = grind (arith, nat_tests)

not_same : (m n : ℕ) → (m ≡ n → ⊥) → (m == n) ≡ false
not_same m n h = grind (arith, nat_tests)

-- ---- lists of parts

pub key_of : (session table : ℕ) (l : TallyPending) → is_pending_of session table l ≡ true → (l.session ≡ session) × (l.table ≡ table)
key_of session table l e =
    let both = and_parts (l.session == session) (l.table == table) e in (eqb-true l.session session both.0, eqb-true l.table table both.1)

before_by_session : (a b : TallyPending) → a.session < b.session → stands_before a b ≡ true
before_by_session a b h = rw (less a.session b.session h) refl

before_by_table : (a b : TallyPending) → a.session ≡ b.session → a.table < b.table → stands_before a b ≡ true
before_by_table a b e h = rw (not_less a.session b.session (omega (arith, e)), eq-eqb a.session b.session e, less a.table b.table h) refl

not_by_session : (a b : TallyPending) → b.session < a.session → stands_before a b ≡ false
not_by_session a b h = rw (not_less a.session b.session (omega (arith, h)), not_same a.session b.session (λ e. absurd (omega (arith, e, h)))) refl

not_by_table : (a b : TallyPending) → a.session ≡ b.session → b.table < a.table + 1 → stands_before a b ≡ false
not_by_table a b e h = rw (not_less a.session b.session (omega (arith, e)), eq-eqb a.session b.session e, not_less a.table b.table h) refl

pub lists_kept : (l : TallyPending) (all : List TallyPending) (session table : ℕ) → find (is_pending_of session table) (with_lists l all) ≡ (if is_pending_of session table l then Some l else find (is_pending_of session table) all)
lists_kept l all session table =
    placed_find (is_pending_of session table) (λ other. stands_before other l) (λ other. stands_before l other) l all
    (λ e y f. let mine = key_of session table l e in let other = key_of session table y f in not_by_table y l (other.0 ∙ sym mine.0) (omega (arith, other.1, mine.1)))
    (λ e. elim (cases_order session l.session) [
      | inl same ↦ elim (cases_order table l.table) [
        | inl t ↦ absurd (false≢true (sym e ∙ rw (eq-eqb l.session session (sym same), eq-eqb l.table table (sym t)) refl))
        | inr (inl below) ↦ inl (
          (λ y f. let other = key_of session table y f in before_by_table y l (other.0 ∙ same) (omega (arith, other.1, below))),
          (λ y f. let other = key_of session table y f in not_by_table l y (sym (other.0 ∙ same)) (omega (arith, other.1, below))),
        )
        | inr (inr above) ↦ inr (
          (λ y f. let other = key_of session table y f in not_by_table y l (other.0 ∙ same) (omega (arith, other.1, above))),
          (λ y f. let other = key_of session table y f in before_by_table l y (sym (other.0 ∙ same)) (omega (arith, other.1, above))),
        )
      ]
      | inr (inl below) ↦ inl (
        (λ y f. let other = key_of session table y f in before_by_session y l (omega (arith, other.0, below))),
        (λ y f. let other = key_of session table y f in not_by_session l y (omega (arith, other.0, below))),
      )
      | inr (inr above) ↦ inr (
        (λ y f. let other = key_of session table y f in not_by_session y l (omega (arith, other.0, above))),
        (λ y f. let other = key_of session table y f in before_by_session l y (omega (arith, other.0, above))),
      )
    ])

-- a session's lists end, and those of others stay
pub lists_ended : (session table : ℕ) (all : List TallyPending) → find (is_pending_of session table) (filter (λ (l : TallyPending). not (l.session == session)) all) ≡ None
lists_ended session table all =
    find_none (is_pending_of session table) (λ (l : TallyPending). not (l.session == session)) all (λ l e. ap not (eq-eqb l.session session (key_of session table l e).0))

pub lists_other : (session other table : ℕ) (all : List TallyPending) → (other ≡ session → ⊥) → find (is_pending_of other table) (filter (λ (l : TallyPending). not (l.session == session)) all) ≡ find (is_pending_of other table) all
lists_other session other table all apart =
    find_implied (is_pending_of other table) (λ (l : TallyPending). not (l.session == session)) all
    (λ l e. ap not (not_same l.session session (λ f. apart (sym (key_of other table l e).0 ∙ f))))

-- ---- what is pending in rows

pub pending_kept : (p : PlainPending) (all : List PlainPending) (table : ℕ) → find (λ (q : PlainPending). q.table == table) (with_pending p all) ≡ (if p.table == table then Some p else find (λ (q : PlainPending). q.table == table) all)
pending_kept p all table =
    placed_find (λ (q : PlainPending). q.table == table) (λ (q : PlainPending). nat_lt q.table p.table) (λ (q : PlainPending). nat_lt p.table q.table) p all
    (λ e q f. not_less q.table p.table (omega (arith, eqb-true p.table table e, eqb-true q.table table f)))
    (λ e. elim (cases_order table p.table) [
      | inl same ↦ absurd (false≢true (sym e ∙ eq-eqb p.table table (sym same)))
      | inr (inl below) ↦ inl ((λ q f. less q.table p.table (omega (arith, eqb-true q.table table f, below))), (λ q f. not_less p.table q.table (omega (arith, eqb-true q.table table f, below))))
      | inr (inr above) ↦ inr ((λ q f. not_less q.table p.table (omega (arith, eqb-true q.table table f, above))), (λ q f. less p.table q.table (omega (arith, eqb-true q.table table f, above))))
    ])
