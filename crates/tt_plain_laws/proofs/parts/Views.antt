-- What is found of a session and a table in the tally, after changes of it.
use Rattle.std.specs.Prelude.{Bool, List, None, Option, Some, [], false, filter, find, nat_lt, refl, true, ℕ, ◌++◌, ◌+◌, ◌<◌, ◌==◌, ◌∷◌, ◌≡◌}
use Rattle.std.specs.Option.{option_or}
use Rattle.std.proofs.Common.{ap, arith, cond, inl, inr, sym, ◌∙◌}
use Rattle.std.proofs.lemmas.Bool.{cases_order, eq-eqb, eqb-true, false≢true}
use Rattle.std.proofs.lemmas.Bool.Decides.{nat_tests}
use Rattle.tt_plain.specs.declared.tally.TallyPin.{TallyPin}
use Rattle.tt_plain.specs.law.Lists.{Every}
use Rattle.tt_plain.specs.tally.Changes.{with_pins}

-- ---- filters and finds

pub filter-append : {A : Type 0} (test : A → Bool) (xs ys : List A) → filter test (xs ++ ys) ≡ filter test xs ++ filter test ys
filter-append test [] ys = refl
filter-append test (x ∷ xs) ys = by (test x) (filter-append test xs ys)
  where
    by : (b : Bool) → filter test (xs ++ ys) ≡ filter test xs ++ filter test ys → cond b (x ∷ filter test (xs ++ ys)) (filter test (xs ++ ys)) ≡ cond b (x ∷ filter test xs) (filter test xs) ++ filter test ys
    by true e = ap (λ zs. x ∷ zs) e
    by false e = e

-- a second test that holds wherever the first does, or nowhere where it does
pub filter_implied : {A : Type 0} (test keep : A → Bool) (xs : List A) → ((x : A) → test x ≡ true → keep x ≡ true) → filter test (filter keep xs) ≡ filter test xs
filter_implied test keep [] on = refl
filter_implied test keep (x ∷ xs) on = by (test x) refl (keep x) refl (filter_implied test keep xs on)
  where
    by : (t : Bool) → test x ≡ t → (k : Bool) → keep x ≡ k → filter test (filter keep xs) ≡ filter test xs → filter test (cond k (x ∷ filter keep xs) (filter keep xs)) ≡ cond t (x ∷ filter test xs) (filter test xs)
    by true e true f g = rw e (ap (λ zs. x ∷ zs) g)
    by true e false f g = absurd (false≢true (sym f ∙ on x e))
    by false e true f g = rw e g
    by false e false f g = g

pub filter_none : {A : Type 0} (test keep : A → Bool) (xs : List A) → ((x : A) → test x ≡ true → keep x ≡ false) → filter test (filter keep xs) ≡ []
filter_none test keep [] off = refl
filter_none test keep (x ∷ xs) off = by (test x) refl (keep x) refl (filter_none test keep xs off)
  where
    by : (t : Bool) → test x ≡ t → (k : Bool) → keep x ≡ k → filter test (filter keep xs) ≡ [] → filter test (cond k (x ∷ filter keep xs) (filter keep xs)) ≡ []
    by true e true f g = absurd (false≢true (sym (off x e) ∙ f))
    by true e false f g = g
    by false e true f g = rw e g
    by false e false f g = g

pub find-append : {A : Type 0} (test : A → Bool) (xs ys : List A) → find test (xs ++ ys) ≡ option_or (find test xs) (find test ys)
find-append test [] ys = refl
find-append test (x ∷ xs) ys = by (test x) (find-append test xs ys)
  where
    by : (b : Bool) → find test (xs ++ ys) ≡ option_or (find test xs) (find test ys) → cond b (Some x) (find test (xs ++ ys)) ≡ option_or (cond b (Some x) (find test xs)) (find test ys)
    by true e = refl
    by false e = e

pub find_implied : {A : Type 0} (test keep : A → Bool) (xs : List A) → ((x : A) → test x ≡ true → keep x ≡ true) → find test (filter keep xs) ≡ find test xs
find_implied test keep [] on = refl
find_implied test keep (x ∷ xs) on = by (test x) refl (keep x) refl (find_implied test keep xs on)
  where
    by : (t : Bool) → test x ≡ t → (k : Bool) → keep x ≡ k → find test (filter keep xs) ≡ find test xs → find test (cond k (x ∷ filter keep xs) (filter keep xs)) ≡ cond t (Some x) (find test xs)
    by true e true f g = rw e refl
    by true e false f g = absurd (false≢true (sym f ∙ on x e))
    by false e true f g = rw e g
    by false e false f g = g

pub find_none : {A : Type 0} (test keep : A → Bool) (xs : List A) → ((x : A) → test x ≡ true → keep x ≡ false) → find test (filter keep xs) ≡ None
find_none test keep [] off = refl
find_none test keep (x ∷ xs) off = by (test x) refl (keep x) refl (find_none test keep xs off)
  where
    by : (t : Bool) → test x ≡ t → (k : Bool) → keep x ≡ k → find test (filter keep xs) ≡ None → find test (cond k (x ∷ filter keep xs) (filter keep xs)) ≡ None
    by true e true f g = absurd (false≢true (sym (off x e) ∙ f))
    by true e false f g = g
    by false e true f g = rw e g
    by false e false f g = g

pub or_none : {A : Type 0} (o : Option A) → option_or o None ≡ o
or_none None = refl
or_none (Some x) = refl

less : (m n : ℕ) → m < n → nat_lt m n ≡ true
less m n h = grind (arith, nat_tests)

not_less : (m n : ℕ) → n < m + 1 → nat_lt m n ≡ false
not_less m n h = grind (arith, nat_tests)

not_same : (m n : ℕ) → (m ≡ n → ⊥) → (m == n) ≡ false
not_same m n h = grind (arith, nat_tests)

-- ---- pins

none_of_session : (session other : ℕ) (pins : List TallyPin) → (other ≡ session → ⊥) → Every (λ (pin : TallyPin). pin.session ≡ session) pins → filter (λ (pin : TallyPin). pin.session == other) pins ≡ []
none_of_session session other [] apart all = refl
none_of_session session other (pin ∷ pins) apart all = rw (not_same pin.session other (λ e. apart (sym e ∙ all.0))) (none_of_session session other pins apart all.1)

all_of_session : (session : ℕ) (pins : List TallyPin) → Every (λ (pin : TallyPin). pin.session ≡ session) pins → filter (λ (pin : TallyPin). pin.session == session) pins ≡ pins
all_of_session session [] all = refl
all_of_session session (pin ∷ pins) all = rw (eq-eqb pin.session session all.0) (ap (λ ps. pin ∷ ps) (all_of_session session pins all.1))

module _ (session : ℕ) (pins all : List TallyPin) (own : Every (λ (pin : TallyPin). pin.session ≡ session) pins) where
  abbrev of_session : ℕ → TallyPin → Bool
  of_session other pin = pin.session == other

  parted : (other : ℕ) → filter (of_session other) (with_pins session pins all)
      ≡ (filter (of_session other) (filter (λ (pin : TallyPin). nat_lt pin.session session) all) ++ filter (of_session other) pins) ++ filter (of_session other) (filter (λ (pin : TallyPin). nat_lt session pin.session) all)
  parted other =
      filter-append (of_session other) (filter (λ (pin : TallyPin). nat_lt pin.session session) all ++ pins) (filter (λ (pin : TallyPin). nat_lt session pin.session) all)
      ∙ ap (λ ps. ps ++ filter (of_session other) (filter (λ (pin : TallyPin). nat_lt session pin.session) all))
      (filter-append (of_session other) (filter (λ (pin : TallyPin). nat_lt pin.session session) all) pins)

  append_nil : (ps : List TallyPin) → ps ++ [] ≡ ps
  append_nil [] = refl
  append_nil (p ∷ ps) = ap (λ qs. p ∷ qs) (append_nil ps)

  -- the pins of another session stay
  pub pins_other : (other : ℕ) → (other ≡ session → ⊥) → filter (of_session other) (with_pins session pins all) ≡ filter (of_session other) all
  pins_other other apart = elim (cases_order other session) [
    | inl e ↦ absurd (apart e)
    | inr (inl below) ↦
        parted other
        ∙ rw (
          filter_implied (of_session other) (λ (pin : TallyPin). nat_lt pin.session session) all (λ pin e. less pin.session session (omega (arith, eqb-true pin.session other e, below))),
          none_of_session session other pins apart own,
          filter_none (of_session other) (λ (pin : TallyPin). nat_lt session pin.session) all (λ pin e. not_less session pin.session (omega (arith, eqb-true pin.session other e, below))),
        )
        (append_nil (filter (of_session other) all ++ []) ∙ append_nil (filter (of_session other) all))
    | inr (inr above) ↦
        parted other
        ∙ rw (
          filter_none (of_session other) (λ (pin : TallyPin). nat_lt pin.session session) all (λ pin e. not_less pin.session session (omega (arith, eqb-true pin.session other e, above))),
          none_of_session session other pins apart own,
          filter_implied (of_session other) (λ (pin : TallyPin). nat_lt session pin.session) all (λ pin e. less session pin.session (omega (arith, eqb-true pin.session other e, above))),
        )
        refl
  ]

  -- its own are those
  pub pins_own : filter (of_session session) (with_pins session pins all) ≡ pins
  pins_own =
      parted session
      ∙ rw (
        filter_none (of_session session) (λ (pin : TallyPin). nat_lt pin.session session) all (λ pin e. not_less pin.session session (omega (arith, eqb-true pin.session session e))),
        all_of_session session pins own,
        filter_none (of_session session) (λ (pin : TallyPin). nat_lt session pin.session) all (λ pin e. not_less session pin.session (omega (arith, eqb-true pin.session session e))),
      )
      (append_nil pins)
