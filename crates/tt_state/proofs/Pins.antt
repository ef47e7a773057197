-- Pins and marks by sessions: what one session puts in place of its own leaves those of the others.
use Rattle.std.specs.Prelude.{Bool, List, [], false, filter, nat_lt, not, refl, true, ℕ, ◌++◌, ◌<◌, ◌==◌, ◌∷◌, ◌≡◌, ◌≢◌, ◌≤◌}
use Rattle.std.proofs.Common.{ap, arith, sym, ◌∙◌}
use Rattle.std.proofs.lemmas.Bool.{false≢true, le-ltb, lt-ltb, ltb-false, ltb-true, ne_eqb}
use Rattle.std.proofs.lemmas.List.Elements.{filter-append}
use Rattle.tt_plain.proofs.Tests.{same_number, same_test}
use Rattle.tt_plain.specs.declared.tally.Tally.{Tally}
use Rattle.tt_plain.specs.declared.tally.TallyPin.{TallyPin}
use Rattle.tt_plain.specs.law.Lists.{Every}
use Rattle.tt_plain.specs.tally.Changes.{with_pins}
use Rattle.tt_state.proofs.Filters.{filter_all, filter_keeps, filter_none, filter_out}
use Rattle.tt_state.proofs.Lists.{all_behind}
use Rattle.tt_state.specs.Keeps.{ArePins}

pub other_than : (s other session : ℕ) → other ≢ session → (s == other) ≡ true → (s == session) ≡ false
other_than s other session ne e = ne_eqb s session (λ is. ne (sym (same_number s other e) ∙ is))

pub not_own : (s other session : ℕ) → other ≢ session → (s == other) ≡ true → not (s == session) ≡ true
not_own s other session ne e = ap not (other_than s other session ne e)

pub own_gone : (s other session : ℕ) → other ≡ session → (s == other) ≡ true → not (s == session) ≡ false
own_gone s other session is e = ap not (ap (λ n. s == n) (sym is) ∙ e)

-- ---- the pins of a session in place of its own

abbrev IsPinOf : ℕ → TallyPin → Type 0
IsPinOf session pin = pin.session ≡ session

module _ (session : ℕ) (all : List TallyPin) where
  abbrev front : List TallyPin
  front = filter (λ (pin : TallyPin). nat_lt pin.session session) all

  abbrev back : List TallyPin
  back = filter (λ (pin : TallyPin). nat_lt session pin.session) all

  split : (p : TallyPin → Bool) (pins : List TallyPin) → filter p (with_pins session pins all) ≡ filter p front ++ filter p pins ++ filter p back
  split p pins = filter-append p (front ++ pins) back ∙ ap (λ xs. xs ++ filter p back) (filter-append p front pins)

  no_front : (other : ℕ) → session ≤ other → filter (λ (pin : TallyPin). pin.session == other) front ≡ []
  no_front other le = filter_none (λ (pin : TallyPin). pin.session == other) (λ (pin : TallyPin). nat_lt pin.session session) all (λ pin e. le-ltb pin.session session (omega (arith, le, same_number pin.session other e)))

  no_back : (other : ℕ) → other ≤ session → filter (λ (pin : TallyPin). pin.session == other) back ≡ []
  no_back other le = filter_none (λ (pin : TallyPin). pin.session == other) (λ (pin : TallyPin). nat_lt session pin.session) all (λ pin e. le-ltb session pin.session (omega (arith, le, same_number pin.session other e)))

  whole_front : (other : ℕ) → other < session → filter (λ (pin : TallyPin). pin.session == other) front ≡ filter (λ (pin : TallyPin). pin.session == other) all
  whole_front other less = filter_keeps (λ (pin : TallyPin). pin.session == other) (λ (pin : TallyPin). nat_lt pin.session session) all (λ pin e. lt-ltb pin.session session (omega (arith, less, same_number pin.session other e)))

  whole_back : (other : ℕ) → session < other → filter (λ (pin : TallyPin). pin.session == other) back ≡ filter (λ (pin : TallyPin). pin.session == other) all
  whole_back other less = filter_keeps (λ (pin : TallyPin). pin.session == other) (λ (pin : TallyPin). nat_lt session pin.session) all (λ pin e. lt-ltb session pin.session (omega (arith, less, same_number pin.session other e)))

  own_pass : (pins : List TallyPin) → Every (IsPinOf session) pins → Every (λ (pin : TallyPin). (pin.session == session) ≡ true) pins
  own_pass [] all = tt
  own_pass (pin ∷ pins) all = (ap (λ s. s == session) all.0 ∙ same_test session, own_pass pins all.1)

  own_fail : (other : ℕ) (pins : List TallyPin) → other ≢ session → Every (IsPinOf session) pins → Every (λ (pin : TallyPin). (pin.session == other) ≡ false) pins
  own_fail other [] ne all = tt
  own_fail other (pin ∷ pins) ne all = (ne_eqb pin.session other (λ is. ne (sym is ∙ all.0)), own_fail other pins ne all.1)

  -- they are its pins
  pub own_pins : (pins : List TallyPin) → Every (IsPinOf session) pins → filter (λ (pin : TallyPin). pin.session == session) (with_pins session pins all) ≡ pins
  own_pins pins own =
      split (λ pin. pin.session == session) pins
      ∙ ap (λ xs. xs ++ filter (λ (pin : TallyPin). pin.session == session) pins ++ filter (λ (pin : TallyPin). pin.session == session) back) (no_front session (omega arith))
      ∙ ap (λ xs. [] ++ xs ++ filter (λ (pin : TallyPin). pin.session == session) back) (filter_all (λ (pin : TallyPin). pin.session == session) pins (own_pass pins own))
      ∙ ap (λ xs. [] ++ pins ++ xs) (no_back session (omega arith)) ∙ all_behind pins

  -- and the others have theirs
  pub other_pins : (pins : List TallyPin) (other : ℕ) → Every (IsPinOf session) pins → other ≢ session → filter (λ (pin : TallyPin). pin.session == other) (with_pins session pins all) ≡ filter (λ (pin : TallyPin). pin.session == other) all
  other_pins pins other own ne =
      split (λ pin. pin.session == other) pins
      ∙ ap (λ xs. filter (λ (pin : TallyPin). pin.session == other) front ++ xs ++ filter (λ (pin : TallyPin). pin.session == other) back) (filter_out (λ (pin : TallyPin). pin.session == other) pins (own_fail other pins ne own))
      ∙ by (nat_lt other session) refl
    where
      by : (b : Bool) → nat_lt other session ≡ b → filter (λ (pin : TallyPin). pin.session == other) front ++ [] ++ filter (λ (pin : TallyPin). pin.session == other) back ≡ filter (λ (pin : TallyPin). pin.session == other) all
      by true e =
          let less = ltb-true other session e in
          ap (λ xs. filter (λ (pin : TallyPin). pin.session == other) front ++ [] ++ xs) (no_back other (omega (arith, less)))
          ∙ all_behind (filter (λ (pin : TallyPin). pin.session == other) front ++ []) ∙ all_behind (filter (λ (pin : TallyPin). pin.session == other) front) ∙ whole_front other less
      by false e =
          let le = ltb-false other session e in
          ap (λ xs. xs ++ [] ++ filter (λ (pin : TallyPin). pin.session == other) back) (no_front other (omega (arith, le)))
          ∙ whole_back other (omega (arith, le, ne))

-- ---- what is kept of them

-- the pins of a session, and those of all others
pub pins_now : (session : ℕ) (tally : Tally) (pins kept now : List TallyPin) → Every (IsPinOf session) pins → ArePins tally kept
    → filter (λ (pin : TallyPin). pin.session == session) now ≡ pins → ((other : ℕ) → other ≢ session → filter (λ (pin : TallyPin). pin.session == other) now ≡ filter (λ (pin : TallyPin). pin.session == other) kept)
    → ArePins (record tally { pins = with_pins session pins tally.pins }) now
pins_now session tally pins kept now own are here others other = by (other == session) refl
  where
    by : (b : Bool) → (other == session) ≡ b → filter (λ (pin : TallyPin). pin.session == other) now ≡ filter (λ (pin : TallyPin). pin.session == other) (with_pins session pins tally.pins)
    by true e =
        let is : other ≡ session = same_number other session e in
        ap (λ s. filter (λ (pin : TallyPin). pin.session == s) now) is ∙ here ∙ sym (own_pins session tally.pins pins own)
        ∙ ap (λ s. filter (λ (pin : TallyPin). pin.session == s) (with_pins session pins tally.pins)) (sym is)
    by false e =
        let ne : other ≢ session = λ is. false≢true (sym e ∙ ap (λ n. n == session) is ∙ same_test session) in
        others other ne ∙ are other ∙ sym (other_pins session tally.pins pins other own ne)

-- without those of the session
pub pins_left : (session : ℕ) (tally : Tally) (pins : List TallyPin) → ArePins tally pins
    → ArePins (record tally { pins = with_pins session [] tally.pins }) (filter (λ (pin : TallyPin). not (pin.session == session)) pins)
pins_left session tally pins are =
    pins_now session tally [] pins (filter (λ (pin : TallyPin). not (pin.session == session)) pins) tt are
    (filter_none (λ (pin : TallyPin). pin.session == session) (λ (pin : TallyPin). not (pin.session == session)) pins (λ pin e. own_gone pin.session session session refl e))
    (λ other ne. filter_keeps (λ (pin : TallyPin). pin.session == other) (λ (pin : TallyPin). not (pin.session == session)) pins (λ pin e. not_own pin.session other session ne e))
