-- The lock is closed by number 0, once every other number was joined into it.
use Rattle.std.proofs.Common.{◌≡◌, ℕ, ◌<◌, ◌≤◌, Bool, true, false, List, [], Contains, refl, ap, sym, ◌∙◌, subst, arith, Option, Some, None}
use mathlib.Core.List.{IsPrefix}
use mathlib.Core.Logic.{dite}
use mathlib.Core.Option.{some, some-injective}
use native.Mathlib.Decide.{ℕ_discrete}
use lib.ListN.{get_elem?}
use Rattle.atomic_table.specs.Table.{State, Final, Seen}
use Rattle.tt_seatlock.specs.declared.view.View.{View}
use Rattle.tt_seatlock.specs.History.{made_by}
use Rattle.tt_seatlock.specs.Rule.{SeatOk, IsKept, Ruled}

module _ {B E G : Type 0} (entries : B → List E) (number : E → ℕ) (ground_of : B → G) where
  abbrev St : Type 0
  St = State (Option B) (View E G)

  abbrev Rule : St → Type 0
  Rule = Ruled entries number ground_of

  -- what the last seat learns of the book at home
  pub record Ended (v : View E G) (book : B) : Type 0 where
    pub same_ground : v.place ≡ Some (ground_of book)
    pub goes_on : IsPrefix v.seen (entries book)
    pub own : made_by number v.number (entries book) ≡ v.mine
    pub kept : (n : ℕ) (m : List E) → Contains v.kept (n, m) → made_by number n (entries book) ≡ m
    pub no_other : (n : ℕ) → v.made ≤ n → made_by number n (entries book) ≡ []

  module _ (s : St) (r : Rule s) (id : ℕ) (v : View E G) (live : v.live ≡ true) (waits : v.turn ≡ false) (zero_is : v.number ≡ 0) (at : get_elem? s.views id ≡ some v)
      (all : (n : ℕ) → 0 < n → n < v.made → IsKept v.kept n) where
    mine : SeatOk number r.log r.place r.made r.kept r.held r.holder id v
    mine = r.seats id v at live

    made_is : v.made ≡ r.made
    made_is = (mine.chief zero_is).0

    kept_is : v.kept ≡ r.kept
    kept_is = (mine.chief zero_is).1

    nobody : r.held ≡ true → ⊥
    nobody out = let a = r.away out in let ok = r.seats r.holder a.0 a.1 a.2 in dite (ℕ_discrete a.0.number 0)
        (λ e. let same_seat : r.holder ≡ id = r.apart r.holder id a.0 v a.1 at a.2 live (e ∙ sym zero_is) in
        let same : a.0 ≡ v = some-injective _ _ (sym a.1 ∙ (ap (get_elem? s.views) same_seat ∙ at)) in
        let clash : true ≡ false = sym a.3 ∙ (ap (λ (x : View E G). x.turn) same ∙ waits) in absurd cc)
        (λ ne. let k = all a.0.number (omega arith) (omega (arith, made_is, ok.below)) in
        ok.not_kept k.0 (subst (λ (ks : List (ℕ × List E)). Contains ks (a.0.number, k.0)) kept_is k.1))

    free_by : (held : Bool) → (held ≡ true → ⊥) → held ≡ false
    free_by true never = absurd (never refl)
    free_by false never = refl

    free : r.held ≡ false
    free = free_by r.held nobody

    home : (b : B) × (get_elem? s.homes 0 ≡ some (some (Some b))) × Ended v b
    home = let h = r.home free in (
      h.0,
      h.1,
      record {
        same_ground = mine.same_ground ∙ ap (λ (g : G). Some g) (sym h.3);
        goes_on = subst (IsPrefix v.seen) (sym h.2) mine.seen_is;
        own = ap (made_by number v.number) h.2 ∙ mine.mine_is;
        kept = λ n m c. ap (made_by number n) h.2 ∙ (r.kept_are n m (subst (λ (ks : List (ℕ × List E)). Contains ks (n, m)) kept_is c)).2;
        no_other = λ n le. ap (made_by number n) h.2 ∙ r.unmade n (omega (arith, made_is));
      },
    )

  abbrev Closed : View E G → List ℕ → List (Option B) → Type 0
  Closed v words slots = (id : ℕ) × Final (Seen Rule id v) words slots

  abbrev MayClose : View E G → Type 0
  MayClose v = (v.live ≡ true) × (v.turn ≡ false) × (v.number ≡ 0) × ((n : ℕ) → 0 < n → n < v.made → IsKept v.kept n)

  ends : (v : View E G) (words : List ℕ) (slots : List (Option B)) → MayClose v → Closed v words slots → (b : B) × (get_elem? slots 0 ≡ some (Some b)) × Ended v b
  ends v words slots may f = let s = f.1.0 in let h = home s f.1.1.0 f.0 v may.0 may.1 may.2 f.1.1.1 may.3 in (h.0, f.1.4 0 (Some h.0) h.1, h.2)

  -- the slot is not empty
  pub closes_full : (v : View E G) (words : List ℕ) (slots : List (Option B)) → MayClose v → Closed v words slots → get_elem? slots 0 ≡ some None → ⊥
  closes_full v words slots may f empty = let e = ends v words slots may f in let clash : None ≡ Some e.0 = some-injective _ _ (sym empty ∙ e.1) in absurd cc

  -- the book in the slot is the one that the rule speaks of
  pub closes : (v : View E G) (words : List ℕ) (slots : List (Option B)) (b : B) → MayClose v → Closed v words slots → get_elem? slots 0 ≡ some (Some b) → Ended v b
  closes v words slots b may f there =
      let e = ends v words slots may f in
      let same : Some e.0 ≡ Some b = some-injective _ _ (sym e.1 ∙ there) in
      let is : e.0 ≡ b = cc in
      subst (Ended v) is e.2
