-- A new number gets a seat.
use Rattle.std.proofs.Common.{◌≡◌, ◌≢◌, ◌⊎◌, ℕ, ◌+◌, ◌<◌, true, List, [], ◌∷◌, ◌++◌, length, set, refl, ap, sym, ◌∙◌, subst, inl, inr, ⊎_elim, arith, Option}
use mathlib.Core.Logic.{dite}
use mathlib.Core.Option.{some}
use native.Mathlib.Decide.{ℕ_discrete}
use lib.ListN.{get_elem?}
use Rattle.atomic_table.specs.Table.{State, Splits}
use Rattle.atomic_table.proofs.Lists.{at_longer, at_last}
use Rattle.tt_seatlock.specs.declared.view.View.{View}
use Rattle.tt_seatlock.specs.Views.{counted, newcomer}
use Rattle.tt_seatlock.specs.Rule.{SeatOk, HasSeat, IsKept, Ruled}
use Rattle.tt_seatlock.proofs.Histories.{prefix_self}
use Rattle.tt_seatlock.proofs.Moves.{each_set, Was, was_set, apart_after, some_set, at_end}

module _ {B E G : Type 0} (entries : B → List E) (number : E → ℕ) (ground_of : B → G) where
  abbrev St : Type 0
  St = State (Option B) (View E G)

  abbrev Rule : St → Type 0
  Rule = Ruled entries number ground_of

  module _ (s : St) (r : Rule s) (id : ℕ) (v : View E G) (live : v.live ≡ true) (zero_is : v.number ≡ 0) (at : get_elem? s.views id ≡ some v) where
    mine : SeatOk number r.log r.place r.made r.kept r.held r.holder id v
    mine = r.seats id v at live

    made_is : v.made ≡ r.made
    made_is = (mine.chief zero_is).0

    -- the seats there were, and all of them
    abbrev old : List (View E G)
    old = set s.views id (counted v)

    abbrev all : List (View E G)
    all = old ++ newcomer v ∷ []

    parent_ok : SeatOk number r.log r.place (r.made + 1) r.kept r.held r.holder id (counted v)
    parent_ok = record {
      below = omega (arith, mine.below);
      same_ground = mine.same_ground;
      seen_is = mine.seen_is;
      shown_is = mine.shown_is;
      mine_is = mine.mine_is;
      not_kept = mine.not_kept;
      turn_is = mine.turn_is;
      chief = λ _. (ap (λ (k : ℕ). k + 1) made_is, (mine.chief zero_is).1);
    }

    other_ok : (j : ℕ) (u : View E G) → j ≢ id → get_elem? s.views j ≡ some u → u.live ≡ true → SeatOk number r.log r.place (r.made + 1) r.kept r.held r.holder j u
    other_ok j u other there living = let ok = r.seats j u there living in record {
      below = omega (arith, ok.below);
      same_ground = ok.same_ground;
      seen_is = ok.seen_is;
      shown_is = ok.shown_is;
      mine_is = ok.mine_is;
      not_kept = ok.not_kept;
      turn_is = ok.turn_is;
      chief = λ e. absurd (other (r.apart j id u v there at living live (e ∙ sym zero_is)));
    }

    new_ok : (j : ℕ) → SeatOk number r.log r.place (r.made + 1) r.kept r.held r.holder j (newcomer v)
    new_ok j = record {
      below = omega (arith, made_is);
      same_ground = mine.same_ground;
      seen_is = mine.seen_is;
      shown_is = prefix_self v.seen;
      mine_is = r.unmade v.made (omega (arith, made_is));
      not_kept = λ m c. absurd (omega (arith, made_is, (r.kept_are v.made m c).1));
      turn_is = λ e. cc;
      chief = λ e. absurd (omega (arith, made_is, mine.below));
    }

    seats : (j : ℕ) (u : View E G) → get_elem? all j ≡ some u → u.live ≡ true → SeatOk number r.log r.place (r.made + 1) r.kept r.held r.holder j u
    seats j u there living =
        ⊎_elim (λ (t : get_elem? old j ≡ some u). each_set (SeatOk number r.log r.place (r.made + 1) r.kept r.held r.holder) s.views id (counted v) (λ _. parent_ok) other_ok j u t living)
        (λ (t : (j ≡ length old) × (newcomer v ≡ u)). subst (SeatOk number r.log r.place (r.made + 1) r.kept r.held r.holder j) t.1 (new_ok j))
        (at_end old (newcomer v) u j there)

    was : (j : ℕ) (u : View E G) → get_elem? old j ≡ some u → u.live ≡ true → Was s.views j u
    was = was_set s.views id v (counted v) at (λ _. (live, refl))

    -- no seat there was has the new number
    fresh : (j : ℕ) (u : View E G) → get_elem? old j ≡ some u → u.live ≡ true → u.number ≢ v.made
    fresh j u there living e = let w = was j u there living in absurd (omega (arith, made_is, (r.seats j w.0 w.1 w.2).below, w.3, e))

    apart : (i j : ℕ) (u w : View E G) → get_elem? all i ≡ some u → get_elem? all j ≡ some w → u.live ≡ true → w.live ≡ true → u.number ≡ w.number → i ≡ j
    apart i j u w here there living alive same =
        ⊎_elim (λ (p : get_elem? old i ≡ some u).
        ⊎_elim (λ (q : get_elem? old j ≡ some w). apart_after s.views old r.apart was i j u w p q living alive same)
        (λ (q : (j ≡ length old) × (newcomer v ≡ w)). absurd (fresh i u p living (same ∙ ap (λ (x : View E G). x.number) (sym q.1))))
        (at_end old (newcomer v) w j there))
        (λ (p : (i ≡ length old) × (newcomer v ≡ u)).
        ⊎_elim (λ (q : get_elem? old j ≡ some w). absurd (fresh j w q alive (sym same ∙ ap (λ (x : View E G). x.number) (sym p.1))))
        (λ (q : (j ≡ length old) × (newcomer v ≡ w)). p.0 ∙ sym q.0)
        (at_end old (newcomer v) w j there))
        (at_end old (newcomer v) u i here)

    away : r.held ≡ true → (u : View E G) × (get_elem? all r.holder ≡ some u) × (u.live ≡ true) × (u.turn ≡ true)
    away out =
        let a = r.away out in
        let Q : View E G → Type 0 = λ u. (u.live ≡ true) × (u.turn ≡ true) in
        let k = some_set Q s.views id v (counted v) at (λ q. q) r.holder a.0 a.1 (a.2, a.3) in
        (k.0, at_longer old (newcomer v ∷ []) r.holder k.0 k.1, k.2.0, k.2.1)

    has : (n : ℕ) → HasSeat s.views n → HasSeat all n
    has n h =
        let Q : View E G → Type 0 = λ u. (u.live ≡ true) × (u.number ≡ n) in
        let k = some_set Q s.views id v (counted v) at (λ q. q) h.0 h.1 h.2 (h.3, h.4) in
        (h.0, k.0, at_longer old (newcomer v ∷ []) h.0 k.0 k.1, k.2.0, k.2.1)

    present : (n : ℕ) → n < r.made + 1 → HasSeat all n ⊎ IsKept r.kept n
    present n h = dite (ℕ_discrete n r.made)
        (λ e. inl (length old, newcomer v, at_last old (newcomer v) (length old) refl, refl, made_is ∙ sym e))
        (λ ne. ⊎_elim (λ (t : HasSeat s.views n). inl (has n t)) (λ (t : IsKept r.kept n). inr t) (r.present n (omega arith)))

    parted : Rule record { words = s.words; homes = s.homes; views = all }
    parted = record {
      log = r.log;
      place = r.place;
      made = r.made + 1;
      kept = r.kept;
      held = r.held;
      holder = r.holder;
      one_word = r.one_word;
      one_slot = r.one_slot;
      even = r.even;
      home = r.home;
      odd = r.odd;
      away = away;
      seats = seats;
      apart = apart;
      kept_are = λ n m c. let k = r.kept_are n m c in (k.0, omega (arith, k.1), k.2);
      unmade = λ n h. r.unmade n (omega arith);
      present = present;
    }

  -- number 0 may make the next number
  pub splits : (id : ℕ) (v : View E G) → v.live ≡ true → v.number ≡ 0 → Splits Rule id v (counted v) (newcomer v)
  splits id v live zero_is s r at = parted s r id v live zero_is at
