-- The word is released, and the book is at home again.
use Rattle.std.proofs.Common.{◌≡◌, ◌≢◌, ◌⊎◌, ℕ, ◌+◌, ◌*◌, ◌<◌, Bool, true, false, List, [], ◌∷◌, length, set, get_or, refl, ap, sym, ◌∙◌, subst, inl, inr, ⊎_elim, arith, Option, Some, None, length-set, get_or-set_same}
use mathlib.Core.List.{IsPrefix}
use mathlib.Core.Option.{none, some}
use lib.ListN.{get_elem?}
use Rattle.atomic_table.specs.Table.{State, Me, step, gives, stepped, Allows}
use Rattle.atomic_table.proofs.Lists.{set_here}
use Rattle.tt_seatlock.specs.declared.view.View.{View}
use Rattle.tt_seatlock.specs.History.{AddsOnly}
use Rattle.tt_seatlock.specs.Views.{after_turn}
use Rattle.tt_seatlock.specs.Rule.{SeatOk, HasSeat, IsKept, Ruled, released}
use Rattle.tt_seatlock.proofs.Histories.{prefix_self, prefix_trans, made_else}
use Rattle.tt_seatlock.proofs.Moves.{each_set, was_set, apart_after, seat_set}

module _ {B E G : Type 0} (entries : B → List E) (number : E → ℕ) (ground_of : B → G) where
  abbrev St : Type 0
  St = State (Option B) (View E G)

  abbrev Rule : St → Type 0
  Rule = Ruled entries number ground_of

  module _ (s : St) (r : Rule s) (id : ℕ) (v : View E G) (b : B) (live : v.live ≡ true) (turn : v.turn ≡ true) (at : get_elem? s.views id ≡ some v)
      (same : v.place ≡ Some (ground_of b)) (adds : AddsOnly number v.number v.base (entries b)) where
    mine : SeatOk number r.log r.place r.made r.kept r.held r.holder id v
    mine = r.seats id v at live

    added : AddsOnly number v.number r.log (entries b)
    added = subst (λ (l : List E). AddsOnly number v.number l (entries b)) (mine.turn_is turn).2 adds

    goes_on : IsPrefix r.log (entries b)
    goes_on = (added.0, added.1)

    abbrev left : View E G
    left = after_turn number v (entries b)

    leaver_ok : SeatOk number (entries b) r.place r.made r.kept false r.holder id left
    leaver_ok = record {
      below = mine.below;
      same_ground = mine.same_ground;
      seen_is = prefix_self (entries b);
      shown_is = prefix_trans v.shown r.log (entries b) (prefix_trans v.shown v.seen r.log mine.shown_is mine.seen_is) goes_on;
      mine_is = refl;
      not_kept = mine.not_kept;
      turn_is = λ e. cc;
      chief = mine.chief;
    }

    other_ok : (j : ℕ) (u : View E G) → j ≢ id → get_elem? s.views j ≡ some u → u.live ≡ true → SeatOk number (entries b) r.place r.made r.kept false r.holder j u
    other_ok j u other there living = let ok = r.seats j u there living in record {
      below = ok.below;
      same_ground = ok.same_ground;
      seen_is = prefix_trans u.seen r.log (entries b) ok.seen_is goes_on;
      shown_is = ok.shown_is;
      mine_is = made_else number u.number v.number r.log (entries b) (λ e. other (r.apart j id u v there at living live e)) added ∙ ok.mine_is;
      not_kept = ok.not_kept;
      turn_is = λ t. absurd (other ((ok.turn_is t).1 ∙ sym (mine.turn_is turn).1));
      chief = ok.chief;
    }

    home : Rule (stepped s 0 (2 * length (entries b)) id ((0, Some b) ∷ []) left gives)
    home = record {
      log = entries b;
      place = r.place;
      made = r.made;
      kept = r.kept;
      held = false;
      holder = r.holder;
      one_word = length-set s.words 0 (2 * length (entries b)) ∙ r.one_word;
      one_slot = length-set s.homes 0 (some (Some b)) ∙ r.one_slot;
      even = λ _. get_or-set_same s.words 0 (2 * length (entries b)) 0 (omega (arith, r.one_word));
      home = λ _. (b, set_here s.homes 0 (some (Some b)) (omega (arith, r.one_slot)), refl, cc (same, mine.same_ground));
      odd = λ e. cc;
      away = λ e. cc;
      seats = each_set (SeatOk number (entries b) r.place r.made r.kept false r.holder) s.views id left (λ _. leaver_ok) other_ok;
      apart = apart_after s.views (set s.views id left) r.apart (was_set s.views id v left at (λ _. (live, refl)));
      kept_are = λ n m c. let k = r.kept_are n m c in
          (k.0, k.1, made_else number n v.number r.log (entries b) (λ e. mine.not_kept m (subst (λ (x : ℕ). Rattle.std.proofs.Common.Contains r.kept (x, m)) e c)) added ∙ k.2);
      unmade = λ n h. made_else number n v.number r.log (entries b) (λ e. absurd (omega (arith, mine.below))) added ∙ r.unmade n h;
      present = λ n h. ⊎_elim (λ (t : HasSeat s.views n). inl (seat_set s.views id v left at live refl n t)) (λ (t : IsKept r.kept n). inr t) (r.present n h);
    }

  -- the seat with the turn may release the word with a book that goes on from its base by entries of its number
  releases : (n id : ℕ) (v : View E G) (b : B) → v.live ≡ true → v.turn ≡ true → v.place ≡ Some (ground_of b) → AddsOnly number v.number v.base (entries b)
      → Allows Rule n id (v, (0, Some b) ∷ []) 0 (λ _. 2 * length (entries b)) (λ _. released entries number (step n 0 (2 * length (entries b)) 0 none) (v, (0, Some b) ∷ []) (2 * length (entries b)))
  releases n id v b live turn same adds s r wide at fits = (after_turn number v (entries b), gives, tt, home s r id v b live turn at same adds, refl)

  -- the same where the seat and the number to store are known by equations
  pub releases_at : (n id : ℕ) (m : Me (Option B) (View E G)) (x : ℕ) (v : View E G) (b : B) → m ≡ (v, (0, Some b) ∷ []) → x ≡ 2 * length (entries b)
      → v.live ≡ true → v.turn ≡ true → v.place ≡ Some (ground_of b) → AddsOnly number v.number v.base (entries b)
      → Allows Rule n id m 0 (λ _. x) (λ _. released entries number (step n 0 x 0 none) m x)
  releases_at n id m x v b now twice live turn same adds =
      subst (λ (z : Me (Option B) (View E G) × ℕ). Allows Rule n id z.0 0 (λ _. z.1) (λ _. released entries number (step n 0 z.1 0 none) z.0 z.1))
      (λ i. (sym now i, sym twice i)) (releases n id v b live turn same adds)
