-- The rule holds of a new lock.
use Rattle.std.proofs.Common.{◌≡◌, ℕ, zero, suc, ◌<◌, false, List, [], ◌∷◌, Contains, refl, sym, ◌∙◌, subst, inl, arith, Some}
use mathlib.Core.Option.{some, some-injective, some-ne-none}
use lib.ListN.{get_elem?}
use Rattle.atomic_table.specs.Table.{opening}
use Rattle.tt_seatlock.specs.declared.view.View.{View}
use Rattle.tt_seatlock.specs.Views.{opened}
use Rattle.tt_seatlock.specs.Rule.{SeatOk, Ruled}

module _ {B E G : Type 0} (entries : B → List E) (number : E → ℕ) (ground_of : B → G) where
  nothing_kept : (n : ℕ) (m : List E) → Contains {X = ℕ × List E} [] (n, m) → ⊥
  nothing_kept n m c = absurd (omega (arith, c.1))

  alone : (v u : View E G) (j : ℕ) → get_elem? (v ∷ []) j ≡ some u → (j ≡ 0) × (v ≡ u)
  alone v u zero at = (refl, some-injective v u at)
  alone v u (suc j) at = absurd (some-ne-none u (sym at))

  only_zero : (n : ℕ) → n < 1 → 0 ≡ n
  only_zero n h = omega arith

  first_ok : (place : G) → SeatOk number [] place 1 [] false 0 0 (opened place)
  first_ok place = record {
    below = omega arith;
    same_ground = refl;
    seen_is = ([], refl);
    shown_is = ([], refl);
    mine_is = refl;
    not_kept = nothing_kept 0;
    turn_is = λ e. cc;
    chief = λ e. (refl, refl);
  }

  pub opens : (b : B) → entries b ≡ [] → Ruled entries number ground_of (opening (0 ∷ []) (Some b ∷ []) (opened (ground_of b)))
  opens b empty = record {
    log = [];
    place = ground_of b;
    made = 1;
    kept = [];
    held = false;
    holder = 0;
    one_word = refl;
    one_slot = refl;
    even = λ _. refl;
    home = λ _. (b, refl, empty, refl);
    odd = λ e. cc;
    away = λ e. cc;
    seats = λ j v at live. let a = alone (opened (ground_of b)) v j at in
        subst (λ (x : ℕ × View E G). SeatOk number [] (ground_of b) 1 [] false 0 x.0 x.1) (λ i. (sym a.0 i, a.1 i)) (first_ok (ground_of b));
    apart = λ i j v w at there _ _ _. (alone (opened (ground_of b)) v i at).0 ∙ sym (alone (opened (ground_of b)) w j there).0;
    kept_are = λ n m c. absurd (nothing_kept n m c);
    unmade = λ n _. refl;
    present = λ n h. inl (0, opened (ground_of b), refl, refl, only_zero n h);
  }
