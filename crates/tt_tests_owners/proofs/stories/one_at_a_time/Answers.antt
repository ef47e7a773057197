use Rattle.std.proofs.Common.{◌≡◌, ℕ, ◌+◌, ◌≤◌, Bool, true, false, not, ◌&&◌, ◌||◌, List, [], ◌∷◌, cond, refl, ap, sym, subst, ◌∙◌, arith}
use Rattle.std.proofs.lemmas.Bool.{eq-eqb, ne_eqb}
use Rattle.tt_layout.specs.Numbers.{has, HasAll, HasNone, joined, changed}
use Rattle.tt_layout.specs.Chain.{current_of, last_begun, with_change}
use Rattle.tt_layout.proofs.Growing.{current-with_change, begun-with_change}
use Rattle.tt_tests_owners.proofs.stories.one_at_a_time.Goals as goal

own : (n : ℕ) → has (n ∷ []) n ≡ true
own n = ap (λ (b : Bool). b || false) (eq-eqb n n refl)

other : (n : ℕ) → has (n ∷ []) (n + 1) ≡ false
other n = ap (λ (b : Bool). b || false) (ne_eqb n (n + 1) (λ e. omega arith))

replaced : (n : ℕ) → changed (n ∷ []) (n ∷ []) ((n + 1) ∷ []) ≡ (n + 1) ∷ []
replaced n = ap (λ (b : Bool). joined (cond (not b) (n ∷ []) []) ((n + 1) ∷ [])) (own n)

pub push-requires-clause-gone : goal.push-requires-clause-gone
push-requires-clause-gone c =
    subst (λ (ns : List ℕ). HasAll ns (c.loop-number.number ∷ [])) (sym c.loop-number.invariant.current) (ap (λ (b : Bool). b && true) (own c.loop-number.number))

pub push-requires-clause-added : goal.push-requires-clause-added
push-requires-clause-added c =
    subst (λ (ns : List ℕ). HasNone ns ((c.loop-number.number + 1) ∷ [])) (sym c.loop-number.invariant.current) (ap (λ (b : Bool). not b && true) (other c.loop-number.number))

pub loop-number-preserved : goal.loop-number-preserved
loop-number-preserved c =
    let old : List (ℕ × List ℕ) = c.loop-number.layouts in
    let n : ℕ = c.loop-number.number in
    let ok : c.push.new.self ≡ with_change old (n + 1) (n ∷ []) ((n + 1) ∷ []) = c.in_ok-push.ensures.ok in
    record {
      begun = omega (arith, ap last_begun ok ∙ begun-with_change old (n + 1) (n ∷ []) ((n + 1) ∷ []));
      current = ap current_of ok
          ∙ current-with_change old (n + 1) (n ∷ []) ((n + 1) ∷ [])
          ∙ ap (λ (ns : List ℕ). changed ns (n ∷ []) ((n + 1) ∷ [])) c.loop-number.invariant.current
          ∙ replaced n;
    }
