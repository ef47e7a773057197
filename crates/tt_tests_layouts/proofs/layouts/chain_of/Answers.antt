use Rattle.std.proofs.Common.{◌≡◌, ℕ, ◌+◌, ◌<◌, ◌≤◌, Bool, true, false, ◌&&◌, ◌||◌, ◌==◌, List, [], ◌∷◌, length, length-append, ap, ◌∙◌, arith}
use Rattle.std.proofs.lemmas.Bool.{ne_eqb}
use Rattle.tt_layout.specs.Numbers.{has, changed}
use Rattle.tt_layout.specs.Chain.{current_of, last_begun, with_change}
use Rattle.tt_layout.proofs.Members.{has-changed}
use Rattle.tt_layout.proofs.Growing.{current-with_change, begun-with_change}
use Rattle.tt_tests_layouts.proofs.layouts.chain_of.Goals as goal

not_later : (ns : List ℕ) (x n : ℕ) → has ns n ≡ false → x < n → has (changed ns [] (x ∷ [])) n ≡ false
not_later ns x n old h =
    has-changed ns [] (x ∷ []) n
    ∙ ap (λ (b : Bool). (b && true) || ((x == n) || false)) old
    ∙ ap (λ (b : Bool). b || false) (ne_eqb x n (λ e. omega arith))

pub loop-number-preserved : goal.loop-number-preserved
loop-number-preserved c =
    let old : List (ℕ × List ℕ) = c.loop-number.layouts in
    let x : ℕ = c.loop-number.number + 1 in
    let ok : c.push.new.self ≡ with_change old (c.loop-number.number + 2) [] (x ∷ []) = c.in_ok-push.ensures.ok in
    let begun : last_begun c.push.new.self ≡ c.loop-number.number + 2 = ap last_begun ok ∙ begun-with_change old (c.loop-number.number + 2) [] (x ∷ []) in
    record {
      begun = omega (arith, begun);
      later = λ n h.
          ap (λ (ls : List (ℕ × List ℕ)). has (current_of ls) n) ok
          ∙ ap (λ (ns : List ℕ). has ns n) (current-with_change old (c.loop-number.number + 2) [] (x ∷ []))
          ∙ not_later (current_of old) x n (c.loop-number.invariant.later n (omega arith)) h;
      count = ap length ok ∙ length-append old ((c.loop-number.number + 2, changed (current_of old) [] (x ∷ [])) ∷ []) ∙ omega (arith, c.loop-number.invariant.count);
    }
