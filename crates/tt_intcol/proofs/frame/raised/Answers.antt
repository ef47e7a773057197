use Rattle.std.proofs.Common.{◌≡◌, ℕ, ℤ, pos, ◌+ℤ◌, ◌∙◌, ap, sym, map, rules, take, get_or, length, ◌&&◌, Bool, true, List, ◌<◌, ◌++◌, ◌∷◌, [], ◌+◌}
use Rattle.std.specs.List.{list_all}
use Rattle.std.specs.Int.{w64}
use Rattle.std.specs.Int.RustNames.{FitsSigned}
use Rattle.std.proofs.lemmas.Int.{to_z-of_z}
use Rattle.std.proofs.lemmas.List.{take_all, take_more, map_more}
use Rattle.std.proofs.lemmas.List.Folds.{list_all_at, list_all-append}
use Rattle.tt_intcol.specs.IntReading.{is_within}
use Rattle.tt_intcol.proofs.frame.raised.Goals as goal

within_more : (p : ℕ → Bool) (xs : List ℕ) (i : ℕ) → i < length xs → list_all p (take i xs) ≡ true → p (get_or xs i 0) ≡ true → list_all p (take (i + 1) xs) ≡ true
within_more p xs i lt so_far here =
    ap (list_all p) (take_more xs i 0 lt) ∙ list_all-append p (take i xs) (get_or xs i 0 ∷ []) ∙ ap (λ b. b && (p (get_or xs i 0) && true)) so_far ∙ ap (λ b. b && true) here

values_more : (f : ℕ → ℤ) (xs : List ℕ) (i : ℕ) (old new : List ℤ) (pushed value : ℤ) → i < length xs → new ≡ old ++ pushed ∷ [] → pushed ≡ value → value ≡ f (get_or xs i 0) → old ≡ map f (take i xs) → new ≡ map f (take (i + 1) xs)
values_more f xs i old new pushed value lt new_is same value_is so_far =
    new_is ∙ ap (λ (v : ℤ). old ++ v ∷ []) (same ∙ value_is) ∙ ap (λ (t : List ℤ). t ++ f (get_or xs i 0) ∷ []) so_far ∙ sym (map_more f xs i 0 lt)

pub returns-in-None : goal.returns-in-None
returns-in-None c =
    let low = to_z-of_z w64 c.args.low c.ranges.low in
    list_all_at (is_within c.args.kind c.args.low) c.args.numbers.now c.loop-number.number-index 0 c.loop-number-test.true (rw low at c.in-None.ensures)

pub loop-number-preserved : goal.loop-number-preserved
loop-number-preserved c =
    let low = to_z-of_z w64 c.args.low c.ranges.low in
    let fits : FitsSigned w64 c.in-Some.value = search rules in
    let same = to_z-of_z w64 c.in-Some.value fits in
    let told = rw low at c.in-Some.ensures in
    record {
      within = rw low (within_more (is_within c.args.kind c.args.low) c.args.numbers.now c.loop-number.number-index c.loop-number-test.true (rw low at c.loop-number.invariant.within) told.0);
      values = simp low (values_more (λ n. c.args.low +ℤ pos n) c.args.numbers.now c.loop-number.number-index c.loop-number.values.items c.push.new.self.items _ c.in-Some.value c.loop-number-test.true c.in_ok-push-in-Some.ensures.items same told.1 (simp low at c.loop-number.invariant.values));
    }

pub returns : goal.returns
returns c =
    let low = to_z-of_z w64 c.args.low c.ranges.low in
    let e = take_all c.loop-number.number-index c.args.numbers.now c.loop-number-test.false in
    (ap (list_all (is_within c.args.kind c.args.low)) (sym e) ∙ rw low at c.loop-number.invariant.within, (simp low at c.loop-number.invariant.values) ∙ ap (map (λ n. c.args.low +ℤ pos n)) e)
