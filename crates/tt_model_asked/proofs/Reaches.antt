-- The greatest of some reaches.
use Rattle.std.proofs.Common.{◌≡◌, ℕ, List, [], ◌∷◌, ◌++◌, ap, ◌∙◌, max, arith}
use Rattle.std.specs.Prelude.{nat_le, true, ◌&&◌}
use Rattle.std.specs.List.{list_all}
use Rattle.std.proofs.lemmas.Bool.Decides.{nat_tests}
use Rattle.tt_plain.specs.asked.Reach.{Reach, reach_number}
use Rattle.tt_model_asked.specs.ReachAs.{most_of}

max_assoc : (a b c : ℕ) → max a (max b c) ≡ max (max a b) c
max_assoc a b c = omega arith

max_none : (a : ℕ) → a ≡ max 0 a
max_none a = omega arith

pub most_append : (xs ys : List Reach) → most_of (xs ++ ys) ≡ max (most_of xs) (most_of ys)
most_append [] ys = max_none (most_of ys)
most_append (x ∷ xs) ys = ap (max (reach_number x)) (most_append xs ys) ∙ max_assoc (reach_number x) (most_of xs) (most_of ys)

both_below : (a b most : ℕ) → (nat_le a most && nat_le b most) ≡ nat_le (max a b) most
both_below a b most = grind (arith, nat_tests)

none_below : (most : ℕ) → true ≡ nat_le 0 most
none_below most = grind (arith, nat_tests)

pub all_below : (most : ℕ) (xs : List Reach) → list_all (λ needed. nat_le (reach_number needed) most) xs ≡ nat_le (most_of xs) most
all_below most [] = none_below most
all_below most (x ∷ xs) = ap (λ b. nat_le (reach_number x) most && b) (all_below most xs) ∙ both_below (reach_number x) (most_of xs) most
