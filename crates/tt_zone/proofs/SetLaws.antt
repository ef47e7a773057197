-- What is in the sets that NOT, AND and OR make.
use Rattle.std.proofs.Common.{◌≡◌, Bool, true, false, arith}
use Rattle.tt_value.specs.declared.predicate.Truth.{Truth}
use Rattle.tt_value.specs.declared.predicate.Truth.TheVariants.{True, False, Unknown}
use Rattle.tt_value.specs.trees.Truths.{not_truth, and_truth, or_truth, not_if}
use Rattle.tt_zone.specs.declared.truth_set.TruthSet.{TruthSet}
use Rattle.tt_zone.specs.TruthSets.{has, not_set, and_set, or_set, not_set_if}

pub not_has : (a : TruthSet) (t : Truth) → has a t ≡ true → has (not_set a) (not_truth t) ≡ true
not_has a True h = grind arith
not_has a False h = grind arith
not_has a Unknown h = grind arith

pub not_if_has : (negated : Bool) (a : TruthSet) (t : Truth) → has a t ≡ true → has (not_set_if negated a) (not_if negated t) ≡ true
not_if_has true a t h = not_has a t h
not_if_has false a t h = h

pub and_has : (a b : TruthSet) (t u : Truth) → has a t ≡ true → has b u ≡ true → has (and_set a b) (and_truth t u) ≡ true
and_has a b True True h k = grind arith
and_has a b True False h k = grind arith
and_has a b True Unknown h k = grind arith
and_has a b False True h k = grind arith
and_has a b False False h k = grind arith
and_has a b False Unknown h k = grind arith
and_has a b Unknown True h k = grind arith
and_has a b Unknown False h k = grind arith
and_has a b Unknown Unknown h k = grind arith

pub or_has : (a b : TruthSet) (t u : Truth) → has a t ≡ true → has b u ≡ true → has (or_set a b) (or_truth t u) ≡ true
or_has a b True True h k = grind arith
or_has a b True False h k = grind arith
or_has a b True Unknown h k = grind arith
or_has a b False True h k = grind arith
or_has a b False False h k = grind arith
or_has a b False Unknown h k = grind arith
or_has a b Unknown True h k = grind arith
or_has a b Unknown False h k = grind arith
or_has a b Unknown Unknown h k = grind arith
