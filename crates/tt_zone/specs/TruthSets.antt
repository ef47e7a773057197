-- Sets of truth values, and NOT, AND and OR of them.
use Rattle.std.specs.Prelude.{Bool, true, false, not, ◌||◌, List, [], ◌∷◌, map}
use Rattle.std.specs.List.{filter, list_any, flat_map}
use Rattle.tt_value.specs.declared.predicate.Truth.{Truth}
use Rattle.tt_value.specs.declared.predicate.Truth.TheVariants.{True, False, Unknown}
use Rattle.tt_value.specs.trees.Truths.{not_truth, and_truth, or_truth, is_true}
use Rattle.tt_zone.specs.declared.truth_set.TruthSet.{TruthSet}

-- whether a truth value is in the set
abbrev pub has : TruthSet → Truth → Bool
has set True = set.has_true
has set False = set.has_false
has set Unknown = set.has_unknown

-- the truth values of the set
abbrev pub truths_of : TruthSet → List Truth
truths_of set = filter (has set) (True ∷ False ∷ Unknown ∷ [])

abbrev pub is_empty_set : TruthSet → Bool
is_empty_set set = not (set.has_true || (set.has_false || set.has_unknown))

abbrev pub is_false : Truth → Bool
is_false False = true
is_false _ = false

abbrev pub is_unknown : Truth → Bool
is_unknown Unknown = true
is_unknown _ = false

-- the set of these truth values
abbrev pub set_of : List Truth → TruthSet
set_of truths = record {
  has_true = list_any is_true truths;
  has_false = list_any is_false truths;
  has_unknown = list_any is_unknown truths;
}

-- each truth value of one set with each of the other, taken through a table
abbrev pub each_with_each : (Truth → Truth → Truth) → TruthSet → TruthSet → TruthSet
each_with_each table a b = set_of (flat_map (λ t. map (table t) (truths_of b)) (truths_of a))

-- each truth value taken through the table of NOT
abbrev pub not_set : TruthSet → TruthSet
not_set a = set_of (map not_truth (truths_of a))

abbrev pub and_set : TruthSet → TruthSet → TruthSet
and_set = each_with_each and_truth

abbrev pub or_set : TruthSet → TruthSet → TruthSet
or_set = each_with_each or_truth

-- NOT, where it is written
abbrev pub not_set_if : Bool → TruthSet → TruthSet
not_set_if false a = a
not_set_if true a = not_set a

abbrev pub only_false : TruthSet
only_false = set_of (False ∷ [])
