-- Truth values held as bits: where they are true, and where they are false.
use Rattle.std.specs.Prelude.{◌≡◌, Bool, List, length, map, Some}
use Rattle.tt_value.specs.declared.value.Row.{Row}
use Rattle.tt_value.specs.declared.predicate.Truth.{Truth}
use Rattle.tt_value.specs.declared.predicate.Predicate.{Predicate}
use Rattle.tt_value.specs.trees.Scope.{Scope}
use Rattle.tt_value.specs.trees.Predicates.{takes}
use Rattle.tt_value.specs.trees.Truths.{is_true}
use Rattle.tt_zone.specs.TruthSets.{is_false}
use Rattle.tt_filter.specs.declared.truths.Truths.{Truths}

pub record HasTruths (truths : List Truth) (found : Truths) : Type 0 where
  pub trues : found.trues ≡ map is_true truths
  pub falses : found.falses ≡ map is_false truths

-- of these rows, a truth value each
abbrev pub OnRows : (Row → Truth) → List Row → Truths → Type 0
OnRows truth rows found = HasTruths (map truth rows) found

-- both are of as many rows
pub record AreAlike (a b : Truths) : Type 0 where
  pub trues : length a.trues ≡ length b.trues
  pub falses : length a.falses ≡ length b.falses

-- the rows that a predicate takes
abbrev pub are_true : Scope → Predicate → List Row → List Bool
are_true scope p rows = map (takes scope (Some p)) rows
