-- The walk over a predicate, step by step.
use Rattle.std.proofs.Common.{◌≡◌, ℕ, ◌+◌, ◌<◌, ◌≤◌, List, ◌∷◌, length, drop, get_or, Bool, None, ap, sym, ◌∙◌}
use Rattle.std.specs.Prelude.{fold}
use Rattle.std.proofs.lemmas.List.{drop_more, drop_all}
use Rattle.tt_value.specs.declared.name.Literal.{Literal}
use Rattle.tt_value.specs.declared.name.Quoted.{Quoted}
use Rattle.tt_value.specs.declared.name.ColumnName.{ColumnName}
use Rattle.tt_value.specs.declared.predicate.Operand.{Operand}
use Rattle.tt_value.specs.declared.predicate.Operand.TheVariants as operand
use Rattle.tt_value.specs.declared.predicate.Comparison.{Comparison}
use Rattle.tt_value.specs.declared.predicate.Comparison.TheVariants.{Equal}
use Rattle.tt_value.specs.declared.predicate.Predicate.{Predicate, out-Predicate}
use Rattle.tt_value.specs.declared.predicate.Conjunction.{Conjunction}
use Rattle.tt_value.specs.declared.predicate.Unit.{Unit}
use Rattle.tt_value.specs.declared.predicate.Unit.TheVariants as unit
use Rattle.tt_value.specs.trees.Scope.{Scope, beside, kind_of}
use Rattle.tt_value.specs.trees.Predicates.{operand_kind}
use Rattle.tt_zone.specs.declared.zone.Zone.{Zone}
use Rattle.tt_zone.specs.declared.truth_set.TruthSet.{TruthSet}
use Rattle.tt_zone.specs.declared.sides.Side.{Side}
use Rattle.tt_zone.specs.TruthSets.{not_set, and_set, or_set, not_set_if, only_false}
use Rattle.tt_zone.specs.Possible.{zone_span, value_span, zone_named, operand_span, compared_in, null_in, begins_in, comparison_possible, in_possible, between_possible, unit_possible, possible, possible_of_conjunction, possible_of_unit}
use Rattle.tt_zone.specs.Sides.{side_kind, side_span, IsSideOf, literal_compared}
use Rattle.tt_zone.proofs.PredicateFolds.{fold_map, of_predicate_out, of_conjunction_out, of_not, of_bracket, of_compare, of_is_null, of_in, of_between, of_starts_with}

-- ---- a fold over what is left of a list

pub fold_more : {A R : Type 0} (step : R → A → R) (so_far : R) (xs : List A) (i : ℕ) (x : A) (whole : R) → i < length xs → x ≡ get_or xs i x → fold step so_far (drop i xs) ≡ whole → fold step (step so_far x) (drop (i + 1) xs) ≡ whole
fold_more step so_far xs i x whole below at is = sym (ap (fold step so_far) (drop_more xs i x below ∙ ap (λ y. y ∷ drop (i + 1) xs) (sym at))) ∙ is

pub fold_end : {A R : Type 0} (step : R → A → R) (so_far : R) (xs : List A) (i : ℕ) (whole : R) → length xs ≤ i → fold step so_far (drop i xs) ≡ whole → so_far ≡ whole
fold_end step so_far xs i whole past is = sym (ap (fold step so_far) (drop_all i xs past)) ∙ is

-- ---- what is possible, at one level

module _ (scope : Scope) (zones : List Zone) where
  abbrev pub or_conjunction : TruthSet → Conjunction → TruthSet
  or_conjunction so_far c = or_set so_far (possible_of_conjunction scope zones c)

  abbrev pub and_unit : TruthSet → Unit → TruthSet
  and_unit so_far u = and_set so_far (possible_of_unit scope zones u)

  pub possible_out : (p : Predicate) → possible scope zones p ≡ fold or_conjunction (possible_of_conjunction scope zones (out-Predicate p).first) (out-Predicate p).others
  unfolding possible possible_of_conjunction
  possible_out = of_predicate_out TruthSet (unit_possible scope zones) and_set or_set

  pub conjunction_out : (c : Conjunction) → possible_of_conjunction scope zones c ≡ fold and_unit (possible_of_unit scope zones c.first) c.others
  unfolding possible_of_conjunction possible_of_unit
  conjunction_out = of_conjunction_out TruthSet (unit_possible scope zones) and_set or_set

  pub possible_Not : (u : Unit) → possible_of_unit scope zones (unit.Not u) ≡ not_set (possible_of_unit scope zones u)
  unfolding possible_of_unit
  possible_Not = of_not TruthSet (unit_possible scope zones) and_set or_set

  pub possible_Bracket : (p : Predicate) → possible_of_unit scope zones (unit.Bracket p) ≡ possible scope zones p
  unfolding possible_of_unit possible
  possible_Bracket = of_bracket TruthSet (unit_possible scope zones) and_set or_set

  pub possible_Compare : (a : Operand) (c : Comparison) (b : Operand) → possible_of_unit scope zones (unit.Compare a c b) ≡ comparison_possible scope zones a c b
  unfolding possible_of_unit
  possible_Compare = of_compare TruthSet (unit_possible scope zones) and_set or_set

  pub possible_IsNull : (a : Operand) (negated : Bool) → possible_of_unit scope zones (unit.IsNull a negated) ≡ not_set_if negated (null_in (operand_span scope zones None a))
  unfolding possible_of_unit
  possible_IsNull = of_is_null TruthSet (unit_possible scope zones) and_set or_set

  pub possible_In : (a : Operand) (negated : Bool) (literals : List Literal) → possible_of_unit scope zones (unit.In a negated literals) ≡ not_set_if negated (in_possible scope zones a literals)
  unfolding possible_of_unit
  possible_In = of_in TruthSet (unit_possible scope zones) and_set or_set

  pub possible_Between : (a : Operand) (negated : Bool) (least greatest : Literal) → possible_of_unit scope zones (unit.Between a negated least greatest) ≡ not_set_if negated (between_possible scope zones a least greatest)
  unfolding possible_of_unit
  possible_Between = of_between TruthSet (unit_possible scope zones) and_set or_set

  pub possible_StartsWith : (c : ColumnName) (front : Quoted) → possible_of_unit scope zones (unit.StartsWith c front) ≡ begins_in front.text (zone_span (zone_named scope zones c))
  unfolding possible_of_unit
  possible_StartsWith = of_starts_with TruthSet (unit_possible scope zones) and_set or_set

  -- ---- sides

  pub literal_is : (a : Operand) (s : Side) (c : Comparison) (l : Literal) → IsSideOf scope zones a s → literal_compared s c l ≡ comparison_possible scope zones a c (operand.Literal l)
  literal_is a s c l is =
      ap (λ x. compared_in c x (value_span (beside (side_kind s) l.value))) (is.span (kind_of l.value))
      ∙ ap (λ k. compared_in c (operand_span scope zones (kind_of l.value) a) (value_span (beside k l.value))) is.kind

  pub both_sides : (a b : Operand) (s t : Side) (c : Comparison) → IsSideOf scope zones a s → IsSideOf scope zones b t → compared_in c (side_span (side_kind t) s) (side_span (side_kind s) t) ≡ comparison_possible scope zones a c b
  both_sides a b s t c is it =
      ap (λ x. compared_in c x (side_span (side_kind s) t)) (is.span (side_kind t) ∙ ap (λ k. operand_span scope zones k a) it.kind)
      ∙ ap (λ x. compared_in c (operand_span scope zones (operand_kind scope b) a) x) (it.span (side_kind s) ∙ ap (λ k. operand_span scope zones k b) is.kind)

  -- the equalities with what is left of a list
  abbrev pub or_equal : Operand → TruthSet → Literal → TruthSet
  or_equal a so_far l = or_set so_far (comparison_possible scope zones a Equal (operand.Literal l))

  pub in_start : (a : Operand) (literals : List Literal) → fold (or_equal a) only_false literals ≡ in_possible scope zones a literals
  in_start a literals = sym (fold_map or_set (λ l. comparison_possible scope zones a Equal (operand.Literal l)) only_false literals)
