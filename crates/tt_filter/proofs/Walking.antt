-- What a predicate says of rows, one level at a time.
use Rattle.std.proofs.Common.{◌≡◌, ℕ, ◌+◌, ◌<◌, ◌≤◌, Bool, List, length, take, get_or, sym, subst, ◌∙◌}
use Rattle.std.specs.Prelude.{fold}
use Rattle.tt_value.specs.declared.name.ColumnName.{ColumnName}
use Rattle.tt_value.specs.declared.name.Literal.{Literal}
use Rattle.tt_value.specs.declared.name.Quoted.{Quoted}
use Rattle.tt_value.specs.declared.value.Row.{Row}
use Rattle.tt_value.specs.declared.predicate.Comparison.{Comparison}
use Rattle.tt_value.specs.declared.predicate.Comparison.TheVariants.{Equal}
use Rattle.tt_value.specs.declared.predicate.Conjunction.{Conjunction}
use Rattle.tt_value.specs.declared.predicate.Operand.{Operand}
use Rattle.tt_value.specs.declared.predicate.Operand.TheVariants as operand
use Rattle.tt_value.specs.declared.predicate.Predicate.{Predicate, out-Predicate}
use Rattle.tt_value.specs.declared.predicate.Truth.{Truth}
use Rattle.tt_value.specs.declared.predicate.Truth.TheVariants.{False}
use Rattle.tt_value.specs.declared.predicate.Unit.{Unit}
use Rattle.tt_value.specs.declared.predicate.Unit.TheVariants as unit
use Rattle.tt_value.specs.trees.Predicates.{truth_of, unit_truth}
use Rattle.tt_value.specs.trees.Scope.{Scope}
use Rattle.tt_value.specs.trees.Truths.{and_truth, or_truth, not_if, not_truth}
use Rattle.tt_zone.proofs.PredicateFolds.{fold_map, of_predicate_out, of_conjunction_out, of_not, of_bracket, of_compare, of_is_null, of_in, of_between, of_starts_with}
use Rattle.tt_filter.specs.declared.truths.Truths.{Truths}
use Rattle.tt_filter.specs.Parts.{comparing, listing, bounding, being_null, beginning, in_predicate, in_conjunction, in_unit}
use Rattle.tt_filter.specs.RowTruths.{HasTruths, OnRows}
use Rattle.tt_filter.proofs.Lists.{map_same, fold_more, fold_whole}

pub same_on : (f g : Row → Truth) (rows : List Row) (found : Truths) → ((row : Row) → f row ≡ g row) → OnRows f rows found → OnRows g rows found
same_on f g rows found each has = subst (λ ts. HasTruths ts found) (map_same f g rows each) has

-- ---- conjunctions and units so far

abbrev pub or_more : Scope → Row → Truth → Conjunction → Truth
or_more scope row so_far c = or_truth so_far (in_conjunction scope c row)

abbrev pub and_more : Scope → Row → Truth → Unit → Truth
and_more scope row so_far u = and_truth so_far (in_unit scope u row)

abbrev pub equal_more : Scope → Operand → Row → Truth → Literal → Truth
equal_more scope a row so_far l = or_truth so_far (comparing scope a Equal (operand.Literal l) row)

abbrev pub any_so_far : Scope → Conjunction → List Conjunction → Row → Truth
any_so_far scope first others row = fold (or_more scope row) (in_conjunction scope first row) others

abbrev pub all_so_far : Scope → Unit → List Unit → Row → Truth
all_so_far scope first others row = fold (and_more scope row) (in_unit scope first row) others

abbrev pub listed_so_far : Scope → Operand → List Literal → Row → Truth
listed_so_far scope a literals row = fold (equal_more scope a row) False literals

-- ---- one more of them

module _ (scope : Scope) (rows : List Row) (found : Truths) where
  pub any_next : (first : Conjunction) (others : List Conjunction) (i : ℕ) (c : Conjunction) → i < length others → c ≡ get_or others i c → OnRows (λ row. or_truth (any_so_far scope first (take i others) row) (in_conjunction scope c row)) rows found → OnRows (any_so_far scope first (take (i + 1) others)) rows found
  any_next first others i c below is has = same_on (λ row. or_truth (any_so_far scope first (take i others) row) (in_conjunction scope c row)) (any_so_far scope first (take (i + 1) others)) rows found (λ row. fold_more (or_more scope row) (in_conjunction scope first row) others i c below is) has

  pub all_next : (first : Unit) (others : List Unit) (i : ℕ) (u : Unit) → i < length others → u ≡ get_or others i u → OnRows (λ row. and_truth (all_so_far scope first (take i others) row) (in_unit scope u row)) rows found → OnRows (all_so_far scope first (take (i + 1) others)) rows found
  all_next first others i u below is has = same_on (λ row. and_truth (all_so_far scope first (take i others) row) (in_unit scope u row)) (all_so_far scope first (take (i + 1) others)) rows found (λ row. fold_more (and_more scope row) (in_unit scope first row) others i u below is) has

  pub listed_next : (a : Operand) (literals : List Literal) (i : ℕ) (l : Literal) → i < length literals → l ≡ get_or literals i l → OnRows (λ row. or_truth (listed_so_far scope a (take i literals) row) (comparing scope a Equal (operand.Literal l) row)) rows found → OnRows (listed_so_far scope a (take (i + 1) literals)) rows found
  listed_next a literals i l below is has = same_on (λ row. or_truth (listed_so_far scope a (take i literals) row) (comparing scope a Equal (operand.Literal l) row)) (listed_so_far scope a (take (i + 1) literals)) rows found (λ row. fold_more (equal_more scope a row) False literals i l below is) has

  -- ---- all of them

  pub any_whole : (p : Predicate) (i : ℕ) → length (out-Predicate p).others ≤ i → OnRows (any_so_far scope (out-Predicate p).first (take i (out-Predicate p).others)) rows found → OnRows (in_predicate scope p) rows found
  unfolding truth_of in_conjunction
  any_whole p i past has = same_on (any_so_far scope (out-Predicate p).first (take i (out-Predicate p).others)) (in_predicate scope p) rows found (λ row. fold_whole (or_more scope row) (in_conjunction scope (out-Predicate p).first row) (out-Predicate p).others i past ∙ sym (of_predicate_out Truth (unit_truth scope row) and_truth or_truth p)) has

  pub all_whole : (c : Conjunction) (i : ℕ) → length c.others ≤ i → OnRows (all_so_far scope c.first (take i c.others)) rows found → OnRows (in_conjunction scope c) rows found
  unfolding in_conjunction in_unit
  all_whole c i past has = same_on (all_so_far scope c.first (take i c.others)) (in_conjunction scope c) rows found (λ row. fold_whole (and_more scope row) (in_unit scope c.first row) c.others i past ∙ sym (of_conjunction_out Truth (unit_truth scope row) and_truth or_truth c)) has

  pub listed_whole : (a : Operand) (literals : List Literal) (i : ℕ) → length literals ≤ i → OnRows (listed_so_far scope a (take i literals)) rows found → OnRows (listing scope a literals) rows found
  listed_whole a literals i past has = same_on (listed_so_far scope a (take i literals)) (listing scope a literals) rows found (λ row. fold_whole (equal_more scope a row) False literals i past ∙ sym (fold_map or_truth (λ l. comparing scope a Equal (operand.Literal l) row) False literals)) has

  -- ---- units

  pub not_unit : (u : Unit) → OnRows (λ row. not_truth (in_unit scope u row)) rows found → OnRows (in_unit scope (unit.Not u)) rows found
  unfolding in_unit
  not_unit u has = same_on (λ row. not_truth (in_unit scope u row)) (in_unit scope (unit.Not u)) rows found (λ row. sym (of_not Truth (unit_truth scope row) and_truth or_truth u)) has

  pub bracket_unit : (p : Predicate) → OnRows (in_predicate scope p) rows found → OnRows (in_unit scope (unit.Bracket p)) rows found
  unfolding in_unit truth_of
  bracket_unit p has = same_on (in_predicate scope p) (in_unit scope (unit.Bracket p)) rows found (λ row. sym (of_bracket Truth (unit_truth scope row) and_truth or_truth p)) has

  pub compare_unit : (a : Operand) (sign : Comparison) (b : Operand) → OnRows (comparing scope a sign b) rows found → OnRows (in_unit scope (unit.Compare a sign b)) rows found
  unfolding in_unit
  compare_unit a sign b has = same_on (comparing scope a sign b) (in_unit scope (unit.Compare a sign b)) rows found (λ row. sym (of_compare Truth (unit_truth scope row) and_truth or_truth a sign b)) has

  pub null_unit : (a : Operand) (negated : Bool) → OnRows (λ row. not_if negated (being_null scope a row)) rows found → OnRows (in_unit scope (unit.IsNull a negated)) rows found
  unfolding in_unit
  null_unit a negated has = same_on (λ row. not_if negated (being_null scope a row)) (in_unit scope (unit.IsNull a negated)) rows found (λ row. sym (of_is_null Truth (unit_truth scope row) and_truth or_truth a negated)) has

  pub in_list_unit : (a : Operand) (negated : Bool) (literals : List Literal) → OnRows (λ row. not_if negated (listing scope a literals row)) rows found → OnRows (in_unit scope (unit.In a negated literals)) rows found
  unfolding in_unit
  in_list_unit a negated literals has = same_on (λ row. not_if negated (listing scope a literals row)) (in_unit scope (unit.In a negated literals)) rows found (λ row. sym (of_in Truth (unit_truth scope row) and_truth or_truth a negated literals)) has

  pub between_unit : (a : Operand) (negated : Bool) (least greatest : Literal) → OnRows (λ row. not_if negated (bounding scope a least greatest row)) rows found → OnRows (in_unit scope (unit.Between a negated least greatest)) rows found
  unfolding in_unit
  between_unit a negated least greatest has = same_on (λ row. not_if negated (bounding scope a least greatest row)) (in_unit scope (unit.Between a negated least greatest)) rows found (λ row. sym (of_between Truth (unit_truth scope row) and_truth or_truth a negated least greatest)) has

  pub begins_unit : (c : ColumnName) (front : Quoted) → OnRows (beginning scope c front.text) rows found → OnRows (in_unit scope (unit.StartsWith c front)) rows found
  unfolding in_unit
  begins_unit c front has = same_on (beginning scope c front.text) (in_unit scope (unit.StartsWith c front)) rows found (λ row. sym (of_starts_with Truth (unit_truth scope row) and_truth or_truth c front)) has
