-- Folds over predicates whose parts all give the same, at one level.
use Rattle.std.proofs.Common.{◌≡◌, Bool, List, [], ◌∷◌, map, refl, ap, sym, ◌∙◌}
use Rattle.std.specs.Prelude.{fold}
use Rattle.tt_value.specs.declared.name.Literal.{Literal}
use Rattle.tt_value.specs.declared.name.Quoted.{Quoted}
use Rattle.tt_value.specs.declared.name.ColumnName.{ColumnName}
use Rattle.tt_value.specs.declared.predicate.Operand.{Operand}
use Rattle.tt_value.specs.declared.predicate.Comparison.{Comparison}
use Rattle.tt_value.specs.declared.predicate.Predicate.{Predicate, out-Predicate}
use Rattle.tt_value.specs.declared.predicate.Conjunction.{Conjunction}
use Rattle.tt_value.specs.declared.predicate.Unit.{Unit}
use Rattle.tt_value.specs.declared.predicate.Unit.TheFolds.{fold-Predicate, fold-Conjunction, fold-Unit, fold_out-Predicate, fold_out-Conjunction, fold-roll-Unit}
use Rattle.tt_value.specs.declared.predicate.Unit.TheOpen.{Predicate-F, Conjunction-F, Unit-F}
use Rattle.tt_value.specs.declared.predicate.Unit.TheVariants as unit
use Rattle.tt_value.specs.declared.predicate.Unit.TheVariants.{rolls-Not, rolls-Bracket, rolls-Compare, rolls-IsNull, rolls-In, rolls-Between, rolls-StartsWith}

pub fold_map : {A B R : Type 0} (step : R → B → R) (g : A → B) (start : R) (xs : List A) → fold step start (map g xs) ≡ fold (λ so_far x. step so_far (g x)) start xs
fold_map step g start [] = refl
fold_map step g start (x ∷ xs) = fold_map step g (step start (g x)) xs

module _ (R : Type 0) (unit_step : Unit-F R R R → R) (both either : R → R → R) where
  abbrev pub all_of : Conjunction-F R R R → R
  all_of c = fold both c.first c.others

  abbrev pub any_of : Predicate-F R R R → R
  any_of p = fold either p.first p.others

  abbrev pub of_predicate : Predicate → R
  of_predicate = fold-Predicate R R R unit_step all_of any_of

  abbrev pub of_conjunction : Conjunction → R
  of_conjunction = fold-Conjunction R R R unit_step all_of any_of

  abbrev pub of_unit : Unit → R
  of_unit = fold-Unit R R R unit_step all_of any_of

  pub of_predicate_out : (p : Predicate) → of_predicate p ≡ fold (λ so_far c. either so_far (of_conjunction c)) (of_conjunction (out-Predicate p).first) (out-Predicate p).others
  of_predicate_out p = fold_out-Predicate R R R unit_step all_of any_of p ∙ fold_map either of_conjunction (of_conjunction (out-Predicate p).first) (out-Predicate p).others

  pub of_conjunction_out : (c : Conjunction) → of_conjunction c ≡ fold (λ so_far u. both so_far (of_unit u)) (of_unit c.first) c.others
  of_conjunction_out c = fold_out-Conjunction R R R unit_step all_of any_of c ∙ fold_map both of_unit (of_unit c.first) c.others

  pub of_not : (u : Unit) → of_unit (unit.Not u) ≡ unit_step (Unit-F.Not (of_unit u))
  of_not u = ap of_unit (sym (rolls-Not u)) ∙ fold-roll-Unit R R R unit_step all_of any_of (Unit-F.Not u)

  pub of_bracket : (p : Predicate) → of_unit (unit.Bracket p) ≡ unit_step (Unit-F.Bracket (of_predicate p))
  of_bracket p = ap of_unit (sym (rolls-Bracket p)) ∙ fold-roll-Unit R R R unit_step all_of any_of (Unit-F.Bracket p)

  pub of_compare : (a : Operand) (c : Comparison) (b : Operand) → of_unit (unit.Compare a c b) ≡ unit_step (Unit-F.Compare a c b)
  of_compare a c b = ap of_unit (sym (rolls-Compare a c b)) ∙ fold-roll-Unit R R R unit_step all_of any_of (Unit-F.Compare a c b)

  pub of_is_null : (a : Operand) (negated : Bool) → of_unit (unit.IsNull a negated) ≡ unit_step (Unit-F.IsNull a negated)
  of_is_null a negated = ap of_unit (sym (rolls-IsNull a negated)) ∙ fold-roll-Unit R R R unit_step all_of any_of (Unit-F.IsNull a negated)

  pub of_in : (a : Operand) (negated : Bool) (literals : List Literal) → of_unit (unit.In a negated literals) ≡ unit_step (Unit-F.In a negated literals)
  of_in a negated literals = ap of_unit (sym (rolls-In a negated literals)) ∙ fold-roll-Unit R R R unit_step all_of any_of (Unit-F.In a negated literals)

  pub of_between : (a : Operand) (negated : Bool) (least greatest : Literal) → of_unit (unit.Between a negated least greatest) ≡ unit_step (Unit-F.Between a negated least greatest)
  of_between a negated least greatest = ap of_unit (sym (rolls-Between a negated least greatest)) ∙ fold-roll-Unit R R R unit_step all_of any_of (Unit-F.Between a negated least greatest)

  pub of_starts_with : (c : ColumnName) (front : Quoted) → of_unit (unit.StartsWith c front) ≡ unit_step (Unit-F.StartsWith c front)
  of_starts_with c front = ap of_unit (sym (rolls-StartsWith c front)) ∙ fold-roll-Unit R R R unit_step all_of any_of (Unit-F.StartsWith c front)
