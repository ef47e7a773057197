-- Induction over predicates.
use Rattle.std.proofs.Common.{◌≡◌, Bool, List, [], ◌∷◌, map, sym, ◌∙◌, subst}
use Rattle.std.specs.List.{AllByRecursion}
use Rattle.tt_value.specs.declared.name.Literal.{Literal}
use Rattle.tt_value.specs.declared.name.Quoted.{Quoted}
use Rattle.tt_value.specs.declared.name.ColumnName.{ColumnName}
use Rattle.tt_value.specs.declared.predicate.Operand.{Operand}
use Rattle.tt_value.specs.declared.predicate.Comparison.{Comparison}
use Rattle.tt_value.specs.declared.predicate.Predicate.{Predicate, out-Predicate, roll-Predicate}
use Rattle.tt_value.specs.declared.predicate.Conjunction.{Conjunction, roll-Conjunction}
use Rattle.tt_value.specs.declared.predicate.Unit.{Unit}
use Rattle.tt_value.specs.declared.predicate.Unit.TheFolds.{ind-Predicate, map-Unit}
use Rattle.tt_value.specs.declared.predicate.Unit.TheOpen.{Predicate-F, Conjunction-F, Unit-F}
use Rattle.tt_value.specs.declared.predicate.Unit.TheViews.{roll-Unit, out-roll-Predicate}
use Rattle.tt_value.specs.declared.predicate.Unit.TheVariants as unit
use Rattle.tt_value.specs.declared.predicate.Unit.TheVariants.{rolls-Not, rolls-Bracket, rolls-Compare, rolls-IsNull, rolls-In, rolls-Between, rolls-StartsWith}

-- each item of a list, by the items beside which their proofs stand
each_beside : {A : Type 0} (P : A → Type 0) (ys : List ((x : A) × P x)) → AllByRecursion P (map (λ y. y.0) ys)
each_beside P [] = tt
each_beside P (y ∷ ys) = (y.1, each_beside P ys)

module _ (U : Unit → Type 0) (C : Conjunction → Type 0) (P : Predicate → Type 0) where
  -- what carries a fact from the parts of a predicate to the predicate
  pub record Carries : Type 0 where
    pub not : (u : Unit) → U u → U (unit.Not u)
    pub bracket : (p : Predicate) → P p → U (unit.Bracket p)
    pub compare : (a : Operand) (c : Comparison) (b : Operand) → U (unit.Compare a c b)
    pub is_null : (a : Operand) (negated : Bool) → U (unit.IsNull a negated)
    pub among : (a : Operand) (negated : Bool) (literals : List Literal) → U (unit.In a negated literals)
    pub between : (a : Operand) (negated : Bool) (least greatest : Literal) → U (unit.Between a negated least greatest)
    pub starts_with : (c : ColumnName) (front : Quoted) → U (unit.StartsWith c front)
    pub all : (c : Conjunction) → U c.first → AllByRecursion U c.others → C c
    pub any : (p : Predicate) → C (out-Predicate p).first → AllByRecursion C (out-Predicate p).others → P p

  unit_by_parts : Carries → (y : Unit-F ((u : Unit) × U u) ((c : Conjunction) × C c) ((p : Predicate) × P p)) (x : Unit-F Unit Conjunction Predicate) → map-Unit ((u : Unit) × U u) ((c : Conjunction) × C c) ((p : Predicate) × P p) Unit Conjunction Predicate (λ u. u.0) (λ c. c.0) (λ p. p.0) y ≡ x → U (roll-Unit x)
  unit_by_parts carries (Unit-F.Not u) x is = subst (λ z. U (roll-Unit z)) is (subst U (sym (rolls-Not u.0)) (carries.not u.0 u.1))
  unit_by_parts carries (Unit-F.Bracket p) x is = subst (λ z. U (roll-Unit z)) is (subst U (sym (rolls-Bracket p.0)) (carries.bracket p.0 p.1))
  unit_by_parts carries (Unit-F.Compare a c b) x is = subst (λ z. U (roll-Unit z)) is (subst U (sym (rolls-Compare a c b)) (carries.compare a c b))
  unit_by_parts carries (Unit-F.IsNull a negated) x is = subst (λ z. U (roll-Unit z)) is (subst U (sym (rolls-IsNull a negated)) (carries.is_null a negated))
  unit_by_parts carries (Unit-F.In a negated literals) x is = subst (λ z. U (roll-Unit z)) is (subst U (sym (rolls-In a negated literals)) (carries.among a negated literals))
  unit_by_parts carries (Unit-F.Between a negated least greatest) x is = subst (λ z. U (roll-Unit z)) is (subst U (sym (rolls-Between a negated least greatest)) (carries.between a negated least greatest))
  unit_by_parts carries (Unit-F.StartsWith c front) x is = subst (λ z. U (roll-Unit z)) is (subst U (sym (rolls-StartsWith c front)) (carries.starts_with c front))

  pub by_parts : Carries → (p : Predicate) → P p
  by_parts carries = ind-Predicate U C P
      (λ x y is. unit_by_parts carries y x is)
      (λ x y is. carries.all (roll-Conjunction x)
      (subst (λ (z : Conjunction-F Unit Conjunction Predicate). U z.first) is y.first.1)
      (subst (λ (z : Conjunction-F Unit Conjunction Predicate). AllByRecursion U z.others) is (each_beside U y.others)))
      (λ x y is. carries.any (roll-Predicate x)
      (subst (λ (z : Predicate-F Unit Conjunction Predicate). C z.first) (is ∙ sym (out-roll-Predicate x)) y.first.1)
      (subst (λ (z : Predicate-F Unit Conjunction Predicate). AllByRecursion C z.others) (is ∙ sym (out-roll-Predicate x)) (each_beside C y.others)))
