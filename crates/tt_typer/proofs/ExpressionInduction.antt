-- Induction over expressions.
use Rattle.std.proofs.Common.{◌≡◌, ℕ, List, [], ◌∷◌, map, sym, ◌∙◌, subst}
use Rattle.std.specs.List.{AllByRecursion}
use Rattle.tt_value.specs.declared.name.Literal.{Literal}
use Rattle.tt_value.specs.declared.name.ColumnName.{ColumnName}
use Rattle.tt_value.specs.declared.expression.Expr.{Expr, out-Expr, roll-Expr}
use Rattle.tt_value.specs.declared.expression.Addend.{Addend}
use Rattle.tt_value.specs.declared.expression.Term.{Term, roll-Term}
use Rattle.tt_value.specs.declared.expression.Factor.{Factor}
use Rattle.tt_value.specs.declared.expression.Factor.TheFolds.{ind-Expr, map-Factor}
use Rattle.tt_value.specs.declared.expression.Factor.TheOpen.{Expr-F, Addend-F, Term-F, Factor-F}
use Rattle.tt_value.specs.declared.expression.Factor.TheViews.{roll-Factor, out-roll-Expr}
use Rattle.tt_value.specs.declared.expression.Factor.TheVariants as factor
use Rattle.tt_value.specs.declared.expression.Factor.TheVariants.{rolls-Literal, rolls-Column, rolls-Bracket, rolls-Negated}

-- each item of a list, by the items beside which their proofs stand
pub each_beside : {A : Type 0} (P : A → Type 0) (ys : List ((x : A) × P x)) → AllByRecursion P (map (λ y. y.0) ys)
each_beside P [] = tt
each_beside P (y ∷ ys) = (y.1, each_beside P ys)

module _ (F : Factor → Type 0) (T : Term → Type 0) (E : Expr → Type 0) where
  -- what carries a fact from the parts of an expression to the expression
  pub record Carries : Type 0 where
    pub literal : (l : Literal) → F (factor.Literal l)
    pub column : (c : ColumnName) → F (factor.Column c)
    pub bracket : (place : ℕ) (e : Expr) → E e → F (factor.Bracket place e)
    pub negated : (place : ℕ) (f : Factor) → F f → F (factor.Negated place f)
    pub term : (t : Term) → F t.first → AllByRecursion F t.others → T t
    pub sum : (e : Expr) → T (out-Expr e).first → AllByRecursion (λ (a : Addend). T a.term) (out-Expr e).others → E e

  abbrev A : Addend → Type 0
  A a = T a.term

  factor_by_parts : Carries → (y : Factor-F ((f : Factor) × F f) ((a : Addend) × A a) ((e : Expr) × E e) ((t : Term) × T t)) (x : Factor-F Factor Addend Expr Term) → map-Factor ((f : Factor) × F f) ((a : Addend) × A a) ((e : Expr) × E e) ((t : Term) × T t) Factor Addend Expr Term (λ f. f.0) (λ a. a.0) (λ e. e.0) (λ t. t.0) y ≡ x → F (roll-Factor x)
  factor_by_parts carries (Factor-F.Literal l) x is = subst (λ z. F (roll-Factor z)) is (subst F (sym (rolls-Literal l)) (carries.literal l))
  factor_by_parts carries (Factor-F.Column c) x is = subst (λ z. F (roll-Factor z)) is (subst F (sym (rolls-Column c)) (carries.column c))
  factor_by_parts carries (Factor-F.Bracket place e) x is = subst (λ z. F (roll-Factor z)) is (subst F (sym (rolls-Bracket place e.0)) (carries.bracket place e.0 e.1))
  factor_by_parts carries (Factor-F.Negated place f) x is = subst (λ z. F (roll-Factor z)) is (subst F (sym (rolls-Negated place f.0)) (carries.negated place f.0 f.1))

  pub by_parts : Carries → (e : Expr) → E e
  by_parts carries = ind-Expr F A E T
      (λ x y is. factor_by_parts carries y x is)
      (λ x y is. subst (λ (z : Addend-F Factor Addend Expr Term). T z.term) is y.term.1)
      (λ x y is. carries.sum (roll-Expr x)
      (subst (λ (z : Expr-F Factor Addend Expr Term). T z.first) (is ∙ sym (out-roll-Expr x)) y.first.1)
      (subst (λ (z : Expr-F Factor Addend Expr Term). AllByRecursion A z.others) (is ∙ sym (out-roll-Expr x)) (each_beside A y.others)))
      (λ x y is. carries.term (roll-Term x)
      (subst (λ (z : Term-F Factor Addend Expr Term). F z.first) is y.first.1)
      (subst (λ (z : Term-F Factor Addend Expr Term). AllByRecursion F z.others) is (each_beside F y.others)))
