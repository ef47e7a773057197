-- Trees that their marks determine: each date in them is a day of the years 1 to 9999. All trees that the grammar
-- gives are among them, and trees whose names have others in front.
use Rattle.std.specs.Prelude.{List, [], ◌∷◌, ◌++◌}
use Rattle.tt_value.specs.declared.name.Literal.{Literal}
use Rattle.tt_value.specs.declared.expression.Expr.{Expr}
use Rattle.tt_value.specs.declared.expression.Term.{Term}
use Rattle.tt_value.specs.declared.expression.Addend.{Addend}
use Rattle.tt_value.specs.declared.expression.Factor.{Factor}
use Rattle.tt_value.specs.declared.expression.Factor.TheFolds.{fold-Expr, fold-Term, fold-Addend, fold-Factor}
use Rattle.tt_value.specs.declared.expression.Factor.TheOpen.{Expr-F, Addend-F, Term-F, Factor-F}
use Rattle.tt_value.specs.declared.predicate.Operand.{Operand}
use Rattle.tt_value.specs.declared.predicate.Operand.TheVariants as operand
use Rattle.tt_value.specs.declared.predicate.Predicate.{Predicate}
use Rattle.tt_value.specs.declared.predicate.Conjunction.{Conjunction}
use Rattle.tt_value.specs.declared.predicate.Unit.{Unit as Test}
use Rattle.tt_value.specs.declared.predicate.Unit.TheFolds.{fold-Predicate, fold-Conjunction, fold-Unit}
use Rattle.tt_value.specs.declared.predicate.Unit.TheOpen.{Predicate-F, Conjunction-F, Unit-F}
use Rattle.tt_value.specs.values.RowText.{IsPrintableValue}
use Rattle.tt_sql.specs.trees.Lists.{Each}

-- ---- the literals of a tree

abbrev pub AreGiven : List Literal → Type 0
AreGiven literals = Each (λ l. IsPrintableValue l.value) literals

abbrev pub joined : List (List Literal) → List Literal
joined [] = []
joined (xs ∷ xss) = xs ++ joined xss

-- ---- expressions

abbrev L : Type 0
L = List Literal

abbrev pub factor_layer : Factor-F L L L L → List Literal
factor_layer (Factor-F.Literal l) = l ∷ []
factor_layer (Factor-F.Column c) = []
factor_layer (Factor-F.Bracket place e) = e
factor_layer (Factor-F.Negated place f) = f

abbrev pub addend_layer : Addend-F L L L L → List Literal
addend_layer a = a.term

abbrev pub expr_layer : Expr-F L L L L → List Literal
expr_layer e = e.first ++ joined e.others

abbrev pub term_layer : Term-F L L L L → List Literal
term_layer t = t.first ++ joined t.others

unfoldable pub expr_leaves : Expr → List Literal
expr_leaves = fold-Expr L L L L factor_layer addend_layer expr_layer term_layer

unfoldable pub term_leaves : Term → List Literal
term_leaves = fold-Term L L L L factor_layer addend_layer expr_layer term_layer

unfoldable pub addend_leaves : Addend → List Literal
addend_leaves = fold-Addend L L L L factor_layer addend_layer expr_layer term_layer

unfoldable pub factor_leaves : Factor → List Literal
factor_leaves = fold-Factor L L L L factor_layer addend_layer expr_layer term_layer

abbrev pub IsGivenFactor : Factor → Type 0
IsGivenFactor f = AreGiven (factor_leaves f)

abbrev pub IsGivenAddend : Addend → Type 0
IsGivenAddend a = AreGiven (addend_leaves a)

abbrev pub IsGivenTerm : Term → Type 0
IsGivenTerm t = AreGiven (term_leaves t)

abbrev pub IsGivenExpr : Expr → Type 0
IsGivenExpr e = AreGiven (expr_leaves e)

-- ---- predicates

abbrev pub operand_leaves : Operand → List Literal
operand_leaves (operand.Column c) = []
operand_leaves (operand.Literal l) = l ∷ []

abbrev pub unit_layer : Unit-F L L L → List Literal
unit_layer (Unit-F.Not u) = u
unit_layer (Unit-F.Bracket p) = p
unit_layer (Unit-F.Compare a c b) = operand_leaves a ++ operand_leaves b
unit_layer (Unit-F.IsNull a negated) = operand_leaves a
unit_layer (Unit-F.In a negated literals) = operand_leaves a ++ literals
unit_layer (Unit-F.Between a negated least greatest) = operand_leaves a ++ (least ∷ greatest ∷ [])
unit_layer (Unit-F.StartsWith c front) = []

abbrev pub conjunction_layer : Conjunction-F L L L → List Literal
conjunction_layer c = c.first ++ joined c.others

abbrev pub predicate_layer : Predicate-F L L L → List Literal
predicate_layer p = p.first ++ joined p.others

unfoldable pub unit_leaves : Test → List Literal
unit_leaves = fold-Unit L L L unit_layer conjunction_layer predicate_layer

unfoldable pub conjunction_leaves : Conjunction → List Literal
conjunction_leaves = fold-Conjunction L L L unit_layer conjunction_layer predicate_layer

unfoldable pub predicate_leaves : Predicate → List Literal
predicate_leaves = fold-Predicate L L L unit_layer conjunction_layer predicate_layer

abbrev pub IsGivenUnit : Test → Type 0
IsGivenUnit u = AreGiven (unit_leaves u)

abbrev pub IsGivenConjunction : Conjunction → Type 0
IsGivenConjunction c = AreGiven (conjunction_leaves c)

abbrev pub IsGivenPredicate : Predicate → Type 0
IsGivenPredicate p = AreGiven (predicate_leaves p)
