-- The marks of a tree, given those of its parts.
use Rattle.std.proofs.Common.{◌≡◌, ℕ, Bool, List, [], ◌∷◌, ◌++◌, map, sym, ap, ◌∙◌}
use Rattle.tt_value.specs.declared.name.Literal.{Literal}
use Rattle.tt_value.specs.declared.name.ColumnName.{ColumnName}
use Rattle.tt_value.specs.declared.name.Quoted.{Quoted}
use Rattle.tt_value.specs.declared.expression.Sign.{Sign}
use Rattle.tt_value.specs.declared.expression.Expr.{Expr, roll-Expr}
use Rattle.tt_value.specs.declared.expression.Term.{Term, roll-Term}
use Rattle.tt_value.specs.declared.expression.Addend.{Addend, roll-Addend}
use Rattle.tt_value.specs.declared.expression.Factor.{Factor}
use Rattle.tt_value.specs.declared.expression.Factor.TheVariants as factor
use Rattle.tt_value.specs.declared.expression.Factor.TheVariants.{rolls-Literal, rolls-Column, rolls-Bracket, rolls-Negated}
use Rattle.tt_value.specs.declared.expression.Factor.TheFolds.{fold-roll-Expr, fold-roll-Term, fold-roll-Addend, fold-roll-Factor}
use Rattle.tt_value.specs.declared.predicate.Operand.{Operand}
use Rattle.tt_value.specs.declared.predicate.Comparison.{Comparison}
use Rattle.tt_value.specs.declared.predicate.Predicate.{Predicate, roll-Predicate}
use Rattle.tt_value.specs.declared.predicate.Conjunction.{Conjunction, roll-Conjunction}
use Rattle.tt_value.specs.declared.predicate.Unit.{Unit as Test}
use Rattle.tt_value.specs.declared.predicate.Unit.TheVariants as unit
use Rattle.tt_value.specs.declared.predicate.Unit.TheVariants.{rolls-Not, rolls-Bracket as rolls-Group, rolls-Compare, rolls-IsNull, rolls-In, rolls-Between, rolls-StartsWith}
use Rattle.tt_value.specs.declared.predicate.Unit.TheFolds.{fold-roll-Predicate, fold-roll-Conjunction, fold-roll-Unit}
use Rattle.tt_sql.specs.grammar.Grammar.{Mark, Way, At}
use Rattle.tt_sql.specs.marks.Expressions.{repeated, literal_marks, column_marks, sign_marks, expr_marks, term_marks, addend_marks, factor_marks, factor_step, addend_step, expr_step, term_step, flag_marks, listed_marks, comparison_marks, operand_marks, quoted_marks, unit_marks, conjunction_marks, predicate_marks, unit_step, conjunction_step, predicate_step}

abbrev M : Type 0
M = List Mark

pub marks-Literal : (l : Literal) → factor_marks (factor.Literal l) ≡ literal_marks l ++ Way 0 ∷ []
unfolding factor_marks
marks-Literal l = ap factor_marks (sym (rolls-Literal l)) ∙ fold-roll-Factor M M M M factor_step addend_step expr_step term_step _

pub marks-Column : (c : ColumnName) → factor_marks (factor.Column c) ≡ column_marks c ++ Way 1 ∷ []
unfolding factor_marks
marks-Column c = ap factor_marks (sym (rolls-Column c)) ∙ fold-roll-Factor M M M M factor_step addend_step expr_step term_step _

pub marks-Bracket : (place : ℕ) (e : Expr) → factor_marks (factor.Bracket place e) ≡ At place ∷ (expr_marks e ++ Way 2 ∷ [])
unfolding factor_marks expr_marks
marks-Bracket place e = ap factor_marks (sym (rolls-Bracket place e)) ∙ fold-roll-Factor M M M M factor_step addend_step expr_step term_step _

pub marks-Negated : (place : ℕ) (f : Factor) → factor_marks (factor.Negated place f) ≡ At place ∷ (factor_marks f ++ Way 3 ∷ [])
unfolding factor_marks
marks-Negated place f = ap factor_marks (sym (rolls-Negated place f)) ∙ fold-roll-Factor M M M M factor_step addend_step expr_step term_step _

pub marks-Addend : (sign : Sign) (t : Term) → addend_marks (roll-Addend (record { sign = sign; term = t })) ≡ sign_marks sign ++ term_marks t
unfolding addend_marks term_marks
marks-Addend sign t = fold-roll-Addend M M M M factor_step addend_step expr_step term_step _

pub marks-Term : (f : Factor) (others : List Factor) → term_marks (roll-Term (record { first = f; others = others })) ≡ factor_marks f ++ repeated (map factor_marks others)
unfolding term_marks factor_marks
marks-Term f others = fold-roll-Term M M M M factor_step addend_step expr_step term_step _

pub marks-Expr : (t : Term) (others : List Addend) → expr_marks (roll-Expr (record { first = t; others = others })) ≡ term_marks t ++ repeated (map addend_marks others)
unfolding expr_marks term_marks addend_marks
marks-Expr t others = fold-roll-Expr M M M M factor_step addend_step expr_step term_step _

pub marks-Not : (u : Test) → unit_marks (unit.Not u) ≡ Way 7 ∷ unit_marks u
unfolding unit_marks
marks-Not u = ap unit_marks (sym (rolls-Not u)) ∙ fold-roll-Unit M M M unit_step conjunction_step predicate_step _

pub marks-Group : (p : Predicate) → unit_marks (unit.Bracket p) ≡ Way 8 ∷ predicate_marks p
unfolding unit_marks predicate_marks
marks-Group p = ap unit_marks (sym (rolls-Group p)) ∙ fold-roll-Unit M M M unit_step conjunction_step predicate_step _

pub marks-Compare : (a : Operand) (c : Comparison) (b : Operand) → unit_marks (unit.Compare a c b) ≡ operand_marks a ++ (comparison_marks c ++ (operand_marks b ++ Way 2 ∷ []))
unfolding unit_marks
marks-Compare a c b = ap unit_marks (sym (rolls-Compare a c b)) ∙ fold-roll-Unit M M M unit_step conjunction_step predicate_step _

pub marks-IsNull : (a : Operand) (negated : Bool) → unit_marks (unit.IsNull a negated) ≡ operand_marks a ++ (flag_marks negated ++ Way 3 ∷ [])
unfolding unit_marks
marks-IsNull a negated = ap unit_marks (sym (rolls-IsNull a negated)) ∙ fold-roll-Unit M M M unit_step conjunction_step predicate_step _

pub marks-In : (a : Operand) (negated : Bool) (literals : List Literal) → unit_marks (unit.In a negated literals) ≡ operand_marks a ++ (flag_marks negated ++ (listed_marks (map literal_marks literals) ++ Way 4 ∷ []))
unfolding unit_marks
marks-In a negated literals = ap unit_marks (sym (rolls-In a negated literals)) ∙ fold-roll-Unit M M M unit_step conjunction_step predicate_step _

pub marks-Between : (a : Operand) (negated : Bool) (least greatest : Literal) → unit_marks (unit.Between a negated least greatest) ≡ operand_marks a ++ (flag_marks negated ++ (literal_marks least ++ (literal_marks greatest ++ Way 5 ∷ [])))
unfolding unit_marks
marks-Between a negated least greatest = ap unit_marks (sym (rolls-Between a negated least greatest)) ∙ fold-roll-Unit M M M unit_step conjunction_step predicate_step _

pub marks-StartsWith : (c : ColumnName) (front : Quoted) → unit_marks (unit.StartsWith c front) ≡ column_marks c ++ (quoted_marks front ++ Way 6 ∷ [])
unfolding unit_marks
marks-StartsWith c front = ap unit_marks (sym (rolls-StartsWith c front)) ∙ fold-roll-Unit M M M unit_step conjunction_step predicate_step _

pub marks-Conjunction : (u : Test) (others : List Test) → conjunction_marks (roll-Conjunction (record { first = u; others = others })) ≡ unit_marks u ++ repeated (map unit_marks others)
unfolding conjunction_marks unit_marks
marks-Conjunction u others = fold-roll-Conjunction M M M unit_step conjunction_step predicate_step _

pub marks-Predicate : (c : Conjunction) (others : List Conjunction) → predicate_marks (roll-Predicate (record { first = c; others = others })) ≡ conjunction_marks c ++ repeated (map conjunction_marks others)
unfolding predicate_marks conjunction_marks
marks-Predicate c others = fold-roll-Predicate M M M unit_step conjunction_step predicate_step _
