-- Parts of what the grammar gives are given.
use Rattle.std.proofs.Common.{◌≡◌, ℕ, Bool, List, [], ◌∷◌, ◌++◌, map, sym, ap, ◌∙◌}
use Rattle.tt_value.specs.declared.name.Literal.{Literal}
use Rattle.tt_value.specs.declared.name.ColumnName.{ColumnName}
use Rattle.tt_value.specs.declared.expression.Sign.{Sign}
use Rattle.tt_value.specs.declared.expression.Expr.{Expr, roll-Expr}
use Rattle.tt_value.specs.declared.expression.Term.{Term, roll-Term}
use Rattle.tt_value.specs.declared.expression.Addend.{Addend, roll-Addend}
use Rattle.tt_value.specs.declared.expression.Factor.{Factor}
use Rattle.tt_value.specs.declared.expression.Factor.TheVariants as factor
use Rattle.tt_value.specs.declared.expression.Factor.TheVariants.{rolls-Literal, rolls-Column, rolls-Bracket, rolls-Negated}
use Rattle.tt_value.specs.declared.expression.Factor.TheFolds.{fold-roll-Expr, fold-roll-Term, fold-roll-Addend, fold-roll-Factor}
use Rattle.tt_value.specs.declared.name.Quoted.{Quoted}
use Rattle.tt_value.specs.declared.predicate.Operand.{Operand}
use Rattle.tt_value.specs.declared.predicate.Comparison.{Comparison}
use Rattle.tt_value.specs.declared.predicate.Predicate.{Predicate, roll-Predicate}
use Rattle.tt_value.specs.declared.predicate.Conjunction.{Conjunction, roll-Conjunction}
use Rattle.tt_value.specs.declared.predicate.Unit.{Unit as Test}
use Rattle.tt_value.specs.declared.predicate.Unit.TheVariants as unit
use Rattle.tt_value.specs.declared.predicate.Unit.TheVariants.{rolls-Not, rolls-Bracket as rolls-Group, rolls-Compare, rolls-IsNull, rolls-In, rolls-Between, rolls-StartsWith}
use Rattle.tt_value.specs.declared.predicate.Unit.TheFolds.{fold-roll-Predicate, fold-roll-Conjunction, fold-roll-Unit}
use Rattle.tt_value.specs.values.RowText.{IsPrintableValue}
use Rattle.tt_sql.specs.trees.Lists.{IsListed, Each}
use Rattle.tt_sql.specs.determined.Expressions.{AreGiven, joined, operand_leaves, unit_layer, conjunction_layer, predicate_layer, unit_leaves, conjunction_leaves, predicate_leaves, factor_layer, addend_layer, expr_layer, term_layer, expr_leaves, term_leaves, addend_leaves, factor_leaves}

abbrev L : Type 0
L = List Literal

pub given_both : (xs ys : List Literal) → AreGiven (xs ++ ys) → AreGiven xs × AreGiven ys
given_both [] ys g = (tt, g)
given_both (x ∷ xs) ys g = let both = given_both xs ys g.1 in ((g.0, both.0), both.1)

pub given_each : {A : Type 0} (leaves : A → List Literal) (xs : List A) → AreGiven (joined (map leaves xs)) → Each (λ x. AreGiven (leaves x)) xs
given_each leaves [] g = tt
given_each leaves (x ∷ xs) g = let both = given_both (leaves x) (joined (map leaves xs)) g in (both.0, given_each leaves xs both.1)

pub leaves-Literal : (l : Literal) → factor_leaves (factor.Literal l) ≡ l ∷ []
unfolding factor_leaves
leaves-Literal l = ap factor_leaves (sym (rolls-Literal l)) ∙ fold-roll-Factor L L L L factor_layer addend_layer expr_layer term_layer _

pub leaves-Column : (c : ColumnName) → factor_leaves (factor.Column c) ≡ []
unfolding factor_leaves
leaves-Column c = ap factor_leaves (sym (rolls-Column c)) ∙ fold-roll-Factor L L L L factor_layer addend_layer expr_layer term_layer _

pub leaves-Bracket : (place : ℕ) (e : Expr) → factor_leaves (factor.Bracket place e) ≡ expr_leaves e
unfolding factor_leaves expr_leaves
leaves-Bracket place e = ap factor_leaves (sym (rolls-Bracket place e)) ∙ fold-roll-Factor L L L L factor_layer addend_layer expr_layer term_layer _

pub leaves-Negated : (place : ℕ) (f : Factor) → factor_leaves (factor.Negated place f) ≡ factor_leaves f
unfolding factor_leaves
leaves-Negated place f = ap factor_leaves (sym (rolls-Negated place f)) ∙ fold-roll-Factor L L L L factor_layer addend_layer expr_layer term_layer _

pub leaves-Addend : (sign : Sign) (t : Term) → addend_leaves (roll-Addend (record { sign = sign; term = t })) ≡ term_leaves t
unfolding addend_leaves term_leaves
leaves-Addend sign t = fold-roll-Addend L L L L factor_layer addend_layer expr_layer term_layer _

pub leaves-Term : (f : Factor) (others : List Factor) → term_leaves (roll-Term (record { first = f; others = others })) ≡ factor_leaves f ++ joined (map factor_leaves others)
unfolding term_leaves factor_leaves
leaves-Term f others = fold-roll-Term L L L L factor_layer addend_layer expr_layer term_layer _

pub leaves-Expr : (t : Term) (others : List Addend) → expr_leaves (roll-Expr (record { first = t; others = others })) ≡ term_leaves t ++ joined (map addend_leaves others)
unfolding expr_leaves term_leaves addend_leaves
leaves-Expr t others = fold-roll-Expr L L L L factor_layer addend_layer expr_layer term_layer _

-- ---- predicates

pub leaves-Not : (u : Test) → unit_leaves (unit.Not u) ≡ unit_leaves u
unfolding unit_leaves
leaves-Not u = ap unit_leaves (sym (rolls-Not u)) ∙ fold-roll-Unit L L L unit_layer conjunction_layer predicate_layer _

pub leaves-Group : (p : Predicate) → unit_leaves (unit.Bracket p) ≡ predicate_leaves p
unfolding unit_leaves predicate_leaves
leaves-Group p = ap unit_leaves (sym (rolls-Group p)) ∙ fold-roll-Unit L L L unit_layer conjunction_layer predicate_layer _

pub leaves-Compare : (a : Operand) (c : Comparison) (b : Operand) → unit_leaves (unit.Compare a c b) ≡ operand_leaves a ++ operand_leaves b
unfolding unit_leaves
leaves-Compare a c b = ap unit_leaves (sym (rolls-Compare a c b)) ∙ fold-roll-Unit L L L unit_layer conjunction_layer predicate_layer _

pub leaves-IsNull : (a : Operand) (negated : Bool) → unit_leaves (unit.IsNull a negated) ≡ operand_leaves a
unfolding unit_leaves
leaves-IsNull a negated = ap unit_leaves (sym (rolls-IsNull a negated)) ∙ fold-roll-Unit L L L unit_layer conjunction_layer predicate_layer _

pub leaves-In : (a : Operand) (negated : Bool) (literals : List Literal) → unit_leaves (unit.In a negated literals) ≡ operand_leaves a ++ literals
unfolding unit_leaves
leaves-In a negated literals = ap unit_leaves (sym (rolls-In a negated literals)) ∙ fold-roll-Unit L L L unit_layer conjunction_layer predicate_layer _

pub leaves-Between : (a : Operand) (negated : Bool) (least greatest : Literal) → unit_leaves (unit.Between a negated least greatest) ≡ operand_leaves a ++ (least ∷ greatest ∷ [])
unfolding unit_leaves
leaves-Between a negated least greatest = ap unit_leaves (sym (rolls-Between a negated least greatest)) ∙ fold-roll-Unit L L L unit_layer conjunction_layer predicate_layer _

pub leaves-StartsWith : (c : ColumnName) (front : Quoted) → unit_leaves (unit.StartsWith c front) ≡ []
unfolding unit_leaves
leaves-StartsWith c front = ap unit_leaves (sym (rolls-StartsWith c front)) ∙ fold-roll-Unit L L L unit_layer conjunction_layer predicate_layer _

pub leaves-Conjunction : (u : Test) (others : List Test) → conjunction_leaves (roll-Conjunction (record { first = u; others = others })) ≡ unit_leaves u ++ joined (map unit_leaves others)
unfolding conjunction_leaves unit_leaves
leaves-Conjunction u others = fold-roll-Conjunction L L L unit_layer conjunction_layer predicate_layer _

pub leaves-Predicate : (c : Conjunction) (others : List Conjunction) → predicate_leaves (roll-Predicate (record { first = c; others = others })) ≡ conjunction_leaves c ++ joined (map conjunction_leaves others)
unfolding predicate_leaves conjunction_leaves
leaves-Predicate c others = fold-roll-Predicate L L L unit_layer conjunction_layer predicate_layer _

-- ---- and what is given part by part is given

pub both_given : (xs ys : List Literal) → AreGiven xs → AreGiven ys → AreGiven (xs ++ ys)
both_given [] ys g h = h
both_given (x ∷ xs) ys g h = (g.0, both_given xs ys g.1 h)

pub each_given : {A : Type 0} (leaves : A → List Literal) (xs : List A) → Each (λ x. AreGiven (leaves x)) xs → AreGiven (joined (map leaves xs))
each_given leaves [] g = tt
each_given leaves (x ∷ xs) g = both_given (leaves x) (joined (map leaves xs)) g.0 (each_given leaves xs g.1)

pub literals_given : (literals : List Literal) → IsListed (λ l. IsPrintableValue l.value) literals → AreGiven literals
literals_given [] g = tt
literals_given (l ∷ literals) g = g
