-- A tree whose parts are given is given.
use Rattle.std.proofs.Common.{◌≡◌, ℕ, Bool, List, [], ◌∷◌, ◌++◌, sym, subst}
use Rattle.tt_value.specs.declared.name.Literal.{Literal}
use Rattle.tt_value.specs.declared.name.ColumnName.{ColumnName}
use Rattle.tt_value.specs.declared.name.Quoted.{Quoted}
use Rattle.tt_value.specs.declared.expression.Sign.{Sign}
use Rattle.tt_value.specs.declared.expression.Expr.{Expr, roll-Expr}
use Rattle.tt_value.specs.declared.expression.Term.{Term, roll-Term}
use Rattle.tt_value.specs.declared.expression.Addend.{Addend, roll-Addend}
use Rattle.tt_value.specs.declared.expression.Factor.{Factor}
use Rattle.tt_value.specs.declared.expression.Factor.TheVariants as factor
use Rattle.tt_value.specs.declared.predicate.Comparison.{Comparison}
use Rattle.tt_value.specs.declared.predicate.Operand.{Operand}
use Rattle.tt_value.specs.declared.predicate.Predicate.{Predicate, roll-Predicate}
use Rattle.tt_value.specs.declared.predicate.Conjunction.{Conjunction, roll-Conjunction}
use Rattle.tt_value.specs.declared.predicate.Unit.{Unit as Test}
use Rattle.tt_value.specs.declared.predicate.Unit.TheVariants as unit
use Rattle.tt_value.specs.values.RowText.{IsPrintableValue}
use Rattle.tt_sql.specs.determined.Expressions.{AreGiven, IsGivenAddend, IsGivenConjunction, IsGivenExpr, IsGivenFactor, IsGivenPredicate, IsGivenTerm, IsGivenUnit, addend_leaves, conjunction_leaves, factor_leaves, operand_leaves, unit_leaves, term_leaves}
use Rattle.tt_sql.specs.trees.Lists.{Each, IsListed}
use Rattle.tt_sql.proofs.determined.Expressions.{both_given, each_given, literals_given, leaves-Literal, leaves-Column, leaves-Bracket, leaves-Negated, leaves-Addend, leaves-Term, leaves-Expr, leaves-Not, leaves-Group, leaves-Compare, leaves-IsNull, leaves-In, leaves-Between, leaves-StartsWith, leaves-Conjunction, leaves-Predicate}

-- ---- lists that are pushed on

each_behind : {A : Type 0} (P : A → Type 0) (xs : List A) (x : A) → Each P xs → P x → Each P (xs ++ x ∷ [])
each_behind P [] x each is = (is, tt)
each_behind P (y ∷ xs) x each is = (each.0, each_behind P xs x each.1 is)

pub each_push : {A : Type 0} (P : A → Type 0) (xs ys : List A) (x : A) → ys ≡ xs ++ x ∷ [] → Each P xs → P x → Each P ys
each_push P xs ys x e each is = subst (Each P) (sym e) (each_behind P xs x each is)

-- ---- expressions

pub given_literal : (l : Literal) → IsPrintableValue l.value → IsGivenFactor (factor.Literal l)
given_literal l is = rw (leaves-Literal l) (is, tt)

pub given_column : (c : ColumnName) → IsGivenFactor (factor.Column c)
given_column c = rw (leaves-Column c) tt

pub given_bracket : (place : ℕ) (e : Expr) → IsGivenExpr e → IsGivenFactor (factor.Bracket place e)
given_bracket place e is = rw (leaves-Bracket place e) is

pub given_negated : (place : ℕ) (f : Factor) → IsGivenFactor f → IsGivenFactor (factor.Negated place f)
given_negated place f is = rw (leaves-Negated place f) is

pub given_addend : (sign : Sign) (t : Term) → IsGivenTerm t → IsGivenAddend (roll-Addend (record { sign = sign; term = t }))
given_addend sign t is = rw (leaves-Addend sign t) is

pub given_term : (f : Factor) (others : List Factor) → IsGivenFactor f → Each IsGivenFactor others → IsGivenTerm (roll-Term (record { first = f; others = others }))
given_term f others is each = rw (leaves-Term f others) (both_given (factor_leaves f) _ is (each_given factor_leaves others each))

pub given_expr : (t : Term) (others : List Addend) → IsGivenTerm t → Each IsGivenAddend others → IsGivenExpr (roll-Expr (record { first = t; others = others }))
given_expr t others is each = rw (leaves-Expr t others) (both_given (term_leaves t) _ is (each_given addend_leaves others each))

-- ---- predicates

pub given_not : (u : Test) → IsGivenUnit u → IsGivenUnit (unit.Not u)
given_not u is = rw (leaves-Not u) is

pub given_group : (p : Predicate) → IsGivenPredicate p → IsGivenUnit (unit.Bracket p)
given_group p is = rw (leaves-Group p) is

pub given_compare : (a : Operand) (c : Comparison) (b : Operand) → AreGiven (operand_leaves a) → AreGiven (operand_leaves b) → IsGivenUnit (unit.Compare a c b)
given_compare a c b is are = rw (leaves-Compare a c b) (both_given (operand_leaves a) (operand_leaves b) is are)

pub given_is_null : (a : Operand) (negated : Bool) → AreGiven (operand_leaves a) → IsGivenUnit (unit.IsNull a negated)
given_is_null a negated is = rw (leaves-IsNull a negated) is

pub given_in : (a : Operand) (negated : Bool) (literals : List Literal) → AreGiven (operand_leaves a) → IsListed (λ l. IsPrintableValue l.value) literals → IsGivenUnit (unit.In a negated literals)
given_in a negated literals is are = rw (leaves-In a negated literals) (both_given (operand_leaves a) literals is (literals_given literals are))

pub given_between : (a : Operand) (negated : Bool) (least greatest : Literal) → AreGiven (operand_leaves a) → IsPrintableValue least.value → IsPrintableValue greatest.value → IsGivenUnit (unit.Between a negated least greatest)
given_between a negated least greatest is low high = rw (leaves-Between a negated least greatest) (both_given (operand_leaves a) _ is (low, (high, tt)))

pub given_starts_with : (c : ColumnName) (front : Quoted) → IsGivenUnit (unit.StartsWith c front)
given_starts_with c front = rw (leaves-StartsWith c front) tt

pub given_conjunction : (u : Test) (others : List Test) → IsGivenUnit u → Each IsGivenUnit others → IsGivenConjunction (roll-Conjunction (record { first = u; others = others }))
given_conjunction u others is each = rw (leaves-Conjunction u others) (both_given (unit_leaves u) _ is (each_given unit_leaves others each))

pub given_predicate : (c : Conjunction) (others : List Conjunction) → IsGivenConjunction c → Each IsGivenConjunction others → IsGivenPredicate (roll-Predicate (record { first = c; others = others }))
given_predicate c others is each = rw (leaves-Predicate c others) (both_given (conjunction_leaves c) _ is (each_given conjunction_leaves others each))
