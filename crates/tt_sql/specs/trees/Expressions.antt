-- The expressions and predicates that stand in a statement, with at most so many levels. A name stands alone, and is a
-- word that is not reserved and not too long. Numbers and days are in their ranges, texts have only bytes that may
-- stand between quotes, and no list is empty. A minus stands in front of no number above 0, since it would belong to
-- the number: in front of 0 only as that of `-0`.
use Rattle.std.specs.Prelude.{◌≡◌, ℕ, zero, suc, ◌<◌, ◌^◌, None, pos, negsuc, ⊤}
use Rattle.tt_value.specs.declared.name.Name.{Name}
use Rattle.tt_value.specs.declared.name.Number.{Number}
use Rattle.tt_value.specs.declared.name.Quoted.{Quoted}
use Rattle.tt_value.specs.declared.name.Literal.{Literal}
use Rattle.tt_value.specs.declared.name.ColumnName.{ColumnName}
use Rattle.tt_value.specs.declared.name.TableName.{TableName}
use Rattle.tt_value.specs.declared.value.Value.{Value}
use Rattle.tt_value.specs.declared.value.Value.TheVariants.{Null, Int, Date, Text}
use Rattle.tt_value.specs.declared.expression.Expr.{Expr, out-Expr}
use Rattle.tt_value.specs.declared.expression.Term.{Term, out-Term}
use Rattle.tt_value.specs.declared.expression.Addend.{Addend, out-Addend}
use Rattle.tt_value.specs.declared.expression.Factor.{Factor, out-Factor}
use Rattle.tt_value.specs.declared.expression.Factor.TheOpen.{Factor-F}
use Rattle.tt_value.specs.declared.predicate.Operand.{Operand}
use Rattle.tt_value.specs.declared.predicate.Operand.TheVariants as operand
use Rattle.tt_value.specs.declared.predicate.Predicate.{Predicate, out-Predicate}
use Rattle.tt_value.specs.declared.predicate.Conjunction.{Conjunction, out-Conjunction}
use Rattle.tt_value.specs.declared.predicate.Unit.{Unit as Test, out-Unit}
use Rattle.tt_value.specs.declared.predicate.Unit.TheOpen.{Unit-F}
use Rattle.tt_sql.specs.trees.Lists.{Each, IsListed}
use Rattle.tt_sql.specs.trees.Leaves.{IsNameText, IsWrittenText, IsWrittenValue}

-- ---- names, numbers and literals

abbrev pub IsWrittenName : Name → Type 0
IsWrittenName n = IsNameText n.text

abbrev pub IsWrittenColumn : ColumnName → Type 0
IsWrittenColumn c = (c.table ≡ None) × IsNameText c.name.text

abbrev pub IsWrittenTable : TableName → Type 0
IsWrittenTable t = (t.schema ≡ None) × IsNameText t.name.text

abbrev pub IsWrittenNumber : Number → Type 0
IsWrittenNumber n = n.value < 2 ^ 63

abbrev pub IsWrittenQuoted : Quoted → Type 0
IsWrittenQuoted q = IsWrittenText q.text

abbrev pub IsWrittenLiteral : Literal → Type 0
IsWrittenLiteral l = IsWrittenValue l.value

-- ---- expressions

abbrev pub IsNotPositive : Value → Type 0
IsNotPositive (Int (pos zero)) = ⊤
IsNotPositive (Int (pos (suc n))) = ⊥
IsNotPositive (Int (negsuc n)) = ⊤
IsNotPositive Null = ⊤
IsNotPositive (Date day) = ⊤
IsNotPositive (Text bytes) = ⊤

-- a minus may stand in front of it
abbrev pub MayBeNegated : Factor-F Factor Addend Expr Term → Type 0
MayBeNegated (Factor-F.Literal l) = IsNotPositive l.value
MayBeNegated (Factor-F.Column c) = ⊤
MayBeNegated (Factor-F.Bracket place e) = ⊤
MayBeNegated (Factor-F.Negated place f) = ⊤

-- each factor of it is right
abbrev pub TermHas : (Factor → Type 0) → Term → Type 0
TermHas P t = P (out-Term t).first × Each P (out-Term t).others

abbrev pub AddendHas : (Factor → Type 0) → Addend → Type 0
AddendHas P a = TermHas P (out-Addend a).term

abbrev pub ExprHas : (Factor → Type 0) → Expr → Type 0
ExprHas P e = TermHas P (out-Expr e).first × Each (AddendHas P) (out-Expr e).others

-- a factor, where this is asked of the factors in it
abbrev pub FactorHas : (Factor → Type 0) → Factor-F Factor Addend Expr Term → Type 0
FactorHas P (Factor-F.Literal l) = IsWrittenLiteral l
FactorHas P (Factor-F.Column c) = IsWrittenColumn c
FactorHas P (Factor-F.Bracket place e) = ExprHas P e
FactorHas P (Factor-F.Negated place f) = P f × MayBeNegated (out-Factor f)

unfoldable pub IsWrittenFactor : ℕ → Factor → Type 0
IsWrittenFactor zero f = FactorHas (λ g. ⊥) (out-Factor f)
IsWrittenFactor (suc levels) f = FactorHas (IsWrittenFactor levels) (out-Factor f)

abbrev pub IsWrittenExpr : ℕ → Expr → Type 0
IsWrittenExpr levels e = ExprHas (IsWrittenFactor levels) e

-- ---- predicates

abbrev pub IsWrittenOperand : Operand → Type 0
IsWrittenOperand (operand.Column c) = IsWrittenColumn c
IsWrittenOperand (operand.Literal l) = IsWrittenLiteral l

-- each unit of it is right
abbrev pub ConjunctionHas : (Test → Type 0) → Conjunction → Type 0
ConjunctionHas P c = P (out-Conjunction c).first × Each P (out-Conjunction c).others

abbrev pub PredicateHas : (Test → Type 0) → Predicate → Type 0
PredicateHas P p = ConjunctionHas P (out-Predicate p).first × Each (ConjunctionHas P) (out-Predicate p).others

-- a unit, where this is asked of the units in it
abbrev pub UnitHas : (Test → Type 0) → Unit-F Test Conjunction Predicate → Type 0
UnitHas P (Unit-F.Not u) = P u
UnitHas P (Unit-F.Bracket p) = PredicateHas P p
UnitHas P (Unit-F.Compare a c b) = IsWrittenOperand a × IsWrittenOperand b
UnitHas P (Unit-F.IsNull a negated) = IsWrittenOperand a
UnitHas P (Unit-F.In a negated literals) = IsWrittenOperand a × IsListed IsWrittenLiteral literals
UnitHas P (Unit-F.Between a negated least greatest) = IsWrittenOperand a × IsWrittenLiteral least × IsWrittenLiteral greatest
UnitHas P (Unit-F.StartsWith c front) = IsWrittenColumn c × IsWrittenQuoted front

unfoldable pub IsWrittenUnit : ℕ → Test → Type 0
IsWrittenUnit zero u = UnitHas (λ v. ⊥) (out-Unit u)
IsWrittenUnit (suc levels) u = UnitHas (IsWrittenUnit levels) (out-Unit u)

abbrev pub IsWrittenPredicate : ℕ → Predicate → Type 0
IsWrittenPredicate levels p = PredicateHas (IsWrittenUnit levels) p
