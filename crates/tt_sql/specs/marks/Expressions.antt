-- The marks of a tree: what the derivation notes that spells it.
use Rattle.std.specs.Prelude.{ℕ, Bool, true, false, List, [], ◌∷◌, ◌++◌, map, Option, Some, None, pos}
use Rattle.tt_value.specs.declared.name.Name.{Name}
use Rattle.tt_value.specs.declared.name.Number.{Number}
use Rattle.tt_value.specs.declared.name.Quoted.{Quoted}
use Rattle.tt_value.specs.declared.name.Literal.{Literal}
use Rattle.tt_value.specs.declared.name.ColumnName.{ColumnName}
use Rattle.tt_value.specs.declared.name.TableName.{TableName}
use Rattle.tt_value.specs.declared.value.Value.{Value}
use Rattle.tt_value.specs.declared.value.Value.TheVariants.{Null, Int, Date, Text}
use Rattle.tt_value.specs.declared.expression.Sign.{Sign}
use Rattle.tt_value.specs.declared.expression.Sign.TheVariants.{Plus, Minus}
use Rattle.tt_value.specs.declared.expression.Expr.{Expr}
use Rattle.tt_value.specs.declared.expression.Term.{Term}
use Rattle.tt_value.specs.declared.expression.Addend.{Addend}
use Rattle.tt_value.specs.declared.expression.Factor.{Factor}
use Rattle.tt_value.specs.declared.expression.Factor.TheFolds.{fold-Expr, fold-Term, fold-Addend, fold-Factor}
use Rattle.tt_value.specs.declared.expression.Factor.TheOpen.{Expr-F, Addend-F, Term-F, Factor-F}
use Rattle.tt_value.specs.declared.predicate.Operand.{Operand}
use Rattle.tt_value.specs.declared.predicate.Operand.TheVariants as operand
use Rattle.tt_value.specs.declared.predicate.Comparison.{Comparison}
use Rattle.tt_value.specs.declared.predicate.Comparison.TheVariants.{Equal, NotEqual, Less, LessOrEqual, Greater, GreaterOrEqual}
use Rattle.tt_value.specs.declared.predicate.Predicate.{Predicate}
use Rattle.tt_value.specs.declared.predicate.Conjunction.{Conjunction}
use Rattle.tt_value.specs.declared.predicate.Unit.{Unit as Test}
use Rattle.tt_value.specs.declared.predicate.Unit.TheFolds.{fold-Predicate, fold-Conjunction, fold-Unit}
use Rattle.tt_value.specs.declared.predicate.Unit.TheOpen.{Predicate-F, Conjunction-F, Unit-F}
use Rattle.tt_value.specs.calendar.Calendar.{day_text}
use Rattle.tt_sql.specs.grammar.Grammar.{Mark, Way, At, Said, Prefix, Meant}

-- ---- lists

-- what is repeated, and that it ends
abbrev pub repeated : List (List Mark) → List Mark
repeated [] = Way 0 ∷ []
repeated (m ∷ ms) = Way 1 ∷ (m ++ repeated ms)

-- one, and then more with commas between them, or that there is none
abbrev pub listed_marks : List (List Mark) → List Mark
listed_marks [] = Way 0 ∷ []
listed_marks (m ∷ ms) = m ++ repeated ms

-- what may be left out
abbrev pub maybe_marks : {A : Type 0} → (A → List Mark) → Option A → List Mark
maybe_marks marks None = Way 0 ∷ []
maybe_marks marks (Some x) = marks x ++ Way 1 ∷ []

abbrev pub flag_marks : Bool → List Mark
flag_marks false = Way 0 ∷ []
flag_marks true = Way 1 ∷ []

-- ---- names, numbers and literals

abbrev pub name_marks : Name → List Mark
name_marks n = Said n.text n.place ∷ []

abbrev pub number_marks : Number → List Mark
number_marks n = Meant (pos n.value) n.place ∷ []

abbrev pub quoted_marks : Quoted → List Mark
quoted_marks q = Said q.text q.place ∷ []

-- a name that may have another one in front
abbrev pub qualified : Option Name → Name → List Mark
qualified None n = name_marks n
qualified (Some front) n = Prefix front.text front.place ∷ name_marks n

abbrev pub column_marks : ColumnName → List Mark
column_marks c = qualified c.table c.name

abbrev pub table_marks : TableName → List Mark
table_marks t = qualified t.schema t.name

abbrev pub value_marks : Value → ℕ → List Mark
value_marks Null place = At place ∷ Way 0 ∷ []
value_marks (Int n) place = Meant n place ∷ Way 1 ∷ []
value_marks (Text text) place = Said text place ∷ Way 2 ∷ []
value_marks (Date day) place = Said (day_text day) place ∷ Way 3 ∷ []

abbrev pub literal_marks : Literal → List Mark
literal_marks l = value_marks l.value l.place

-- ---- expressions

abbrev pub sign_marks : Sign → List Mark
sign_marks Plus = Way 0 ∷ []
sign_marks Minus = Way 1 ∷ []

-- the steps of the fold: the marks of each, given those of its parts
abbrev M : Type 0
M = List Mark

abbrev pub factor_step : Factor-F M M M M → List Mark
factor_step (Factor-F.Literal l) = literal_marks l ++ Way 0 ∷ []
factor_step (Factor-F.Column c) = column_marks c ++ Way 1 ∷ []
factor_step (Factor-F.Bracket place e) = At place ∷ (e ++ Way 2 ∷ [])
factor_step (Factor-F.Negated place f) = At place ∷ (f ++ Way 3 ∷ [])

abbrev pub addend_step : Addend-F M M M M → List Mark
addend_step a = sign_marks a.sign ++ a.term

abbrev pub expr_step : Expr-F M M M M → List Mark
expr_step e = e.first ++ repeated e.others

abbrev pub term_step : Term-F M M M M → List Mark
term_step t = t.first ++ repeated t.others

unfoldable pub expr_marks : Expr → List Mark
expr_marks = fold-Expr M M M M factor_step addend_step expr_step term_step

unfoldable pub term_marks : Term → List Mark
term_marks = fold-Term M M M M factor_step addend_step expr_step term_step

unfoldable pub addend_marks : Addend → List Mark
addend_marks = fold-Addend M M M M factor_step addend_step expr_step term_step

unfoldable pub factor_marks : Factor → List Mark
factor_marks = fold-Factor M M M M factor_step addend_step expr_step term_step

-- ---- predicates

abbrev pub comparison_marks : Comparison → List Mark
comparison_marks Equal = Way 0 ∷ []
comparison_marks NotEqual = Way 1 ∷ []
comparison_marks Less = Way 2 ∷ []
comparison_marks LessOrEqual = Way 3 ∷ []
comparison_marks Greater = Way 4 ∷ []
comparison_marks GreaterOrEqual = Way 5 ∷ []

abbrev pub operand_marks : Operand → List Mark
operand_marks (operand.Column c) = column_marks c ++ Way 0 ∷ []
operand_marks (operand.Literal l) = literal_marks l ++ Way 1 ∷ []

abbrev pub unit_step : Unit-F M M M → List Mark
unit_step (Unit-F.Not u) = Way 7 ∷ u
unit_step (Unit-F.Bracket p) = Way 8 ∷ p
unit_step (Unit-F.Compare a c b) = operand_marks a ++ (comparison_marks c ++ (operand_marks b ++ Way 2 ∷ []))
unit_step (Unit-F.IsNull a negated) = operand_marks a ++ (flag_marks negated ++ Way 3 ∷ [])
unit_step (Unit-F.In a negated literals) = operand_marks a ++ (flag_marks negated ++ (listed_marks (map literal_marks literals) ++ Way 4 ∷ []))
unit_step (Unit-F.Between a negated least greatest) = operand_marks a ++ (flag_marks negated ++ (literal_marks least ++ (literal_marks greatest ++ Way 5 ∷ [])))
unit_step (Unit-F.StartsWith c front) = column_marks c ++ (quoted_marks front ++ Way 6 ∷ [])

abbrev pub conjunction_step : Conjunction-F M M M → List Mark
conjunction_step c = c.first ++ repeated c.others

abbrev pub predicate_step : Predicate-F M M M → List Mark
predicate_step p = p.first ++ repeated p.others

unfoldable pub unit_marks : Test → List Mark
unit_marks = fold-Unit M M M unit_step conjunction_step predicate_step

unfoldable pub conjunction_marks : Conjunction → List Mark
conjunction_marks = fold-Conjunction M M M unit_step conjunction_step predicate_step

unfoldable pub predicate_marks : Predicate → List Mark
predicate_marks = fold-Predicate M M M unit_step conjunction_step predicate_step
