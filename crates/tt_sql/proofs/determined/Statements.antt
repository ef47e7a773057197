-- What is written is given: no list is empty, and dates are days of the years 1 to 9999.
use Rattle.std.proofs.Common.{◌≡◌, ℕ, zero, suc, List, [], ◌∷◌, ◌++◌, map, Option, Some, None, sym, subst}
use Rattle.std.specs.Prelude.{⊤}
use Rattle.tt_value.specs.declared.name.Literal.{Literal}
use Rattle.tt_value.specs.declared.value.Value.{Value}
use Rattle.tt_value.specs.declared.value.Value.TheVariants.{Null, Int, Date, Text}
use Rattle.tt_value.specs.values.RowText.{IsPrintableValue}
use Rattle.tt_value.specs.declared.expression.Expr.{Expr, out-Expr, fold_out-Expr}
use Rattle.tt_value.specs.declared.expression.Term.{Term, out-Term, fold_out-Term}
use Rattle.tt_value.specs.declared.expression.Addend.{Addend, out-Addend, fold_out-Addend}
use Rattle.tt_value.specs.declared.expression.Factor.{Factor, out-Factor, roll-Factor, roll-out-Factor}
use Rattle.tt_value.specs.declared.expression.Factor.TheOpen.{Factor-F}
use Rattle.tt_value.specs.declared.expression.Factor.TheFolds.{fold-roll-Factor}
use Rattle.tt_value.specs.declared.predicate.Operand.{Operand}
use Rattle.tt_value.specs.declared.predicate.Operand.TheVariants as operands
use Rattle.tt_value.specs.declared.predicate.Predicate.{Predicate, out-Predicate, fold_out-Predicate}
use Rattle.tt_value.specs.declared.predicate.Conjunction.{Conjunction, out-Conjunction, fold_out-Conjunction}
use Rattle.tt_value.specs.declared.predicate.Unit.{Unit as Test, out-Unit, roll-Unit, roll-out-Unit}
use Rattle.tt_value.specs.declared.predicate.Unit.TheOpen.{Unit-F}
use Rattle.tt_value.specs.declared.predicate.Unit.TheFolds.{fold-roll-Unit}
use Rattle.tt_sql.specs.declared.change.Dml.{Dml}
use Rattle.tt_sql.specs.declared.change.Dml.TheVariants as dml
use Rattle.tt_sql.specs.declared.change.InsertSource.{InsertSource}
use Rattle.tt_sql.specs.declared.change.InsertSource.TheVariants as sources
use Rattle.tt_sql.specs.declared.query.Clause.{Clause}
use Rattle.tt_sql.specs.declared.query.Item.{Item}
use Rattle.tt_sql.specs.declared.query.Item.TheVariants as items
use Rattle.tt_sql.specs.declared.query.Moment.{Moment}
use Rattle.tt_sql.specs.declared.query.Moment.TheVariants as moments
use Rattle.tt_sql.specs.declared.query.Query.{Query}
use Rattle.tt_sql.specs.declared.query.Selection.{Selection}
use Rattle.tt_sql.specs.declared.query.Selection.TheVariants as selections
use Rattle.tt_sql.specs.declared.statement.Statement.{Statement}
use Rattle.tt_sql.specs.declared.statement.Statement.TheVariants as statements
use Rattle.tt_sql.specs.trees.Lists.{Each, IsListed, WhenThere}
use Rattle.tt_sql.specs.determined.Expressions.{AreGiven, joined, factor_layer, addend_layer, expr_layer, term_layer, expr_leaves, addend_leaves, term_leaves, factor_leaves, operand_leaves, unit_layer, conjunction_layer, predicate_layer, unit_leaves, conjunction_leaves, predicate_leaves, IsGivenFactor, IsGivenAddend, IsGivenTerm, IsGivenExpr, IsGivenUnit, IsGivenConjunction, IsGivenPredicate}
use Rattle.tt_sql.proofs.determined.Expressions.{both_given, each_given, literals_given}
use Rattle.tt_sql.specs.determined.Queries.{IsGivenItem, IsGivenSelection, IsGivenMoment, IsGivenClause, IsGivenJoin, IsGivenQuery}
use Rattle.tt_sql.specs.determined.Statements.{IsGivenInsertSource, IsGivenDml, IsGivenStatement}
use Rattle.tt_sql.specs.trees.Leaves.{IsWrittenValue}
use Rattle.tt_sql.specs.trees.Expressions.{IsWrittenLiteral, IsWrittenOperand, TermHas, AddendHas, ExprHas, FactorHas, IsWrittenFactor, IsWrittenExpr, ConjunctionHas, PredicateHas, UnitHas, IsWrittenUnit, IsWrittenPredicate}
use Rattle.tt_sql.specs.trees.Queries.{IsWrittenItem, IsWrittenSelection, IsWrittenMoment, IsWrittenClause, IsWrittenQuery}
use Rattle.tt_sql.specs.trees.Statements.{IsWrittenInsertSource, IsWrittenDml, IsWrittenStatement}

-- ---- lists

each_so : {A : Type 0} (P Q : A → Type 0) → ((x : A) → P x → Q x) → (xs : List A) → Each P xs → Each Q xs
each_so P Q so [] each = tt
each_so P Q so (x ∷ xs) each = (so x each.0, each_so P Q so xs each.1)

listed_so : {A : Type 0} (P Q : A → Type 0) → ((x : A) → P x → Q x) → (xs : List A) → IsListed P xs → IsListed Q xs
listed_so P Q so [] is = is
listed_so P Q so (x ∷ xs) is = (so x is.0, each_so P Q so xs is.1)

there_so : {A : Type 0} (P Q : A → Type 0) → ((x : A) → P x → Q x) → (o : Option A) → WhenThere P o → WhenThere Q o
there_so P Q so None is = tt
there_so P Q so (Some x) is = so x is

-- ---- literals

value_given : (v : Value) → IsWrittenValue v → IsPrintableValue v
value_given Null is = tt
value_given (Int n) is = tt
value_given (Date day) is = is
value_given (Text bytes) is = tt

abbrev IsPrintableLiteral : Literal → Type 0
IsPrintableLiteral l = IsPrintableValue l.value

literal_given : (l : Literal) → IsWrittenLiteral l → IsPrintableLiteral l
literal_given l is = value_given l.value is

-- ---- expressions

abbrev L : Type 0
L = List Literal

term_leaves-out : (t : Term) → term_leaves t ≡ factor_leaves (out-Term t).first ++ joined (map factor_leaves (out-Term t).others)
unfolding term_leaves factor_leaves
term_leaves-out t = fold_out-Term L L L L factor_layer addend_layer expr_layer term_layer t

addend_leaves-out : (a : Addend) → addend_leaves a ≡ term_leaves (out-Addend a).term
unfolding addend_leaves term_leaves
addend_leaves-out a = fold_out-Addend L L L L factor_layer addend_layer expr_layer term_layer a

expr_leaves-out : (e : Expr) → expr_leaves e ≡ term_leaves (out-Expr e).first ++ joined (map addend_leaves (out-Expr e).others)
unfolding expr_leaves term_leaves addend_leaves
expr_leaves-out e = fold_out-Expr L L L L factor_layer addend_layer expr_layer term_layer e

abbrev layer_leaves : Factor-F Factor Addend Expr Term → List Literal
layer_leaves (Factor-F.Literal l) = l ∷ []
layer_leaves (Factor-F.Column c) = []
layer_leaves (Factor-F.Bracket place e) = expr_leaves e
layer_leaves (Factor-F.Negated place f) = factor_leaves f

leaves_are : (y : Factor-F Factor Addend Expr Term) → factor_leaves (roll-Factor y) ≡ layer_leaves y
unfolding factor_leaves expr_leaves
leaves_are (Factor-F.Literal l) = fold-roll-Factor L L L L factor_layer addend_layer expr_layer term_layer _
leaves_are (Factor-F.Column c) = fold-roll-Factor L L L L factor_layer addend_layer expr_layer term_layer _
leaves_are (Factor-F.Bracket place e) = fold-roll-Factor L L L L factor_layer addend_layer expr_layer term_layer _
leaves_are (Factor-F.Negated place f) = fold-roll-Factor L L L L factor_layer addend_layer expr_layer term_layer _

module _ (P : Factor → Type 0) (good : (f : Factor) → P f → IsGivenFactor f) where
  term_given : (t : Term) → TermHas P t → IsGivenTerm t
  term_given t has = subst AreGiven (sym (term_leaves-out t)) (both_given (factor_leaves (out-Term t).first) (joined (map factor_leaves (out-Term t).others)) (good (out-Term t).first has.0) (each_given factor_leaves (out-Term t).others (each_so P IsGivenFactor good (out-Term t).others has.1)))

  addend_given : (a : Addend) → AddendHas P a → IsGivenAddend a
  addend_given a has = subst AreGiven (sym (addend_leaves-out a)) (term_given (out-Addend a).term has)

  expr_given_by : (e : Expr) → ExprHas P e → IsGivenExpr e
  expr_given_by e has = subst AreGiven (sym (expr_leaves-out e)) (both_given (term_leaves (out-Expr e).first) (joined (map addend_leaves (out-Expr e).others)) (term_given (out-Expr e).first has.0) (each_given addend_leaves (out-Expr e).others (each_so (AddendHas P) IsGivenAddend addend_given (out-Expr e).others has.1)))

  layer_given : (y : Factor-F Factor Addend Expr Term) → FactorHas P y → AreGiven (layer_leaves y)
  layer_given (Factor-F.Literal l) has = (literal_given l has, tt)
  layer_given (Factor-F.Column c) has = tt
  layer_given (Factor-F.Bracket place e) has = expr_given_by e has
  layer_given (Factor-F.Negated place f) has = good f has.0

  factor_given_by : (f : Factor) → FactorHas P (out-Factor f) → IsGivenFactor f
  factor_given_by f has = subst IsGivenFactor (roll-out-Factor f) (subst AreGiven (sym (leaves_are (out-Factor f))) (layer_given (out-Factor f) has))

factor_given : (levels : ℕ) (f : Factor) → IsWrittenFactor levels f → IsGivenFactor f
unfolding IsWrittenFactor
factor_given zero f has = factor_given_by (λ g. ⊥) (λ g is. absurd is) f has
factor_given (suc levels) f has = factor_given_by (IsWrittenFactor levels) (factor_given levels) f has

pub expr_given : (levels : ℕ) (e : Expr) → IsWrittenExpr levels e → IsGivenExpr e
expr_given levels e has = expr_given_by (IsWrittenFactor levels) (factor_given levels) e has

-- ---- predicates

conjunction_leaves-out : (c : Conjunction) → conjunction_leaves c ≡ unit_leaves (out-Conjunction c).first ++ joined (map unit_leaves (out-Conjunction c).others)
unfolding conjunction_leaves unit_leaves
conjunction_leaves-out c = fold_out-Conjunction L L L unit_layer conjunction_layer predicate_layer c

predicate_leaves-out : (p : Predicate) → predicate_leaves p ≡ conjunction_leaves (out-Predicate p).first ++ joined (map conjunction_leaves (out-Predicate p).others)
unfolding predicate_leaves conjunction_leaves
predicate_leaves-out p = fold_out-Predicate L L L unit_layer conjunction_layer predicate_layer p

abbrev unit_layer_leaves : Unit-F Test Conjunction Predicate → List Literal
unit_layer_leaves (Unit-F.Not u) = unit_leaves u
unit_layer_leaves (Unit-F.Bracket p) = predicate_leaves p
unit_layer_leaves (Unit-F.Compare a c b) = operand_leaves a ++ operand_leaves b
unit_layer_leaves (Unit-F.IsNull a negated) = operand_leaves a
unit_layer_leaves (Unit-F.In a negated literals) = operand_leaves a ++ literals
unit_layer_leaves (Unit-F.Between a negated least greatest) = operand_leaves a ++ (least ∷ greatest ∷ [])
unit_layer_leaves (Unit-F.StartsWith c front) = []

unit_leaves_are : (y : Unit-F Test Conjunction Predicate) → unit_leaves (roll-Unit y) ≡ unit_layer_leaves y
unfolding unit_leaves predicate_leaves
unit_leaves_are (Unit-F.Not u) = fold-roll-Unit L L L unit_layer conjunction_layer predicate_layer _
unit_leaves_are (Unit-F.Bracket p) = fold-roll-Unit L L L unit_layer conjunction_layer predicate_layer _
unit_leaves_are (Unit-F.Compare a c b) = fold-roll-Unit L L L unit_layer conjunction_layer predicate_layer _
unit_leaves_are (Unit-F.IsNull a negated) = fold-roll-Unit L L L unit_layer conjunction_layer predicate_layer _
unit_leaves_are (Unit-F.In a negated literals) = fold-roll-Unit L L L unit_layer conjunction_layer predicate_layer _
unit_leaves_are (Unit-F.Between a negated least greatest) = fold-roll-Unit L L L unit_layer conjunction_layer predicate_layer _
unit_leaves_are (Unit-F.StartsWith c front) = fold-roll-Unit L L L unit_layer conjunction_layer predicate_layer _

operand_given : (a : Operand) → IsWrittenOperand a → AreGiven (operand_leaves a)
operand_given (operands.Column c) is = tt
operand_given (operands.Literal l) is = (literal_given l is, tt)

module _ (P : Test → Type 0) (good : (u : Test) → P u → IsGivenUnit u) where
  conjunction_given : (c : Conjunction) → ConjunctionHas P c → IsGivenConjunction c
  conjunction_given c has = subst AreGiven (sym (conjunction_leaves-out c)) (both_given (unit_leaves (out-Conjunction c).first) (joined (map unit_leaves (out-Conjunction c).others)) (good (out-Conjunction c).first has.0) (each_given unit_leaves (out-Conjunction c).others (each_so P IsGivenUnit good (out-Conjunction c).others has.1)))

  predicate_given_by : (p : Predicate) → PredicateHas P p → IsGivenPredicate p
  predicate_given_by p has = subst AreGiven (sym (predicate_leaves-out p)) (both_given (conjunction_leaves (out-Predicate p).first) (joined (map conjunction_leaves (out-Predicate p).others)) (conjunction_given (out-Predicate p).first has.0) (each_given conjunction_leaves (out-Predicate p).others (each_so (ConjunctionHas P) IsGivenConjunction conjunction_given (out-Predicate p).others has.1)))

  unit_layer_given : (y : Unit-F Test Conjunction Predicate) → UnitHas P y → AreGiven (unit_layer_leaves y)
  unit_layer_given (Unit-F.Not u) has = good u has
  unit_layer_given (Unit-F.Bracket p) has = predicate_given_by p has
  unit_layer_given (Unit-F.Compare a c b) has = both_given (operand_leaves a) (operand_leaves b) (operand_given a has.0) (operand_given b has.1)
  unit_layer_given (Unit-F.IsNull a negated) has = operand_given a has
  unit_layer_given (Unit-F.In a negated literals) has = both_given (operand_leaves a) literals (operand_given a has.0) (literals_given literals (listed_so IsWrittenLiteral IsPrintableLiteral literal_given literals has.1))
  unit_layer_given (Unit-F.Between a negated least greatest) has = both_given (operand_leaves a) (least ∷ greatest ∷ []) (operand_given a has.0) (literal_given least has.1, (literal_given greatest has.2, tt))
  unit_layer_given (Unit-F.StartsWith c front) has = tt

  unit_given_by : (u : Test) → UnitHas P (out-Unit u) → IsGivenUnit u
  unit_given_by u has = subst IsGivenUnit (roll-out-Unit u) (subst AreGiven (sym (unit_leaves_are (out-Unit u))) (unit_layer_given (out-Unit u) has))

unit_given : (levels : ℕ) (u : Test) → IsWrittenUnit levels u → IsGivenUnit u
unfolding IsWrittenUnit
unit_given zero u has = unit_given_by (λ v. ⊥) (λ v is. absurd is) u has
unit_given (suc levels) u has = unit_given_by (IsWrittenUnit levels) (unit_given levels) u has

pub predicate_given : (levels : ℕ) (p : Predicate) → IsWrittenPredicate levels p → IsGivenPredicate p
predicate_given levels p has = predicate_given_by (IsWrittenUnit levels) (unit_given levels) p has

-- ---- queries

item_given : (levels : ℕ) (i : Item) → IsWrittenItem levels i → IsGivenItem i
item_given levels (items.Expr e) is = expr_given levels e is
item_given levels (items.CountAll place) is = tt
item_given levels (items.Count place c) is = tt
item_given levels (items.Sum place c) is = tt
item_given levels (items.Min place c) is = tt
item_given levels (items.Max place c) is = tt

selection_given : (levels : ℕ) (s : Selection) → IsWrittenSelection levels s → IsGivenSelection s
selection_given levels (selections.All place) is = tt
selection_given levels (selections.Listed xs) is = listed_so (IsWrittenItem levels) IsGivenItem (item_given levels) xs is

moment_given : (m : Moment) → IsWrittenMoment m → IsGivenMoment m
moment_given (moments.Timestamp n) is = tt
moment_given (moments.Offset o) is = listed_so _ (λ n. ⊤) (λ n short. tt) o.factors is.0
moment_given (moments.Statement q) is = tt

clause_given : (c : Clause) → IsWrittenClause c → IsGivenClause c
clause_given c is = moment_given c.moment is

pub query_given : (levels : ℕ) (q : Query) → IsWrittenQuery levels q → IsGivenQuery q
query_given levels q is = record {
  selection = selection_given levels q.selection is.selection;
  source = there_so IsWrittenClause IsGivenClause clause_given q.first.clause is.table.1;
  joins = subst (Each IsGivenJoin) (sym is.joins) tt;
  filter = there_so (IsWrittenPredicate levels) IsGivenPredicate (predicate_given levels) q.filter is.filter;
}

-- ---- statements

source_given : (levels : ℕ) (s : InsertSource) → IsWrittenInsertSource levels s → IsGivenInsertSource s
source_given levels (sources.Values tuples) is = listed_so _ _ (λ t has. listed_so IsWrittenLiteral IsPrintableLiteral literal_given t.values has) tuples is
source_given levels (sources.Query q) is = query_given levels q is

dml_given : (levels : ℕ) (d : Dml) → IsWrittenDml levels d → IsGivenDml d
dml_given levels (dml.Insert i) is = (there_so _ _ (λ names has. listed_so _ (λ n. ⊤) (λ n named. tt) names has) i.columns is.1, source_given levels i.source is.2)
dml_given levels (dml.Update u) is = (listed_so _ _ (λ s has. expr_given levels s.value has.1) u.sets is.1, there_so (IsWrittenPredicate levels) IsGivenPredicate (predicate_given levels) u.filter is.2)
dml_given levels (dml.Delete d) is = there_so (IsWrittenPredicate levels) IsGivenPredicate (predicate_given levels) d.filter is.1
dml_given levels (dml.Copy c) is = tt

pub statement_given : (levels : ℕ) (s : Statement) → IsWrittenStatement levels s → IsGivenStatement s
statement_given levels (statements.Query q) is = query_given levels q is
statement_given levels (statements.Dml d) is = dml_given levels d is
statement_given levels (statements.Create c) is = listed_so _ (λ d. ⊤) (λ d has. tt) c.columns is.2
statement_given levels (statements.Clone c) is = there_so IsWrittenClause IsGivenClause clause_given c.source.clause is.2.1
statement_given levels (statements.Drop t) is = tt
statement_given levels (statements.Undrop t) is = tt
statement_given levels (statements.Truncate t) is = tt
statement_given levels (statements.Alter a) is = tt
statement_given levels statements.Begin is = tt
statement_given levels statements.Commit is = tt
statement_given levels statements.Rollback is = tt
statement_given levels (statements.Wait w) is = tt
statement_given levels (statements.Explain q) is = query_given levels q is
statement_given levels (statements.Show history) is = tt
statement_given levels statements.Metrics is = tt
statement_given levels (statements.Depth t) is = tt
