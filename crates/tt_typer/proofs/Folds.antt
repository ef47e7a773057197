-- The folds over expressions and predicates, at one level.
use Rattle.std.proofs.Common.{◌≡◌, ℕ, Bool, Some, List, [], ◌∷◌, ◌++◌, map, refl, ap, sym, ◌∙◌}
use Rattle.tt_value.specs.declared.expression.Expr.{Expr, out-Expr}
use Rattle.tt_value.specs.declared.expression.Term.{Term}
use Rattle.tt_value.specs.declared.expression.Addend.{Addend}
use Rattle.tt_value.specs.declared.expression.Factor.{Factor}
use Rattle.tt_value.specs.declared.expression.Factor.TheOpen.{Expr-F, Term-F, Factor-F}
use Rattle.tt_value.specs.declared.expression.Factor.TheFolds.{fold-Term, fold-Addend, fold_out-Expr, fold_out-Term, fold_out-Addend, fold-roll-Factor}
use Rattle.tt_value.specs.declared.expression.Factor.TheVariants as factor
use Rattle.tt_value.specs.declared.expression.Factor.TheVariants.{rolls-Literal, rolls-Column, rolls-Bracket, rolls-Negated}
use Rattle.tt_value.specs.declared.name.Literal.{Literal}
use Rattle.tt_value.specs.declared.name.ColumnName.{ColumnName}
use Rattle.tt_value.specs.trees.Scope.{Scope, column_kind, kind_of}
use Rattle.tt_plain.specs.Places.{each, column_begin}
use Rattle.tt_plain.specs.Expressions.{Step, Part, calculated, joined, factor_part, sum_part, term_part, part_of, part_of_term, part_of_factor}
use Rattle.tt_plain.specs.Kinds.{fits, unless}
use Rattle.tt_plain.specs.TypeMismatches.{misfit_comparison, misfit_beside, unit_misfits, conjunction_misfits, predicate_misfits, misfit_in_predicate, misfit_in_conjunction, misfit_in_unit}
use Rattle.tt_value.specs.declared.value.Kind.TheVariants as kinds
use Rattle.tt_value.specs.declared.name.Quoted.{Quoted}
use Rattle.tt_value.specs.declared.predicate.Predicate.{Predicate, out-Predicate}
use Rattle.tt_value.specs.declared.predicate.Conjunction.{Conjunction}
use Rattle.tt_value.specs.declared.predicate.Unit.{Unit}
use Rattle.tt_value.specs.declared.predicate.Unit.TheVariants as unit
use Rattle.tt_value.specs.declared.predicate.Unit.TheVariants.{rolls-Not, rolls-Bracket as rolls-Unit-Bracket, rolls-Compare, rolls-IsNull, rolls-In, rolls-Between, rolls-StartsWith}
use Rattle.tt_value.specs.declared.predicate.Unit.TheOpen.{Unit-F}
use Rattle.tt_value.specs.declared.predicate.Unit.TheFolds.{fold_out-Predicate, fold_out-Conjunction, fold-roll-Unit}
use Rattle.tt_value.specs.declared.predicate.Operand.{Operand}
use Rattle.tt_value.specs.declared.predicate.Comparison.{Comparison}
use Rattle.tt_plain.specs.UnknownColumns.{unknown_in_operand, unit_unknown, conjunction_unknown, predicate_unknown, unknown_in_predicate, unknown_in_conjunction, unknown_in_unit, unknown_name, factor_unknown, expr_unknown, term_unknown, unknown_in_expr, unknown_in_term, unknown_in_factor}
use Rattle.tt_typer.proofs.Leftmost.{each_map}

module _ (A : Type 0) (factor : Step A Factor-F) (sum : Step A Expr-F) (product : Step A Term-F) where
  pub map_addends : (xs : List Addend) → map (fold-Addend A A A A factor (λ a. a.term) sum product) xs ≡ map (λ (a : Addend). fold-Term A A A A factor (λ a. a.term) sum product a.term) xs
  map_addends [] = refl
  map_addends (x ∷ xs) = ap (λ y. y ∷ map (fold-Addend A A A A factor (λ a. a.term) sum product) xs) (fold_out-Addend A A A A factor (λ a. a.term) sum product x) ∙ ap (λ ys. fold-Term A A A A factor (λ a. a.term) sum product x.term ∷ ys) (map_addends xs)

pub unknown_in_expr_out : (scope : Scope) (e : Expr) → unknown_in_expr scope e ≡ unknown_in_term scope (out-Expr e).first ++ each (λ (a : Addend). unknown_in_term scope a.term) (out-Expr e).others
unfolding unknown_in_expr unknown_in_term
unknown_in_expr_out scope e =
    fold_out-Expr (List ℕ) (List ℕ) (List ℕ) (List ℕ) (factor_unknown scope) (λ a. a.term) (expr_unknown scope) (term_unknown scope) e
    ∙ ap (λ ys. unknown_in_term scope (out-Expr e).first ++ each (λ x. x) ys) (map_addends (List ℕ) (factor_unknown scope) (expr_unknown scope) (term_unknown scope) (out-Expr e).others)
    ∙ ap (λ ys. unknown_in_term scope (out-Expr e).first ++ ys) (each_map (λ x. x) (λ (a : Addend). unknown_in_term scope a.term) (out-Expr e).others)

pub unknown_in_term_out : (scope : Scope) (t : Term) → unknown_in_term scope t ≡ unknown_in_factor scope t.first ++ each (unknown_in_factor scope) t.others
unfolding unknown_in_factor unknown_in_term
unknown_in_term_out scope t =
    fold_out-Term (List ℕ) (List ℕ) (List ℕ) (List ℕ) (factor_unknown scope) (λ a. a.term) (expr_unknown scope) (term_unknown scope) t
    ∙ ap (λ ys. unknown_in_factor scope t.first ++ ys) (each_map (λ x. x) (unknown_in_factor scope) t.others)

pub unknown_literal : (scope : Scope) (l : Literal) → unknown_in_factor scope (factor.Literal l) ≡ []
unfolding unknown_in_factor
unknown_literal scope l = ap (unknown_in_factor scope) (sym (rolls-Literal l)) ∙ fold-roll-Factor (List ℕ) (List ℕ) (List ℕ) (List ℕ) (factor_unknown scope) (λ a. a.term) (expr_unknown scope) (term_unknown scope) (Factor-F.Literal l)

pub unknown_column : (scope : Scope) (c : ColumnName) → unknown_in_factor scope (factor.Column c) ≡ unknown_name scope c
unfolding unknown_in_factor
unknown_column scope c = ap (unknown_in_factor scope) (sym (rolls-Column c)) ∙ fold-roll-Factor (List ℕ) (List ℕ) (List ℕ) (List ℕ) (factor_unknown scope) (λ a. a.term) (expr_unknown scope) (term_unknown scope) (Factor-F.Column c)

pub unknown_bracket : (scope : Scope) (place : ℕ) (e : Expr) → unknown_in_factor scope (factor.Bracket place e) ≡ unknown_in_expr scope e
unfolding unknown_in_factor unknown_in_expr
unknown_bracket scope place e = ap (unknown_in_factor scope) (sym (rolls-Bracket place e)) ∙ fold-roll-Factor (List ℕ) (List ℕ) (List ℕ) (List ℕ) (factor_unknown scope) (λ a. a.term) (expr_unknown scope) (term_unknown scope) (Factor-F.Bracket place e)

pub unknown_negated : (scope : Scope) (place : ℕ) (f : Factor) → unknown_in_factor scope (factor.Negated place f) ≡ unknown_in_factor scope f
unfolding unknown_in_factor
unknown_negated scope place f = ap (unknown_in_factor scope) (sym (rolls-Negated place f)) ∙ fold-roll-Factor (List ℕ) (List ℕ) (List ℕ) (List ℕ) (factor_unknown scope) (λ a. a.term) (expr_unknown scope) (term_unknown scope) (Factor-F.Negated place f)

pub unknown_in_predicate_out : (scope : Scope) (p : Predicate) → unknown_in_predicate scope p ≡ unknown_in_conjunction scope (out-Predicate p).first ++ each (unknown_in_conjunction scope) (out-Predicate p).others
unfolding unknown_in_predicate unknown_in_conjunction
unknown_in_predicate_out scope p =
    fold_out-Predicate (List ℕ) (List ℕ) (List ℕ) (unit_unknown scope) (conjunction_unknown scope) (predicate_unknown scope) p
    ∙ ap (λ ys. unknown_in_conjunction scope (out-Predicate p).first ++ ys) (each_map (λ x. x) (unknown_in_conjunction scope) (out-Predicate p).others)

pub unknown_in_conjunction_out : (scope : Scope) (c : Conjunction) → unknown_in_conjunction scope c ≡ unknown_in_unit scope c.first ++ each (unknown_in_unit scope) c.others
unfolding unknown_in_conjunction unknown_in_unit
unknown_in_conjunction_out scope c =
    fold_out-Conjunction (List ℕ) (List ℕ) (List ℕ) (unit_unknown scope) (conjunction_unknown scope) (predicate_unknown scope) c
    ∙ ap (λ ys. unknown_in_unit scope c.first ++ ys) (each_map (λ x. x) (unknown_in_unit scope) c.others)

pub unknown_Not : (scope : Scope) (u : Unit) → unknown_in_unit scope (unit.Not u) ≡ unknown_in_unit scope u
unfolding unknown_in_unit
unknown_Not scope u = ap (unknown_in_unit scope) (sym (rolls-Not u)) ∙ fold-roll-Unit (List ℕ) (List ℕ) (List ℕ) (unit_unknown scope) (conjunction_unknown scope) (predicate_unknown scope) (Unit-F.Not u)

pub unknown_Bracket : (scope : Scope) (p : Predicate) → unknown_in_unit scope (unit.Bracket p) ≡ unknown_in_predicate scope p
unfolding unknown_in_unit unknown_in_predicate
unknown_Bracket scope p = ap (unknown_in_unit scope) (sym (rolls-Unit-Bracket p)) ∙ fold-roll-Unit (List ℕ) (List ℕ) (List ℕ) (unit_unknown scope) (conjunction_unknown scope) (predicate_unknown scope) (Unit-F.Bracket p)

pub unknown_Compare : (scope : Scope) (a : Operand) (c : Comparison) (b : Operand) → unknown_in_unit scope (unit.Compare a c b) ≡ unknown_in_operand scope a ++ unknown_in_operand scope b
unfolding unknown_in_unit
unknown_Compare scope a c b = ap (unknown_in_unit scope) (sym (rolls-Compare a c b)) ∙ fold-roll-Unit (List ℕ) (List ℕ) (List ℕ) (unit_unknown scope) (conjunction_unknown scope) (predicate_unknown scope) (Unit-F.Compare a c b)

pub unknown_IsNull : (scope : Scope) (a : Operand) (negated : Bool) → unknown_in_unit scope (unit.IsNull a negated) ≡ unknown_in_operand scope a
unfolding unknown_in_unit
unknown_IsNull scope a negated = ap (unknown_in_unit scope) (sym (rolls-IsNull a negated)) ∙ fold-roll-Unit (List ℕ) (List ℕ) (List ℕ) (unit_unknown scope) (conjunction_unknown scope) (predicate_unknown scope) (Unit-F.IsNull a negated)

pub unknown_In : (scope : Scope) (a : Operand) (negated : Bool) (literals : List Literal) → unknown_in_unit scope (unit.In a negated literals) ≡ unknown_in_operand scope a
unfolding unknown_in_unit
unknown_In scope a negated literals = ap (unknown_in_unit scope) (sym (rolls-In a negated literals)) ∙ fold-roll-Unit (List ℕ) (List ℕ) (List ℕ) (unit_unknown scope) (conjunction_unknown scope) (predicate_unknown scope) (Unit-F.In a negated literals)

pub unknown_Between : (scope : Scope) (a : Operand) (negated : Bool) (least : Literal) (greatest : Literal) → unknown_in_unit scope (unit.Between a negated least greatest) ≡ unknown_in_operand scope a
unfolding unknown_in_unit
unknown_Between scope a negated least greatest = ap (unknown_in_unit scope) (sym (rolls-Between a negated least greatest)) ∙ fold-roll-Unit (List ℕ) (List ℕ) (List ℕ) (unit_unknown scope) (conjunction_unknown scope) (predicate_unknown scope) (Unit-F.Between a negated least greatest)

pub unknown_StartsWith : (scope : Scope) (c : ColumnName) (front : Quoted) → unknown_in_unit scope (unit.StartsWith c front) ≡ unknown_name scope c
unfolding unknown_in_unit
unknown_StartsWith scope c front = ap (unknown_in_unit scope) (sym (rolls-StartsWith c front)) ∙ fold-roll-Unit (List ℕ) (List ℕ) (List ℕ) (unit_unknown scope) (conjunction_unknown scope) (predicate_unknown scope) (Unit-F.StartsWith c front)

pub misfit_in_predicate_out : (scope : Scope) (p : Predicate) → misfit_in_predicate scope p ≡ misfit_in_conjunction scope (out-Predicate p).first ++ each (misfit_in_conjunction scope) (out-Predicate p).others
unfolding misfit_in_predicate misfit_in_conjunction
misfit_in_predicate_out scope p =
    fold_out-Predicate (List ℕ) (List ℕ) (List ℕ) (unit_misfits scope) (conjunction_misfits scope) (predicate_misfits scope) p
    ∙ ap (λ ys. misfit_in_conjunction scope (out-Predicate p).first ++ ys) (each_map (λ x. x) (misfit_in_conjunction scope) (out-Predicate p).others)

pub misfit_in_conjunction_out : (scope : Scope) (c : Conjunction) → misfit_in_conjunction scope c ≡ misfit_in_unit scope c.first ++ each (misfit_in_unit scope) c.others
unfolding misfit_in_conjunction misfit_in_unit
misfit_in_conjunction_out scope c =
    fold_out-Conjunction (List ℕ) (List ℕ) (List ℕ) (unit_misfits scope) (conjunction_misfits scope) (predicate_misfits scope) c
    ∙ ap (λ ys. misfit_in_unit scope c.first ++ ys) (each_map (λ x. x) (misfit_in_unit scope) c.others)

pub misfit_Not : (scope : Scope) (u : Unit) → misfit_in_unit scope (unit.Not u) ≡ misfit_in_unit scope u
unfolding misfit_in_unit
misfit_Not scope u = ap (misfit_in_unit scope) (sym (rolls-Not u)) ∙ fold-roll-Unit (List ℕ) (List ℕ) (List ℕ) (unit_misfits scope) (conjunction_misfits scope) (predicate_misfits scope) (Unit-F.Not u)

pub misfit_Bracket : (scope : Scope) (p : Predicate) → misfit_in_unit scope (unit.Bracket p) ≡ misfit_in_predicate scope p
unfolding misfit_in_unit misfit_in_predicate
misfit_Bracket scope p = ap (misfit_in_unit scope) (sym (rolls-Unit-Bracket p)) ∙ fold-roll-Unit (List ℕ) (List ℕ) (List ℕ) (unit_misfits scope) (conjunction_misfits scope) (predicate_misfits scope) (Unit-F.Bracket p)

pub misfit_Compare : (scope : Scope) (a : Operand) (c : Comparison) (b : Operand) → misfit_in_unit scope (unit.Compare a c b) ≡ misfit_comparison scope a b
unfolding misfit_in_unit
misfit_Compare scope a c b = ap (misfit_in_unit scope) (sym (rolls-Compare a c b)) ∙ fold-roll-Unit (List ℕ) (List ℕ) (List ℕ) (unit_misfits scope) (conjunction_misfits scope) (predicate_misfits scope) (Unit-F.Compare a c b)

pub misfit_IsNull : (scope : Scope) (a : Operand) (negated : Bool) → misfit_in_unit scope (unit.IsNull a negated) ≡ []
unfolding misfit_in_unit
misfit_IsNull scope a negated = ap (misfit_in_unit scope) (sym (rolls-IsNull a negated)) ∙ fold-roll-Unit (List ℕ) (List ℕ) (List ℕ) (unit_misfits scope) (conjunction_misfits scope) (predicate_misfits scope) (Unit-F.IsNull a negated)

pub misfit_In : (scope : Scope) (a : Operand) (negated : Bool) (literals : List Literal) → misfit_in_unit scope (unit.In a negated literals) ≡ each (misfit_beside scope a) literals
unfolding misfit_in_unit
misfit_In scope a negated literals = ap (misfit_in_unit scope) (sym (rolls-In a negated literals)) ∙ fold-roll-Unit (List ℕ) (List ℕ) (List ℕ) (unit_misfits scope) (conjunction_misfits scope) (predicate_misfits scope) (Unit-F.In a negated literals)

pub misfit_Between : (scope : Scope) (a : Operand) (negated : Bool) (least : Literal) (greatest : Literal) → misfit_in_unit scope (unit.Between a negated least greatest) ≡ misfit_beside scope a least ++ misfit_beside scope a greatest
unfolding misfit_in_unit
misfit_Between scope a negated least greatest = ap (misfit_in_unit scope) (sym (rolls-Between a negated least greatest)) ∙ fold-roll-Unit (List ℕ) (List ℕ) (List ℕ) (unit_misfits scope) (conjunction_misfits scope) (predicate_misfits scope) (Unit-F.Between a negated least greatest)

pub misfit_StartsWith : (scope : Scope) (c : ColumnName) (front : Quoted) → misfit_in_unit scope (unit.StartsWith c front) ≡ unless (fits (Some kinds.Varchar) (column_kind scope c)) (column_begin c)
unfolding misfit_in_unit
misfit_StartsWith scope c front = ap (misfit_in_unit scope) (sym (rolls-StartsWith c front)) ∙ fold-roll-Unit (List ℕ) (List ℕ) (List ℕ) (unit_misfits scope) (conjunction_misfits scope) (predicate_misfits scope) (Unit-F.StartsWith c front)

-- ---- parts

pub part_of_out : (scope : Scope) (e : Expr) → part_of scope e ≡ joined (part_of_term scope (out-Expr e).first) (map (λ (a : Addend). part_of_term scope a.term) (out-Expr e).others)
unfolding part_of part_of_term
part_of_out scope e =
    fold_out-Expr Part Part Part Part (factor_part scope) (λ a. a.term) (sum_part scope) (term_part scope) e
    ∙ ap (joined (part_of_term scope (out-Expr e).first)) (map_addends Part (factor_part scope) (sum_part scope) (term_part scope) (out-Expr e).others)

pub part_of_term_out : (scope : Scope) (t : Term) → part_of_term scope t ≡ joined (part_of_factor scope t.first) (map (part_of_factor scope) t.others)
unfolding part_of_factor part_of_term
part_of_term_out scope t = fold_out-Term Part Part Part Part (factor_part scope) (λ a. a.term) (sum_part scope) (term_part scope) t

pub part_literal : (scope : Scope) (l : Literal) → part_of_factor scope (factor.Literal l) ≡ record { place = l.place; kind = kind_of l.value; misfits = [] }
unfolding part_of_factor
part_literal scope l = ap (part_of_factor scope) (sym (rolls-Literal l)) ∙ fold-roll-Factor Part Part Part Part (factor_part scope) (λ a. a.term) (sum_part scope) (term_part scope) (Factor-F.Literal l)

pub part_column : (scope : Scope) (c : ColumnName) → part_of_factor scope (factor.Column c) ≡ record { place = column_begin c; kind = column_kind scope c; misfits = [] }
unfolding part_of_factor
part_column scope c = ap (part_of_factor scope) (sym (rolls-Column c)) ∙ fold-roll-Factor Part Part Part Part (factor_part scope) (λ a. a.term) (sum_part scope) (term_part scope) (Factor-F.Column c)

pub part_bracket : (scope : Scope) (place : ℕ) (e : Expr) → part_of_factor scope (factor.Bracket place e) ≡ record { place = place; kind = (part_of scope e).kind; misfits = (part_of scope e).misfits }
unfolding part_of_factor part_of
part_bracket scope place e = ap (part_of_factor scope) (sym (rolls-Bracket place e)) ∙ fold-roll-Factor Part Part Part Part (factor_part scope) (λ a. a.term) (sum_part scope) (term_part scope) (Factor-F.Bracket place e)

pub part_negated : (scope : Scope) (place : ℕ) (f : Factor) → part_of_factor scope (factor.Negated place f) ≡ record { place = place; kind = Some kinds.Int; misfits = calculated (part_of_factor scope f) }
unfolding part_of_factor
part_negated scope place f = ap (part_of_factor scope) (sym (rolls-Negated place f)) ∙ fold-roll-Factor Part Part Part Part (factor_part scope) (λ a. a.term) (sum_part scope) (term_part scope) (Factor-F.Negated place f)
