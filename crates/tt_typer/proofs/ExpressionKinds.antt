-- Expressions whose names are columns and whose kinds fit have values of their kinds, and calculate with numbers alone.
use Rattle.std.proofs.Common.{◌≡◌, ℕ, ℤ, Bool, true, false, cond, List, [], ◌∷◌, map, Option, Some, None, refl, ap, sym, ◌∙◌, subst}
use Rattle.std.specs.Prelude.{fold, IfSome, ◌*ℤ◌, ◌+ℤ◌, ◌-ℤ◌, neg_ℤ, option_and_then}
use Rattle.std.specs.Option.{option_map}
use Rattle.std.specs.List.{AllByRecursion}
use Rattle.tt_value.specs.declared.value.Kind.{Kind}
use Rattle.tt_value.specs.declared.value.Kind.TheVariants as kinds
use Rattle.tt_value.specs.declared.value.Value.{Value}
use Rattle.tt_value.specs.declared.value.Value.TheVariants.{Null, Int, Date, Text}
use Rattle.tt_value.specs.declared.value.Row.{Row}
use Rattle.tt_value.specs.declared.name.Literal.{Literal}
use Rattle.tt_value.specs.declared.name.ColumnName.{ColumnName}
use Rattle.tt_value.specs.declared.expression.Sign.{Sign}
use Rattle.tt_value.specs.declared.expression.Sign.TheVariants.{Plus, Minus}
use Rattle.tt_value.specs.declared.expression.Expr.{Expr, out-Expr}
use Rattle.tt_value.specs.declared.expression.Addend.{Addend}
use Rattle.tt_value.specs.declared.expression.Term.{Term}
use Rattle.tt_value.specs.declared.expression.Factor.{Factor}
use Rattle.tt_value.specs.declared.expression.Factor.TheVariants as factor
use Rattle.tt_value.specs.trees.Scope.{Scope}
use Rattle.tt_value.specs.trees.Expressions.{on_numbers, negated, then_both, add_signed, factor_value, value_of}
use Rattle.tt_plain.specs.Kinds.{fits, unless}
use Rattle.tt_plain.specs.Places.{each}
use Rattle.tt_plain.specs.Expressions.{Part, calculated, joined, part_of, part_of_term, part_of_factor}
use Rattle.tt_plain.specs.UnknownColumns.{unknown_in_expr, unknown_in_term, unknown_in_factor}
use Rattle.tt_plain.specs.ValueKinds.{IsOf, HasKinds, column_kinds}
use Rattle.tt_plain.specs.StrictMeaning.{for_both, is_number, with_numbers, negated_number, strict_sum, strict_product, strict_factor, strict_value_of}
use Rattle.tt_typer.proofs.Folds.{part_of_out, part_of_term_out, part_literal, part_column, part_bracket, part_negated, unknown_in_expr_out, unknown_in_term_out, unknown_column, unknown_bracket, unknown_negated}
use Rattle.tt_typer.proofs.ExpressionInduction.{by_parts}
use Rattle.tt_typer.proofs.ValueFolds.{of_expr, of_term, of_factor, of_expr_out, of_term_out, of_literal, of_column, of_bracket, of_negated}
use Rattle.tt_typer.proofs.KindLaws.{nil_parts, fits_unless, is_of_kind, number_of_kind, int_of_number, column_has_value}

-- ---- arithmetic gives numbers

number_if : (b : Bool) (n : ℤ) → is_number (cond b (Some (Int n)) None) ≡ true
number_if true n = refl
number_if false n = refl

numbers : (f : ℤ → ℤ → ℤ) (v w : Value) → is_number (on_numbers f v w) ≡ true
numbers f (Int a) (Int b) = number_if _ (f a b)
numbers f (Int a) Null = refl
numbers f (Int a) (Date day) = refl
numbers f (Int a) (Text bytes) = refl
numbers f Null w = refl
numbers f (Date day) w = refl
numbers f (Text bytes) w = refl

numbers_of_both : (f : Value → Value → Option Value) → ((v w : Value) → is_number (f v w) ≡ true) → (a b : Option Value) → is_number (then_both f a b) ≡ true
numbers_of_both f each_is None b = refl
numbers_of_both f each_is (Some v) None = refl
numbers_of_both f each_is (Some v) (Some w) = each_is v w

sums : (sign : Sign) (a b : Option Value) → is_number (then_both (add_signed sign) a b) ≡ true
sums Plus a b = numbers_of_both (add_signed Plus) (numbers (λ x y. x +ℤ y)) a b
sums Minus a b = numbers_of_both (add_signed Minus) (numbers (λ x y. x -ℤ y)) a b

products : (a b : Option Value) → is_number (then_both (on_numbers (λ x y. x *ℤ y)) a b) ≡ true
products a b = numbers_of_both (on_numbers (λ x y. x *ℤ y)) (numbers (λ x y. x *ℤ y)) a b

negations : (a : Option Value) → is_number (option_and_then negated a) ≡ true
negations None = refl
negations (Some (Int n)) = number_if _ (neg_ℤ n)
negations (Some Null) = refl
negations (Some (Date day)) = refl
negations (Some (Text bytes)) = refl

-- ---- what is meant strictly is what is meant, and of its kind

pub record Agrees (kind : Option Kind) (strict : Option (Option Value)) (value : Option Value) : Type 0 where
  pub is : strict ≡ Some value
  pub of_kind : IfSome value (IsOf kind)

agree_by : {k l : Option Kind} {s t : Option (Option Value)} {v w : Option Value} → k ≡ l → s ≡ t → v ≡ w → Agrees l t w → Agrees k s v
agree_by {k} {w = w} kinds_are stricts_are values_are a = record {
  is = stricts_are ∙ a.is ∙ ap Some (sym values_are);
  of_kind = subst (λ o. IfSome o (IsOf k)) (sym values_are) (subst (λ (l : Option Kind). IfSome w (IsOf l)) (sym kinds_are) a.of_kind);
}

abbrev FitsIn : Part → List ℕ → Option (Option Value) → Option Value → Type 0
FitsIn part unknown strict value = unknown ≡ [] → part.misfits ≡ [] → Agrees part.kind strict value

strict_step : (f : Option Value → Option Value → Option Value) (s t : Option (Option Value)) (x y : Option Value) → s ≡ Some x → t ≡ Some y → is_number x ≡ true → is_number y ≡ true → for_both (with_numbers f) s t ≡ Some (f x y)
strict_step f s t x y s_is t_is x_is y_is = rw (s_is, t_is, x_is, y_is) refl

strict_negation : (s : Option (Option Value)) (x : Option Value) → s ≡ Some x → is_number x ≡ true → option_and_then negated_number s ≡ Some (option_and_then negated x)
strict_negation s x s_is x_is = rw (s_is, x_is) refl

-- Items of which several are calculated with.
module _ {A : Type 0} (part : A → Part) (unknown : A → List ℕ) (strict : A → Option (Option Value)) (value : A → Option Value) (step : A → Option Value → Option Value → Option Value) (step_numbers : (a : A) (x y : Option Value) → is_number (step a x y) ≡ true) where
  abbrev strict_all : Option (Option Value) → List A → Option (Option Value)
  strict_all s xs = fold (λ so_far a. for_both (with_numbers (step a)) so_far (strict a)) s xs

  abbrev value_all : Option Value → List A → Option Value
  value_all x xs = fold (λ so_far a. step a so_far (value a)) x xs

  further : (xs : List A) → AllByRecursion (λ a. FitsIn (part a) (unknown a) (strict a) (value a)) xs → each unknown xs ≡ [] → each calculated (map part xs) ≡ [] → (s : Option (Option Value)) (x : Option Value) → s ≡ Some x → is_number x ≡ true → (strict_all s xs ≡ Some (value_all x xs)) × (is_number (value_all x xs) ≡ true)
  further [] agree known fit s x s_is x_is = (s_is, x_is)
  further (a ∷ xs) agree known fit s x s_is x_is =
      let names = nil_parts (unknown a) (each unknown xs) known in
      let parts = nil_parts (calculated (part a)) (each calculated (map part xs)) fit in
      let both = nil_parts (unless (fits (Some kinds.Int) (part a).kind) (part a).place) (part a).misfits parts.0 in
      let here = agree.0 names.0 both.1 in
      let number = number_of_kind (part a).kind (value a) here.of_kind (fits_unless (fits (Some kinds.Int) (part a).kind) (part a).place both.0) in
      further xs agree.1 names.1 parts.1 (for_both (with_numbers (step a)) s (strict a)) (step a x (value a)) (strict_step (step a) s (strict a) x (value a) s_is here.is x_is number) (step_numbers a x (value a))

  several : (p : Part) (s : Option (Option Value)) (x : Option Value) (xs : List A) → (p.misfits ≡ [] → Agrees p.kind s x) → AllByRecursion (λ a. FitsIn (part a) (unknown a) (strict a) (value a)) xs → each unknown xs ≡ [] → (joined p (map part xs)).misfits ≡ [] → Agrees (joined p (map part xs)).kind (strict_all s xs) (value_all x xs)
  several p s x [] first agree known fit = first fit
  several p s x (a ∷ xs) first agree known fit =
      let parts = nil_parts (calculated p) (each calculated (map part (a ∷ xs))) fit in
      let both = nil_parts (unless (fits (Some kinds.Int) p.kind) p.place) p.misfits parts.0 in
      let here = first both.1 in
      let number = number_of_kind p.kind x here.of_kind (fits_unless (fits (Some kinds.Int) p.kind) p.place both.0) in
      let all = further (a ∷ xs) agree known parts.1 s x here.is number in
      record { is = all.0; of_kind = int_of_number (value_all x (a ∷ xs)) all.1 }

module _ (scope : Scope) (row : Row) (have : HasKinds (column_kinds scope.columns) row) where
  abbrev add : Sign → Option Value → Option Value → Option Value
  add sign a b = then_both (add_signed sign) a b

  abbrev times : Option Value → Option Value → Option Value
  times a b = then_both (on_numbers (λ x y. x *ℤ y)) a b

  abbrev value_expr : Expr → Option Value
  value_expr = of_expr (Option Value) (factor_value scope row) add times

  abbrev value_term : Term → Option Value
  value_term = of_term (Option Value) (factor_value scope row) add times

  abbrev value_factor : Factor → Option Value
  value_factor = of_factor (Option Value) (factor_value scope row) add times

  abbrev meant_expr : Expr → Option (Option Value)
  meant_expr = of_expr (Option (Option Value)) (strict_factor scope row) strict_sum strict_product

  abbrev meant_term : Term → Option (Option Value)
  meant_term = of_term (Option (Option Value)) (strict_factor scope row) strict_sum strict_product

  abbrev meant_factor : Factor → Option (Option Value)
  meant_factor = of_factor (Option (Option Value)) (strict_factor scope row) strict_sum strict_product

  abbrev FactorFits : Factor → Type 0
  FactorFits f = FitsIn (part_of_factor scope f) (unknown_in_factor scope f) (meant_factor f) (value_factor f)

  abbrev TermFits : Term → Type 0
  TermFits t = FitsIn (part_of_term scope t) (unknown_in_term scope t) (meant_term t) (value_term t)

  abbrev ExprFits : Expr → Type 0
  ExprFits e = FitsIn (part_of scope e) (unknown_in_expr scope e) (meant_expr e) (value_expr e)

  literal_fits : (l : Literal) → FactorFits (factor.Literal l)
  literal_fits l known fit =
      agree_by (ap (λ (p : Part). p.kind) (part_literal scope l)) (of_literal (Option (Option Value)) (strict_factor scope row) strict_sum strict_product l) (of_literal (Option Value) (factor_value scope row) add times l)
      (record { is = refl; of_kind = is_of_kind l.value })

  column_fits : (c : ColumnName) → FactorFits (factor.Column c)
  column_fits c known fit =
      let there = column_has_value scope row c have (sym (unknown_column scope c) ∙ known) in
      agree_by (ap (λ (p : Part). p.kind) (part_column scope c)) (of_column (Option (Option Value)) (strict_factor scope row) strict_sum strict_product c) (of_column (Option Value) (factor_value scope row) add times c)
      (record { is = ap (option_map (λ (v : Value). Some v)) there.is; of_kind = there.of_kind })

  bracket_fits : (place : ℕ) (e : Expr) → ExprFits e → FactorFits (factor.Bracket place e)
  bracket_fits place e inside known fit =
      agree_by (ap (λ (p : Part). p.kind) (part_bracket scope place e)) (of_bracket (Option (Option Value)) (strict_factor scope row) strict_sum strict_product place e) (of_bracket (Option Value) (factor_value scope row) add times place e)
      (inside (sym (unknown_bracket scope place e) ∙ known) (sym (ap (λ (p : Part). p.misfits) (part_bracket scope place e)) ∙ fit))

  negated_fits : (place : ℕ) (f : Factor) → FactorFits f → FactorFits (factor.Negated place f)
  negated_fits place f inside known fit =
      let p = part_of_factor scope f in
      let both = nil_parts (unless (fits (Some kinds.Int) p.kind) p.place) p.misfits (sym (ap (λ (p : Part). p.misfits) (part_negated scope place f)) ∙ fit) in
      let here = inside (sym (unknown_negated scope place f) ∙ known) both.1 in
      let number = number_of_kind p.kind (value_factor f) here.of_kind (fits_unless (fits (Some kinds.Int) p.kind) p.place both.0) in
      agree_by (ap (λ (p : Part). p.kind) (part_negated scope place f)) (of_negated (Option (Option Value)) (strict_factor scope row) strict_sum strict_product place f) (of_negated (Option Value) (factor_value scope row) add times place f)
      (record { is = strict_negation (meant_factor f) (value_factor f) here.is number; of_kind = int_of_number (option_and_then negated (value_factor f)) (negations (value_factor f)) })

  term_fits : (t : Term) → FactorFits t.first → AllByRecursion FactorFits t.others → TermFits t
  term_fits t first others known fit =
      let names = nil_parts (unknown_in_factor scope t.first) (each (unknown_in_factor scope) t.others) (sym (unknown_in_term_out scope t) ∙ known) in
      agree_by (ap (λ (p : Part). p.kind) (part_of_term_out scope t)) (of_term_out (Option (Option Value)) (strict_factor scope row) strict_sum strict_product t) (of_term_out (Option Value) (factor_value scope row) add times t)
      (several (part_of_factor scope) (unknown_in_factor scope) meant_factor value_factor (λ _. times) (λ _. products) (part_of_factor scope t.first) (meant_factor t.first) (value_factor t.first) t.others (first names.0) others names.1 (sym (ap (λ (p : Part). p.misfits) (part_of_term_out scope t)) ∙ fit))

  sum_fits : (e : Expr) → TermFits (out-Expr e).first → AllByRecursion (λ (a : Addend). TermFits a.term) (out-Expr e).others → ExprFits e
  sum_fits e first others known fit =
      let names = nil_parts (unknown_in_term scope (out-Expr e).first) (each (λ (a : Addend). unknown_in_term scope a.term) (out-Expr e).others) (sym (unknown_in_expr_out scope e) ∙ known) in
      agree_by (ap (λ (p : Part). p.kind) (part_of_out scope e)) (of_expr_out (Option (Option Value)) (strict_factor scope row) strict_sum strict_product e) (of_expr_out (Option Value) (factor_value scope row) add times e)
      (several (λ (a : Addend). part_of_term scope a.term) (λ (a : Addend). unknown_in_term scope a.term) (λ (a : Addend). meant_term a.term) (λ (a : Addend). value_term a.term) (λ (a : Addend). add a.sign) (λ (a : Addend). sums a.sign) (part_of_term scope (out-Expr e).first) (meant_term (out-Expr e).first) (value_term (out-Expr e).first) (out-Expr e).others (first names.0) others names.1 (sym (ap (λ (p : Part). p.misfits) (part_of_out scope e)) ∙ fit))

  pub expression_fits : (e : Expr) → unknown_in_expr scope e ≡ [] → (part_of scope e).misfits ≡ [] → Agrees (part_of scope e).kind (strict_value_of scope row e) (value_of scope row e)
  unfolding value_of strict_value_of
  expression_fits e known fit =
      by_parts FactorFits TermFits ExprFits
      (record { literal = literal_fits; column = column_fits; bracket = bracket_fits; negated = negated_fits; term = term_fits; sum = sum_fits }) e known fit
