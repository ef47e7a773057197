-- Predicates whose names are columns and whose kinds fit compare values of one kind, and ask of texts alone how they begin.
use Rattle.std.proofs.Common.{◌≡◌, ℕ, ℤ, Bool, true, ◌&&◌, List, [], ◌∷◌, map, Option, Some, None, is_some, refl, ap, sym, ◌∙◌}
use Rattle.std.specs.Prelude.{fold, if◌then◌else◌, option_and_then}
use Rattle.std.specs.Option.{option_map}
use Rattle.std.specs.List.{AllByRecursion}
use Rattle.tt_value.specs.declared.value.Kind.{Kind}
use Rattle.tt_value.specs.declared.value.Kind.TheVariants as kinds
use Rattle.tt_value.specs.declared.value.Value.{Value}
use Rattle.tt_value.specs.declared.value.Value.TheVariants.{Null, Int, Date, Text}
use Rattle.tt_value.specs.declared.value.Row.{Row}
use Rattle.tt_value.specs.declared.name.Literal.{Literal}
use Rattle.tt_value.specs.declared.name.Quoted.{Quoted}
use Rattle.tt_value.specs.declared.name.ColumnName.{ColumnName}
use Rattle.tt_value.specs.declared.predicate.Truth.{Truth}
use Rattle.tt_value.specs.declared.predicate.Truth.TheVariants.{False}
use Rattle.tt_value.specs.declared.predicate.Operand.{Operand}
use Rattle.tt_value.specs.declared.predicate.Operand.TheVariants as operand
use Rattle.tt_value.specs.declared.predicate.Comparison.{Comparison}
use Rattle.tt_value.specs.declared.predicate.Comparison.TheVariants.{Equal, LessOrEqual, GreaterOrEqual}
use Rattle.tt_value.specs.declared.predicate.Predicate.{Predicate, out-Predicate}
use Rattle.tt_value.specs.declared.predicate.Conjunction.{Conjunction}
use Rattle.tt_value.specs.declared.predicate.Unit.{Unit}
use Rattle.tt_value.specs.declared.predicate.Unit.TheVariants as unit
use Rattle.tt_value.specs.calendar.Reading.{day_of}
use Rattle.tt_value.specs.trees.Scope.{Scope, column_value, column_kind, kind_of, beside, date_or_null}
use Rattle.tt_value.specs.trees.Truths.{truth_of_bool, not_truth, and_truth, or_truth, not_if}
use Rattle.tt_value.specs.trees.Predicates.{is_null, compared, begins, operand_kind, operand_value, comparison_truth, unit_truth, truth_of}
use Rattle.tt_plain.specs.Kinds.{fits, literal_fits, unless, is_date_kind, is_text}
use Rattle.tt_plain.specs.Places.{each, column_begin}
use Rattle.tt_plain.specs.UnknownColumns.{unknown_in_operand, unknown_in_unit, unknown_in_conjunction, unknown_in_predicate}
use Rattle.tt_plain.specs.TypeMismatches.{misfit_comparison, misfit_beside, misfit_in_unit, misfit_in_conjunction, misfit_in_predicate}
use Rattle.tt_plain.specs.ValueKinds.{IsOf, HasKinds, column_kinds}
use Rattle.tt_plain.specs.StrictMeaning.{for_both, value_there, strict_beside, strict_compared, strict_begins, strict_and, strict_or, strict_operand, strict_comparison, strict_unit, strict_truth_of}
use Rattle.tt_typer.proofs.Folds.{unknown_in_predicate_out, unknown_in_conjunction_out, unknown_Not, unknown_Bracket, unknown_Compare, unknown_IsNull, unknown_In, unknown_Between, unknown_StartsWith, misfit_in_predicate_out, misfit_in_conjunction_out, misfit_Not, misfit_Bracket, misfit_Compare, misfit_In, misfit_Between, misfit_StartsWith}
use Rattle.tt_typer.proofs.PredicateInduction.{by_parts}
use Rattle.tt_typer.proofs.TruthFolds.{of_predicate, of_conjunction, of_unit, of_predicate_out, of_conjunction_out, of_not, of_bracket, of_compare, of_is_null, of_in, of_between, of_starts_with}
use Rattle.tt_typer.proofs.KindLaws.{nil_parts, fits_unless, fits_none, fits_value, HasValue, column_has_value}

-- ---- kinds that fit

fits_back : (a b : Option Kind) → fits a b ≡ true → fits b a ≡ true
fits_back None b fit = fits_none b
fits_back (Some a) None fit = refl
fits_back (Some kinds.Int) (Some kinds.Int) fit = refl
fits_back (Some kinds.Int) (Some kinds.Date) fit = cc
fits_back (Some kinds.Int) (Some kinds.Varchar) fit = cc
fits_back (Some kinds.Date) (Some kinds.Int) fit = cc
fits_back (Some kinds.Date) (Some kinds.Date) fit = refl
fits_back (Some kinds.Date) (Some kinds.Varchar) fit = cc
fits_back (Some kinds.Varchar) (Some kinds.Int) fit = cc
fits_back (Some kinds.Varchar) (Some kinds.Date) fit = cc
fits_back (Some kinds.Varchar) (Some kinds.Varchar) fit = refl

-- the value of a column beside what fits its kind
beside_column : (kind other : Option Kind) (v : Value) → IsOf kind v → fits kind other ≡ true → fits (kind_of v) other ≡ true
beside_column kind other v of fit = fits_back other (kind_of v) (fits_value other kind v of (fits_back kind other fit))

-- ---- written values beside a kind

date_there : (o : Option ℤ) → is_some o ≡ true → (option_map Date o ≡ Some (date_or_null o)) × (fits (Some kinds.Date) (kind_of (date_or_null o)) ≡ true)
date_there None is = cc
date_there (Some day) is = (refl, refl)

pub beside_fits : (other : Option Kind) (v : Value) → literal_fits other v ≡ true → (strict_beside other v ≡ Some (beside other v)) × (fits other (kind_of (beside other v)) ≡ true)
beside_fits None v fit = (refl, refl)
beside_fits (Some kinds.Int) v fit = (refl, fit)
beside_fits (Some kinds.Varchar) v fit = (refl, fit)
beside_fits (Some kinds.Date) Null fit = (refl, fit)
beside_fits (Some kinds.Date) (Int n) fit = (refl, fit)
beside_fits (Some kinds.Date) (Date day) fit = (refl, fit)
beside_fits (Some kinds.Date) (Text bytes) fit = date_there (day_of bytes) fit

literal_before : (k : Option Kind) (v : Value) (p q : ℕ) → (if is_text v && is_date_kind k then unless (literal_fits k v) p else unless (fits (kind_of v) k) q) ≡ [] → literal_fits k v ≡ true
literal_before None v p q is = refl
literal_before (Some kinds.Int) Null p q is = refl
literal_before (Some kinds.Int) (Int n) p q is = refl
literal_before (Some kinds.Int) (Date day) p q is = cc
literal_before (Some kinds.Int) (Text bytes) p q is = cc
literal_before (Some kinds.Date) Null p q is = refl
literal_before (Some kinds.Date) (Int n) p q is = cc
literal_before (Some kinds.Date) (Date day) p q is = refl
literal_before (Some kinds.Date) (Text bytes) p q is = fits_unless (is_some (day_of bytes)) p is
literal_before (Some kinds.Varchar) Null p q is = refl
literal_before (Some kinds.Varchar) (Int n) p q is = cc
literal_before (Some kinds.Varchar) (Date day) p q is = cc
literal_before (Some kinds.Varchar) (Text bytes) p q is = refl

-- two operands that are there, and of kinds that fit
record Meet (s : Option Value) (v : Value) (t : Option Value) (w : Value) : Type 0 where
  left : s ≡ Some v
  right : t ≡ Some w
  fit : fits (kind_of v) (kind_of w) ≡ true

literals_meet : (v w : Value) (p q : ℕ) → (if is_text v && is_date_kind (kind_of w) then unless (literal_fits (kind_of w) v) p else unless (literal_fits (kind_of v) w) q) ≡ [] → Meet (strict_beside (kind_of w) v) (beside (kind_of w) v) (strict_beside (kind_of v) w) (beside (kind_of v) w)
literals_meet Null Null p q is = record { left = refl; right = refl; fit = refl }
literals_meet Null (Int m) p q is = record { left = refl; right = refl; fit = refl }
literals_meet Null (Date other) p q is = record { left = refl; right = refl; fit = refl }
literals_meet Null (Text others) p q is = record { left = refl; right = refl; fit = refl }
literals_meet (Int n) Null p q is = record { left = refl; right = refl; fit = refl }
literals_meet (Int n) (Int m) p q is = record { left = refl; right = refl; fit = refl }
literals_meet (Int n) (Date other) p q is = cc
literals_meet (Int n) (Text others) p q is = cc
literals_meet (Date day) Null p q is = record { left = refl; right = refl; fit = refl }
literals_meet (Date day) (Int m) p q is = cc
literals_meet (Date day) (Date other) p q is = record { left = refl; right = refl; fit = refl }
literals_meet (Date day) (Text others) p q is =
    let there = date_there (day_of others) (fits_unless (is_some (day_of others)) q is) in
    record { left = refl; right = there.0; fit = there.1 }
literals_meet (Text bytes) Null p q is = record { left = refl; right = refl; fit = refl }
literals_meet (Text bytes) (Int m) p q is = cc
literals_meet (Text bytes) (Date other) p q is =
    let there = date_there (day_of bytes) (fits_unless (is_some (day_of bytes)) p is) in
    record { left = there.0; right = refl; fit = fits_back (Some kinds.Date) (kind_of (date_or_null (day_of bytes))) there.1 }
literals_meet (Text bytes) (Text others) p q is = record { left = refl; right = refl; fit = refl }

-- ---- steps that are there

compare_both : (c : Comparison) (s t : Option Value) (v w : Value) → Meet s v t w → for_both (strict_compared c) s t ≡ Some (compared c v w)
compare_both c s t v w meet = rw (meet.left, meet.right, meet.fit) refl

join_both : (f : Truth → Truth → Truth) (s t : Option Truth) (v w : Truth) → s ≡ Some v → t ≡ Some w → for_both (λ a b. Some (f a b)) s t ≡ Some (f v w)
join_both f s t v w s_is t_is = rw (s_is, t_is) refl

join_all : {A : Type 0} (f : Truth → Truth → Truth) (strict : A → Option Truth) (truth : A → Truth) (xs : List A) → AllByRecursion (λ x. strict x ≡ Some (truth x)) xs → (s : Option Truth) (v : Truth) → s ≡ Some v → fold (λ so_far x. for_both (λ a b. Some (f a b)) so_far (strict x)) s xs ≡ Some (fold (λ so_far x. f so_far (truth x)) v xs)
join_all f strict truth [] each_is s v s_is = s_is
join_all f strict truth (x ∷ xs) each_is s v s_is = join_all f strict truth xs each_is.1 (for_both (λ a b. Some (f a b)) s (strict x)) (f v (truth x)) (join_both f s (strict x) v (truth x) s_is each_is.0)

-- of each item, where neither list has a place
each_fits : {A : Type 0} (P : A → Type 0) (unknown misfit : A → List ℕ) (xs : List A) → AllByRecursion (λ x. unknown x ≡ [] → misfit x ≡ [] → P x) xs → each unknown xs ≡ [] → each misfit xs ≡ [] → AllByRecursion P xs
each_fits P unknown misfit [] all known fit = tt
each_fits P unknown misfit (x ∷ xs) all known fit =
    let names = nil_parts (unknown x) (each unknown xs) known in
    let parts = nil_parts (misfit x) (each misfit xs) fit in
    (all.0 names.0 parts.0, each_fits P unknown misfit xs all.1 names.1 parts.1)

begin_there : (front : List ℕ) (s : Option Value) (v : Value) (kind : Option Kind) → HasValue s v kind → fits (Some kinds.Varchar) kind ≡ true → option_and_then (strict_begins front) s ≡ Some (begins v front)
begin_there front s v kind there fit = rw (there.is, fits_value (Some kinds.Varchar) kind v there.of_kind fit) refl

module _ (scope : Scope) (row : Row) (have : HasKinds (column_kinds scope.columns) row) where
  operands_meet : (a b : Operand) → unknown_in_operand scope a ≡ [] → unknown_in_operand scope b ≡ [] → misfit_comparison scope a b ≡ [] → Meet (strict_operand scope row (operand_kind scope b) a) (operand_value scope row (operand_kind scope b) a) (strict_operand scope row (operand_kind scope a) b) (operand_value scope row (operand_kind scope a) b)
  operands_meet (operand.Column c) (operand.Column d) a_known b_known is =
      let one = column_has_value scope row c have a_known in
      let other = column_has_value scope row d have b_known in
      let fit = fits_unless (fits (column_kind scope c) (column_kind scope d)) (column_begin d) is in
      record { left = one.is; right = other.is; fit = beside_column (column_kind scope c) (kind_of (column_value scope row d)) (column_value scope row c) one.of_kind (fits_value (column_kind scope c) (column_kind scope d) (column_value scope row d) other.of_kind fit) }
  operands_meet (operand.Column c) (operand.Literal l) a_known b_known is =
      let one = column_has_value scope row c have a_known in
      let other = beside_fits (column_kind scope c) l.value (fits_unless (literal_fits (column_kind scope c) l.value) l.place is) in
      record { left = one.is; right = other.0; fit = beside_column (column_kind scope c) (kind_of (beside (column_kind scope c) l.value)) (column_value scope row c) one.of_kind other.1 }
  operands_meet (operand.Literal l) (operand.Column d) a_known b_known is =
      let other = column_has_value scope row d have b_known in
      let one = beside_fits (column_kind scope d) l.value (literal_before (column_kind scope d) l.value l.place (column_begin d) is) in
      record { left = one.0; right = other.is; fit = fits_back (kind_of (column_value scope row d)) (kind_of (beside (column_kind scope d) l.value)) (beside_column (column_kind scope d) (kind_of (beside (column_kind scope d) l.value)) (column_value scope row d) other.of_kind one.1) }
  operands_meet (operand.Literal l) (operand.Literal m) a_known b_known is = literals_meet l.value m.value l.place m.place is

  compares : (a : Operand) (c : Comparison) (b : Operand) → unknown_in_operand scope a ≡ [] → unknown_in_operand scope b ≡ [] → misfit_comparison scope a b ≡ [] → strict_comparison scope row a c b ≡ Some (comparison_truth scope row a c b)
  compares a c b a_known b_known is = compare_both c (strict_operand scope row (operand_kind scope b) a) (strict_operand scope row (operand_kind scope a) b) (operand_value scope row (operand_kind scope b) a) (operand_value scope row (operand_kind scope a) b) (operands_meet a b a_known b_known is)

  among_all : (a : Operand) → unknown_in_operand scope a ≡ [] → (literals : List Literal) → each (misfit_beside scope a) literals ≡ [] → (s : Option Truth) (v : Truth) → s ≡ Some v → fold strict_or s (map (λ l. strict_comparison scope row a Equal (operand.Literal l)) literals) ≡ Some (fold or_truth v (map (λ l. comparison_truth scope row a Equal (operand.Literal l)) literals))
  among_all a known [] fit s v s_is = s_is
  among_all a known (l ∷ literals) fit s v s_is =
      let parts = nil_parts (misfit_beside scope a l) (each (misfit_beside scope a) literals) fit in
      among_all a known literals parts.1 (strict_or s (strict_comparison scope row a Equal (operand.Literal l))) (or_truth v (comparison_truth scope row a Equal (operand.Literal l))) (join_both or_truth s (strict_comparison scope row a Equal (operand.Literal l)) v (comparison_truth scope row a Equal (operand.Literal l)) s_is (compares a Equal (operand.Literal l) known refl parts.0))

  operand_there : (a : Operand) → unknown_in_operand scope a ≡ [] → strict_operand scope row None a ≡ Some (operand_value scope row None a)
  operand_there (operand.Column c) known = (column_has_value scope row c have known).is
  operand_there (operand.Literal l) known = refl

  -- ---- the fold

  abbrev truth_unit : Unit → Truth
  truth_unit = of_unit Truth (unit_truth scope row) and_truth or_truth

  abbrev truth_conjunction : Conjunction → Truth
  truth_conjunction = of_conjunction Truth (unit_truth scope row) and_truth or_truth

  abbrev truth_predicate : Predicate → Truth
  truth_predicate = of_predicate Truth (unit_truth scope row) and_truth or_truth

  abbrev meant_unit : Unit → Option Truth
  meant_unit = of_unit (Option Truth) (strict_unit scope row) strict_and strict_or

  abbrev meant_conjunction : Conjunction → Option Truth
  meant_conjunction = of_conjunction (Option Truth) (strict_unit scope row) strict_and strict_or

  abbrev meant_predicate : Predicate → Option Truth
  meant_predicate = of_predicate (Option Truth) (strict_unit scope row) strict_and strict_or

  abbrev UnitFits : Unit → Type 0
  UnitFits u = unknown_in_unit scope u ≡ [] → misfit_in_unit scope u ≡ [] → meant_unit u ≡ Some (truth_unit u)

  abbrev ConjunctionFits : Conjunction → Type 0
  ConjunctionFits c = unknown_in_conjunction scope c ≡ [] → misfit_in_conjunction scope c ≡ [] → meant_conjunction c ≡ Some (truth_conjunction c)

  abbrev PredicateFits : Predicate → Type 0
  PredicateFits p = unknown_in_predicate scope p ≡ [] → misfit_in_predicate scope p ≡ [] → meant_predicate p ≡ Some (truth_predicate p)

  not_fits : (u : Unit) → UnitFits u → UnitFits (unit.Not u)
  not_fits u inside known fit =
      of_not (Option Truth) (strict_unit scope row) strict_and strict_or u
      ∙ ap (option_map not_truth) (inside (sym (unknown_Not scope u) ∙ known) (sym (misfit_Not scope u) ∙ fit))
      ∙ ap Some (sym (of_not Truth (unit_truth scope row) and_truth or_truth u))

  bracket_fits : (p : Predicate) → PredicateFits p → UnitFits (unit.Bracket p)
  bracket_fits p inside known fit =
      of_bracket (Option Truth) (strict_unit scope row) strict_and strict_or p
      ∙ inside (sym (unknown_Bracket scope p) ∙ known) (sym (misfit_Bracket scope p) ∙ fit)
      ∙ ap Some (sym (of_bracket Truth (unit_truth scope row) and_truth or_truth p))

  compare_fits : (a : Operand) (c : Comparison) (b : Operand) → UnitFits (unit.Compare a c b)
  compare_fits a c b known fit =
      let names = nil_parts (unknown_in_operand scope a) (unknown_in_operand scope b) (sym (unknown_Compare scope a c b) ∙ known) in
      of_compare (Option Truth) (strict_unit scope row) strict_and strict_or a c b
      ∙ compares a c b names.0 names.1 (sym (misfit_Compare scope a c b) ∙ fit)
      ∙ ap Some (sym (of_compare Truth (unit_truth scope row) and_truth or_truth a c b))

  is_null_fits : (a : Operand) (negated : Bool) → UnitFits (unit.IsNull a negated)
  is_null_fits a negated known fit =
      of_is_null (Option Truth) (strict_unit scope row) strict_and strict_or a negated
      ∙ ap (option_map (λ v. not_if negated (truth_of_bool (is_null v)))) (operand_there a (sym (unknown_IsNull scope a negated) ∙ known))
      ∙ ap Some (sym (of_is_null Truth (unit_truth scope row) and_truth or_truth a negated))

  among_fits : (a : Operand) (negated : Bool) (literals : List Literal) → UnitFits (unit.In a negated literals)
  among_fits a negated literals known fit =
      of_in (Option Truth) (strict_unit scope row) strict_and strict_or a negated literals
      ∙ ap (option_map (not_if negated)) (among_all a (sym (unknown_In scope a negated literals) ∙ known) literals (sym (misfit_In scope a negated literals) ∙ fit) (Some False) False refl)
      ∙ ap Some (sym (of_in Truth (unit_truth scope row) and_truth or_truth a negated literals))

  between_fits : (a : Operand) (negated : Bool) (least greatest : Literal) → UnitFits (unit.Between a negated least greatest)
  between_fits a negated least greatest known fit =
      let name = sym (unknown_Between scope a negated least greatest) ∙ known in
      let parts = nil_parts (misfit_beside scope a least) (misfit_beside scope a greatest) (sym (misfit_Between scope a negated least greatest) ∙ fit) in
      of_between (Option Truth) (strict_unit scope row) strict_and strict_or a negated least greatest
      ∙ ap (option_map (not_if negated)) (join_both and_truth (strict_comparison scope row a GreaterOrEqual (operand.Literal least)) (strict_comparison scope row a LessOrEqual (operand.Literal greatest)) (comparison_truth scope row a GreaterOrEqual (operand.Literal least)) (comparison_truth scope row a LessOrEqual (operand.Literal greatest)) (compares a GreaterOrEqual (operand.Literal least) name refl parts.0) (compares a LessOrEqual (operand.Literal greatest) name refl parts.1))
      ∙ ap Some (sym (of_between Truth (unit_truth scope row) and_truth or_truth a negated least greatest))

  starts_with_fits : (c : ColumnName) (front : Quoted) → UnitFits (unit.StartsWith c front)
  starts_with_fits c front known fit =
      of_starts_with (Option Truth) (strict_unit scope row) strict_and strict_or c front
      ∙ begin_there front.text (value_there scope row c) (column_value scope row c) (column_kind scope c) (column_has_value scope row c have (sym (unknown_StartsWith scope c front) ∙ known)) (fits_unless (fits (Some kinds.Varchar) (column_kind scope c)) (column_begin c) (sym (misfit_StartsWith scope c front) ∙ fit))
      ∙ ap Some (sym (of_starts_with Truth (unit_truth scope row) and_truth or_truth c front))

  all_fit : (c : Conjunction) → UnitFits c.first → AllByRecursion UnitFits c.others → ConjunctionFits c
  all_fit c first others known fit =
      let names = nil_parts (unknown_in_unit scope c.first) (each (unknown_in_unit scope) c.others) (sym (unknown_in_conjunction_out scope c) ∙ known) in
      let parts = nil_parts (misfit_in_unit scope c.first) (each (misfit_in_unit scope) c.others) (sym (misfit_in_conjunction_out scope c) ∙ fit) in
      of_conjunction_out (Option Truth) (strict_unit scope row) strict_and strict_or c
      ∙ join_all and_truth meant_unit truth_unit c.others (each_fits (λ u. meant_unit u ≡ Some (truth_unit u)) (unknown_in_unit scope) (misfit_in_unit scope) c.others others names.1 parts.1) (meant_unit c.first) (truth_unit c.first) (first names.0 parts.0)
      ∙ ap Some (sym (of_conjunction_out Truth (unit_truth scope row) and_truth or_truth c))

  any_fits : (p : Predicate) → ConjunctionFits (out-Predicate p).first → AllByRecursion ConjunctionFits (out-Predicate p).others → PredicateFits p
  any_fits p first others known fit =
      let names = nil_parts (unknown_in_conjunction scope (out-Predicate p).first) (each (unknown_in_conjunction scope) (out-Predicate p).others) (sym (unknown_in_predicate_out scope p) ∙ known) in
      let parts = nil_parts (misfit_in_conjunction scope (out-Predicate p).first) (each (misfit_in_conjunction scope) (out-Predicate p).others) (sym (misfit_in_predicate_out scope p) ∙ fit) in
      of_predicate_out (Option Truth) (strict_unit scope row) strict_and strict_or p
      ∙ join_all or_truth meant_conjunction truth_conjunction (out-Predicate p).others (each_fits (λ c. meant_conjunction c ≡ Some (truth_conjunction c)) (unknown_in_conjunction scope) (misfit_in_conjunction scope) (out-Predicate p).others others names.1 parts.1) (meant_conjunction (out-Predicate p).first) (truth_conjunction (out-Predicate p).first) (first names.0 parts.0)
      ∙ ap Some (sym (of_predicate_out Truth (unit_truth scope row) and_truth or_truth p))

  pub predicate_fits : (p : Predicate) → unknown_in_predicate scope p ≡ [] → misfit_in_predicate scope p ≡ [] → strict_truth_of scope row p ≡ Some (truth_of scope row p)
  unfolding truth_of strict_truth_of
  predicate_fits p known fit =
      by_parts UnitFits ConjunctionFits PredicateFits
      (record { not = not_fits; bracket = bracket_fits; compare = compare_fits; is_null = is_null_fits; among = among_fits; between = between_fits; starts_with = starts_with_fits; all = all_fit; any = any_fits }) p known fit
