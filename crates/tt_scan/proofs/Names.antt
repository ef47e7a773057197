-- In a statement over one table whose names are known, a name means the column that it means alone.
use Rattle.std.proofs.Common.{◌≡◌, ℕ, Bool, true, false, List, [], ◌∷◌, Option, Some, None, refl, ap, sym, ◌∙◌}
use Rattle.std.specs.Prelude.{fold, slice_get, option_and_then, if◌then◌else◌}
use Rattle.std.specs.Option.{option_map}
use Rattle.std.specs.List.{AllByRecursion}
use Rattle.tt_value.specs.declared.value.Column.{Column}
use Rattle.tt_value.specs.declared.value.Kind.{Kind}
use Rattle.tt_value.specs.declared.value.Row.{Row}
use Rattle.tt_value.specs.declared.value.Schema.{Schema}
use Rattle.tt_value.specs.declared.name.ColumnName.{ColumnName}
use Rattle.tt_value.specs.declared.name.Literal.{Literal}
use Rattle.tt_value.specs.declared.name.Quoted.{Quoted}
use Rattle.tt_value.specs.declared.name.TableName.{TableName}
use Rattle.tt_value.specs.declared.predicate.Truth.{Truth}
use Rattle.tt_value.specs.declared.predicate.Truth.TheVariants.{False}
use Rattle.tt_value.specs.declared.predicate.Operand.{Operand}
use Rattle.tt_value.specs.declared.predicate.Operand.TheVariants as operand
use Rattle.tt_value.specs.declared.predicate.Comparison.{Comparison}
use Rattle.tt_value.specs.declared.predicate.Comparison.TheVariants.{Equal, LessOrEqual, GreaterOrEqual}
use Rattle.tt_value.specs.declared.predicate.Predicate.{Predicate, out-Predicate}
use Rattle.tt_value.specs.declared.predicate.Conjunction.{Conjunction}
use Rattle.tt_value.specs.declared.predicate.Unit.{Unit}
use Rattle.tt_value.specs.declared.predicate.Unit.TheVariants as unit
use Rattle.tt_value.specs.trees.Scope.{Scope, table_scope, column_place, column_in, column_value, column_kind, value_or_null}
use Rattle.tt_value.specs.trees.Truths.{truth_of_bool, and_truth, or_truth, not_truth, not_if, is_true}
use Rattle.tt_value.specs.trees.Predicates.{is_null, begins, compared, operand_kind, operand_value, comparison_truth, in_truth, between_truth, unit_truth, truth_of, takes}
use Rattle.tt_sql.specs.meaning.Scopes.{names_table, target_scope}
use Rattle.tt_plain.specs.Places.{each, if_there, column_begin}
use Rattle.tt_plain.specs.UnknownColumns.{unknown_name, unknown_in_operand, unknown_in_unit, unknown_in_conjunction, unknown_in_predicate}
use Rattle.tt_typer.proofs.Folds.{unknown_in_predicate_out, unknown_in_conjunction_out, unknown_Not, unknown_Bracket, unknown_Compare, unknown_IsNull, unknown_In, unknown_Between, unknown_StartsWith}
use Rattle.tt_typer.proofs.KindLaws.{nil_parts, none_there}
use Rattle.tt_typer.proofs.OneTable.{place_in_one, columns_in_one}
use Rattle.tt_typer.proofs.PredicateInduction.{by_parts}
use Rattle.tt_typer.proofs.TruthFolds.{of_predicate, of_conjunction, of_unit, of_predicate_out, of_conjunction_out, of_not, of_bracket, of_compare, of_is_null, of_in, of_between, of_starts_with}
use Rattle.tt_filter.proofs.Lists.{map_same}

-- ---- lists

fold_same : {A : Type 0} (step : Truth → Truth → Truth) (f g : A → Truth) (xs : List A) → AllByRecursion (λ x. f x ≡ g x) xs → (s t : Truth) → s ≡ t → fold (λ so_far x. step so_far (f x)) s xs ≡ fold (λ so_far x. step so_far (g x)) t xs
fold_same step f g [] all s t is = is
fold_same step f g (x ∷ xs) all s t is = fold_same step f g xs all.1 (step s (f x)) (step t (g x)) (rw (is, all.0) refl)

each_known : {A : Type 0} (P : A → Type 0) (unknown : A → List ℕ) (xs : List A) → AllByRecursion (λ x. unknown x ≡ [] → P x) xs → each unknown xs ≡ [] → AllByRecursion P xs
each_known P unknown [] all known = tt
each_known P unknown (x ∷ xs) all known = let names = nil_parts (unknown x) (each unknown xs) known in (all.0 names.0, each_known P unknown xs all.1 names.1)

-- ---- names

named_place : (named : Bool) (alone place : Option ℕ) (columns : List Column) (column : Column) → place ≡ (if named then alone else None) → option_and_then (λ k. slice_get columns k) place ≡ Some column → place ≡ alone
named_place true alone place columns column is there = is
named_place false alone place columns column is there =
    let none : None ≡ Some column = ap (λ p. option_and_then (λ k. slice_get columns k) p) (sym is) ∙ there in
    cc

module _ (table : TableName) (schema : Schema) where
  same_place : (c : ColumnName) → unknown_name (target_scope table schema) c ≡ [] → (target_scope table schema).place_of c ≡ (table_scope schema).place_of c
  same_place c known =
      let there = none_there (column_begin c) (column_in (target_scope table schema) c) known in
      named_place (names_table c.table table) (column_place schema c.name.text) ((target_scope table schema).place_of c) (target_scope table schema).columns there.0 (place_in_one table schema c) there.1

  same_kind : (c : ColumnName) → unknown_name (target_scope table schema) c ≡ [] → column_kind (target_scope table schema) c ≡ column_kind (table_scope schema) c
  same_kind c known =
      ap (λ (columns : List Column). option_map (λ (column : Column). column.kind) (option_and_then (λ k. slice_get columns k) ((target_scope table schema).place_of c))) (columns_in_one table schema)
      ∙ ap (λ p. option_map (λ (column : Column). column.kind) (option_and_then (λ k. slice_get schema.columns k) p)) (same_place c known)

  same_operand_kind : (a : Operand) → unknown_in_operand (target_scope table schema) a ≡ [] → operand_kind (target_scope table schema) a ≡ operand_kind (table_scope schema) a
  same_operand_kind (operand.Column c) known = same_kind c known
  same_operand_kind (operand.Literal l) known = refl

  module _ (row : Row) where
    same_value : (c : ColumnName) → unknown_name (target_scope table schema) c ≡ [] → column_value (target_scope table schema) row c ≡ column_value (table_scope schema) row c
    same_value c known = ap (λ p. value_or_null (option_and_then (λ k. slice_get row.values k) p)) (same_place c known)

    same_operand_value : (other : Option Kind) (a : Operand) → unknown_in_operand (target_scope table schema) a ≡ [] → operand_value (target_scope table schema) row other a ≡ operand_value (table_scope schema) row other a
    same_operand_value other (operand.Column c) known = same_value c known
    same_operand_value other (operand.Literal l) known = refl

    same_comparison : (a : Operand) (c : Comparison) (b : Operand) → unknown_in_operand (target_scope table schema) a ≡ [] → unknown_in_operand (target_scope table schema) b ≡ [] → comparison_truth (target_scope table schema) row a c b ≡ comparison_truth (table_scope schema) row a c b
    same_comparison a c b a_known b_known =
        ap (λ v. compared c v (operand_value (target_scope table schema) row (operand_kind (target_scope table schema) a) b)) (same_operand_value (operand_kind (target_scope table schema) b) a a_known ∙ ap (λ k. operand_value (table_scope schema) row k a) (same_operand_kind b b_known))
        ∙ ap (compared c (operand_value (table_scope schema) row (operand_kind (table_scope schema) b) a)) (same_operand_value (operand_kind (target_scope table schema) a) b b_known ∙ ap (λ k. operand_value (table_scope schema) row k b) (same_operand_kind a a_known))

    same_among : (a : Operand) (literals : List Literal) → unknown_in_operand (target_scope table schema) a ≡ [] → in_truth (target_scope table schema) row a literals ≡ in_truth (table_scope schema) row a literals
    same_among a literals known =
        ap (fold or_truth False) (map_same (λ l. comparison_truth (target_scope table schema) row a Equal (operand.Literal l)) (λ l. comparison_truth (table_scope schema) row a Equal (operand.Literal l)) literals (λ l. same_comparison a Equal (operand.Literal l) known refl))

    same_between : (a : Operand) (least greatest : Literal) → unknown_in_operand (target_scope table schema) a ≡ [] → between_truth (target_scope table schema) row a least greatest ≡ between_truth (table_scope schema) row a least greatest
    same_between a least greatest known =
        ap (λ t. and_truth t (comparison_truth (target_scope table schema) row a LessOrEqual (operand.Literal greatest))) (same_comparison a GreaterOrEqual (operand.Literal least) known refl)
        ∙ ap (and_truth (comparison_truth (table_scope schema) row a GreaterOrEqual (operand.Literal least))) (same_comparison a LessOrEqual (operand.Literal greatest) known refl)

    -- ---- the fold

    abbrev unit_in : Scope → Unit → Truth
    unit_in scope = of_unit Truth (unit_truth scope row) and_truth or_truth

    abbrev conjunction_in : Scope → Conjunction → Truth
    conjunction_in scope = of_conjunction Truth (unit_truth scope row) and_truth or_truth

    abbrev predicate_in : Scope → Predicate → Truth
    predicate_in scope = of_predicate Truth (unit_truth scope row) and_truth or_truth

    abbrev SameUnit : Unit → Type 0
    SameUnit u = unknown_in_unit (target_scope table schema) u ≡ [] → unit_in (target_scope table schema) u ≡ unit_in (table_scope schema) u

    abbrev SameConjunction : Conjunction → Type 0
    SameConjunction c = unknown_in_conjunction (target_scope table schema) c ≡ [] → conjunction_in (target_scope table schema) c ≡ conjunction_in (table_scope schema) c

    abbrev SamePredicate : Predicate → Type 0
    SamePredicate p = unknown_in_predicate (target_scope table schema) p ≡ [] → predicate_in (target_scope table schema) p ≡ predicate_in (table_scope schema) p

    not_same : (u : Unit) → SameUnit u → SameUnit (unit.Not u)
    not_same u inside known =
        of_not Truth (unit_truth (target_scope table schema) row) and_truth or_truth u
        ∙ ap not_truth (inside (sym (unknown_Not (target_scope table schema) u) ∙ known))
        ∙ sym (of_not Truth (unit_truth (table_scope schema) row) and_truth or_truth u)

    bracket_same : (p : Predicate) → SamePredicate p → SameUnit (unit.Bracket p)
    bracket_same p inside known =
        of_bracket Truth (unit_truth (target_scope table schema) row) and_truth or_truth p
        ∙ inside (sym (unknown_Bracket (target_scope table schema) p) ∙ known)
        ∙ sym (of_bracket Truth (unit_truth (table_scope schema) row) and_truth or_truth p)

    compare_same : (a : Operand) (c : Comparison) (b : Operand) → SameUnit (unit.Compare a c b)
    compare_same a c b known =
        let names = nil_parts (unknown_in_operand (target_scope table schema) a) (unknown_in_operand (target_scope table schema) b) (sym (unknown_Compare (target_scope table schema) a c b) ∙ known) in
        of_compare Truth (unit_truth (target_scope table schema) row) and_truth or_truth a c b
        ∙ same_comparison a c b names.0 names.1
        ∙ sym (of_compare Truth (unit_truth (table_scope schema) row) and_truth or_truth a c b)

    is_null_same : (a : Operand) (negated : Bool) → SameUnit (unit.IsNull a negated)
    is_null_same a negated known =
        of_is_null Truth (unit_truth (target_scope table schema) row) and_truth or_truth a negated
        ∙ ap (λ v. not_if negated (truth_of_bool (is_null v))) (same_operand_value None a (sym (unknown_IsNull (target_scope table schema) a negated) ∙ known))
        ∙ sym (of_is_null Truth (unit_truth (table_scope schema) row) and_truth or_truth a negated)

    among_same : (a : Operand) (negated : Bool) (literals : List Literal) → SameUnit (unit.In a negated literals)
    among_same a negated literals known =
        of_in Truth (unit_truth (target_scope table schema) row) and_truth or_truth a negated literals
        ∙ ap (not_if negated) (same_among a literals (sym (unknown_In (target_scope table schema) a negated literals) ∙ known))
        ∙ sym (of_in Truth (unit_truth (table_scope schema) row) and_truth or_truth a negated literals)

    between_same : (a : Operand) (negated : Bool) (least greatest : Literal) → SameUnit (unit.Between a negated least greatest)
    between_same a negated least greatest known =
        of_between Truth (unit_truth (target_scope table schema) row) and_truth or_truth a negated least greatest
        ∙ ap (not_if negated) (same_between a least greatest (sym (unknown_Between (target_scope table schema) a negated least greatest) ∙ known))
        ∙ sym (of_between Truth (unit_truth (table_scope schema) row) and_truth or_truth a negated least greatest)

    starts_with_same : (c : ColumnName) (front : Quoted) → SameUnit (unit.StartsWith c front)
    starts_with_same c front known =
        of_starts_with Truth (unit_truth (target_scope table schema) row) and_truth or_truth c front
        ∙ ap (λ v. begins v front.text) (same_value c (sym (unknown_StartsWith (target_scope table schema) c front) ∙ known))
        ∙ sym (of_starts_with Truth (unit_truth (table_scope schema) row) and_truth or_truth c front)

    all_same : (c : Conjunction) → SameUnit c.first → AllByRecursion SameUnit c.others → SameConjunction c
    all_same c first others known =
        let names = nil_parts (unknown_in_unit (target_scope table schema) c.first) (each (unknown_in_unit (target_scope table schema)) c.others) (sym (unknown_in_conjunction_out (target_scope table schema) c) ∙ known) in
        of_conjunction_out Truth (unit_truth (target_scope table schema) row) and_truth or_truth c
        ∙ fold_same and_truth (unit_in (target_scope table schema)) (unit_in (table_scope schema)) c.others (each_known (λ u. unit_in (target_scope table schema) u ≡ unit_in (table_scope schema) u) (unknown_in_unit (target_scope table schema)) c.others others names.1) (unit_in (target_scope table schema) c.first) (unit_in (table_scope schema) c.first) (first names.0)
        ∙ sym (of_conjunction_out Truth (unit_truth (table_scope schema) row) and_truth or_truth c)

    any_same : (p : Predicate) → SameConjunction (out-Predicate p).first → AllByRecursion SameConjunction (out-Predicate p).others → SamePredicate p
    any_same p first others known =
        let names = nil_parts (unknown_in_conjunction (target_scope table schema) (out-Predicate p).first) (each (unknown_in_conjunction (target_scope table schema)) (out-Predicate p).others) (sym (unknown_in_predicate_out (target_scope table schema) p) ∙ known) in
        of_predicate_out Truth (unit_truth (target_scope table schema) row) and_truth or_truth p
        ∙ fold_same or_truth (conjunction_in (target_scope table schema)) (conjunction_in (table_scope schema)) (out-Predicate p).others (each_known (λ c. conjunction_in (target_scope table schema) c ≡ conjunction_in (table_scope schema) c) (unknown_in_conjunction (target_scope table schema)) (out-Predicate p).others others names.1) (conjunction_in (target_scope table schema) (out-Predicate p).first) (conjunction_in (table_scope schema) (out-Predicate p).first) (first names.0)
        ∙ sym (of_predicate_out Truth (unit_truth (table_scope schema) row) and_truth or_truth p)

    pub same_truth : (p : Predicate) → unknown_in_predicate (target_scope table schema) p ≡ [] → truth_of (target_scope table schema) row p ≡ truth_of (table_scope schema) row p
    unfolding truth_of
    same_truth p known =
        by_parts SameUnit SameConjunction SamePredicate
        (record { not = not_same; bracket = bracket_same; compare = compare_same; is_null = is_null_same; among = among_same; between = between_same; starts_with = starts_with_same; all = all_same; any = any_same }) p known

  pub same_takes : (predicate : Option Predicate) → if_there (unknown_in_predicate (target_scope table schema)) predicate ≡ [] → (row : Row) → takes (target_scope table schema) predicate row ≡ takes (table_scope schema) predicate row
  same_takes None known row = refl
  same_takes (Some p) known row = ap is_true (same_truth row p known)
