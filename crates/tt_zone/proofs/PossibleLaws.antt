-- The truth value of a predicate on a row is one of those that the true zones of the row's partition leave possible.
use Rattle.std.proofs.Common.{◌≡◌, ℕ, zero, suc, ◌+◌, ◌<◌, Bool, true, false, List, [], ◌∷◌, length, map, Option, Some, None, refl, sym, ap, subst, ◌∙◌, arith, zero-add}
use Rattle.std.specs.Prelude.{fold, slice_get, Contains, option_and_then}
use Rattle.std.specs.Option.{option_map}
use Rattle.std.specs.List.{range_with_len, AllByRecursion, position}
use Rattle.std.specs.Str.{bytes_eq}
use Rattle.std.proofs.lemmas.Bool.{false≢true}
use Rattle.std.proofs.lemmas.Option.{slice_get-map, none-some}
use Rattle.std.proofs.lemmas.List.Quantifiers.{position-Some}
use Rattle.tt_value.specs.declared.value.Kind.{Kind}
use Rattle.tt_value.specs.declared.value.Column.{Column}
use Rattle.tt_value.specs.declared.value.Schema.{Schema}
use Rattle.tt_value.specs.declared.value.Row.{Row}
use Rattle.tt_value.specs.declared.name.ColumnName.{ColumnName}
use Rattle.tt_value.specs.declared.name.Literal.{Literal}
use Rattle.tt_value.specs.declared.predicate.Truth.{Truth}
use Rattle.tt_value.specs.declared.predicate.Truth.TheVariants.{True, False, Unknown}
use Rattle.tt_value.specs.declared.predicate.Operand.{Operand}
use Rattle.tt_value.specs.declared.predicate.Operand.TheVariants as operand
use Rattle.tt_value.specs.declared.predicate.Comparison.{Comparison}
use Rattle.tt_value.specs.declared.predicate.Comparison.TheVariants.{Equal, LessOrEqual, GreaterOrEqual}
use Rattle.tt_value.specs.declared.predicate.Predicate.{Predicate, out-Predicate}
use Rattle.tt_value.specs.declared.predicate.Conjunction.{Conjunction}
use Rattle.tt_value.specs.declared.predicate.Unit.{Unit}
use Rattle.tt_value.specs.trees.Scope.{Scope, table_scope, column_place, column_value, value_or_null, beside}
use Rattle.tt_value.specs.trees.Truths.{and_truth, or_truth, is_true}
use Rattle.tt_value.specs.trees.Predicates.{operand_kind, operand_value, comparison_truth, in_truth, unit_truth, truth_of}
use Rattle.tt_zone.specs.declared.zone.Zone.{Zone}
use Rattle.tt_zone.specs.declared.truth_set.TruthSet.{TruthSet}
use Rattle.tt_zone.specs.TruthSets.{has, and_set, or_set, only_false}
use Rattle.tt_zone.specs.Zones.{zone_of, column_at, zones_of}
use Rattle.tt_zone.specs.Possible.{zone_span, zone_named, operand_span, comparison_possible, in_possible, unit_possible, possible, LeavesEachTruth, PrunesOnlyMisses}
use Rattle.tt_zone.proofs.SetLaws.{not_has, not_if_has, and_has, or_has}
use Rattle.tt_zone.proofs.ConditionLaws.{InSpan, value_in, compared_has, null_has}
use Rattle.tt_zone.proofs.TextFronts.{begins_has}
use Rattle.tt_zone.proofs.TrueZones.{Has, has_from, has_map, zone_in}
use Rattle.tt_zone.proofs.PredicateFolds.{of_predicate, of_conjunction, of_unit, of_predicate_out, of_conjunction_out, of_not, of_bracket, of_compare, of_is_null, of_in, of_between, of_starts_with}
use Rattle.tt_zone.proofs.PredicateInduction.{Carries, by_parts}

-- ---- folds of sets beside folds of truth values

module _ (table : Truth → Truth → Truth) (sets : TruthSet → TruthSet → TruthSet) (keeps : (a b : TruthSet) (t u : Truth) → has a t ≡ true → has b u ≡ true → has (sets a b) (table t u) ≡ true) where
  fold_has : {A : Type 0} (truth : A → Truth) (set : A → TruthSet) (xs : List A) (a : TruthSet) (t : Truth) → has a t ≡ true → AllByRecursion (λ x. has (set x) (truth x) ≡ true) xs → has (fold (λ so_far x. sets so_far (set x)) a xs) (fold (λ so_far x. table so_far (truth x)) t xs) ≡ true
  fold_has truth set [] a t h all = h
  fold_has truth set (x ∷ xs) a t h all = fold_has truth set xs (sets a (set x)) (table t (truth x)) (keeps a (set x) t (truth x) h all.0) all.1

  fold_map_has : {A : Type 0} (truth : A → Truth) (set : A → TruthSet) (each : (x : A) → has (set x) (truth x) ≡ true) (xs : List A) (a : TruthSet) (t : Truth) → has a t ≡ true → has (fold sets a (map set xs)) (fold table t (map truth xs)) ≡ true
  fold_map_has truth set each [] a t h = h
  fold_map_has truth set each (x ∷ xs) a t h = fold_map_has truth set each xs (sets a (set x)) (table t (truth x)) (keeps a (set x) t (truth x) h (each x))

-- ---- predicates, where each column's value lies in its zone

module _ (scope : Scope) (zones : List Zone) (row : Row) (columns : (c : ColumnName) → InSpan (zone_span (zone_named scope zones c)) (column_value scope row c)) where
  operand_in : (other : Option Kind) (a : Operand) → InSpan (operand_span scope zones other a) (operand_value scope row other a)
  operand_in other (operand.Column c) = columns c
  operand_in other (operand.Literal l) = value_in (beside other l.value)

  comparison_has : (a : Operand) (c : Comparison) (b : Operand) → has (comparison_possible scope zones a c b) (comparison_truth scope row a c b) ≡ true
  comparison_has a c b = compared_has c (operand_span scope zones (operand_kind scope b) a) (operand_span scope zones (operand_kind scope a) b) (operand_value scope row (operand_kind scope b) a) (operand_value scope row (operand_kind scope a) b) (operand_in (operand_kind scope b) a) (operand_in (operand_kind scope a) b)

  in_has : (a : Operand) (literals : List Literal) → has (in_possible scope zones a literals) (in_truth scope row a literals) ≡ true
  in_has a literals = fold_map_has or_truth or_set or_has (λ l. comparison_truth scope row a Equal (operand.Literal l)) (λ l. comparison_possible scope zones a Equal (operand.Literal l)) (λ l. comparison_has a Equal (operand.Literal l)) literals only_false False refl

  abbrev set_of_unit : Unit → TruthSet
  set_of_unit = of_unit TruthSet (unit_possible scope zones) and_set or_set

  abbrev set_of_conjunction : Conjunction → TruthSet
  set_of_conjunction = of_conjunction TruthSet (unit_possible scope zones) and_set or_set

  abbrev set_of_predicate : Predicate → TruthSet
  set_of_predicate = of_predicate TruthSet (unit_possible scope zones) and_set or_set

  abbrev truth_of_unit : Unit → Truth
  truth_of_unit = of_unit Truth (unit_truth scope row) and_truth or_truth

  abbrev truth_of_conjunction : Conjunction → Truth
  truth_of_conjunction = of_conjunction Truth (unit_truth scope row) and_truth or_truth

  abbrev truth_of_predicate : Predicate → Truth
  truth_of_predicate = of_predicate Truth (unit_truth scope row) and_truth or_truth

  both_are : (s s' : TruthSet) (t t' : Truth) → s ≡ s' → t ≡ t' → has s' t' ≡ true → has s t ≡ true
  both_are s s' t t' e f h = ap (λ x. has x t) e ∙ ap (has s') f ∙ h

  carries : Carries (λ u. has (set_of_unit u) (truth_of_unit u) ≡ true) (λ c. has (set_of_conjunction c) (truth_of_conjunction c) ≡ true) (λ p. has (set_of_predicate p) (truth_of_predicate p) ≡ true)
  carries = record {
    not = λ u h. both_are _ _ _ _ (of_not TruthSet (unit_possible scope zones) and_set or_set u) (of_not Truth (unit_truth scope row) and_truth or_truth u) (not_has (set_of_unit u) (truth_of_unit u) h);
    bracket = λ p h. both_are _ _ _ _ (of_bracket TruthSet (unit_possible scope zones) and_set or_set p) (of_bracket Truth (unit_truth scope row) and_truth or_truth p) h;
    compare = λ a c b. both_are _ _ _ _ (of_compare TruthSet (unit_possible scope zones) and_set or_set a c b) (of_compare Truth (unit_truth scope row) and_truth or_truth a c b) (comparison_has a c b);
    is_null = λ a negated. both_are _ _ _ _ (of_is_null TruthSet (unit_possible scope zones) and_set or_set a negated) (of_is_null Truth (unit_truth scope row) and_truth or_truth a negated) (not_if_has negated _ _ (null_has (operand_span scope zones None a) (operand_value scope row None a) (operand_in None a)));
    among = λ a negated literals. both_are _ _ _ _ (of_in TruthSet (unit_possible scope zones) and_set or_set a negated literals) (of_in Truth (unit_truth scope row) and_truth or_truth a negated literals) (not_if_has negated _ _ (in_has a literals));
    between = λ a negated least greatest. both_are _ _ _ _ (of_between TruthSet (unit_possible scope zones) and_set or_set a negated least greatest) (of_between Truth (unit_truth scope row) and_truth or_truth a negated least greatest) (not_if_has negated _ _ (and_has (comparison_possible scope zones a GreaterOrEqual (operand.Literal least)) (comparison_possible scope zones a LessOrEqual (operand.Literal greatest)) (comparison_truth scope row a GreaterOrEqual (operand.Literal least)) (comparison_truth scope row a LessOrEqual (operand.Literal greatest)) (comparison_has a GreaterOrEqual (operand.Literal least)) (comparison_has a LessOrEqual (operand.Literal greatest))));
    starts_with = λ c front. both_are _ _ _ _ (of_starts_with TruthSet (unit_possible scope zones) and_set or_set c front) (of_starts_with Truth (unit_truth scope row) and_truth or_truth c front) (begins_has front.text (zone_span (zone_named scope zones c)) (column_value scope row c) (columns c));
    all = λ c first others. both_are _ _ _ _ (of_conjunction_out TruthSet (unit_possible scope zones) and_set or_set c) (of_conjunction_out Truth (unit_truth scope row) and_truth or_truth c) (fold_has and_truth and_set and_has truth_of_unit set_of_unit c.others (set_of_unit c.first) (truth_of_unit c.first) first others);
    any = λ p first others. both_are _ _ _ _ (of_predicate_out TruthSet (unit_possible scope zones) and_set or_set p) (of_predicate_out Truth (unit_truth scope row) and_truth or_truth p) (fold_has or_truth or_set or_has truth_of_conjunction set_of_conjunction (out-Predicate p).others (set_of_conjunction (out-Predicate p).first) (truth_of_conjunction (out-Predicate p).first) first others);
  }

  pub possible_has : (p : Predicate) → has (possible scope zones p) (truth_of scope row p) ≡ true
  unfolding possible truth_of
  possible_has p = by_parts (λ u. has (set_of_unit u) (truth_of_unit u) ≡ true) (λ c. has (set_of_conjunction c) (truth_of_conjunction c) ≡ true) (λ p. has (set_of_predicate p) (truth_of_predicate p) ≡ true) carries p

-- ---- the true zones of rows

counted_from : (a n k : ℕ) → k < n → slice_get (range_with_len a n) k ≡ Some (a + k)
counted_from a zero k h = absurd (omega arith)
counted_from a (suc n) zero h = ap (λ (i : ℕ). Some i) (omega arith)
counted_from a (suc n) (suc k) h = counted_from (a + 1) n k (omega arith) ∙ ap (λ (i : ℕ). Some i) (omega arith)

pub zone_at : (schema : Schema) (rows : List Row) (k : ℕ) → k < length schema.columns → slice_get (zones_of schema rows) k ≡ Some (zone_of (column_at k rows))
zone_at schema rows k h =
    slice_get-map (λ i. zone_of (column_at i rows)) (range_with_len 0 (length schema.columns)) k
    ∙ ap (option_map (λ i. zone_of (column_at i rows))) (counted_from 0 (length schema.columns) k h ∙ ap (λ (i : ℕ). Some i) (zero-add k))

column_in_zone : (scope : Scope) (schema : Schema) (rows : List Row) (row : Row) (c : ColumnName) (place : Option ℕ) → ((k : ℕ) → place ≡ Some k → k < length schema.columns) → Has rows row → InSpan (zone_span (option_and_then (λ k. slice_get (zones_of schema rows) k) place)) (value_or_null (option_and_then (λ k. slice_get row.values k) place))
column_in_zone scope schema rows row c None within m = record { null = λ e. refl; value = λ e. absurd (false≢true (sym e)) }
column_in_zone scope schema rows row c (Some k) within m =
    subst (λ zone. InSpan (zone_span zone) (value_or_null (slice_get row.values k))) (sym (zone_at schema rows k (within k refl)))
    (zone_in (column_at k rows) (value_or_null (slice_get row.values k)) (has_map (λ (r : Row). value_or_null (slice_get r.values k)) rows row m))

pub rows_leave : (scope : Scope) (schema : Schema) (rows : List Row) (row : Row) (p : Predicate) → ((c : ColumnName) (k : ℕ) → scope.place_of c ≡ Some k → k < length schema.columns) → Contains rows row → has (possible scope (zones_of schema rows) p) (truth_of scope row p) ≡ true
rows_leave scope schema rows row p names there = possible_has scope (zones_of schema rows) row (λ c. column_in_zone scope schema rows row c (scope.place_of c) (names c) (has_from rows row there.0 there.1 there.2)) p

position_within : {A : Type 0} (test : A → Bool) (xs : List A) (k : ℕ) → position test xs ≡ Some k → k < length xs
position_within test [] k e = absurd (none-some k e)
position_within test (x ∷ xs) k e = (position-Some test (x ∷ xs) k x e).0

table_names : (schema : Schema) (c : ColumnName) (k : ℕ) → column_place schema c.name.text ≡ Some k → k < length schema.columns
table_names schema c k e = position_within (λ (column : Column). bytes_eq column.name c.name.text) schema.columns k e

pub table_leaves : (schema : Schema) (rows : List Row) (p : Predicate) → LeavesEachTruth schema rows p
table_leaves schema rows p row there = rows_leave (table_scope schema) schema rows row p (table_names schema) there

not_true : (set : TruthSet) (t : Truth) → has set t ≡ true → set.has_true ≡ false → is_true t ≡ false
not_true set True h e = absurd (false≢true (sym e ∙ h))
not_true set False h e = refl
not_true set Unknown h e = refl

pub table_prunes : (schema : Schema) (rows : List Row) (p : Predicate) → PrunesOnlyMisses schema rows p
table_prunes schema rows p e row there = not_true (possible (table_scope schema) (zones_of schema rows) p) (truth_of (table_scope schema) row p) (table_leaves schema rows p row there) e
