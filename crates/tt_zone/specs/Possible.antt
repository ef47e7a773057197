-- Which truth values a predicate may have on a row of a partition, as far as the partition's zones tell.
use Rattle.std.specs.Prelude.{◌≡◌, Contains, ℕ, Bool, true, false, not, ◌&&◌, ◌||◌, ◌==◌, nat_lt, if◌then◌else◌, List, fold, map, slice_get, Option, Some, None, is_some, option_and_then}
use Rattle.std.specs.Option.{option_map}
use Rattle.std.specs.List.{starts_with}
use Rattle.std.specs.Ordering.{is_eq, is_lt, is_le}
use Rattle.tt_value.specs.declared.value.Kind.{Kind}
use Rattle.tt_value.specs.declared.value.Value.{Value}
use Rattle.tt_value.specs.declared.value.Value.TheVariants.{Text}
use Rattle.tt_value.specs.declared.value.Row.{Row}
use Rattle.tt_value.specs.declared.value.Schema.{Schema}
use Rattle.tt_value.specs.declared.name.ColumnName.{ColumnName}
use Rattle.tt_value.specs.declared.name.Literal.{Literal}
use Rattle.tt_value.specs.declared.predicate.Operand.{Operand}
use Rattle.tt_value.specs.declared.predicate.Operand.TheVariants as operand
use Rattle.tt_value.specs.declared.predicate.Comparison.{Comparison}
use Rattle.tt_value.specs.declared.predicate.Comparison.TheVariants.{Equal, NotEqual, Less, LessOrEqual, Greater, GreaterOrEqual}
use Rattle.tt_value.specs.declared.predicate.Predicate.{Predicate}
use Rattle.tt_value.specs.declared.predicate.Conjunction.{Conjunction}
use Rattle.tt_value.specs.declared.predicate.Unit.{Unit}
use Rattle.tt_value.specs.declared.predicate.Unit.TheFolds.{fold-Predicate, fold-Conjunction, fold-Unit}
use Rattle.tt_value.specs.declared.predicate.Unit.TheOpen.{Predicate-F, Conjunction-F, Unit-F}
use Rattle.tt_value.specs.values.Order.{value_cmp}
use Rattle.tt_value.specs.trees.Scope.{Scope, table_scope, beside}
use Rattle.tt_value.specs.trees.Predicates.{is_null, operand_kind, truth_of, takes}
use Rattle.tt_zone.specs.declared.zone.Zone.{Zone}
use Rattle.tt_zone.specs.declared.truth_set.TruthSet.{TruthSet}
use Rattle.tt_zone.specs.Zones.{zones_of}
use Rattle.tt_zone.specs.TruthSets.{has, not_set, and_set, or_set, not_set_if, only_false}

-- ---- what an operand may be

-- a least and a greatest value
abbrev pub Range : Type 0
Range = Value × Value

-- What an operand may be on a row of the partition: a value of the range, if there is one; and NULL, if it may be.
pub record Span : Type 0 where
  pub range : Option Range
  pub has_null : Bool

-- a column with this zone; a column that is not there is NULL on each row
abbrev pub zone_span : Option Zone → Span
zone_span None = record { range = None; has_null = true }
zone_span (Some zone) = record {
  range = if nat_lt zone.nulls zone.rows then Some (zone.least, zone.greatest) else None;
  has_null = nat_lt 0 zone.nulls;
}

-- a value alone
abbrev pub value_span : Value → Span
value_span v = record { range = if is_null v then None else Some (v, v); has_null = is_null v }

-- ---- one condition

abbrev pub is_below : Value → Value → Bool
is_below a b = is_lt (value_cmp a b)

abbrev pub is_at_most : Value → Value → Bool
is_at_most a b = is_le (value_cmp a b)

abbrev pub is_same : Value → Value → Bool
is_same a b = is_eq (value_cmp a b)

-- whether a value of one range may be equal to one of the other, and whether it may not
abbrev pub equal_in : Range → Range → Bool × Bool
equal_in l r = (
  is_at_most l.0 r.1 && is_at_most r.0 l.1,
  not (is_same l.0 l.1 && (is_same l.1 r.0 && is_same r.0 r.1)),
)

-- the same of being less
abbrev pub less_in : Range → Range → Bool × Bool
less_in l r = (is_below l.0 r.1, is_at_most r.0 l.1)

-- the same of being less or equal
abbrev pub at_most_in : Range → Range → Bool × Bool
at_most_in l r = (is_at_most l.0 r.1, is_below r.0 l.1)

-- true and false as the ranges have it, where there are values; unknown where NULL may be
abbrev pub truths_in : Option (Bool × Bool) → Bool → TruthSet
truths_in None unknown = record { has_true = false; has_false = false; has_unknown = unknown }
truths_in (Some may) unknown = record { has_true = may.0; has_false = may.1; has_unknown = unknown }

abbrev pub ranges_in : (Range → Range → Bool × Bool) → Span → Span → TruthSet
ranges_in test l r = truths_in (option_and_then (λ a. option_map (test a) r.range) l.range) (l.has_null || r.has_null)

abbrev pub compared_in : Comparison → Span → Span → TruthSet
compared_in Equal l r = ranges_in equal_in l r
compared_in NotEqual l r = not_set (ranges_in equal_in l r)
compared_in Less l r = ranges_in less_in l r
compared_in LessOrEqual l r = ranges_in at_most_in l r
compared_in Greater l r = ranges_in less_in r l
compared_in GreaterOrEqual l r = ranges_in at_most_in r l

-- whether it is NULL
abbrev pub null_in : Span → TruthSet
null_in s = record { has_true = s.has_null; has_false = is_some s.range; has_unknown = false }

abbrev pub is_text : Value → Bool
is_text (Text bytes) = true
is_text _ = false

abbrev pub text_of : List ℕ → Value
text_of bytes = Text bytes

-- whether it is a text that begins with these bytes
abbrev pub is_text_with : List ℕ → Value → Bool
is_text_with front (Text bytes) = starts_with (λ a b. a == b) bytes front
is_text_with front _ = false

abbrev pub begins_between : List ℕ → Range → Bool × Bool
begins_between front r = (
  is_at_most (Text front) r.1 && (is_at_most r.0 (Text front) || is_text_with front r.0),
  not (is_text_with front r.0 && is_text_with front r.1),
)

-- Texts stand above numbers and dates, so where the least value is a text all are. What is no text is as unknown as NULL.
abbrev pub has_others : Option Range → Bool
has_others None = false
has_others (Some r) = not (is_text r.0)

abbrev pub begins_in : List ℕ → Span → TruthSet
begins_in front s = truths_in (option_map (begins_between front) s.range) (s.has_null || has_others s.range)

-- ---- predicates

module _ (scope : Scope) (zones : List Zone) where
  -- the zone of the column that a name means
  abbrev pub zone_named : ColumnName → Option Zone
  zone_named c = option_and_then (λ k. slice_get zones k) (scope.place_of c)

  -- what an operand may be beside an operand of a kind
  abbrev pub operand_span : Option Kind → Operand → Span
  operand_span other (operand.Column c) = zone_span (zone_named c)
  operand_span other (operand.Literal l) = value_span (beside other l.value)

  abbrev pub comparison_possible : Operand → Comparison → Operand → TruthSet
  comparison_possible a c b = compared_in c (operand_span (operand_kind scope b) a) (operand_span (operand_kind scope a) b)

  -- the OR of the equalities
  abbrev pub in_possible : Operand → List Literal → TruthSet
  in_possible a literals = fold or_set only_false (map (λ l. comparison_possible a Equal (operand.Literal l)) literals)

  -- the AND of the two comparisons
  abbrev pub between_possible : Operand → Literal → Literal → TruthSet
  between_possible a least greatest = and_set (comparison_possible a GreaterOrEqual (operand.Literal least)) (comparison_possible a LessOrEqual (operand.Literal greatest))

  -- of a unit, given those of the unit or the predicate inside it
  abbrev pub unit_possible : Unit-F TruthSet TruthSet TruthSet → TruthSet
  unit_possible (Unit-F.Not a) = not_set a
  unit_possible (Unit-F.Bracket a) = a
  unit_possible (Unit-F.Compare a c b) = comparison_possible a c b
  unit_possible (Unit-F.IsNull a negated) = not_set_if negated (null_in (operand_span None a))
  unit_possible (Unit-F.In a negated literals) = not_set_if negated (in_possible a literals)
  unit_possible (Unit-F.Between a negated least greatest) = not_set_if negated (between_possible a least greatest)
  unit_possible (Unit-F.StartsWith c front) = begins_in front.text (zone_span (zone_named c))

  abbrev pub all_possible : Conjunction-F TruthSet TruthSet TruthSet → TruthSet
  all_possible c = fold and_set c.first c.others

  abbrev pub any_possible : Predicate-F TruthSet TruthSet TruthSet → TruthSet
  any_possible p = fold or_set p.first p.others

  -- the truth values that a predicate may have
  unfoldable pub possible : Predicate → TruthSet
  possible = fold-Predicate TruthSet TruthSet TruthSet unit_possible all_possible any_possible

  -- the same of its parts
  unfoldable pub possible_of_conjunction : Conjunction → TruthSet
  possible_of_conjunction = fold-Conjunction TruthSet TruthSet TruthSet unit_possible all_possible any_possible

  unfoldable pub possible_of_unit : Unit → TruthSet
  possible_of_unit = fold-Unit TruthSet TruthSet TruthSet unit_possible all_possible any_possible

-- whether a row of a partition of these zones may match, by the columns of one table
abbrev pub may_match : Schema → List Zone → Predicate → Bool
may_match schema zones p = (possible (table_scope schema) zones p).has_true

-- the truth value of a predicate on each of these rows is one of those that the rows' true zones leave possible
abbrev pub LeavesEachTruth : Schema → List Row → Predicate → Type 0
LeavesEachTruth schema rows p =
    (row : Row) → Contains rows row → has (possible (table_scope schema) (zones_of schema rows) p) (truth_of (table_scope schema) row p) ≡ true

-- where the true zones of these rows say that none may match, the predicate takes none
abbrev pub PrunesOnlyMisses : Schema → List Row → Predicate → Type 0
PrunesOnlyMisses schema rows p =
    may_match schema (zones_of schema rows) p ≡ false → (row : Row) → Contains rows row → takes (table_scope schema) (Some p) row ≡ false
