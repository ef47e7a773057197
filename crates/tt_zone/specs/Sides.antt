-- What the program keeps of an operand: the kind and the zone of a column, or a written value.
use Rattle.std.specs.Prelude.{◌≡◌, List, Option, None}
use Rattle.std.specs.Option.{option_map, option_copied, unwrap_or}
use Rattle.tt_value.specs.declared.value.Kind.{Kind}
use Rattle.tt_value.specs.declared.value.Value.{Value}
use Rattle.tt_value.specs.declared.value.Column.{Column}
use Rattle.tt_value.specs.declared.name.ColumnName.{ColumnName}
use Rattle.tt_value.specs.declared.predicate.Operand.{Operand}
use Rattle.tt_value.specs.declared.predicate.Operand.TheVariants as operand
use Rattle.tt_value.specs.declared.predicate.Comparison.{Comparison}
use Rattle.tt_value.specs.declared.name.Literal.{Literal}
use Rattle.tt_value.specs.trees.Scope.{Scope, kind_of, beside}
use Rattle.tt_value.specs.trees.Predicates.{operand_kind}
use Rattle.tt_zone.specs.declared.zone.Zone.{Zone}
use Rattle.tt_zone.specs.declared.sides.Side.{Side}
use Rattle.tt_zone.specs.declared.sides.Side.TheVariants as side
use Rattle.tt_zone.specs.declared.sides.Span as lent
use Rattle.tt_zone.specs.declared.truth_set.TruthSet.{TruthSet}
use Rattle.tt_zone.specs.Possible.{Span, zone_span, value_span, operand_span, compared_in}

abbrev pub side_kind : Side → Option Kind
side_kind (side.Column kind _) = kind
side_kind (side.Literal v) = kind_of v.now

-- what it may be, a text in quotes being this value where there is one
abbrev pub span_read : Option Value → Side → Span
span_read read (side.Column kind zone) = zone_span (option_copied zone)
span_read read (side.Literal v) = value_span (unwrap_or read v.now)

-- what it may be beside an operand of a kind
abbrev pub side_span : Option Kind → Side → Span
side_span other (side.Column kind zone) = zone_span (option_copied zone)
side_span other (side.Literal v) = value_span (beside other v.now)

-- what an operand is, by its kind and by what it may be beside each other kind
pub record IsSideOf (scope : Scope) (zones : List Zone) (operand : Operand) (s : Side) : Type 0 where
  pub kind : side_kind s ≡ operand_kind scope operand
  pub span : (other : Option Kind) → side_span other s ≡ operand_span scope zones other operand

-- the same of a column
abbrev pub IsColumnSide : Scope → List Zone → ColumnName → Side → Type 0
IsColumnSide scope zones c s = IsSideOf scope zones (operand.Column c) s

abbrev pub kind_of_column : Column → Kind
kind_of_column column = column.kind

-- the truth values of a comparison, each side being read beside the kind of the other
abbrev pub sides_compared : Side → Comparison → Side → TruthSet
sides_compared s c t = compared_in c (side_span (side_kind t) s) (side_span (side_kind s) t)

-- the truth values of a comparison with a literal on the right
abbrev pub literal_compared : Side → Comparison → Literal → TruthSet
literal_compared s c l = compared_in c (side_span (kind_of l.value) s) (value_span (beside (side_kind s) l.value))

abbrev pub no_kind : Option Kind
no_kind = None

-- a span with its values, which the program has by reference
abbrev pub span_of : lent.Span → Span
span_of s = record { range = option_map (λ r. (r.least.now, r.greatest.now)) s.range; has_null = s.has_null }
