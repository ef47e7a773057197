-- The true zones of rows: per column the least and the greatest value that is not NULL, and how many NULLs and rows there are.
use Rattle.std.specs.Prelude.{◌≡◌, true, false, Contains, ℕ, ◌+◌, List, length, map, fold, ◌||◌, if◌then◌else◌, slice_get}
use Rattle.std.specs.List.{count_by, range_with_len}
use Rattle.std.specs.Ordering.{is_lt, is_le, is_gt}
use Rattle.tt_value.specs.declared.value.Value.{Value}
use Rattle.tt_value.specs.declared.value.Value.TheVariants.{Null}
use Rattle.tt_value.specs.declared.value.Schema.{Schema}
use Rattle.tt_value.specs.declared.value.Row.{Row}
use Rattle.tt_value.specs.values.Order.{value_cmp}
use Rattle.tt_value.specs.trees.Scope.{value_or_null}
use Rattle.tt_value.specs.trees.Predicates.{is_null}
use Rattle.tt_zone.specs.declared.zone.Zone.{Zone}

-- the lesser of two values; NULL stands above all
abbrev pub lesser : Value → Value → Value
lesser a b = if is_gt (value_cmp a b) then b else a

-- the greater of two values, where NULL stands for none
abbrev pub greater : Value → Value → Value
greater a b = if is_null b then a else (if is_null a || is_lt (value_cmp a b) then b else a)

-- the zone of a column of these values; without a value its least and greatest are NULL
abbrev pub zone_of : List Value → Zone
zone_of values = record {
  least = fold lesser Null values;
  greatest = fold greater Null values;
  nulls = count_by is_null values;
  rows = length values;
}

abbrev pub null : Value
null = Null

-- a zone with one more value
abbrev pub with_value : Zone → Value → Zone
with_value zone v = record {
  least = lesser zone.least v;
  greatest = greater zone.greatest v;
  nulls = if is_null v then zone.nulls + 1 else zone.nulls;
  rows = zone.rows + 1;
}

-- What a zone says of its column: each value that is not NULL lies between the least and the greatest, which are values of
-- the column where there is one, and else NULL.
pub record IsZoneOf (values : List Value) (zone : Zone) : Type 0 where
  pub within : (v : Value) → Contains values v → is_null v ≡ false → (is_le (value_cmp zone.least v) ≡ true) × (is_le (value_cmp v zone.greatest) ≡ true)
  pub least : (v : Value) → Contains values v → is_null v ≡ false → Contains values zone.least × (is_null zone.least ≡ false)
  pub greatest : (v : Value) → Contains values v → is_null v ≡ false → Contains values zone.greatest × (is_null zone.greatest ≡ false)
  pub none : ((v : Value) → Contains values v → is_null v ≡ true) → (zone.least ≡ Null) × (zone.greatest ≡ Null)
  pub nulls : zone.nulls ≡ count_by is_null values
  pub rows : zone.rows ≡ length values

-- the column at a place; a row that ends before it has NULL there
abbrev pub column_at : ℕ → List Row → List Value
column_at k rows = map (λ (row : Row). value_or_null (slice_get row.values k)) rows

-- the true zones of rows, one for each column of the schema
abbrev pub zones_of : Schema → List Row → List Zone
zones_of schema rows = map (λ k. zone_of (column_at k rows)) (range_with_len 0 (length schema.columns))
