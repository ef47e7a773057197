-- The zone of a column, value by value.
use Rattle.std.proofs.Common.{◌≡◌, ℕ, suc, ◌+◌, ◌<◌, ◌≤◌, Bool, true, false, cond, List, [], ◌∷◌, length, drop, get_or, refl, sym, ap, ◌∙◌, arith}
use Rattle.std.specs.Prelude.{fold, slice_get}
use Rattle.std.proofs.lemmas.List.{drop_more, drop_all, get_or-map}
use Rattle.tt_value.specs.declared.value.Value.{Value}
use Rattle.tt_value.specs.declared.value.Value.TheVariants.{Null}
use Rattle.tt_value.specs.declared.value.Row.{Row}
use Rattle.tt_value.specs.trees.Scope.{value_or_null}
use Rattle.tt_value.specs.trees.Predicates.{is_null}
use Rattle.tt_zone.specs.declared.zone.Zone.{Zone}
use Rattle.tt_zone.specs.Zones.{lesser, greater, with_value, zone_of, column_at}

abbrev made : Value → Value → ℕ → ℕ → Zone
made least greatest nulls rows = record { least = least; greatest = greatest; nulls = nulls; rows = rows }

abbrev counted : ℕ → Value → ℕ
counted n v = n + cond (is_null v) 1 0

one_more : (b : Bool) (n : ℕ) → cond b (n + 1) n ≡ n + cond b 1 0
one_more true n = refl
one_more false n = omega arith

-- a zone with more values, by its parts
by_parts : (values : List Value) (zone : Zone) → fold with_value zone values ≡ made (fold lesser zone.least values) (fold greater zone.greatest values) (fold counted zone.nulls values) (zone.rows + length values)
by_parts [] zone = ap (made zone.least zone.greatest zone.nulls) (omega arith)
by_parts (v ∷ values) zone =
    by_parts values (with_value zone v)
    ∙ ap (λ n. made (fold lesser (lesser zone.least v) values) (fold greater (greater zone.greatest v) values) (fold counted n values) (zone.rows + 1 + length values)) (one_more (is_null v) zone.nulls)
    ∙ ap (made (fold lesser (lesser zone.least v) values) (fold greater (greater zone.greatest v) values) (fold counted (counted zone.nulls v) values)) (omega arith)

abbrev pub no_zone : Zone
no_zone = made Null Null 0 0

pub seen_all : (values : List Value) → fold with_value no_zone values ≡ zone_of values
seen_all values = by_parts values no_zone ∙ ap (made (fold lesser Null values) (fold greater Null values) (fold counted 0 values)) (omega arith)

-- what was seen so far, with what is left
pub record IsSeenTo (values : List Value) (i : ℕ) (seen : Zone) : Type 0 where
  pub value : fold with_value seen (drop i values) ≡ zone_of values
  pub nulls : seen.nulls ≤ seen.rows
  pub rows : seen.rows ≡ i

pub seen_start : (values : List Value) → IsSeenTo values 0 no_zone
seen_start values = record { value = seen_all values; nulls = omega arith; rows = refl }

pub seen_more : (values : List Value) (i : ℕ) (seen more : Zone) (v : Value) → IsSeenTo values i seen → i < length values → v ≡ get_or values i v → more ≡ with_value seen v → more.nulls ≤ more.rows → IsSeenTo values (i + 1) more
seen_more values i seen more v so_far below at is nulls = record {
  value = ap (λ z. fold with_value z (drop (i + 1) values)) is ∙ sym (ap (fold with_value seen) (drop_more values i v below ∙ ap (λ y. y ∷ drop (i + 1) values) (sym at))) ∙ so_far.value;
  nulls = nulls;
  rows = ap (λ z. z.rows) is ∙ ap (λ n. n + 1) so_far.rows;
}

pub seen_end : (values : List Value) (i : ℕ) (seen : Zone) → IsSeenTo values i seen → length values ≤ i → seen ≡ zone_of values
seen_end values i seen so_far past = sym (ap (fold with_value seen) (drop_all i values past)) ∙ so_far.value

pub column_length : (k : ℕ) (rows : List Row) → length (column_at k rows) ≡ length rows
column_length k [] = refl
column_length k (row ∷ rows) = ap suc (column_length k rows)

pub column_item : (k : ℕ) (rows : List Row) (i : ℕ) (row : Row) (v : Value) → i < length rows → row ≡ get_or rows i row → v ≡ value_or_null (slice_get row.values k) → v ≡ get_or (column_at k rows) i v
column_item k rows i row v below at is = is ∙ ap (λ (r : Row). value_or_null (slice_get r.values k)) at ∙ sym (get_or-map (λ (r : Row). value_or_null (slice_get r.values k)) rows i row v below)
