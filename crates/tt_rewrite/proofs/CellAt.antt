-- The cell of a row at a place.
use Rattle.std.proofs.Common.{◌≡◌, ◌∙◌, ℕ, zero, suc, ◌+◌, ◌<◌, ◌≤◌, List, [], ◌∷◌, length, map, drop, get_or, Option, refl, ap, sym, arith}
use Rattle.std.specs.List.{zip}
use Rattle.tt_value.specs.declared.value.Column.{Column}
use Rattle.tt_value.specs.declared.value.Row.{Row}
use Rattle.tt_value.specs.declared.value.Value.{Value}
use Rattle.tt_value.specs.trees.Scope.{Scope}
use Rattle.tt_sql.specs.declared.change.Set.{Set}
use Rattle.tt_sql.specs.meaning.Changes.{set_value}
use Rattle.tt_rewrite.specs.Sets.{set_place, value_at}
use Rattle.tt_rewrite.proofs.SetPlaces.{set_at}

pub cell_next : (columns : List Column) (values : List Value) (at : ℕ) (column : Column) (v : Value) → at < length columns → length values ≡ length columns → column ≡ get_or columns at column → v ≡ get_or values at v → drop at (zip columns values) ≡ (column, v) ∷ drop (at + 1) (zip columns values)
cell_next [] values at column v below same is v_is = absurd (omega (arith, below))
cell_next (c ∷ columns) [] at column v below same is v_is = absurd (omega (arith, same))
cell_next (c ∷ columns) (w ∷ values) zero column v below same is v_is = rw (is, v_is) refl
cell_next (c ∷ columns) (w ∷ values) (suc at) column v below same is v_is =
    let next : suc at + 1 ≡ suc (at + 1) = omega arith in
    rw next (cell_next columns values at column v (omega (arith, below)) (omega (arith, same)) is v_is)

pub zip_short : (columns : List Column) (values : List Value) → length (zip columns values) ≤ length columns
zip_short [] values = omega arith
zip_short (c ∷ columns) [] = omega arith
zip_short (c ∷ columns) (w ∷ values) = let rest = zip_short columns values in omega (arith, rest)

place_there : (f : Column → Option ℕ) (columns : List Column) (at : ℕ) (column : Column) (d : Option ℕ) → at < length columns → column ≡ get_or columns at column → get_or (map f columns) at d ≡ f column
place_there f [] at column d below is = absurd (omega (arith, below))
place_there f (c ∷ columns) zero column d below is = ap f (sym is)
place_there f (c ∷ columns) (suc at) column d below is = place_there f columns at column d (omega (arith, below)) is

-- the value by the place that is found for its column
pub value_is : (scope : Scope) (sets : List Set) (row : Row) (columns : List Column) (places : List (Option ℕ)) (at : ℕ) (column : Column) (v : Value) (d : Option ℕ) → at < length columns → column ≡ get_or columns at column → places ≡ map (set_place sets) columns → value_at scope sets row (column, v) (get_or places at d) ≡ set_value scope sets row (column, v)
value_is scope sets row columns places at column v d below is are =
    ap (value_at scope sets row (column, v)) (ap (λ ps. get_or ps at d) are ∙ place_there (set_place sets) columns at column d below is) ∙ set_at scope row (column, v) sets
