-- Rows with new values in them fit their table.
use Rattle.std.proofs.Common.{◌≡◌, ℕ, Bool, true, false, List, [], ◌∷◌, ◌++◌, Option, Some, None, refl, sym, subst}
use Rattle.std.specs.Prelude.{if◌then◌else◌}
use Rattle.std.specs.Option.{option_to_list}
use Rattle.std.specs.List.{AllByRecursion, flat_map, list_any}
use Rattle.tt_value.specs.declared.value.Row.{Row}
use Rattle.tt_value.specs.declared.value.Schema.{Schema}
use Rattle.tt_partition.specs.Cuts.{kinds_of}
use Rattle.tt_partition.specs.Fits.{FitKinds, FitSchema}
use Rattle.tt_partition.specs.Table.{IsPart, Table}
use Rattle.tt_rewrite.proofs.Fits.{all-append, part_fits}
use Rattle.tt_rewrite.specs.Left.{rows_left, rows_of, touched}
use Rattle.tt_rewrite.specs.Renewed.{in_place}
use Rattle.tt_rewrite.specs.Updates.{KeepsFit}

all_flat : (P : Row → Type 0) (f : Row → List Row) → ((row : Row) → P row → AllByRecursion P (f row)) → (rows : List Row) → AllByRecursion P rows → AllByRecursion P (flat_map f rows)
all_flat P f each [] all = tt
all_flat P f each (row ∷ rows) all = all-append P (f row) (flat_map f rows) (each row all.0) (all_flat P f each rows all.1)

module _ (schema : Schema) (becomes : Row → Option Row) (keeps : KeepsFit schema becomes) (taken : Row → Bool) where
  abbrev Fit : Row → Type 0
  Fit row = FitKinds (kinds_of schema) row.values

  new_fits : (row : Row) → Fit row → (new : Option Row) → becomes row ≡ new → AllByRecursion Fit (option_to_list new)
  new_fits row fit None is = tt
  new_fits row fit (Some new) is = (keeps row new fit is, tt)

  in_place_by : (row : Row) → Fit row → (test : Bool) → AllByRecursion Fit (if test then option_to_list (becomes row) else row ∷ [])
  in_place_by row fit true = new_fits row fit (becomes row) refl
  in_place_by row fit false = (fit, tt)

  touched_by : (number : ℕ) (part : Table) → FitSchema schema part.rows → (test : Bool) → FitSchema schema (rows_of (if test then (number, part) ∷ [] else []))
  touched_by number part fit true = all-append Fit part.rows [] fit tt
  touched_by number part fit false = tt

  pub renewed_fit : (number : ℕ) (part : Table) (old new : List Row) → part.kinds ≡ kinds_of schema → IsPart part → FitSchema schema old → new ≡ old ++ rows_left (in_place taken becomes) (touched taken ((number, part) ∷ [])) → FitSchema schema new
  renewed_fit number part old new kinds is fit rows =
      subst (FitSchema schema) (sym rows)
      (all-append Fit old (rows_left (in_place taken becomes) (touched taken ((number, part) ∷ []))) fit
      (all_flat Fit (in_place taken becomes) (λ row own. in_place_by row own (taken row)) (rows_of (touched taken ((number, part) ∷ [])))
      (touched_by number part (part_fits schema part kinds is) (list_any taken part.rows))))
