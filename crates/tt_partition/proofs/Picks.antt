-- The value at a place of a column.
use Rattle.std.proofs.Common.{◌≡◌, ℕ, ◌+◌, ℤ, List, [], ◌∷◌, ◌++◌, arith, map, Option, Some, None, refl, sym, ap, subst, ◌∙◌}
use Rattle.std.specs.Prelude.{slice_get}
use Rattle.std.specs.Option.{option_map}
use Rattle.std.specs.List.{AllByRecursion, range_with_len}
use Rattle.std.proofs.lemmas.List.FromFn.{map-range_with_len_more}
use Rattle.std.proofs.lemmas.Option.{slice_get-map}
use Rattle.tt_value.specs.declared.value.Kind.TheVariants as kinds
use Rattle.tt_value.specs.declared.value.Value.{Value}
use Rattle.tt_value.specs.declared.value.Value.TheVariants.{Null}
use Rattle.tt_value.specs.trees.Scope.{value_or_null}
use Rattle.tt_partition.specs.Table.{IsOf}
use Rattle.tt_partition.specs.ImageReading.{number_value, text_value}
use Rattle.tt_partition.specs.ColumnView.{joined}
use Rattle.tt_partition.proofs.TableLaws.{of_at}

picked : {A : Type 0} (f : Option A → Value) → f None ≡ Null → (xs : List (Option A)) (k : ℕ) → f (joined (slice_get xs k)) ≡ value_or_null (slice_get (map f xs) k)
picked {A = A} f null xs k = go (slice_get xs k) ∙ ap value_or_null (sym (slice_get-map f xs k))
  where
    go : (o : Option (Option A)) → f (joined o) ≡ value_or_null (option_map f o)
    go None = null
    go (Some o) = refl

pub int_picked : (ns : List (Option ℤ)) (k : ℕ) → number_value kinds.Int (joined (slice_get ns k)) ≡ value_or_null (slice_get (map (number_value kinds.Int) ns) k)
int_picked ns k = picked (number_value kinds.Int) refl ns k

pub date_picked : (ns : List (Option ℤ)) (k : ℕ) → number_value kinds.Date (joined (slice_get ns k)) ≡ value_or_null (slice_get (map (number_value kinds.Date) ns) k)
date_picked ns k = picked (number_value kinds.Date) refl ns k

pub text_picked : (ts : List (Option (List ℕ))) (k : ℕ) → text_value (joined (slice_get ts k)) ≡ value_or_null (slice_get (map text_value ts) k)
text_picked ts k = picked text_value refl ts k

-- a date of a column of dates is one
pub date_is : (ns : List (Option ℤ)) (k : ℕ) → AllByRecursion (IsOf kinds.Date) (map (number_value kinds.Date) ns) → IsOf kinds.Date (number_value kinds.Date (joined (slice_get ns k)))
date_is ns k all = subst (IsOf kinds.Date) (sym (date_picked ns k)) (of_at kinds.Date (map (number_value kinds.Date) ns) k all)

-- a list by its places, with one more
pub tabulated_more : {X : Type 0} (f : ℕ → X) (n : ℕ) → map f (range_with_len 0 (n + 1)) ≡ map f (range_with_len 0 n) ++ f n ∷ []
tabulated_more f n = map-range_with_len_more f 0 n n (omega arith)
