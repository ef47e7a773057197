-- The value of a column is that of the first SET which names it.
use Rattle.std.proofs.Common.{◌≡◌, ◌∙◌, ℕ, zero, suc, Bool, true, false, List, [], ◌∷◌, Option, Some, None, refl, ap, subst}
use Rattle.std.specs.Prelude.{slice_get, if◌then◌else◌}
use Rattle.std.specs.Option.{option_map}
use Rattle.std.specs.List.{position}
use Rattle.std.specs.Str.{bytes_eq}
use Rattle.tt_value.specs.declared.value.Column.{Column}
use Rattle.tt_value.specs.declared.value.Row.{Row}
use Rattle.tt_value.specs.declared.value.Value.{Value}
use Rattle.tt_value.specs.trees.Scope.{Scope}
use Rattle.tt_sql.specs.declared.change.Set.{Set}
use Rattle.tt_sql.specs.meaning.Changes.{set_value}
use Rattle.std.proofs.lemmas.Option.{same_Some}
use Rattle.tt_plain.proofs.Lists.{position_here, position_later, position_misses, position_none}
use Rattle.tt_typer.proofs.ListLaws.{all_at_place, none_any}
use Rattle.tt_rewrite.specs.Sets.{set_place, value_at, value_by}

-- behind an item that does not pass
none_later : {A : Type 0} (test : A → Bool) (x : A) (xs : List A) → test x ≡ false → position test xs ≡ None → position test (x ∷ xs) ≡ None
none_later test x xs misses none = position_none test (x ∷ xs) each
  where
    each : (k : ℕ) (y : _) → slice_get (x ∷ xs) k ≡ Some y → test y ≡ false
    each zero y at = subst (λ z. test z ≡ false) (same_Some x y at) misses
    each (suc k) y at = all_at_place (λ z. test z ≡ false) xs (none_any test xs (position_misses test xs none)) k y at

position_step : {A : Type 0} (test : A → Bool) (x : A) (xs : List A) (found : Option ℕ) → test x ≡ false → position test xs ≡ found → position test (x ∷ xs) ≡ option_map (λ k. suc k) found
position_step test x xs None misses is = none_later test x xs misses is
position_step test x xs (Some k) misses is = position_later test x xs k misses is

module _ (scope : Scope) (row : Row) (cell : Column × Value) where
  further : (set : Set) (sets : List Set) (place : Option ℕ) → value_at scope (set ∷ sets) row cell (option_map (λ k. suc k) place) ≡ value_at scope sets row cell place
  further set sets None = refl
  further set sets (Some place) = refl

  first_or_later : (set : Set) (sets : List Set) (named : Bool) → bytes_eq set.column.text cell.0.name ≡ named → value_at scope sets row cell (set_place sets cell.0) ≡ set_value scope sets row cell → value_at scope (set ∷ sets) row cell (set_place (set ∷ sets) cell.0) ≡ (if named then value_by scope row cell.0 set else set_value scope sets row cell)
  first_or_later set sets true is later = ap (value_at scope (set ∷ sets) row cell) (position_here (λ (s : Set). bytes_eq s.column.text cell.0.name) set sets is)
  first_or_later set sets false is later =
      ap (value_at scope (set ∷ sets) row cell) (position_step (λ (s : Set). bytes_eq s.column.text cell.0.name) set sets (set_place sets cell.0) is refl)
      ∙ further set sets (set_place sets cell.0)
      ∙ later

  pub set_at : (sets : List Set) → value_at scope sets row cell (set_place sets cell.0) ≡ set_value scope sets row cell
  set_at [] = refl
  set_at (set ∷ sets) = first_or_later set sets (bytes_eq set.column.text cell.0.name) refl (set_at sets)
