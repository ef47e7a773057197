-- One column more is decoded.
use Rattle.std.proofs.Common.{◌≡◌, ℕ, zero, suc, ◌+◌, ◌<◌, true, List, [], ◌∷◌, ◌++◌, length, replicate, set, Option, Some, None, refl, ap, sym, subst, ◌∙◌, ◌⊎◌, inl, inr, arith}
use Rattle.std.specs.Prelude.{slice_get}
use Rattle.std.proofs.lemmas.List.{length-set, length-replicate}
use Rattle.tt_partition.specs.declared.column.ColumnValues.{ColumnValues}
use Rattle.tt_partition.specs.ColumnView.{IsColumnAt}
use Rattle.tt_partition.specs.Table.{Table}
use Rattle.tt_filter.specs.Decoded.{column_is, is_decoded, AreDecodedOf, Keeps}

abbrev Columns : Type 0
Columns = List (Option ColumnValues)

-- ---- none of them

pub one_more : {A : Type 0} (x : A) (n : ℕ) → replicate n x ++ x ∷ [] ≡ replicate (n + 1) x
one_more x zero = refl
one_more x (suc n) = let next : suc n + 1 ≡ suc (n + 1) = omega arith in ap (λ xs. x ∷ xs) (one_more x n) ∙ ap (λ k. replicate k x) (sym next)

none_there : (n place : ℕ) (column : ColumnValues) {P : Type 0} → column_is (replicate n None) place column → P
none_there zero place column is = absurd cc
none_there (suc n) zero column is = absurd cc
none_there (suc n) (suc place) column is = none_there n place column is

pub none_of : (table : Table) (columns : Columns) → columns ≡ replicate (length table.kinds) None → AreDecodedOf table columns
none_of table columns is = record {
  long = ap length is ∙ length-replicate (length table.kinds) None;
  each = λ place column there. none_there (length table.kinds) place column (sym (ap (λ cs. slice_get cs place) is) ∙ there);
}

-- ---- one more

after_set : (columns : Columns) (at place : ℕ) (new column : ColumnValues) → column_is (set columns at (Some new)) place column → column_is columns place column ⊎ ((place ≡ at) × (new ≡ column))
after_set [] at place new column is = inl is
after_set (c ∷ columns) zero zero new column is = inr (refl, cc)
after_set (c ∷ columns) zero (suc place) new column is = inl is
after_set (c ∷ columns) (suc at) zero new column is = inl is
after_set (c ∷ columns) (suc at) (suc place) new column is = further (after_set columns at place new column is)
  where
    further : column_is columns place column ⊎ ((place ≡ at) × (new ≡ column)) → column_is columns place column ⊎ ((suc place ≡ suc at) × (new ≡ column))
    further (inl there) = inl there
    further (inr same) = inr (ap suc same.0, same.1)

pub set_of : (table : Table) (columns : Columns) (at : ℕ) (new : ColumnValues) → AreDecodedOf table columns → IsColumnAt table at new → AreDecodedOf table (set columns at (Some new))
set_of table columns at new are is = record {
  long = length-set columns at (Some new) ∙ are.long;
  each = λ place column there. either place column (after_set columns at place new column there);
}
  where
    either : (place : ℕ) (column : ColumnValues) → column_is columns place column ⊎ ((place ≡ at) × (new ≡ column)) → IsColumnAt table place column
    either place column (inl there) = are.each place column there
    either place column (inr same) = subst (λ k. IsColumnAt table k column) (sym same.0) (subst (IsColumnAt table at) same.1 is)

pub set_keeps : (columns : Columns) (at : ℕ) (new : ColumnValues) → Keeps columns (set columns at (Some new))
set_keeps [] at new place is = is
set_keeps (c ∷ columns) zero new zero is = refl
set_keeps (c ∷ columns) zero new (suc place) is = is
set_keeps (c ∷ columns) (suc at) new zero is = is
set_keeps (c ∷ columns) (suc at) new (suc place) is = set_keeps columns at new place is

pub set_there : (columns : Columns) (at : ℕ) (new : ColumnValues) → at < length columns → is_decoded (set columns at (Some new)) at ≡ true
set_there [] at new below = absurd (omega (arith, below))
set_there (c ∷ columns) zero new below = refl
set_there (c ∷ columns) (suc at) new below = set_there columns at new (omega (arith, below))
