-- Two tests that agree on each row leave the same.
use Rattle.std.proofs.Common.{◌≡◌, ℕ, Bool, List, [], ◌∷◌, ◌++◌, length, refl, ap, sym, ◌∙◌}
use Rattle.std.specs.Prelude.{if◌then◌else◌, ◌||◌}
use Rattle.std.specs.List.{count_by, filter, flat_map, list_any}
use Rattle.std.proofs.lemmas.List.Sums.{length-filter}
use Rattle.tt_value.specs.declared.value.Row.{Row}
use Rattle.tt_partition.specs.Table.{Table}
use Rattle.tt_rewrite.specs.declared.leaving.Left.{Left}
use Rattle.tt_rewrite.specs.Left.{AreLeft, AreOthers, numbers_of, rows_left, rows_of, touched, unless_taken}

pub same_filter : {A : Type 0} (p q : A → Bool) → ((x : A) → p x ≡ q x) → (xs : List A) → filter p xs ≡ filter q xs
same_filter p q same [] = refl
same_filter p q same (x ∷ xs) = rw (same x) (ap (λ ys. if q x then x ∷ ys else ys) (same_filter p q same xs))

same_rows : (f g : Row → List Row) → ((row : Row) → f row ≡ g row) → (rows : List Row) → flat_map f rows ≡ flat_map g rows
same_rows f g same [] = refl
same_rows f g same (row ∷ rows) = rw (same row) (ap (λ rs. g row ++ rs) (same_rows f g same rows))

module _ (p q : Row → Bool) (same : (row : Row) → p row ≡ q row) where
  same_any : (rows : List Row) → list_any p rows ≡ list_any q rows
  same_any [] = refl
  same_any (row ∷ rows) = rw (same row) (ap (λ b. q row || b) (same_any rows))

  same_count : (rows : List Row) → count_by p rows ≡ count_by q rows
  same_count rows = sym (length-filter p rows) ∙ ap (λ (rs : List Row). length rs) (same_filter p q same rows) ∙ length-filter q rows

  same_touched : (parts : List (ℕ × Table)) → touched p parts ≡ touched q parts
  same_touched parts = same_filter (λ (part : ℕ × Table). list_any p part.1.rows) (λ (part : ℕ × Table). list_any q part.1.rows) (λ part. same_any part.1.rows) parts

  pub same_left : (f g : Row → List Row) → ((row : Row) → f row ≡ g row) → (parts : List (ℕ × Table)) (left : Left) → AreLeft p f parts left → AreLeft q g parts left
  same_left f g stay parts left are = record {
    gone = are.gone ∙ ap numbers_of (same_touched parts);
    rows = are.rows ∙ same_rows f g stay (rows_of (touched p parts)) ∙ ap (rows_left g) (same_touched parts);
    count = are.count ∙ same_count (rows_of parts);
  }

  same_unless : (row : Row) → unless_taken p row ≡ unless_taken q row
  same_unless row = ap (λ (b : Bool). if b then [] else row ∷ []) (same row)

  pub same_others : (parts : List (ℕ × Table)) (left : Left) → AreOthers p parts left → AreOthers q parts left
  same_others parts left are = same_left (unless_taken p) (unless_taken q) same_unless parts left are
