-- The row at a place, and what becomes of it.
use Rattle.std.proofs.Common.{◌≡◌, ◌∙◌, ℕ, zero, suc, ◌<◌, Bool, true, false, List, [], ◌∷◌, ◌++◌, length, map, get_or, Option, None, refl, ap, sym, subst, arith}
use Rattle.std.specs.Prelude.{slice_get}
use Rattle.std.specs.List.{AllByRecursion}
use Rattle.std.proofs.lemmas.List.{length-map}
use Rattle.tt_value.specs.declared.value.Kind.{Kind}
use Rattle.tt_value.specs.declared.value.Column.{Column}
use Rattle.tt_value.specs.declared.value.Row.{Row}
use Rattle.tt_value.specs.declared.value.Schema.{Schema}
use Rattle.tt_value.specs.declared.value.Value.{Value}
use Rattle.tt_partition.specs.Cuts.{kinds_of}
use Rattle.tt_partition.specs.Table.{HasKinds, IsPart, Table}
use Rattle.tt_rewrite.specs.Left.{rows_of}
use Rattle.tt_rewrite.specs.Renewed.{GoesOn, IsAsWide, RenewsRows, is_set, new_rows}
use Rattle.tt_rewrite.proofs.Renews.{out_before, out_behind, renews_more}

set_at_place : (taken : Row → Bool) (found : List Row) (at : ℕ) (row : Row) → at < length found → row ≡ get_or found at row → is_set (slice_get (map taken found) at) ≡ taken row
set_at_place taken [] at row below is = absurd (omega (arith, below))
set_at_place taken (r ∷ found) zero row below is = ap taken (sym is)
set_at_place taken (r ∷ found) (suc at) row below is = set_at_place taken found at row (omega (arith, below)) is

pub bit_is : (taken : Row → Bool) (bits : List Bool) (found : List Row) (n at : ℕ) (row : Row) (bit : Option Bool) → n < length found → row ≡ get_or found n row → bits ≡ map taken found → n ≡ at → bit ≡ slice_get bits at → is_set bit ≡ taken row
bit_is taken bits found n at row bit below is same there got =
    ap is_set got ∙ ap (λ bs. is_set (slice_get bs at)) same ∙ ap (λ k. is_set (slice_get (map taken found) k)) (sym there) ∙ set_at_place taken found n row below is

module _ (taken : Row → Bool) (becomes : Row → Option Row) where
  out_there : (found : List Row) (n : ℕ) (row : Row) → n < length found → row ≡ get_or found n row → new_rows taken becomes (row ∷ []) ≡ None → new_rows taken becomes found ≡ None
  out_there [] n row below is out = absurd (omega (arith, below))
  out_there (r ∷ found) zero row below is out = out_before taken becomes (r ∷ []) found (subst (λ (q : Row). new_rows taken becomes (q ∷ []) ≡ None) is out)
  out_there (r ∷ found) (suc n) row below is out = out_behind taken becomes (r ∷ []) found (out_there found n row (omega (arith, below)) is out)

  pub parts_out : (parts : List (ℕ × Table)) (n : ℕ) (part : ℕ × Table) → n < length parts → part ≡ get_or parts n part → new_rows taken becomes part.1.rows ≡ None → new_rows taken becomes (rows_of parts) ≡ None
  parts_out [] n part below is out = absurd (omega (arith, below))
  parts_out (p ∷ parts) zero part below is out = out_before taken becomes p.1.rows (rows_of parts) (subst (λ (q : ℕ × Table). new_rows taken becomes q.1.rows ≡ None) is out)
  parts_out (p ∷ parts) (suc n) part below is out = out_behind taken becomes p.1.rows (rows_of parts) (parts_out parts n part (omega (arith, below)) is out)

  module _ (schema : Schema) (bit within : Bool) where
    pub out_at : (found : List Row) (n : ℕ) (row : Row) (old new : List Row) (before after : Option ℕ) → n < length found → row ≡ get_or found n row → bit ≡ taken row → within ≡ false → GoesOn (λ (r : Row). bit) becomes schema (row ∷ []) old new before after within → new_rows taken becomes found ≡ None
    out_at found n row old new before after below is same not_within goes =
        let out : new_rows (λ (r : Row). bit) becomes (row ∷ []) ≡ None = subst (GoesOn (λ (r : Row). bit) becomes schema (row ∷ []) old new before after) not_within goes in
        out_there found n row below is (subst (λ b. new_rows (λ (r : Row). b) becomes (row ∷ []) ≡ None) same out)

    as_taken : (row : Row) (old new : List Row) (before after : Option ℕ) → RenewsRows (λ (r : Row). taken row) becomes schema (row ∷ []) old new before after → RenewsRows taken becomes schema (row ∷ []) old new before after
    as_taken row old new before after renews = record { given = renews.given; all = renews.all; rows = renews.rows; missing = renews.missing }

    pub renews_next : (yielded : List Row) (row : Row) (first old new : List Row) (a b c : Option ℕ) → bit ≡ taken row → within ≡ true → RenewsRows taken becomes schema yielded first old a b → GoesOn (λ (r : Row). bit) becomes schema (row ∷ []) old new b c within → RenewsRows taken becomes schema (yielded ++ row ∷ []) first new a c
    renews_next yielded row first old new a b c same is_within so_far goes =
        let one : RenewsRows (λ (r : Row). bit) becomes schema (row ∷ []) old new b c = subst (GoesOn (λ (r : Row). bit) becomes schema (row ∷ []) old new b c) is_within goes in
        renews_more taken becomes schema yielded (row ∷ []) first old new a b c so_far
        (as_taken row old new b c (subst (λ t. RenewsRows (λ (r : Row). t) becomes schema (row ∷ []) old new b c) same one))

-- ---- a value for each column

as_many : (kinds : List Kind) (values : List Value) → HasKinds kinds values → length values ≡ length kinds
as_many [] [] has = refl
as_many [] (v ∷ values) has = absurd has
as_many (kind ∷ kinds) [] has = absurd has
as_many (kind ∷ kinds) (v ∷ values) has = let rest = as_many kinds values has.1 in omega (arith, rest)

rows_wide : (schema : Schema) (rows : List Row) → AllByRecursion (λ (row : Row). HasKinds (kinds_of schema) row.values) rows → AllByRecursion (IsAsWide schema) rows
rows_wide schema [] all = tt
rows_wide schema (row ∷ rows) all =
    (as_many (kinds_of schema) row.values all.0 ∙ length-map schema.columns (λ (column : Column). column.kind), rows_wide schema rows all.1)

pub part_wide : (schema : Schema) (part : Table) → part.kinds ≡ kinds_of schema → IsPart part → AllByRecursion (IsAsWide schema) part.rows
part_wide schema part kinds is = rows_wide schema part.rows (subst (λ (ks : List Kind). AllByRecursion (λ (row : Row). HasKinds ks row.values) part.rows) kinds is.of_kinds)
