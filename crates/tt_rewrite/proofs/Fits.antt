-- Rows that stay fit their table.
use Rattle.std.proofs.Common.{◌≡◌, Bool, true, false, List, [], ◌∷◌, ◌++◌, sym, subst}
use Rattle.std.specs.List.{AllByRecursion}
use Rattle.tt_value.specs.declared.value.Kind.{Kind}
use Rattle.tt_value.specs.declared.value.Kind.TheVariants as kinds
use Rattle.tt_value.specs.declared.value.Row.{Row}
use Rattle.tt_value.specs.declared.value.Schema.{Schema}
use Rattle.tt_value.specs.declared.value.Value.{Value}
use Rattle.tt_value.specs.declared.value.Value.TheVariants.{Null, Int, Date, Text}
use Rattle.tt_partition.specs.Cuts.{kinds_of}
use Rattle.tt_partition.specs.Fits.{FitKinds, FitSchema, FitsKind}
use Rattle.tt_partition.specs.Table.{HasKinds, IsOf, IsPart, Table}
use Rattle.tt_rewrite.specs.Left.{unset}

value_fits : (kind : Kind) (v : Value) → IsOf kind v → FitsKind kind v
value_fits kind Null is = tt
value_fits kinds.Date (Int n) is = elim is [ ]
value_fits kinds.Varchar (Int n) is = elim is [ ]
value_fits kinds.Int (Date day) is = elim is [ ]
value_fits kinds.Varchar (Date day) is = elim is [ ]
value_fits kinds.Int (Text text) is = elim is [ ]
value_fits kinds.Date (Text text) is = elim is [ ]
value_fits kinds.Int (Int n) is = tt
value_fits kinds.Date (Date day) is = is
value_fits kinds.Varchar (Text text) is = tt

values_fit : (ks : List Kind) (vs : List Value) → HasKinds ks vs → FitKinds ks vs
values_fit [] [] has = tt
values_fit [] (v ∷ vs) has = elim has [ ]
values_fit (kind ∷ ks) [] has = elim has [ ]
values_fit (kind ∷ ks) (v ∷ vs) has = (value_fits kind v has.0, values_fit ks vs has.1)

rows_fit : (ks : List Kind) (rows : List Row) → AllByRecursion (λ (row : Row). HasKinds ks row.values) rows → AllByRecursion (λ (row : Row). FitKinds ks row.values) rows
rows_fit ks [] all = tt
rows_fit ks (row ∷ rows) all = (values_fit ks row.values all.0, rows_fit ks rows all.1)

pub all-append : {A : Type 0} (P : A → Type 0) (xs ys : List A) → AllByRecursion P xs → AllByRecursion P ys → AllByRecursion P (xs ++ ys)
all-append P [] ys all more = more
all-append P (x ∷ xs) ys all more = (all.0, all-append P xs ys all.1 more)

all_unset : (P : Row → Type 0) (bits : List Bool) (rows : List Row) → AllByRecursion P rows → AllByRecursion P (unset bits rows)
all_unset P [] rows all = all
all_unset P (b ∷ bits) [] all = tt
all_unset P (true ∷ bits) (row ∷ rows) all = all_unset P bits rows all.1
all_unset P (false ∷ bits) (row ∷ rows) all = (all.0, all_unset P bits rows all.1)

pub part_fits : (schema : Schema) (part : Table) → part.kinds ≡ kinds_of schema → IsPart part → FitSchema schema part.rows
part_fits schema part kinds is = subst (λ (ks : List Kind). AllByRecursion (λ (row : Row). FitKinds ks row.values) part.rows) kinds (rows_fit part.kinds part.rows is.of_kinds)

-- the rows of a part that stay, behind others
pub more_fit : (schema : Schema) (part : Table) (bits : List Bool) (old new : List Row) → part.kinds ≡ kinds_of schema → IsPart part → FitSchema schema old → new ≡ old ++ unset bits part.rows → FitSchema schema new
more_fit schema part bits old new kinds is fit rows =
    let own = part_fits schema part kinds is in
    subst (FitSchema schema) (sym rows) (all-append (λ (row : Row). FitKinds (kinds_of schema) row.values) old (unset bits part.rows) fit (all_unset (λ (row : Row). FitKinds (kinds_of schema) row.values) bits part.rows own))
