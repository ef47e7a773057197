-- Values and rows that tie are the same.
use Rattle.std.proofs.Common.{◌≡◌, [], ◌∷◌, true, Decides, refl, ap, sym, ◌∙◌, rules, Ordering}
use Rattle.std.specs.declared.cmp.Ordering.TheVariants.{Less, Equal, Greater}
use Rattle.std.specs.Cmp.{tied_itself}
use Rattle.std.specs.Cmp.Lexicographic.{slice_cmp}
use Rattle.std.specs.Ordering.{ordering_then, is_eq}
use Rattle.std.proofs.lemmas.Map.Lookups.{exact_signed, exact_bytes}
use Rattle.tt_value.specs.values.Order.{value_cmp, row_cmp, TiesAreSame}
use Rattle.tt_value.specs.declared.value.Value.TheVariants.{Null, Int, Date, Text}
use Rattle.tt_value.specs.declared.value.Row.{Row}
use Rattle.tt_value.specs.values.TotalOrder.{row_total}

-- Values that tie are one value.
pub value_same : TiesAreSame value_cmp
unfolding value_cmp
value_same (Int m) (Int n) tie = ap Int (exact_signed m n (search (rules, tie)))
value_same (Date m) (Date n) tie = ap Date (exact_signed m n (search (rules, tie)))
value_same (Text s) (Text t) tie = ap Text (exact_bytes s t tie)
value_same Null Null tie = refl
value_same (Int m) (Date n) tie = cc
value_same (Int m) (Text n) tie = cc
value_same (Int m) Null tie = cc
value_same (Date m) (Int n) tie = cc
value_same (Date m) (Text n) tie = cc
value_same (Date m) Null tie = cc
value_same (Text m) (Int n) tie = cc
value_same (Text m) (Date n) tie = cc
value_same (Text m) Null tie = cc
value_same Null (Int n) tie = cc
value_same Null (Date n) tie = cc
value_same Null (Text n) tie = cc

then_equal : (first later : Ordering) → ordering_then first later ≡ Equal → (first ≡ Equal) × (later ≡ Equal)
then_equal Less later e = absurd (cc)
then_equal Equal later e = (refl, e)
then_equal Greater later e = absurd (cc)

lists_same : TiesAreSame (slice_cmp value_cmp)
lists_same [] [] tie = refl
lists_same [] (y ∷ ys) tie = cc
lists_same (x ∷ xs) [] tie = cc
lists_same (x ∷ xs) (y ∷ ys) tie =
    let both = then_equal (value_cmp x y) (slice_cmp value_cmp xs ys) tie in
    let first : x ≡ y = value_same x y both.0 in
    let others : xs ≡ ys = lists_same xs ys both.1 in
    cc

-- Rows that tie are one row.
pub row_same : TiesAreSame row_cmp
unfolding row_cmp
row_same a b tie = ap (λ values. record { values = values }) (lists_same a.values b.values tie)

-- What `==` says of two values and of two rows.
equal_from_true : (o : Ordering) → is_eq o ≡ true → o ≡ Equal
equal_from_true Less e = cc
equal_from_true Equal e = refl
equal_from_true Greater e = cc

pub row_eq-Decides : (a b : Row) → Decides (is_eq (row_cmp a b)) (a ≡ b)
row_eq-Decides a b =
    (λ e. row_same a b (equal_from_true (row_cmp a b) e), λ e. ap (λ r. is_eq (row_cmp a r)) (sym e) ∙ ap is_eq (tied_itself row_total a))
