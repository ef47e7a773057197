-- The order of values: integers, dates, texts by their bytes, and NULL above all. Rows go value by value.
use Rattle.std.specs.Prelude.{◌≡◌, ℕ, ℤ, pos, Bool, List, []}
use Rattle.std.specs.declared.cmp.Ordering.{Ordering}
use Rattle.std.specs.declared.cmp.Ordering.TheVariants.{Equal}
use Rattle.std.specs.Ordering.{nat_cmp, int_cmp, on, then_cmp, is_eq, is_gt}
use Rattle.std.specs.Cmp.Lexicographic.{slice_cmp}
use Rattle.tt_value.specs.declared.value.Value.{Value}
use Rattle.tt_value.specs.declared.value.Value.TheVariants.{Null, Int, Date, Text}
use Rattle.tt_value.specs.declared.value.Row.{Row}

abbrev pub kind_rank : Value → ℕ
kind_rank (Int n) = 0
kind_rank (Date day) = 1
kind_rank (Text bytes) = 2
kind_rank Null = 3

abbrev pub number_of : Value → ℤ
number_of (Int n) = n
number_of (Date day) = day
number_of (Text bytes) = pos 0
number_of Null = pos 0

abbrev pub bytes_of : Value → List ℕ
bytes_of (Int n) = []
bytes_of (Date day) = []
bytes_of (Text bytes) = bytes
bytes_of Null = []

-- by kind, then by number, then by the bytes
unfoldable pub value_cmp : Value → Value → Ordering
value_cmp = then_cmp (on kind_rank nat_cmp) (then_cmp (on number_of int_cmp) (on bytes_of (slice_cmp nat_cmp)))

-- value by value, and a row before what extends it
unfoldable pub row_cmp : Row → Row → Ordering
row_cmp = on (λ row. row.values) (slice_cmp value_cmp)

-- whether two rows are one row
abbrev pub is_same_row : Row → Row → Bool
is_same_row a b = is_eq (row_cmp a b)

-- whether the first row stands after the second
abbrev pub is_above : Row → Row → Bool
is_above a b = is_gt (row_cmp a b)

-- what ties under an order is the same
abbrev pub TiesAreSame : {K : Type 0} → (K → K → Ordering) → Type 0
TiesAreSame {K} R = (x y : K) → R x y ≡ Equal → x ≡ y
