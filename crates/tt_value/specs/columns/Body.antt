-- The bodies of a column: its values as they are, as runs, or as a dictionary with indexes. A kind of values is given by
-- the bytes of a value and by an order, under which values tie exactly where they are the same.
use Rattle.std.specs.Prelude.{ℕ, ◌+◌, ◌-◌, Bool, if◌then◌else◌, List, [], ◌∷◌, ◌++◌, length, map, Option, Some, None, is_none}
use Rattle.std.specs.List.{flat_map, filter_map, list_any}
use Rattle.std.specs.Int.{w32, to_le_bytes}
use Rattle.std.specs.declared.cmp.Ordering.{Ordering}
use Rattle.std.specs.Ordering.{is_eq, match_ordering}
use Rattle.tt_value.specs.columns.Packing.{packed, width_of}

-- a number in four bytes
abbrev pub word : ℕ → List ℕ
word n = to_le_bytes w32 n

-- ---- NULLs

-- 1 for a NULL, 0 for a value
abbrev pub null_flag : {V : Type 0} → Option V → ℕ
null_flag None = 1
null_flag (Some v) = 0

abbrev pub null_flags : {V : Type 0} → List (Option V) → List ℕ
null_flags rows = map null_flag rows

abbrev pub has_null : {V : Type 0} → List (Option V) → Bool
has_null rows = list_any (λ row. is_none row) rows

-- the values that are not NULL, in the order of the rows
abbrev pub present : {V : Type 0} → List (Option V) → List V
present rows = filter_map (λ row. row) rows

-- a bit for each row, where there is a NULL
abbrev pub bitmap_of : {V : Type 0} → List (Option V) → List ℕ
bitmap_of rows = if has_null rows then packed 1 (null_flags rows) else []

-- ---- runs and distinct values

module _ {V : Type 0} (cmp : V → V → Ordering) where
  abbrev pub is_same : V → V → Bool
  is_same a b = is_eq (cmp a b)

  -- the runs of v, so many times, and then the others, each run as long as possible
  abbrev pub runs_after : V → ℕ → List V → List (V × ℕ)
  runs_after v count [] = (v, count) ∷ []
  runs_after v count (x ∷ xs) = if is_same v x then runs_after v (count + 1) xs else (v, count) ∷ runs_after x 1 xs

  abbrev pub runs_of : List V → List (V × ℕ)
  runs_of [] = []
  runs_of (v ∷ vs) = runs_after v 1 vs

  -- a value put where it belongs among ascending values, where it is not there yet
  abbrev pub with_value : V → List V → List V
  with_value v [] = v ∷ []
  with_value v (d ∷ ds) = match_ordering (cmp v d) (v ∷ d ∷ ds) (d ∷ ds) (d ∷ with_value v ds)

  -- the distinct values, ascending
  abbrev pub distinct : List V → List V
  distinct [] = []
  distinct (v ∷ vs) = with_value v (distinct vs)

  -- the place of a value in a dictionary
  abbrev pub index_in : List V → V → ℕ
  index_in [] v = 0
  index_in (d ∷ ds) v = if is_same d v then 0 else index_in ds v + 1

-- ---- bodies

module _ {V : Type 0} (spell : V → List ℕ) (cmp : V → V → Ordering) where
  -- the values, one after the other
  abbrev pub plain_body : List V → List ℕ
  plain_body vs = flat_map spell vs

  -- a value and its length
  abbrev pub run_bytes : V × ℕ → List ℕ
  run_bytes run = spell run.0 ++ word run.1

  -- the number of runs, and the runs
  abbrev pub run_body : List V → List ℕ
  run_body vs = word (length (runs_of cmp vs)) ++ flat_map run_bytes (runs_of cmp vs)

  -- the number of distinct values, these, and an index for each value
  abbrev pub dictionary_body : List V → List ℕ
  dictionary_body vs =
      let ds = distinct cmp vs in
      word (length ds) ++ (flat_map spell ds ++ packed (width_of (length ds - 1)) (map (index_in cmp ds) vs))
