-- Reading a column part by part, with the place of the first fault. `end` is the place where the bytes end, so a part
-- begins at `end - length bytes`. Where bytes are missing the fault is at the end, and where a part breaks a rule at its first byte.
use Rattle.std.specs.Prelude.{ℕ, zero, suc, count_by, ◌-◌, ◌*◌, ◌^◌, Bool, true, false, not, ◌&&◌, ◌||◌, nat_lt, nat_le, ◌==◌, if◌then◌else◌, List, [], ◌∷◌, ◌++◌, length, take, drop, replicate, Option, Some, None, Result, Ok, Err, slice_get, option_and_then}
use Rattle.std.specs.Option.{option_map}
use Rattle.std.specs.List.{list_any}
use Rattle.std.specs.Int.{Width, w32, byte_len, from_le_bytes}
use Rattle.std.specs.declared.cmp.Ordering.{Ordering}
use Rattle.std.specs.Ordering.{is_eq, is_lt}
use Rattle.tt_value.specs.declared.column.BadColumn.{BadColumn}
use Rattle.tt_value.specs.declared.column.FaultAt.TheVariants.{Byte, Encoding, Longer}
use Rattle.tt_value.specs.columns.Packing.{joined, digits, bytes_for, width_of}

infixl 10 ◌>>=◌
abbrev pub ◌>>=◌ : {A B F : Type 0} → Result A F → (A → Result B F) → Result B F
(Ok x) >>= f = f x
(Err fault) >>= f = Err fault

-- a value, where a rule holds
abbrev pub checked : {A F : Type 0} → Bool → F → A → Result A F
checked holds fault x = if holds then Ok x else Err fault

-- the faults of a column: at a byte of bitmap and body, and at the byte of the encoding, before the body or behind it
abbrev pub at_byte : ℕ → BadColumn
at_byte place = record { place = place; at = Byte }

abbrev pub at_encoding : BadColumn
at_encoding = record { place = 0; at = Encoding }

abbrev pub is_longer : BadColumn
is_longer = record { place = 0; at = Longer }

-- the fault of a part, as that of its column
abbrev pub in_column : {A : Type 0} → Result A ℕ → Result A BadColumn
in_column (Ok x) = Ok x
in_column (Err place) = Err (at_byte place)

abbrev pub number_at : Width → ℕ → List ℕ → Result (ℕ × List ℕ) ℕ
number_at w end bytes = if nat_lt (length bytes) (byte_len w) then Err end else Ok (from_le_bytes w (take (byte_len w) bytes), drop (byte_len w) bytes)

-- packed numbers as a whole: behind them no bit is set
unfoldable pub packed_at : ℕ → ℕ → ℕ → List ℕ → Result (List ℕ × List ℕ) ℕ
packed_at end width count bytes =
    let size = bytes_for (count * width) in
    let number = joined 8 (take size bytes) in
    if nat_lt (length bytes) size then Err end else checked (nat_lt number (2 ^ (count * width))) (end - length bytes) (digits width count number, drop size bytes)

-- nothing stands behind the last part
abbrev pub ended : {A : Type 0} → ℕ → A × List ℕ → Result A ℕ
ended end read = if length read.1 == 0 then Ok read.0 else Err (end - length read.1)

-- a number of runs or of distinct values, of so many values: none for none, and else from one up to one for each
abbrev pub is_count : ℕ → ℕ → Bool
is_count most n = nat_le n most && (nat_lt 0 n || most == 0)

unfoldable pub count_at : ℕ → ℕ → List ℕ → Result (ℕ × List ℕ) ℕ
count_at end most bytes = do
  n ← number_at w32 end bytes
  checked (is_count most n.0) (end - length bytes) n

-- flags of NULLs, one for each row; where the column says that there is a NULL, there is one
abbrev pub has_flag : List ℕ → Bool
has_flag flags = list_any (λ flag. flag == 1) flags

unfoldable pub flags_at : ℕ → Bool → List ℕ → Result (List ℕ) ℕ
flags_at rows false bitmap = checked (length bitmap == 0) 0 (replicate rows 0)
flags_at rows true bitmap = do
  flags ← packed_at (length bitmap) 1 rows bitmap
  seen ← checked (has_flag flags.0) 0 flags
  ended (length bitmap) seen

-- how many rows are not NULL
abbrev pub present_count : List ℕ → ℕ
present_count flags = count_by (λ flag. flag == 0) flags

-- the rows: NULL at a flag, and the values in order at the others
abbrev pub spread : {V : Type 0} → List ℕ → List V → List (Option V)
spread [] vs = []
spread (flag ∷ flags) [] = None ∷ spread flags []
spread (flag ∷ flags) (v ∷ vs) = if flag == 0 then Some v ∷ spread flags vs else None ∷ spread flags (v ∷ vs)

module _ {V : Type 0} (read : ℕ → List ℕ → Result (V × List ℕ) ℕ) (cmp : V → V → Ordering) where
  -- so many values, one after the other
  unfoldable pub values_at : ℕ → ℕ → List ℕ → Result (List V × List ℕ) ℕ
  values_at end zero bytes = Ok ([], bytes)
  values_at end (suc count) bytes = do
    first ← read end bytes
    others ← values_at end count first.1
    Ok (first.0 ∷ others.0, others.1)

  -- a run's value differs from that of the run before
  abbrev pub is_new : Option V → V → Bool
  is_new None v = true
  is_new (Some before) v = not (is_eq (cmp before v))

  -- a run's length, where so many values are left, and after it so many runs
  abbrev pub is_length : ℕ → ℕ → ℕ → Bool
  is_length left later n = nat_lt 0 n && (nat_le n left && (nat_lt 0 later || n == left))

  unfoldable pub run_at : ℕ → ℕ → ℕ → Option V → List ℕ → Result ((V × ℕ) × List ℕ) ℕ
  run_at end later left before bytes = do
    value ← read end bytes
    fresh ← checked (is_new before value.0) (end - length bytes) value
    size ← number_at w32 end fresh.1
    checked (is_length left later size.0) (end - length fresh.1) ((fresh.0, size.0), size.1)

  unfoldable pub runs_at : ℕ → ℕ → ℕ → Option V → List ℕ → Result (List V × List ℕ) ℕ
  runs_at end zero left before bytes = Ok ([], bytes)
  runs_at end (suc count) left before bytes = do
    run ← run_at end count left before bytes
    others ← runs_at end count (left - run.0.1) (Some run.0.0) run.1
    Ok (replicate run.0.1 run.0.0 ++ others.0, others.1)

  -- the values of a run body
  unfoldable pub run_values_at : ℕ → ℕ → List ℕ → Result (List V × List ℕ) ℕ
  run_values_at end most bytes = do
    count ← count_at end most bytes
    runs_at end count.0 most None count.1

  -- distinct values ascend
  abbrev pub is_next : Option V → V → Bool
  is_next None v = true
  is_next (Some before) v = is_lt (cmp before v)

  unfoldable pub entry_at : ℕ → Option V → List ℕ → Result (V × List ℕ) ℕ
  entry_at end before bytes = do
    value ← read end bytes
    checked (is_next before value.0) (end - length bytes) value

  unfoldable pub entries_at : ℕ → ℕ → Option V → List ℕ → Result (List V × List ℕ) ℕ
  entries_at end zero before bytes = Ok ([], bytes)
  entries_at end (suc count) before bytes = do
    first ← entry_at end before bytes
    others ← entries_at end count (Some first.0) first.1
    Ok (first.0 ∷ others.0, others.1)

-- each number below count stands among the indexes
abbrev pub uses_each : ℕ → List ℕ → Bool
uses_each zero indexes = true
uses_each (suc count) indexes = list_any (λ index. index == count) indexes && uses_each count indexes

-- the values at these indexes; none where an index is past the end
abbrev pub values_of : {V : Type 0} → List V → List ℕ → Option (List V)
values_of ds [] = Some []
values_of ds (index ∷ indexes) = option_and_then (λ v. option_map (λ vs. v ∷ vs) (values_of ds indexes)) (slice_get ds index)

-- the values, where each index is in the dictionary
abbrev pub found : {V : Type 0} → ℕ → Option (List V) → Result (List V) ℕ
found place None = Err place
found place (Some vs) = Ok vs

-- the values, where also each value of the dictionary is used
unfoldable pub looked_up : {V : Type 0} → ℕ → List V → List ℕ → Result (List V) ℕ
looked_up place ds indexes = do
  vs ← found place (values_of ds indexes)
  checked (uses_each (length ds) indexes) place vs

module _ {V : Type 0} (read : ℕ → List ℕ → Result (V × List ℕ) ℕ) (cmp : V → V → Ordering) where
  -- the values of a dictionary body
  unfoldable pub dictionary_values_at : ℕ → ℕ → List ℕ → Result (List V × List ℕ) ℕ
  dictionary_values_at end most bytes = do
    count ← count_at end most bytes
    entries ← entries_at read cmp end count.0 None count.1
    indexes ← packed_at end (width_of (count.0 - 1)) most entries.1
    vs ← looked_up (end - length entries.1) entries.0 indexes.0
    Ok (vs, indexes.1)
