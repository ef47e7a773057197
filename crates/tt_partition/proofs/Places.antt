-- The place of a fault is at most where the bytes end.
use Rattle.std.proofs.Common.{◌≡◌, ℕ, zero, suc, ◌+◌, ◌-◌, ◌*◌, ◌^◌, ◌≤◌, pos, ◌+ℤ◌, Bool, true, false, not, cond, ltb, List, length, take, drop, map, replicate, Option, Some, None, Result, Ok, Err, subst, arith, Ordering}
use Rattle.std.proofs.lemmas.List.{length-take, length-drop}
use Rattle.std.specs.Prelude.{◌==◌, IfErr}
use Rattle.std.specs.Int.{Width, w8, w32, w64, w16, byte_len, from_le_bytes, cast_signed}
use Rattle.std.specs.Ordering.{int_cmp}
use Rattle.tt_value.specs.declared.value.Kind.{Kind}
use Rattle.tt_value.specs.declared.value.Kind.TheVariants.{Int, Date, Varchar}
use Rattle.tt_value.specs.declared.column.BadColumn.{BadColumn}
use Rattle.tt_value.specs.columns.Packing.{joined, digits, bytes_for, width_of}
use Rattle.tt_value.specs.columns.Reading.{◌>>=◌, checked, at_encoding, is_longer, in_column, number_at, packed_at, ended, count_at, has_flag, flags_at, values_at, is_new, run_at, runs_at, run_values_at, entry_at, entries_at, values_of, found, looked_up, dictionary_values_at, present_count}
use Rattle.tt_intcol.specs.declared.encoding.Encoding.{Encoding}
use Rattle.tt_intcol.specs.declared.encoding.Encoding.TheVariants as forms
use Rattle.tt_intcol.specs.declared.column.IntColumn.{IntColumn}
use Rattle.tt_intcol.specs.IntReading as numbers
use Rattle.tt_textcol.specs.declared.encoding.Encoding as text_encodings
use Rattle.tt_textcol.specs.declared.encoding.Encoding.TheVariants as text_forms
use Rattle.tt_textcol.specs.declared.column.TextColumn.{TextColumn}
use Rattle.tt_textcol.specs.TextBody.{text_cmp}
use Rattle.tt_textcol.specs.TextReading as texts
use Rattle.tt_partition.specs.ImageReading.{mapped, number_value, text_value, values_in}

abbrev pub Within : {A : Type 0} → ℕ → Result A ℕ → Type 0
Within most r = IfErr r (λ place. place ≤ most)

then_within : {A B : Type 0} (most : ℕ) (r : Result A ℕ) (f : A → Result B ℕ) → Within most r → ((x : A) → Within most (f x)) → Within most (r >>= f)
then_within most (Ok x) f h k = k x
then_within most (Err place) f h k = h

held_within : {A : Type 0} (most : ℕ) (b : Bool) (place : ℕ) (x : A) → place ≤ most → Within most (checked b place x)
held_within most true place x le = tt
held_within most false place x le = le

cond_within : {A : Type 0} (most : ℕ) (b : Bool) (place : ℕ) (r : Result A ℕ) → place ≤ most → Within most r → Within most (cond b (Err place) r)
cond_within most true place r le h = le
cond_within most false place r le h = h

before : (end n : ℕ) → end - n ≤ end
before end n = omega arith

itself : (end : ℕ) → end ≤ end
itself end = omega arith

number_within : (w : Width) (end : ℕ) (bs : List ℕ) → Within end (number_at w end bs)
number_within w end bs = cond_within end (ltb (length bs) (byte_len w)) end (Ok (from_le_bytes w (take (byte_len w) bs), drop (byte_len w) bs)) (itself end) tt

packed_within : (end width count : ℕ) (bs : List ℕ) → Within end (packed_at end width count bs)
unfolding packed_at
packed_within end width count bs =
    let size : ℕ = bytes_for (count * width) in
    let number : ℕ = joined 8 (take size bs) in
    cond_within end (ltb (length bs) size) end (checked (ltb number (2 ^ (count * width))) (end - length bs) (digits width count number, drop size bs)) (itself end) (held_within end (ltb number (2 ^ (count * width))) (end - length bs) (digits width count number, drop size bs) (before end (length bs)))

ended_within : {A : Type 0} (end : ℕ) (x : A × List ℕ) → Within end (ended end x)
ended_within end x = go (length x.1 == 0)
  where
    go : (b : Bool) → Within end (cond b (Ok x.0) (Err (end - length x.1)))
    go true = tt
    go false = before end (length x.1)

count_within : (end most : ℕ) (bs : List ℕ) → Within end (count_at end most bs)
unfolding count_at
count_within end most bs = then_within end (number_at w32 end bs) _ (number_within w32 end bs) (λ n. held_within end _ (end - length bs) n (before end (length bs)))

flags_within : (rows : ℕ) (nulls : Bool) (bitmap : List ℕ) → Within (length bitmap) (flags_at rows nulls bitmap)
unfolding flags_at
flags_within rows false bitmap = held_within (length bitmap) (length bitmap == 0) 0 (replicate rows 0) (omega arith)
flags_within rows true bitmap =
    then_within (length bitmap) (packed_at (length bitmap) 1 rows bitmap) _ (packed_within (length bitmap) 1 rows bitmap)
    (λ (flags : List ℕ × List ℕ). then_within (length bitmap) (checked (has_flag flags.0) 0 flags) _ (held_within (length bitmap) (has_flag flags.0) 0 flags (omega arith)) (λ (seen : List ℕ × List ℕ). ended_within (length bitmap) seen))

module _ {V : Type 0} (read : ℕ → List ℕ → Result (V × List ℕ) ℕ) (cmp : V → V → Ordering) (end : ℕ) (within : (bs : List ℕ) → Within end (read end bs)) where
  values_within : (count : ℕ) (bs : List ℕ) → Within end (values_at read cmp end count bs)
  unfolding values_at
  values_within zero bs = tt
  values_within (suc count) bs =
      then_within end (read end bs) _ (within bs) (λ first. then_within end (values_at read cmp end count first.1) _ (values_within count first.1) (λ others. tt))

  run_within : (later left : ℕ) (before_it : Option V) (bs : List ℕ) → Within end (run_at read cmp end later left before_it bs)
  unfolding run_at
  run_within later left before_it bs =
      then_within end (read end bs) _ (within bs)
      (λ (value : V × List ℕ). then_within end (checked (is_new read cmp before_it value.0) (end - length bs) value) _ (held_within end _ (end - length bs) value (before end (length bs)))
      (λ (fresh : V × List ℕ). then_within end (number_at w32 end fresh.1) _ (number_within w32 end fresh.1)
      (λ size. held_within end _ (end - length fresh.1) ((fresh.0, size.0), size.1) (before end (length fresh.1)))))

  runs_within : (count left : ℕ) (before_it : Option V) (bs : List ℕ) → Within end (runs_at read cmp end count left before_it bs)
  unfolding runs_at
  runs_within zero left before_it bs = tt
  runs_within (suc count) left before_it bs =
      then_within end (run_at read cmp end count left before_it bs) _ (run_within count left before_it bs)
      (λ run. then_within end (runs_at read cmp end count (left - run.0.1) (Some run.0.0) run.1) _ (runs_within count (left - run.0.1) (Some run.0.0) run.1) (λ others. tt))

  run_values_within : (most : ℕ) (bs : List ℕ) → Within end (run_values_at read cmp end most bs)
  unfolding run_values_at
  run_values_within most bs = then_within end (count_at end most bs) _ (count_within end most bs) (λ count. runs_within count.0 most None count.1)

  entry_within : (before_it : Option V) (bs : List ℕ) → Within end (entry_at read cmp end before_it bs)
  unfolding entry_at
  entry_within before_it bs = then_within end (read end bs) _ (within bs) (λ value. held_within end _ (end - length bs) value (before end (length bs)))

  entries_within : (count : ℕ) (before_it : Option V) (bs : List ℕ) → Within end (entries_at read cmp end count before_it bs)
  unfolding entries_at
  entries_within zero before_it bs = tt
  entries_within (suc count) before_it bs =
      then_within end (entry_at read cmp end before_it bs) _ (entry_within before_it bs)
      (λ first. then_within end (entries_at read cmp end count (Some first.0) first.1) _ (entries_within count (Some first.0) first.1) (λ others. tt))

  found_within : (place : ℕ) (vs : Option (List V)) → place ≤ end → Within end (found place vs)
  found_within place None le = le
  found_within place (Some vs) le = tt

  looked_within : (place : ℕ) (ds : List V) (indexes : List ℕ) → place ≤ end → Within end (looked_up place ds indexes)
  unfolding looked_up
  looked_within place ds indexes le = then_within end (found place (values_of ds indexes)) _ (found_within place (values_of ds indexes) le) (λ vs. held_within end _ place vs le)

  dictionary_values_within : (most : ℕ) (bs : List ℕ) → Within end (dictionary_values_at read cmp end most bs)
  unfolding dictionary_values_at
  dictionary_values_within most bs =
      then_within end (count_at end most bs) _ (count_within end most bs)
      (λ count. then_within end (entries_at read cmp end count.0 None count.1) _ (entries_within count.0 None count.1)
      (λ entries. then_within end (packed_at end (width_of (count.0 - 1)) most entries.1) _ (packed_within end (width_of (count.0 - 1)) most entries.1)
      (λ indexes. then_within end (looked_up (end - length entries.1) entries.0 indexes.0) _ (looked_within (end - length entries.1) entries.0 indexes.0 (before end (length entries.1))) (λ vs. tt))))

-- ---- numbers

value_within : (kind : Kind) (end : ℕ) (bs : List ℕ) → Within end (numbers.value_at kind end bs)
unfolding numbers.date_at numbers.int_at
value_within Int end bs = then_within end (number_at w64 end bs) _ (number_within w64 end bs) (λ n. tt)
value_within Date end bs = then_within end (number_at w32 end bs) _ (number_within w32 end bs) (λ n. held_within end _ (end - length bs) (cast_signed w32 n.0, n.1) (before end (length bs)))
value_within Varchar end bs = then_within end (number_at w64 end bs) _ (number_within w64 end bs) (λ n. tt)

frame_within : (kind : Kind) (end count : ℕ) (bs : List ℕ) → Within end (numbers.frame_at kind end count bs)
unfolding numbers.frame_at
frame_within kind end count bs =
    then_within end (numbers.value_at kind end bs) _ (value_within kind end bs)
    (λ low. then_within end (number_at w8 end low.1) _ (number_within w8 end low.1)
    (λ width. then_within end (packed_at end width.0 count width.1) _ (packed_within end width.0 count width.1)
    (λ ns. held_within end _ (end - length width.1) (map (λ n. low.0 +ℤ pos n) ns.0, ns.1) (before end (length width.1)))))

body_within : (kind : Kind) (e : Encoding) (end count : ℕ) (bs : List ℕ) → Within end (numbers.body_at kind e end count bs)
body_within kind forms.Plain end count bs = values_within (numbers.value_at kind) int_cmp end (value_within kind end) count bs
body_within kind forms.Frame end count bs = frame_within kind end count bs
body_within kind forms.Run end count bs = run_values_within (numbers.value_at kind) int_cmp end (value_within kind end) count bs
body_within kind forms.Dictionary end count bs = dictionary_values_within (numbers.value_at kind) int_cmp end (value_within kind end) count bs

whole_within : (kind : Kind) (e : Encoding) (end count : ℕ) (bs : List ℕ) → Within end (numbers.whole_body kind e end count bs)
unfolding numbers.whole_body
whole_within kind e end count bs = then_within end (numbers.body_at kind e end count bs) _ (body_within kind e end count bs) (λ read. ended_within end read)

-- ---- columns

abbrev pub FaultWithin : {A : Type 0} → ℕ → Result A BadColumn → Type 0
FaultWithin most r = IfErr r (λ bad. bad.place ≤ most)

then_fault : {A B : Type 0} (most : ℕ) (r : Result A BadColumn) (f : A → Result B BadColumn) → FaultWithin most r → ((x : A) → FaultWithin most (f x)) → FaultWithin most (r >>= f)
then_fault most (Ok x) f h k = k x
then_fault most (Err bad) f h k = h

held_fault : {A : Type 0} (most : ℕ) (b : Bool) (bad : BadColumn) (x : A) → bad.place ≤ most → FaultWithin most (checked b bad x)
held_fault most true bad x le = tt
held_fault most false bad x le = le

in_column_within : {A : Type 0} (less most : ℕ) (r : Result A ℕ) → less ≤ most → Within less r → FaultWithin most (in_column r)
in_column_within less most (Ok x) le h = tt
in_column_within less most (Err place) le h = omega arith

number_form_within : (most n : ℕ) → FaultWithin most (numbers.encoding_at n)
number_form_within most zero = tt
number_form_within most (suc zero) = tt
number_form_within most (suc (suc zero)) = tt
number_form_within most (suc (suc (suc zero))) = tt
number_form_within most (suc (suc (suc (suc n)))) = omega arith

pub numbers_within : (kind : Kind) (rows : ℕ) (column : IntColumn) → FaultWithin (length column.bitmap + length column.body) (numbers.rows_of kind rows column)
unfolding numbers.rows_of numbers.values_in
numbers_within kind rows column =
    let most : ℕ = length column.bitmap + length column.body in
    then_fault most (numbers.encoding_at column.encoding) _ (number_form_within most column.encoding)
    (λ e. then_fault most (in_column (flags_at rows column.nulls column.bitmap)) _ (in_column_within (length column.bitmap) most (flags_at rows column.nulls column.bitmap) (omega arith) (flags_within rows column.nulls column.bitmap))
    (λ flags. then_fault most _ _ (then_fault most (checked (not (numbers.is_empty_frame e (present_count flags))) at_encoding e) _ (held_fault most _ at_encoding e (omega arith))
    (λ (form : Encoding). then_fault most (in_column (numbers.whole_body kind form most (present_count flags) column.body)) _ (in_column_within most most (numbers.whole_body kind form most (present_count flags) column.body) (itself most) (whole_within kind form most (present_count flags) column.body))
    (λ vs. held_fault most _ is_longer vs (omega arith)))) (λ vs. tt)))

-- ---- texts

text_within : (end : ℕ) (bs : List ℕ) → Within end (texts.text_at end bs)
unfolding texts.text_at
text_within end bs =
    then_within end (number_at w16 end bs) _ (number_within w16 end bs)
    (λ n. cond_within end (ltb (length n.1) n.0) end _ (itself end) (held_within end _ (end - length bs) (take n.0 n.1, drop n.0 n.1) (before end (length bs))))

text_body_within : (e : text_encodings.Encoding) (end count : ℕ) (bs : List ℕ) → Within end (texts.body_at e end count bs)
text_body_within text_forms.Plain end count bs = values_within texts.text_at text_cmp end (text_within end) count bs
text_body_within text_forms.Run end count bs = run_values_within texts.text_at text_cmp end (text_within end) count bs
text_body_within text_forms.Dictionary end count bs = dictionary_values_within texts.text_at text_cmp end (text_within end) count bs

text_whole_within : (e : text_encodings.Encoding) (end count : ℕ) (bs : List ℕ) → Within end (texts.whole_body e end count bs)
unfolding texts.whole_body
text_whole_within e end count bs = then_within end (texts.body_at e end count bs) _ (text_body_within e end count bs) (λ read. ended_within end read)

text_form_within : (most n : ℕ) → FaultWithin most (texts.encoding_at n)
text_form_within most zero = tt
text_form_within most (suc zero) = omega arith
text_form_within most (suc (suc zero)) = tt
text_form_within most (suc (suc (suc zero))) = tt
text_form_within most (suc (suc (suc (suc n)))) = omega arith

pub texts_within : (rows : ℕ) (column : TextColumn) → FaultWithin (length column.bitmap + length column.body) (texts.rows_of rows column)
unfolding texts.rows_of texts.values_in
texts_within rows column =
    let most : ℕ = length column.bitmap + length column.body in
    then_fault most (texts.encoding_at column.encoding) _ (text_form_within most column.encoding)
    (λ e. then_fault most (in_column (flags_at rows column.nulls column.bitmap)) _ (in_column_within (length column.bitmap) most (flags_at rows column.nulls column.bitmap) (omega arith) (flags_within rows column.nulls column.bitmap))
    (λ flags. then_fault most _ _ (then_fault most (in_column (texts.whole_body e most (present_count flags) column.body)) _ (in_column_within most most (texts.whole_body e most (present_count flags) column.body) (itself most) (text_whole_within e most (present_count flags) column.body))
    (λ vs. held_fault most _ is_longer vs (omega arith))) (λ vs. tt)))

-- ---- the columns of an image

mapped_within : {A B : Type 0} (most : ℕ) (f : A → B) (r : Result A BadColumn) → FaultWithin most r → FaultWithin most (mapped f r)
mapped_within most f (Ok x) h = tt
mapped_within most f (Err bad) h = h

values_in_within : (kind : Kind) (rows encoding : ℕ) (nulls : Bool) (bitmap body : List ℕ) → FaultWithin (length bitmap + length body) (values_in kind rows encoding nulls bitmap body)
values_in_within Int rows encoding nulls bitmap body =
    mapped_within (length bitmap + length body) (map (number_value Int)) (numbers.rows_of Int rows (numbers.column_with encoding nulls bitmap body)) (numbers_within Int rows (numbers.column_with encoding nulls bitmap body))
values_in_within Date rows encoding nulls bitmap body =
    mapped_within (length bitmap + length body) (map (number_value Date)) (numbers.rows_of Date rows (numbers.column_with encoding nulls bitmap body)) (numbers_within Date rows (numbers.column_with encoding nulls bitmap body))
values_in_within Varchar rows encoding nulls bitmap body =
    mapped_within (length bitmap + length body) (map text_value) (texts.rows_of rows (texts.column_with encoding nulls bitmap body)) (texts_within rows (texts.column_with encoding nulls bitmap body))

split_lengths : (n m : ℕ) (bs : List ℕ) → length (take n bs) + length (take m (drop n bs)) ≤ length bs
split_lengths n m bs = let a = length-take n bs in let b = length-take m (drop n bs) in let c = length-drop n bs in omega (arith, a, b, c)

fault_is : {A : Type 0} (most : ℕ) (r : Result A BadColumn) (bad : BadColumn) → FaultWithin most r → r ≡ Err bad → bad.place ≤ most
fault_is most r bad h e = subst (FaultWithin most) e h

-- the place of a column's fault is at most as far behind its head as the bytes go
pub fault_below : (kind : Kind) (rows encoding : ℕ) (nulls : Bool) (n m : ℕ) (bs : List ℕ) (bad : BadColumn) → values_in kind rows encoding nulls (take n bs) (take m (drop n bs)) ≡ Err bad → bad.place ≤ length bs
fault_below kind rows encoding nulls n m bs bad e =
    let le = fault_is (length (take n bs) + length (take m (drop n bs))) (values_in kind rows encoding nulls (take n bs) (take m (drop n bs))) bad (values_in_within kind rows encoding nulls (take n bs) (take m (drop n bs))) e in
    let all = split_lengths n m bs in
    omega (arith, le, all)
