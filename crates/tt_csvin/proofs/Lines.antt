-- The records that the reader gives are those of the definition: one line after the other.
use Rattle.std.proofs.Common.{◌≡◌, ℕ, suc, ◌+◌, ◌-◌, ◌<◌, ◌≤◌, Bool, true, false, cond, List, [], ◌∷◌, ◌++◌, length, map, Option, Some, None, refl, ap, sym, ◌∙◌, subst, arith, append-nil, append_assoc, eq-eqb, eqb-true, ne_eqb}
use Rattle.std.specs.Prelude.{filter, filter_map, nat_eq, not, ◌&&◌, ◌==◌, if◌then◌else◌}
use Rattle.std.proofs.lemmas.Bool.{false≢true}
use Rattle.std.specs.List.{onto_first, slice_split}
use Rattle.csv.specs.Machine.{Read, after_end, field_after, fields_after, in_field, is_end, next_record, start_field, step}
use Rattle.csv.specs.Reading.{Reached, default_config, is_bom, strip_bom}
use Rattle.csv.specs.declared.parser.State.{State}
use Rattle.csv.specs.declared.parser.Action.{Action}
use Rattle.csv.specs.declared.parser.State.TheVariants as st
use Rattle.csv.specs.declared.parser.Action.TheVariants as act
use Rattle.csv.specs.declared.parser.Terminator.TheVariants as term
use Rattle.tt_plain.specs.meaning.Staged.{AfterQuote, Before, Byte, Comma, Inside, LineEnd, Mark, Place, Quote, Quoted, byte_of, fields_of, is_blank, is_comma, is_line_end, mark_of, marks_from, plain_mark, records_of, without_order_mark}

abbrev pub lines_from : Place → List ℕ → List (List Mark)
lines_from place bytes = slice_split is_line_end (marks_from place bytes)

abbrev pub kept : List (List Mark) → List (List (List ℕ))
kept lines = map fields_of (filter (λ line. not (is_blank line)) lines)

-- the records of bytes that begin a line
abbrev pub left : List ℕ → List (List (List ℕ))
left bytes = kept (lines_from Before bytes)

-- the first field goes on from what was read of it
abbrev joined : List ℕ → List (List ℕ) → List (List ℕ)
joined field [] = field ∷ []
joined field (f ∷ fs) = (field ++ f) ∷ fs

-- between two records
pub data IsBetween : State → Type 0 where
  at_start : IsBetween st.StartRecord
  at_return : IsBetween st.AfterCr

-- in a record
data IsAt : State → Place → Type 0 where
  before : IsAt st.StartField Before
  inside : IsAt st.InField Inside
  quoted : IsAt st.InQuoted Quoted
  behind_quote : IsAt st.AfterQuote AfterQuote

-- what is read of a record is its first line, and the other lines are left
record ReadsLine (o : Option Read) (fields : List (List ℕ)) (field : List ℕ) (lines : List (List Mark)) (size : ℕ) : Type 0 where
  taken : Read
  first : List Mark
  others : List (List Mark)
  is : o ≡ Some taken
  parts : lines ≡ first ∷ others
  row : taken.0 ≡ fields ++ joined field (fields_of first)
  between : IsBetween taken.1
  rest : kept others ≡ left taken.2
  shorter : length taken.2 ≤ size

-- ---- one byte

next_by : (s : State) (c : ℕ) (rest : List ℕ) (fields : List (List ℕ)) (field : List ℕ) (to : State) (a : Action) → step default_config s c ≡ (to, a)
    → next_record default_config s fields field (c ∷ rest) ≡ (if is_end a then Some (fields_after a fields field, to, rest) else next_record default_config to (fields_after a fields field) (field_after a c field) rest)
unfolding next_record
next_by s c rest fields field to a e = rw e refl

lines_by : (q : Place) (c : ℕ) (rest : List ℕ) (m : Mark) (to : Place) → mark_of q c ≡ (m, to)
    → lines_from q (c ∷ rest) ≡ cond (is_line_end m) ([] ∷ lines_from to rest) (onto_first m (lines_from to rest))
lines_by q c rest m to e = rw e refl

-- ---- fields of a line that begins with one more mark

with_byte : (field : List ℕ) (c : ℕ) (line : List Mark) → joined field (fields_of (Byte c ∷ line)) ≡ joined (field ++ c ∷ []) (fields_of line)
with_byte field c line = by (slice_split is_comma line)
  where
    by : (parts : List (List Mark)) → joined field (map (filter_map byte_of) (onto_first (Byte c) parts)) ≡ joined (field ++ c ∷ []) (map (filter_map byte_of) parts)
    by [] = refl
    by (part ∷ parts) = ap (λ (f : List ℕ). f ∷ map (filter_map byte_of) parts) (sym (append_assoc field (c ∷ []) (filter_map byte_of part)))

with_quote : (field : List ℕ) (line : List Mark) → joined field (fields_of (Quote ∷ line)) ≡ joined field (fields_of line)
with_quote field line = by (slice_split is_comma line)
  where
    by : (parts : List (List Mark)) → joined field (map (filter_map byte_of) (onto_first Quote parts)) ≡ joined field (map (filter_map byte_of) parts)
    by [] = ap (λ (f : List ℕ). f ∷ []) (append-nil field)
    by (part ∷ parts) = refl

-- a line has a field
joined_nothing : (line : List Mark) → joined [] (fields_of line) ≡ fields_of line
joined_nothing [] = refl
joined_nothing (mark ∷ line) = by (is_comma mark)
  where
    onto : (parts : List (List Mark)) → joined [] (map (filter_map byte_of) (onto_first mark parts)) ≡ map (filter_map byte_of) (onto_first mark parts)
    onto [] = refl
    onto (part ∷ parts) = refl

    by : (t : Bool) → joined [] (map (filter_map byte_of) (cond t ([] ∷ slice_split is_comma line) (onto_first mark (slice_split is_comma line)))) ≡ map (filter_map byte_of) (cond t ([] ∷ slice_split is_comma line) (onto_first mark (slice_split is_comma line)))
    by true = refl
    by false = onto (slice_split is_comma line)

with_comma : (fields : List (List ℕ)) (field : List ℕ) (line : List Mark) → fields ++ joined field (fields_of (Comma ∷ line)) ≡ (fields ++ field ∷ []) ++ joined [] (fields_of line)
with_comma fields field line =
    ap (λ (f : List ℕ). fields ++ f ∷ fields_of line) (append-nil field)
    ∙ sym (append_assoc fields (field ∷ []) (fields_of line))
    ∙ ap (λ (fs : List (List ℕ)). (fields ++ field ∷ []) ++ fs) (sym (joined_nothing line))

onto_parts : {lines : List (List Mark)} (m : Mark) (first : List Mark) (others : List (List Mark)) → lines ≡ first ∷ others → onto_first m lines ≡ (m ∷ first) ∷ others
onto_parts m first others e = ap (onto_first m) e

-- ---- one more byte of a record

module _ (o : Option Read) (fields : List (List ℕ)) (field : List ℕ) (lines more : List (List Mark)) (size : ℕ) where
  takes_byte : (c : ℕ) (p : Option Read) → o ≡ p → lines ≡ onto_first (Byte c) more → ReadsLine p fields (field ++ c ∷ []) more (size - 1) → ReadsLine o fields field lines size
  takes_byte c p e l r = record {
    taken = r.taken;
    first = Byte c ∷ r.first;
    others = r.others;
    is = e ∙ r.is;
    parts = l ∙ onto_parts (Byte c) r.first r.others r.parts;
    row = r.row ∙ ap (λ (fs : List (List ℕ)). fields ++ fs) (sym (with_byte field c r.first));
    between = r.between;
    rest = r.rest;
    shorter = omega (arith, r.shorter);
  }

  takes_quote : (p : Option Read) → o ≡ p → lines ≡ onto_first Quote more → ReadsLine p fields field more (size - 1) → ReadsLine o fields field lines size
  takes_quote p e l r = record {
    taken = r.taken;
    first = Quote ∷ r.first;
    others = r.others;
    is = e ∙ r.is;
    parts = l ∙ onto_parts Quote r.first r.others r.parts;
    row = r.row ∙ ap (λ (fs : List (List ℕ)). fields ++ fs) (sym (with_quote field r.first));
    between = r.between;
    rest = r.rest;
    shorter = omega (arith, r.shorter);
  }

  takes_comma : (p : Option Read) → o ≡ p → lines ≡ onto_first Comma more → ReadsLine p (fields ++ field ∷ []) [] more (size - 1) → ReadsLine o fields field lines size
  takes_comma p e l r = record {
    taken = r.taken;
    first = Comma ∷ r.first;
    others = r.others;
    is = e ∙ r.is;
    parts = l ∙ onto_parts Comma r.first r.others r.parts;
    row = r.row ∙ sym (with_comma fields field r.first);
    between = r.between;
    rest = r.rest;
    shorter = omega (arith, r.shorter);
  }

  takes_end : (to : State) (rest : List ℕ) → o ≡ Some (fields ++ field ∷ [], to, rest) → IsBetween to → lines ≡ [] ∷ lines_from Before rest → length rest ≤ size → ReadsLine o fields field lines size
  takes_end to rest e is l short = record {
    taken = (fields ++ field ∷ [], to, rest);
    first = [];
    others = lines_from Before rest;
    is = e;
    parts = l;
    row = ap (λ (f : List ℕ). fields ++ f ∷ []) (sym (append-nil field));
    between = is;
    rest = refl;
    shorter = short;
  }

-- what is read from a place within a record
abbrev Reads : List ℕ → Type 0
Reads bytes = (s : State) (q : Place) → IsAt s q → (fields : List (List ℕ)) (field : List ℕ)
    → ReadsLine (next_record default_config s fields field bytes) fields field (lines_from q bytes) (length bytes - 1)

after_return : (c : ℕ) → IsBetween (after_end term.CRLF c)
after_return c = by (c == 13)
  where
    by : (t : Bool) → IsBetween (if t then st.AfterCr else st.StartRecord)
    by true = at_return
    by false = at_start

plain_byte : (s : State) (q : Place) (c : ℕ) (rest : List ℕ) → Reads rest → step default_config s c ≡ in_field default_config c → mark_of q c ≡ plain_mark c
    → (fields : List (List ℕ)) (field : List ℕ) → ReadsLine (next_record default_config s fields field (c ∷ rest)) fields field (lines_from q (c ∷ rest)) (length rest)
plain_byte s q c rest more stepped marked fields field = by (c == 44) (c == 13) (c == 10) refl refl refl
  where
    by : (comma return feed : Bool) → (c == 44) ≡ comma → (c == 13) ≡ return → (c == 10) ≡ feed → ReadsLine (next_record default_config s fields field (c ∷ rest)) fields field (lines_from q (c ∷ rest)) (length rest)
    by true return feed e f g =
        takes_comma _ fields field _ _ (length rest) _ (next_by s c rest fields field st.StartField act.EndField (stepped ∙ rw e refl)) (lines_by q c rest Comma Before (marked ∙ rw e refl)) (more st.StartField Before before (fields ++ field ∷ []) [])
    by false true true e f g =
        takes_end _ fields field _ [] (length rest) (after_end term.CRLF c) rest (next_by s c rest fields field (after_end term.CRLF c) act.EndRecord (stepped ∙ rw (e, f) refl)) (after_return c) (lines_by q c rest LineEnd Before (marked ∙ rw (e, f, g) refl)) (omega arith)
    by false true false e f g =
        takes_end _ fields field _ [] (length rest) (after_end term.CRLF c) rest (next_by s c rest fields field (after_end term.CRLF c) act.EndRecord (stepped ∙ rw (e, f) refl)) (after_return c) (lines_by q c rest LineEnd Before (marked ∙ rw (e, f, g) refl)) (omega arith)
    by false false true e f g =
        takes_end _ fields field _ [] (length rest) (after_end term.CRLF c) rest (next_by s c rest fields field (after_end term.CRLF c) act.EndRecord (stepped ∙ rw (e, f, g) refl)) (after_return c) (lines_by q c rest LineEnd Before (marked ∙ rw (e, f, g) refl)) (omega arith)
    by false false false e f g =
        takes_byte _ fields field _ _ (length rest) c _ (next_by s c rest fields field st.InField act.Copy (stepped ∙ rw (e, f, g) refl)) (lines_by q c rest (Byte c) Inside (marked ∙ rw (e, f, g) refl)) (more st.InField Inside inside fields (field ++ c ∷ []))

-- before a field a quote opens quotes
field_start : (s : State) (c : ℕ) (rest : List ℕ) → Reads rest → step default_config s c ≡ start_field default_config c
    → (fields : List (List ℕ)) (field : List ℕ) → ReadsLine (next_record default_config s fields field (c ∷ rest)) fields field (lines_from Before (c ∷ rest)) (length rest)
field_start s c rest more stepped fields field = by (c == 34) refl
  where
    by : (quote : Bool) → (c == 34) ≡ quote → ReadsLine (next_record default_config s fields field (c ∷ rest)) fields field (lines_from Before (c ∷ rest)) (length rest)
    by true e = takes_quote _ fields field _ _ (length rest) _ (next_by s c rest fields field st.InQuoted act.Skip (stepped ∙ rw e refl)) (lines_by Before c rest Quote Quoted (rw e refl)) (more st.InQuoted Quoted quoted fields field)
    by false e = plain_byte s Before c rest more (stepped ∙ rw e refl) (rw e refl) fields field

in_quotes : (c : ℕ) (rest : List ℕ) → Reads rest
    → (fields : List (List ℕ)) (field : List ℕ) → ReadsLine (next_record default_config st.InQuoted fields field (c ∷ rest)) fields field (lines_from Quoted (c ∷ rest)) (length rest)
in_quotes c rest more fields field = by (c == 34) refl
  where
    by : (quote : Bool) → (c == 34) ≡ quote → ReadsLine (next_record default_config st.InQuoted fields field (c ∷ rest)) fields field (lines_from Quoted (c ∷ rest)) (length rest)
    by true e = takes_quote _ fields field _ _ (length rest) _ (next_by st.InQuoted c rest fields field st.AfterQuote act.Skip (rw e refl)) (lines_by Quoted c rest Quote AfterQuote (rw e refl)) (more st.AfterQuote AfterQuote behind_quote fields field)
    by false e = takes_byte _ fields field _ _ (length rest) c _ (next_by st.InQuoted c rest fields field st.InQuoted act.Copy (rw e refl)) (lines_by Quoted c rest (Byte c) Quoted (rw e refl)) (more st.InQuoted Quoted quoted fields (field ++ c ∷ []))

-- behind a quote another one stands for itself
after_quote : (c : ℕ) (rest : List ℕ) → Reads rest
    → (fields : List (List ℕ)) (field : List ℕ) → ReadsLine (next_record default_config st.AfterQuote fields field (c ∷ rest)) fields field (lines_from AfterQuote (c ∷ rest)) (length rest)
after_quote c rest more fields field = by (c == 34) refl
  where
    by : (quote : Bool) → (c == 34) ≡ quote → ReadsLine (next_record default_config st.AfterQuote fields field (c ∷ rest)) fields field (lines_from AfterQuote (c ∷ rest)) (length rest)
    by true e = takes_byte _ fields field _ _ (length rest) c _ (next_by st.AfterQuote c rest fields field st.InQuoted act.Copy (rw e refl)) (lines_by AfterQuote c rest (Byte c) Quoted (rw e refl)) (more st.InQuoted Quoted quoted fields (field ++ c ∷ []))
    by false e = plain_byte st.AfterQuote AfterQuote c rest more (rw e refl) (rw e refl) fields field

-- ---- a record

ends_here : (s : State) (q : Place) → IsAt s q → (fields : List (List ℕ)) (field : List ℕ) → next_record default_config s fields field [] ≡ Some (fields ++ field ∷ [], st.StartRecord, [])
unfolding next_record
ends_here _ _ before fields field = refl
ends_here _ _ inside fields field = refl
ends_here _ _ quoted fields field = refl
ends_here _ _ behind_quote fields field = refl

resized : (o : Option Read) (fields : List (List ℕ)) (field : List ℕ) (lines : List (List Mark)) (n : ℕ) → ReadsLine o fields field lines n → ReadsLine o fields field lines (suc n - 1)
resized o fields field lines n r = let e : n ≡ suc n - 1 = omega arith in subst (λ m. ReadsLine o fields field lines m) e r

reads : (bytes : List ℕ) → Reads bytes
reads [] s q is fields field = record {
  taken = (fields ++ field ∷ [], st.StartRecord, []);
  first = [];
  others = [];
  is = ends_here s q is fields field;
  parts = refl;
  row = ap (λ (f : List ℕ). fields ++ f ∷ []) (sym (append-nil field));
  between = at_start;
  rest = refl;
  shorter = omega arith;
}
reads (c ∷ rest) _ _ before fields field = resized _ fields field _ (length rest) (field_start st.StartField c rest (reads rest) refl fields field)
reads (c ∷ rest) _ _ inside fields field = resized _ fields field _ (length rest) (plain_byte st.InField Inside c rest (reads rest) refl refl fields field)
reads (c ∷ rest) _ _ quoted fields field = resized _ fields field _ (length rest) (in_quotes c rest (reads rest) fields field)
reads (c ∷ rest) _ _ behind_quote fields field = resized _ fields field _ (length rest) (after_quote c rest (reads rest) fields field)

-- ---- between records

-- the next record of bytes that begin a line
abbrev pub NextIs : List ℕ → Option Read → Type 0
NextIs bytes None = left bytes ≡ []
NextIs bytes (Some p) = (left bytes ≡ p.0 ∷ left p.2) × IsBetween p.1 × (length p.2 < length bytes)

not_blank : (m : Mark) (parts : List (List Mark)) (first : List Mark) (others : List (List Mark)) → onto_first m parts ≡ first ∷ others → not (is_blank first) ≡ true
not_blank m [] first others e = let f : first ≡ m ∷ [] = cc in ap (λ (l : List Mark). not (is_blank l)) f
not_blank m (part ∷ parts) first others e = let f : first ≡ m ∷ part = cc in ap (λ (l : List Mark). not (is_blank l)) f ∙ ap not (ne_eqb (length (m ∷ part)) 0 (λ z. omega arith))

-- a line that begins with a byte has a record
begun : (s : State) (c : ℕ) (rest : List ℕ) → step default_config s c ≡ start_field default_config c → is_line_end ((mark_of Before c).0) ≡ false → NextIs (c ∷ rest) (next_record default_config s [] [] (c ∷ rest))
begun s c rest stepped going =
    let r = field_start s c rest (reads rest) stepped [] [] in
    let m = (mark_of Before c).0 in
    let lines : lines_from Before (c ∷ rest) ≡ onto_first m (lines_from ((mark_of Before c).1) rest) = rw going refl in
    let some : not (is_blank r.first) ≡ true = not_blank m (lines_from ((mark_of Before c).1) rest) r.first r.others (sym lines ∙ r.parts) in
    let row : r.taken.0 ≡ fields_of r.first = r.row ∙ joined_nothing r.first in
    let all : left (c ∷ rest) ≡ r.taken.0 ∷ left r.taken.2 = ap kept r.parts ∙ rw some refl ∙ ap (λ (f : List (List ℕ)). f ∷ kept r.others) (sym row) ∙ ap (λ (fs : List (List (List ℕ))). r.taken.0 ∷ fs) r.rest in
    rw r.is (all, r.between, omega (arith, r.shorter))

-- a blank line has none
blank : (s : State) (c : ℕ) (rest : List ℕ) → step default_config s c ≡ (st.StartRecord, act.Skip) → mark_of Before c ≡ (LineEnd, Before) → NextIs rest (next_record default_config st.StartRecord [] [] rest)
    → NextIs (c ∷ rest) (next_record default_config s [] [] (c ∷ rest))
blank s c rest stepped marked h =
    let same : left (c ∷ rest) ≡ left rest = ap kept (lines_by Before c rest LineEnd Before marked) in
    rw (next_by s c rest [] [] st.StartRecord act.Skip stepped) (by (next_record default_config st.StartRecord [] [] rest) h same)
  where
    by : (o : Option Read) → NextIs rest o → left (c ∷ rest) ≡ left rest → NextIs (c ∷ rest) o
    by None h same = same ∙ h
    by (Some p) h same = (same ∙ h.0, h.1, omega (arith, h.2))

nothing_left : (s : State) → IsBetween s → next_record default_config s [] [] [] ≡ None
unfolding next_record
nothing_left _ at_start = refl
nothing_left _ at_return = refl

skips_return : (s : State) → IsBetween s → step default_config s 13 ≡ (st.StartRecord, act.Skip)
skips_return _ at_start = refl
skips_return _ at_return = refl

skips_feed : (s : State) → IsBetween s → step default_config s 10 ≡ (st.StartRecord, act.Skip)
skips_feed _ at_start = refl
skips_feed _ at_return = refl

starts_field : (s : State) (c : ℕ) → IsBetween s → (c == 13) ≡ false → (c == 10) ≡ false → step default_config s c ≡ start_field default_config c
starts_field _ c at_start f g = rw (f, g) refl
starts_field _ c at_return f g = rw (f, g) refl

goes_on : (c : ℕ) → (c == 13) ≡ false → (c == 10) ≡ false → is_line_end ((mark_of Before c).0) ≡ false
goes_on c f g = by (c == 34) (c == 44) refl refl
  where
    by : (quote comma : Bool) → (c == 34) ≡ quote → (c == 44) ≡ comma → is_line_end ((mark_of Before c).0) ≡ false
    by true comma d e = rw d refl
    by false true d e = rw (d, e) refl
    by false false d e = rw (d, e, f, g) refl

pub next_of : (bytes : List ℕ) (s : State) → IsBetween s → NextIs bytes (next_record default_config s [] [] bytes)
next_of [] s is = rw (nothing_left s is) refl
next_of (c ∷ rest) s is = by (c == 13) (c == 10) refl refl (next_of rest st.StartRecord at_start)
  where
    by : (return feed : Bool) → (c == 13) ≡ return → (c == 10) ≡ feed → NextIs rest (next_record default_config st.StartRecord [] [] rest) → NextIs (c ∷ rest) (next_record default_config s [] [] (c ∷ rest))
    by true feed f g h = subst (λ (b : ℕ). NextIs (b ∷ rest) (next_record default_config s [] [] (b ∷ rest))) (sym (eqb-true c 13 f)) (blank s 13 rest (skips_return s is) refl h)
    by false true f g h = subst (λ (b : ℕ). NextIs (b ∷ rest) (next_record default_config s [] [] (b ∷ rest))) (sym (eqb-true c 10 g)) (blank s 10 rest (skips_feed s is) refl h)
    by false false f g h = begun s c rest (starts_field s c is f g) (goes_on c f g)

-- these records, and then what is left, are what was there
pub reached : (rows : List (List (List ℕ))) (s : State) (bytes : List ℕ) (to : State) (rest : List ℕ) → IsBetween s → Reached default_config s bytes rows to rest
    → (left bytes ≡ rows ++ left rest) × IsBetween to × (length rows + length rest ≤ length bytes)
unfolding Reached
reached [] s bytes to rest is h = (ap left h.1, subst IsBetween h.0 is, omega (arith, ap length h.1))
reached (row ∷ rows) s bytes to rest is h =
    let (p, found, same, more) = h in
    let n : NextIs bytes (Some p) = rw found at (next_of bytes s is) in
    let r = reached rows p.1 p.2 to rest n.1 more in
    (n.0 ∙ ap (λ (f : List (List ℕ)). f ∷ left p.2) (sym same) ∙ ap (λ (fs : List (List (List ℕ))). row ∷ fs) r.0, r.1, omega (arith, n.2, r.2))

-- ---- the byte order mark

swap : (a b : ℕ) → nat_eq a b ≡ nat_eq b a
swap a b = by (nat_eq a b) refl
  where
    by : (t : Bool) → nat_eq a b ≡ t → t ≡ nat_eq b a
    by true e = sym (eq-eqb b a (sym (eqb-true a b e)))
    by false e = sym (ne_eqb b a (λ s. false≢true (sym e ∙ eq-eqb a b (sym s))))

one_byte : (a : ℕ) (t : Bool) → nat_eq 239 a ≡ t → a ∷ [] ≡ without_order_mark (a ∷ [])
one_byte a true e = rw e refl
one_byte a false e = rw e refl

two_bytes : (a b : ℕ) (t u : Bool) → nat_eq 239 a ≡ t → nat_eq 187 b ≡ u → a ∷ b ∷ [] ≡ without_order_mark (a ∷ b ∷ [])
two_bytes a b false u e f = rw e refl
two_bytes a b true false e f = rw (e, f) refl
two_bytes a b true true e f = rw (e, f) refl

three_tests : (x y z : Bool) (p q : List ℕ) → cond ((x && y) && z) p q ≡ cond (x && (y && (z && true))) p q
three_tests false y z p q = refl
three_tests true false z p q = refl
three_tests true true false p q = refl
three_tests true true true p q = refl

pub same_text : (bytes : List ℕ) → strip_bom bytes ≡ without_order_mark bytes
unfolding strip_bom
same_text [] = refl
same_text (a ∷ []) = one_byte a (nat_eq 239 a) refl
same_text (a ∷ b ∷ []) = two_bytes a b (nat_eq 239 a) (nat_eq 187 b) refl refl
same_text (a ∷ b ∷ c ∷ rest) = three_tests (nat_eq a 239) (nat_eq b 187) (nat_eq c 191) rest (a ∷ b ∷ c ∷ rest) ∙ rw (swap a 239, swap b 187, swap c 191) refl

pub all_records : (bytes : List ℕ) → records_of bytes ≡ left (strip_bom bytes)
unfolding records_of
all_records bytes = ap left (sym (same_text bytes))

pub stripped_short : (bytes : List ℕ) → length (strip_bom bytes) ≤ length bytes
unfolding strip_bom
stripped_short [] = omega arith
stripped_short (a ∷ []) = omega arith
stripped_short (a ∷ b ∷ []) = omega arith
stripped_short (a ∷ b ∷ c ∷ rest) = by (is_bom a b c)
  where
    by : (t : Bool) → length (cond t rest (a ∷ b ∷ c ∷ rest)) ≤ length (a ∷ b ∷ c ∷ rest)
    by true = omega arith
    by false = omega arith

-- ---- a file, as far as it was read

pub so_far : (file : List ℕ) (rows : List (List (List ℕ))) (to : State) (rest : List ℕ) → Reached default_config st.StartRecord (strip_bom file) rows to rest
    → (records_of file ≡ rows ++ left rest) × (length rows ≤ length file)
so_far file rows to rest h =
    let r = reached rows st.StartRecord (strip_bom file) to rest at_start h in
    (all_records file ∙ r.0, omega (arith, r.2, stripped_short file))

pub to_the_end : (file : List ℕ) (rows : List (List (List ℕ))) (to : State) (rest : List ℕ) → Reached default_config st.StartRecord (strip_bom file) rows to rest → next_record default_config to [] [] rest ≡ None
    → records_of file ≡ rows
to_the_end file rows to rest h none =
    let r = reached rows st.StartRecord (strip_bom file) to rest at_start h in
    let nothing : NextIs rest None = rw none at (next_of rest to r.1) in
    all_records file ∙ r.0 ∙ ap (λ (more : List (List (List ℕ))). rows ++ more) nothing ∙ append-nil rows
