-- Parts of a text: what stands in front of the first mark, and the fields between blanks.
use Rattle.std.specs.List.{onto_first, position, position_or_len, slice_split}
use Rattle.std.specs.Prelude.{Bool, List, None, Option, Some, [], false, if◌then◌else◌, drop, length, refl, take, true, ℕ, ◌++◌, ◌+◌, ◌<◌, ◌==◌, ◌∷◌, ◌≡◌, ◌≤◌}
use Rattle.std.proofs.Common.{ap, append_assoc, arith, inl, inr, ltb, subst, suc, sym, ◌∙◌}
use Rattle.std.proofs.lemmas.Bool.{cases_lt, lt-ltb}
use Rattle.std.proofs.lemmas.Bool.Decides.{nat_tests}
use Rattle.std.proofs.lemmas.List.{append-nil}
use Rattle.std.proofs.lemmas.Option.{cond_some, none-some, same_Some}
use Rattle.tt_plain.proofs.Tests.{same_number}
use Rattle.tt_plain.specs.law.Lists.{Every}
use Rattle.tt_journal_read.specs.steps.Reading.{both_of, cut_of, fields_in, parted}

-- one byte more in front of a text that is cut
abbrev cut_if : Bool → ℕ → List ℕ → List ℕ × Option (List ℕ) → List ℕ × Option (List ℕ)
cut_if same byte bytes later = if same then ([], Some bytes) else (byte ∷ later.0, later.1)

-- how much is left to be read
abbrev pub bytes_left : Option (List ℕ) → ℕ
bytes_left None = 0
bytes_left (Some bytes) = length bytes + 1

-- ---- the first mark

-- the mark does not stand in the bytes
abbrev pub Lacks : ℕ → List ℕ → Type 0
Lacks mark bytes = Every (λ byte. (byte == mark) ≡ false) bytes

pub lacks_both : (mark : ℕ) (a b : List ℕ) → Lacks mark a → Lacks mark b → Lacks mark (a ++ b)
lacks_both mark [] b first second = second
lacks_both mark (x ∷ a) b first second = (first.0, lacks_both mark a b first.1 second)

module _ (mark : ℕ) where
  pub cut_at : (front behind : List ℕ) → Lacks mark front → (mark == mark) ≡ true → cut_of mark (front ++ mark ∷ behind) ≡ (front, Some behind)
  unfolding cut_of
  cut_at [] behind lacks same = ap (λ (b : Bool). cut_if b mark behind (cut_of mark behind)) same
  cut_at (byte ∷ front) behind lacks same =
      let rest = front ++ mark ∷ behind in
      ap (λ (b : Bool). cut_if b byte rest (cut_of mark rest)) lacks.0
      ∙ ap (λ (parts : List ℕ × Option (List ℕ)). (byte ∷ parts.0, parts.1)) (cut_at front behind lacks.1 same)

  pub cut_none : (front : List ℕ) → Lacks mark front → cut_of mark front ≡ (front, None)
  unfolding cut_of
  cut_none [] lacks = refl
  cut_none (byte ∷ front) lacks =
      ap (λ (b : Bool). cut_if b byte front (cut_of mark front)) lacks.0
      ∙ ap (λ (parts : List ℕ × Option (List ℕ)). (byte ∷ parts.0, parts.1)) (cut_none front lacks.1)

-- both sides again
abbrev pub joined : ℕ → List ℕ × Option (List ℕ) → List ℕ
joined mark (front, None) = front
joined mark (front, Some behind) = front ++ mark ∷ behind

joined_more : (mark byte : ℕ) (front : List ℕ) (behind : Option (List ℕ)) → joined mark (byte ∷ front, behind) ≡ byte ∷ joined mark (front, behind)
joined_more mark byte front None = refl
joined_more mark byte front (Some behind) = refl

pub cut_joins : (mark : ℕ) (bytes : List ℕ) → joined mark (cut_of mark bytes) ≡ bytes
unfolding cut_of
cut_joins mark [] = refl
cut_joins mark (byte ∷ bytes) = by (cut_joins mark bytes) (byte == mark) refl
  where
    by : joined mark (cut_of mark bytes) ≡ bytes → (same : Bool) → (byte == mark) ≡ same → joined mark (cut_if same byte bytes (cut_of mark bytes)) ≡ byte ∷ bytes
    by more true same = ap (λ (b : ℕ). b ∷ bytes) (sym (same_number byte mark same))
    by more false other = joined_more mark byte (cut_of mark bytes).0 (cut_of mark bytes).1 ∙ ap (λ (l : List ℕ). byte ∷ l) more

pub parted_joins : (mark : ℕ) (bytes : List ℕ) (p : List ℕ × List ℕ) → parted mark bytes ≡ Some p → p.0 ++ mark ∷ p.1 ≡ bytes
parted_joins mark bytes p e = by (cut_of mark bytes).0 (cut_of mark bytes).1 refl e
  where
    by : (front : List ℕ) (behind : Option (List ℕ)) → cut_of mark bytes ≡ (front, behind) → both_of (front, behind) ≡ Some p → p.0 ++ mark ∷ p.1 ≡ bytes
    by front None c f = absurd (none-some p f)
    by front (Some behind) c f =
        subst (λ (q : List ℕ × List ℕ). q.0 ++ mark ∷ q.1 ≡ bytes) (same_Some (front, behind) p f) (sym (ap (joined mark) c) ∙ cut_joins mark bytes)

pub parted_at : (mark : ℕ) (front behind : List ℕ) → Lacks mark front → (mark == mark) ≡ true → parted mark (front ++ mark ∷ behind) ≡ Some (front, behind)
parted_at mark front behind lacks same = ap both_of (cut_at mark front behind lacks same)

-- ---- fields

-- fields, each behind a blank
abbrev pub spaced : List (List ℕ) → List ℕ
spaced [] = []
spaced (field ∷ fields) = 32 ∷ (field ++ spaced fields)

pub spaced_both : (a b : List (List ℕ)) → spaced (a ++ b) ≡ spaced a ++ spaced b
spaced_both [] b = refl
spaced_both (field ∷ a) b = ap (λ (l : List ℕ). 32 ∷ l) (ap (λ (l : List ℕ). field ++ l) (spaced_both a b) ∙ sym (append_assoc field (spaced a) (spaced b)))

abbrev pub is_blank : ℕ → Bool
is_blank byte = byte == 32

split_at : (field behind : List ℕ) → Lacks 32 field → slice_split is_blank (field ++ 32 ∷ behind) ≡ field ∷ slice_split is_blank behind
split_at [] behind lacks = refl
split_at (byte ∷ field) behind lacks =
    let rest = field ++ 32 ∷ behind in
    ap (λ (b : Bool). if b then [] ∷ slice_split is_blank rest else onto_first byte (slice_split is_blank rest)) lacks.0
    ∙ ap (onto_first byte) (split_at field behind lacks.1)

split_one : (field : List ℕ) → Lacks 32 field → slice_split is_blank field ≡ field ∷ []
split_one [] lacks = refl
split_one (byte ∷ field) lacks =
    ap (λ (b : Bool). if b then [] ∷ slice_split is_blank field else onto_first byte (slice_split is_blank field)) lacks.0
    ∙ ap (onto_first byte) (split_one field lacks.1)

pub fields_spaced : (field : List ℕ) (fields : List (List ℕ)) → Lacks 32 field → Every (Lacks 32) fields → slice_split is_blank (field ++ spaced fields) ≡ field ∷ fields
fields_spaced field [] lacks each = ap (slice_split is_blank) (append-nil field) ∙ split_one field lacks
fields_spaced field (next ∷ fields) lacks each =
    split_at field (next ++ spaced fields) lacks ∙ ap (λ (fs : List (List ℕ)). field ∷ fs) (fields_spaced next fields each.0 each.1)

-- the first field is what the first cut gives
pub first_field : (bytes : List ℕ) → slice_split is_blank bytes ≡ (cut_of 32 bytes).0 ∷ fields_in (cut_of 32 bytes).1
unfolding cut_of
first_field [] = refl
first_field (byte ∷ bytes) = by (first_field bytes) (byte == 32)
  where
    by : slice_split is_blank bytes ≡ (cut_of 32 bytes).0 ∷ fields_in (cut_of 32 bytes).1
        → (blank : Bool) → (if blank then [] ∷ slice_split is_blank bytes else onto_first byte (slice_split is_blank bytes)) ≡ (cut_if blank byte bytes (cut_of 32 bytes)).0 ∷ fields_in (cut_if blank byte bytes (cut_of 32 bytes)).1
    by more true = refl
    by more false = ap (onto_first byte) more

-- what stands behind a word
abbrev pub behind_word : Option (List ℕ) → List ℕ
behind_word None = []
behind_word (Some bytes) = 32 ∷ bytes

unsplit : List (List ℕ) → List ℕ
unsplit [] = []
unsplit (field ∷ fields) = field ++ spaced fields

spaced_in : (rest : Option (List ℕ)) → ((bytes : List ℕ) → rest ≡ Some bytes → unsplit (slice_split is_blank bytes) ≡ bytes) → spaced (fields_in rest) ≡ behind_word rest
unfolding unsplit
spaced_in None each = refl
spaced_in (Some bytes) each =
    ap spaced (first_field bytes) ∙ ap (λ (l : List ℕ). 32 ∷ l) (sym (ap unsplit (first_field bytes)) ∙ each bytes refl)

joins_again : (bytes : List ℕ) → unsplit (slice_split is_blank bytes) ≡ bytes
unfolding unsplit
joins_again [] = refl
joins_again (byte ∷ bytes) = by (joins_again bytes) (byte == 32) refl
  where
    by : unsplit (slice_split is_blank bytes) ≡ bytes → (blank : Bool) → (byte == 32) ≡ blank → unsplit (if blank then [] ∷ slice_split is_blank bytes else onto_first byte (slice_split is_blank bytes)) ≡ byte ∷ bytes
    by more true blank = spaced_in (Some bytes) (λ b e. subst (λ (x : List ℕ). unsplit (slice_split is_blank x) ≡ x) (same_Some bytes b e) more) ∙ ap (λ (b : ℕ). b ∷ bytes) (sym (same_number byte 32 blank))
    by more false other =
        ap (λ (fs : List (List ℕ)). unsplit (onto_first byte fs)) (first_field bytes) ∙ ap (λ (l : List ℕ). byte ∷ l) (sym (ap unsplit (first_field bytes)) ∙ more)

pub spaced_again : (rest : Option (List ℕ)) → spaced (fields_in rest) ≡ behind_word rest
spaced_again rest = spaced_in rest (λ bytes e. joins_again bytes)

joined_behind : (parts : List ℕ × Option (List ℕ)) → joined 32 parts ≡ parts.0 ++ behind_word parts.1
joined_behind (front, None) = sym (append-nil front)
joined_behind (front, Some behind) = refl

-- a word, and the fields behind it
pub word_and_fields : (bytes : List ℕ) → (cut_of 32 bytes).0 ++ spaced (fields_in (cut_of 32 bytes).1) ≡ bytes
word_and_fields bytes =
    ap (λ (l : List ℕ). (cut_of 32 bytes).0 ++ l) (spaced_again (cut_of 32 bytes).1) ∙ (sym (joined_behind (cut_of 32 bytes)) ∙ cut_joins 32 bytes)

-- what stands behind a word with these fields
abbrev pub rest_of : List (List ℕ) → Option (List ℕ)
rest_of [] = None
rest_of (field ∷ fields) = Some (field ++ spaced fields)

pub cut_word : (word : List ℕ) (fields : List (List ℕ)) → Lacks 32 word → cut_of 32 (word ++ spaced fields) ≡ (word, rest_of fields)
cut_word word [] lacks = ap (cut_of 32) (append-nil word) ∙ cut_none 32 word lacks
cut_word word (field ∷ fields) lacks = cut_at 32 word (field ++ spaced fields) lacks refl

pub fields_of_rest : (fields : List (List ℕ)) → Every (Lacks 32) fields → fields_in (rest_of fields) ≡ fields
fields_of_rest [] each = refl
fields_of_rest (field ∷ fields) each = fields_spaced field fields each.0 each.1

-- ---- the first mark by its place

abbrev mark_place : ℕ → List ℕ → ℕ
mark_place mark bytes = position_or_len (λ byte. byte == mark) bytes

cut_by : (mark : ℕ) (bytes : List ℕ) (place : ℕ) → place ≡ mark_place mark bytes → place < length bytes
    → (take place bytes ≡ (cut_of mark bytes).0) × (Some (drop (place + 1) bytes) ≡ (cut_of mark bytes).1)
unfolding cut_of
cut_by mark [] place e within = absurd (omega arith)
cut_by mark (byte ∷ bytes) place e within = by (λ below. cut_by mark bytes (mark_place mark bytes) refl below) (byte == mark) refl
  where
    behind : (byte == mark) ≡ false → mark_place mark (byte ∷ bytes) ≡ 1 + mark_place mark bytes
    behind f = rw f refl

    here : (byte == mark) ≡ true → mark_place mark (byte ∷ bytes) ≡ 0
    here f = rw f refl

    by : (mark_place mark bytes < length bytes → (take (mark_place mark bytes) bytes ≡ (cut_of mark bytes).0) × (Some (drop (mark_place mark bytes + 1) bytes) ≡ (cut_of mark bytes).1))
        → (same : Bool) → (byte == mark) ≡ same
        → (take place (byte ∷ bytes) ≡ (cut_if same byte bytes (cut_of mark bytes)).0) × (Some (drop (place + 1) (byte ∷ bytes)) ≡ (cut_if same byte bytes (cut_of mark bytes)).1)
    by later true same =
        let first : place ≡ 0 = e ∙ here same in
        (ap (λ (n : ℕ). take n (byte ∷ bytes)) first, ap (λ (n : ℕ). Some (drop (n + 1) (byte ∷ bytes))) first)
    by later false other =
        let next : place ≡ suc (mark_place mark bytes) = omega (arith, e ∙ behind other) in
        let after : place + 1 ≡ suc (mark_place mark bytes + 1) = omega (arith, next) in
        let rest = later (omega (arith, next, within)) in
        (ap (λ (n : ℕ). take n (byte ∷ bytes)) next ∙ ap (λ (l : List ℕ). byte ∷ l) rest.0, ap (λ (n : ℕ). Some (drop n (byte ∷ bytes))) after ∙ rest.1)

pub cut_some : (mark : ℕ) (bytes : List ℕ) (place : ℕ) → position (λ byte. byte == mark) bytes ≡ Some place
    → (take place bytes ≡ (cut_of mark bytes).0) × (Some (drop (place + 1) bytes) ≡ (cut_of mark bytes).1)
cut_some mark bytes place e =
    let here = cond_some (ltb (mark_place mark bytes) (length bytes)) (mark_place mark bytes) place e in
    cut_by mark bytes place (sym here.1) (omega (arith, here.1, below here.0))
  where
    below : {m n : ℕ} → ltb m n ≡ true → m < n
    below h = grind (arith, nat_tests)

no_mark : (mark : ℕ) (bytes : List ℕ) → length bytes ≤ mark_place mark bytes → cut_of mark bytes ≡ (bytes, None)
unfolding cut_of
no_mark mark [] past = refl
no_mark mark (byte ∷ bytes) past = by (λ below. no_mark mark bytes below) (byte == mark) refl
  where
    behind : (byte == mark) ≡ false → mark_place mark (byte ∷ bytes) ≡ 1 + mark_place mark bytes
    behind f = rw f refl

    here : (byte == mark) ≡ true → mark_place mark (byte ∷ bytes) ≡ 0
    here f = rw f refl

    by : (length bytes ≤ mark_place mark bytes → cut_of mark bytes ≡ (bytes, None)) → (same : Bool) → (byte == mark) ≡ same → cut_if same byte bytes (cut_of mark bytes) ≡ (byte ∷ bytes, None)
    by later true same = absurd (omega (arith, past, here same))
    by later false other = ap (λ (parts : List ℕ × Option (List ℕ)). (byte ∷ parts.0, parts.1)) (later (omega (arith, past, behind other)))

pub cut_past : (mark : ℕ) (bytes : List ℕ) → position (λ byte. byte == mark) bytes ≡ None → cut_of mark bytes ≡ (bytes, None)
cut_past mark bytes e = elim (cases_lt (mark_place mark bytes) (length bytes)) [
  | inl within ↦ absurd (let f : Some (mark_place mark bytes) ≡ None = rw (lt-ltb _ _ within) at e in cc)
  | inr past ↦ no_mark mark bytes past
]
