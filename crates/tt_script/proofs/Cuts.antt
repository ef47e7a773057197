-- A body is cut part by part: the kinds of its bytes, up to the first cut and behind it.
use Rattle.std.proofs.Common.{◌≡◌, ℕ, suc, ◌+◌, ◌<◌, ◌≤◌, zero, min, Bool, true, false, cond, ◌||◌, not, eqb, ltb, List, [], ◌∷◌, ◌++◌, None, length, length-append, take, drop, drop-cons, get_or, refl, sym, ap, subst, ◌∙◌, append_assoc, arith, inl, inr}
use Rattle.std.specs.Prelude.{slice_get}
use Rattle.std.proofs.lemmas.Option.{slice_get_past}
use Rattle.std.specs.List.{prefix_len, position_or_len, slice_split}
use Rattle.std.proofs.lemmas.Bool.{cases_Bool, cases_lt, eqb-true, le-ltb}
use Rattle.std.proofs.lemmas.Grind.{common_steps}
use Rattle.std.proofs.lemmas.List.{append-nil, length-take, take_all}
use Rattle.std.proofs.lemmas.List.Sums.{fails_before_first}
use Rattle.std.proofs.lemmas.List.Folds.{length-prefix_len}
use Rattle.std.proofs.lemmas.List.Splits.{slice_split_first, slice_split_none}
use Rattle.tt_script.specs.declared.cut.ByteKind.{ByteKind}
use Rattle.tt_script.specs.declared.cut.ByteKind.TheVariants.{Gap, Cut, Solid}
use Rattle.tt_script.specs.declared.cut.Inside.{Inside}
use Rattle.tt_script.specs.declared.cut.Inside.TheVariants.{Nothing, QuotedText, LineComment, OpeningStar, BlockComment, Star}
use Rattle.tt_script.specs.Bytes.{is_white}
use Rattle.tt_script.specs.Body.{begins_comment, kind_at, inside_after, kinds_in, is_cut, is_gap, part_span, spans_from, statements_in}

-- ---- byte by byte

abbrev pub next_of : List ℕ → ℕ → ℕ
next_of bytes i = get_or bytes (i + 1) 0

drop_next : (bytes : List ℕ) (i : ℕ) → i < length bytes → drop i bytes ≡ get_or bytes i 0 ∷ drop (i + 1) bytes
drop_next bytes i within = let e : suc i ≡ i + 1 = omega arith in drop-cons bytes i 0 within ∙ ap (λ (k : ℕ). get_or bytes i 0 ∷ drop k bytes) e

first_of_drop : (bytes : List ℕ) (i : ℕ) → get_or (drop i bytes) 0 0 ≡ get_or bytes i 0
first_of_drop bytes i = grind (arith, common_steps)

-- the kinds from a place on
kinds_next : (bytes : List ℕ) (i : ℕ) (inside : Inside) → i < length bytes
    → kinds_in inside (drop i bytes) ≡ kind_at inside (get_or bytes i 0) (next_of bytes i) ∷ kinds_in (inside_after inside (get_or bytes i 0) (next_of bytes i)) (drop (i + 1) bytes)
kinds_next bytes i inside within =
    ap (kinds_in inside) (drop_next bytes i within)
    ∙ ap (λ (next : ℕ). kind_at inside (get_or bytes i 0) next ∷ kinds_in (inside_after inside (get_or bytes i 0) next) (drop (i + 1) bytes)) (first_of_drop bytes (i + 1))

-- how many kinds in front pass a test: i of them, and those from the place i on
abbrev pub Counts : (ByteKind → Bool) → List ℕ → ℕ → Inside → ℕ → Type 0
Counts test bytes i inside total = i + prefix_len test (kinds_in inside (drop i bytes)) ≡ total

pub run_goes_on : (test : ByteKind → Bool) (bytes : List ℕ) (i : ℕ) (inside : Inside) (total : ℕ) → i < length bytes → test (kind_at inside (get_or bytes i 0) (next_of bytes i)) ≡ true
    → Counts test bytes i inside total → Counts test bytes (i + 1) (inside_after inside (get_or bytes i 0) (next_of bytes i)) total
run_goes_on test bytes i inside total within passes so_far =
    let f : i + cond true (1 + prefix_len test (kinds_in (inside_after inside (get_or bytes i 0) (next_of bytes i)) (drop (i + 1) bytes))) 0 ≡ total = rw (kinds_next bytes i inside within, passes) at so_far in
    omega arith

-- the same, as the loops' calls answer
pub goes_on : (test : ByteKind → Bool) (bytes : List ℕ) (i : ℕ) (inside : Inside) (next : ℕ) (kind : ByteKind) (after : Inside) (total : ℕ) → i < length bytes → next ≡ get_or bytes (i + 1) 0 → kind ≡ kind_at inside (get_or bytes i 0) next → test kind ≡ true
    → after ≡ inside_after inside (get_or bytes i 0) next → Counts test bytes i inside total → Counts test bytes (i + 1) after total
goes_on test bytes i inside next kind after total within n k passes a so_far =
    let kind_is : kind ≡ kind_at inside (get_or bytes i 0) (next_of bytes i) = k ∙ ap (kind_at inside (get_or bytes i 0)) n in
    let after_is : after ≡ inside_after inside (get_or bytes i 0) (next_of bytes i) = a ∙ ap (inside_after inside (get_or bytes i 0)) n in
    rw after_is (run_goes_on test bytes i inside total within (subst (λ (x : ByteKind). test x ≡ true) kind_is passes) so_far)

pub length-kinds : (inside : Inside) (bytes : List ℕ) → length (kinds_in inside bytes) ≡ length bytes
length-kinds inside [] = refl
length-kinds inside (byte ∷ bytes) = ap (λ (n : ℕ). suc n) (length-kinds (inside_after inside byte (get_or bytes 0 0)) bytes)

-- ---- behind a cut

nothing_cut : (byte next : ℕ) (semicolon : Bool) → semicolon ≡ eqb byte 59 → is_cut (cond semicolon Cut (cond (is_white byte || begins_comment byte next) Gap Solid)) ≡ true → byte ≡ 59
nothing_cut byte next true e h = eqb-true byte 59 (sym e)
nothing_cut byte next false e h = absurd (by (is_white byte || begins_comment byte next) h)
  where
    by : (gap : Bool) → is_cut (cond gap Gap Solid) ≡ true → ⊥
    by true h = absurd cc
    by false h = absurd cc

-- a byte that cuts is a semicolon inside of nothing
pub cut_is : (inside : Inside) (byte next : ℕ) → is_cut (kind_at inside byte next) ≡ true → (byte ≡ 59) × (inside_after inside byte next ≡ Nothing)
cut_is Nothing byte next h = let e = nothing_cut byte next (eqb byte 59) refl h in (e, rw e refl)
cut_is QuotedText byte next h = absurd cc
cut_is LineComment byte next h = absurd cc
cut_is OpeningStar byte next h = absurd cc
cut_is BlockComment byte next h = absurd cc
cut_is Star byte next h = absurd cc

abbrev pub cut_place : Inside → List ℕ → ℕ
cut_place inside bytes = position_or_len is_cut (kinds_in inside bytes)

pub kinds_behind : (inside : Inside) (bytes : List ℕ) (n : ℕ) → n ≡ cut_place inside bytes → n < length bytes → drop (suc n) (kinds_in inside bytes) ≡ kinds_in Nothing (drop (suc n) bytes)
kinds_behind inside [] n e within = absurd (omega arith)
kinds_behind inside (byte ∷ bytes) n e within =
    let next = get_or bytes 0 0 in
    let after = inside_after inside byte next in
    elim (cases_Bool (is_cut (kind_at inside byte next))) [
      | inl cut ↦ (let z : n ≡ 0 = e ∙ rw cut refl in rw z (ap (λ (i : Inside). kinds_in i bytes) (cut_is inside byte next cut).1))
      | inr other ↦ (let m = cut_place after bytes in let f : n ≡ 1 + m = e ∙ rw other refl in let z : n ≡ suc m = omega arith in rw z (kinds_behind after bytes m refl (omega arith)))
    ]

-- ---- part by part

prefix_take : (p : ByteKind → Bool) (n : ℕ) (xs : List ByteKind) → prefix_len p (take n xs) ≡ min n (prefix_len p xs)
prefix_take p zero xs = omega arith
prefix_take p (suc n) [] = omega arith
prefix_take p (suc n) (x ∷ xs) =
    let more = prefix_take p n xs in
    elim (cases_Bool (p x)) [
      | inl passes ↦ rw passes (omega (arith, more))
      | inr fails ↦ rw fails (omega arith)
    ]

part_same : (at gap n : ℕ) → part_span at (min n gap) n ≡ part_span at gap n
part_same at gap n = elim (cases_lt gap n) [
  | inl lt ↦ (let e : min n gap ≡ gap = omega arith in rw e refl)
  | inr ge ↦ (let e : min n gap ≡ n = omega arith in rw (e, le-ltb n n (omega arith), le-ltb gap n ge) refl)
]

pub part_goes_on : (at : ℕ) (bytes : List ℕ) (n gap : ℕ) → n ≡ cut_place Nothing bytes → gap ≡ prefix_len is_gap (kinds_in Nothing bytes) → n < length bytes
    → statements_in at bytes ≡ part_span at gap n ++ statements_in (at + (n + 1)) (drop (n + 1) bytes)
unfolding spans_from
part_goes_on at bytes n gap e g within =
    let ks = kinds_in Nothing bytes in
    let inside_ks : position_or_len is_cut ks < length ks = omega (arith, length-kinds Nothing bytes, e) in
    let split : slice_split is_cut ks ≡ take n ks ∷ slice_split is_cut (drop (n + 1) ks) = rw e (slice_split_first is_cut ks Gap inside_ks) in
    let size : length (take n ks) ≡ n = rw e (length-prefix_len (λ k. not (is_cut k)) ks) in
    let next : suc n ≡ n + 1 = omega arith in
    let behind : drop (n + 1) ks ≡ kinds_in Nothing (drop (n + 1) bytes) = subst (λ (k : ℕ). drop k ks ≡ kinds_in Nothing (drop k bytes)) next (kinds_behind Nothing bytes n e within) in
    let front : part_span at (prefix_len is_gap (take n ks)) n ≡ part_span at gap n = ap (λ (k : ℕ). part_span at k n) (prefix_take is_gap n ks ∙ ap (min n) (sym g)) ∙ part_same at gap n in
    ap (spans_from at) split
    ∙ ap (λ (k : ℕ). part_span at (prefix_len is_gap (take n ks)) k ++ spans_from (at + (k + 1)) (slice_split is_cut (drop (n + 1) ks))) size
    ∙ ap (λ (l : List (ℕ × ℕ)). l ++ spans_from (at + (n + 1)) (slice_split is_cut (drop (n + 1) ks))) front
    ∙ ap (λ (l : List ByteKind). part_span at gap n ++ spans_from (at + (n + 1)) (slice_split is_cut l)) behind

pub part_ends : (at : ℕ) (bytes : List ℕ) (n gap : ℕ) → n ≡ cut_place Nothing bytes → gap ≡ prefix_len is_gap (kinds_in Nothing bytes) → n ≡ length bytes
    → statements_in at bytes ≡ part_span at gap n
unfolding spans_from
part_ends at bytes n gap e g past =
    let ks = kinds_in Nothing bytes in
    let long = length-kinds Nothing bytes in
    let split : slice_split is_cut ks ≡ ks ∷ [] = slice_split_none is_cut ks (λ k d h. fails_before_first is_cut ks k d (omega (arith, long, e, past))) in
    ap (spans_from at) split
    ∙ append-nil (part_span at (prefix_len is_gap ks) (length ks))
    ∙ ap (λ (k : ℕ). part_span at (prefix_len is_gap ks) k) (long ∙ sym past)
    ∙ ap (λ (k : ℕ). part_span at k n) (sym g)

-- ---- the loop over the parts

pub spans_go_on : (at : ℕ) (bytes : List ℕ) (n gap : ℕ) (front total : List (ℕ × ℕ)) → n ≡ cut_place Nothing bytes → gap ≡ prefix_len is_gap (kinds_in Nothing bytes) → n < length bytes
    → front ++ statements_in at bytes ≡ total → (front ++ part_span at gap n) ++ statements_in (at + (n + 1)) (drop (n + 1) bytes) ≡ total
spans_go_on at bytes n gap front total e g within so_far =
    append_assoc front (part_span at gap n) (statements_in (at + (n + 1)) (drop (n + 1) bytes))
    ∙ ap (λ (l : List (ℕ × ℕ)). front ++ l) (sym (part_goes_on at bytes n gap e g within)) ∙ so_far

pub spans_end : (at : ℕ) (bytes : List ℕ) (n gap : ℕ) (front total : List (ℕ × ℕ)) → n ≡ cut_place Nothing bytes → gap ≡ prefix_len is_gap (kinds_in Nothing bytes) → n ≡ length bytes
    → front ++ statements_in at bytes ≡ total → front ++ part_span at gap n ≡ total
spans_end at bytes n gap front total e g past so_far = ap (λ (l : List (ℕ × ℕ)). front ++ l) (sym (part_ends at bytes n gap e g past)) ∙ so_far

-- the first ones, where there are enough
pub first_spans : (front behind total : List (ℕ × ℕ)) (n : ℕ) → front ++ behind ≡ total → length front ≡ n → front ≡ take n total
first_spans front behind total n e long = rw (sym e, sym long) (sym (take_front front behind))
  where
    take_front : (front behind : List (ℕ × ℕ)) → take (length front) (front ++ behind) ≡ front
    take_front [] behind = refl
    take_front (x ∷ front) behind = ap (λ l. x ∷ l) (take_front front behind)

-- all of them, where there are few enough
pub all_spans : (front total : List (ℕ × ℕ)) (n : ℕ) → front ≡ total → length front ≤ n → front ≡ take n total
all_spans front total n e few = e ∙ sym (take_all n total (rw (sym e) few))

-- a part has at most one span
pub few_spans : (at gap n : ℕ) (front : List (ℕ × ℕ)) (most : ℕ) → length front ≤ most → length (front ++ part_span at gap n) ≤ most + 1
few_spans at gap n front most few = omega (arith, length-append front (part_span at gap n), by (ltb gap n))
  where
    by : (b : Bool) → length {A = ℕ × ℕ} (cond b ((at + gap, at + n) ∷ []) []) ≤ 1
    by true = omega arith
    by false = omega arith

-- ---- one of the first spans

pub get_take : (spans : List (ℕ × ℕ)) (n m : ℕ) → n < m → slice_get (take m spans) n ≡ slice_get spans n
get_take spans n zero lt = absurd (omega arith)
get_take [] n (suc m) lt = refl
get_take (span ∷ spans) zero (suc m) lt = refl
get_take (span ∷ spans) (suc n) (suc m) lt = get_take spans n m (omega arith)

-- fewer than so many, so all
pub few_taken : (spans : List (ℕ × ℕ)) (n m : ℕ) → m ≡ n + 1 → length (take m spans) ≤ n → (take m spans ≡ spans) × (slice_get spans n ≡ None)
few_taken spans n m e few =
    let short : length spans ≤ n = omega (arith, length-take m spans) in
    (take_all m spans (omega arith), slice_get_past spans n short)
