-- Each statement begins and ends between characters: it begins behind an ASCII byte, and ends in front of a semicolon or at the end.
use Rattle.std.proofs.Common.{◌≡◌, ◌≢◌, ℕ, zero, suc, ◌+◌, ◌-◌, ◌<◌, ◌≤◌, Bool, true, false, cond, ◌&&◌, ◌||◌, not, eqb, List, [], ◌∷◌, ◌++◌, length, drop, get_or, All, refl, sym, ap, subst, ◌∙◌, arith, inl, inr}
use Rattle.std.specs.List.{prefix_len, AllByRecursion}
use Rattle.std.specs.Str.{IsUtf8, IsCharBoundary}
use Rattle.std.proofs.lemmas.Bool.{cases_Bool, cases_lt, eqb-true, lt-ltb, le-ltb, cond-true, cond-false}
use Rattle.std.proofs.lemmas.Bool.Decides.{nat_tests}
use Rattle.std.proofs.lemmas.Grind.{common_steps}
use Rattle.std.proofs.lemmas.List.{length-drop, drop-drop}
use Rattle.std.proofs.lemmas.List.Elements.{All-from_recursion}
use Rattle.std.proofs.lemmas.List.Sums.{prefix_len-le-length}
use Rattle.std.proofs.lemmas.Str.{IsCharBoundary-before_ascii, IsCharBoundary-after_ascii}
use Rattle.tt_script.specs.declared.cut.ByteKind.TheVariants.{Gap, Cut, Solid}
use Rattle.tt_script.specs.declared.cut.Inside.{Inside}
use Rattle.tt_script.specs.declared.cut.Inside.TheVariants.{Nothing, QuotedText, LineComment, OpeningStar, BlockComment, Star}
use Rattle.tt_script.specs.Bytes.{is_white}
use Rattle.tt_script.specs.Body.{kind_at, inside_after, kinds_in, is_cut, is_gap, part_span, statements_in}
use Rattle.tt_script.specs.Program.{IsSpan}
use Rattle.tt_script.proofs.Cuts.{cut_is, cut_place, length-kinds, part_goes_on, part_ends}

-- ---- what stands in front of the first byte that is no gap

-- not inside of a text, and inside of nothing only behind an ASCII byte
pub record IsGapState (inside : Inside) (before : ℕ) : Type 0 where
  pub no_text : inside ≢ QuotedText
  pub ascii : inside ≡ Nothing → before < 128

white_ascii : (byte : ℕ) → is_white byte ≡ true → byte < 128
white_ascii byte h = grind (arith, nat_tests)

no_state : (inside : Inside) (before : ℕ) → inside ≢ QuotedText → inside ≢ Nothing → IsGapState inside before
no_state inside before text nothing = record { no_text = text; ascii = λ e. absurd (nothing e) }

nothing_state : (before : ℕ) → before < 128 → IsGapState Nothing before
nothing_state before h = record { no_text = λ e. absurd cc; ascii = λ _. h }

-- behind a gap byte inside of nothing
after_nothing : (byte next : ℕ) → is_gap (kind_at Nothing byte next) ≡ true → IsGapState (inside_after Nothing byte next) byte
after_nothing byte next gap = elim (cases_Bool (eqb byte 39)) [
  | inl quote ↦ absurd (no_quote (eqb-true byte 39 quote))
  | inr other ↦ subst (λ (i : Inside). IsGapState i byte) (sym (rw other refl)) (by_dash (eqb byte 45 && eqb next 45) refl)
]
  where
    no_quote : byte ≡ 39 → ⊥
    no_quote e = let f : is_gap (kind_at Nothing 39 next) ≡ true = subst (λ (b : ℕ). is_gap (kind_at Nothing b next) ≡ true) e gap in absurd cc

    ascii_byte : (eqb byte 45 && eqb next 45) ≡ false → (eqb byte 47 && eqb next 42) ≡ false → byte < 128
    ascii_byte no_dash no_slash = white_ascii byte (is_it (eqb byte 59) (is_white byte) (let f : is_gap (cond (eqb byte 59) Cut (cond (is_white byte || (false || false)) Gap Solid)) ≡ true = rw (no_dash, no_slash) at gap in f))
      where
        is_it : (cut white : Bool) → is_gap (cond cut Cut (cond (white || (false || false)) Gap Solid)) ≡ true → white ≡ true
        is_it true white h = absurd cc
        is_it false true h = refl
        is_it false false h = absurd cc

    by_slash : (slash : Bool) → slash ≡ (eqb byte 47 && eqb next 42) → (eqb byte 45 && eqb next 45) ≡ false → IsGapState (cond slash OpeningStar Nothing) byte
    by_slash true e no_dash = no_state OpeningStar byte (λ h. absurd cc) (λ h. absurd cc)
    by_slash false e no_dash = nothing_state byte (ascii_byte no_dash (sym e))

    by_dash : (dash : Bool) → dash ≡ (eqb byte 45 && eqb next 45) → IsGapState (cond dash LineComment (cond (eqb byte 47 && eqb next 42) OpeningStar Nothing)) byte
    by_dash true e = no_state LineComment byte (λ h. absurd cc) (λ h. absurd cc)
    by_dash false e = by_slash (eqb byte 47 && eqb next 42) refl (sym e)

gap_state : (inside : Inside) (byte next before : ℕ) → IsGapState inside before → is_gap (kind_at inside byte next) ≡ true → IsGapState (inside_after inside byte next) byte
gap_state Nothing byte next before h gap = after_nothing byte next gap
gap_state QuotedText byte next before h gap = absurd cc
gap_state LineComment byte next before h gap = by (eqb byte 10) refl
  where
    by : (feed : Bool) → feed ≡ eqb byte 10 → IsGapState (cond feed Nothing LineComment) byte
    by true e = nothing_state byte (let f = eqb-true byte 10 (sym e) in omega arith)
    by false e = no_state LineComment byte (λ h. absurd cc) (λ h. absurd cc)
gap_state OpeningStar byte next before h gap = no_state BlockComment byte (λ h. absurd cc) (λ h. absurd cc)
gap_state BlockComment byte next before h gap = by (eqb byte 42)
  where
    by : (star : Bool) → IsGapState (cond star Star BlockComment) byte
    by true = no_state Star byte (λ h. absurd cc) (λ h. absurd cc)
    by false = no_state BlockComment byte (λ h. absurd cc) (λ h. absurd cc)
gap_state Star byte next before h gap = by (eqb byte 47) (eqb byte 42) refl
  where
    by : (slash star : Bool) → slash ≡ eqb byte 47 → IsGapState (cond slash Nothing (cond star Star BlockComment)) byte
    by true star e = nothing_state byte (let f = eqb-true byte 47 (sym e) in omega arith)
    by false true e = no_state Star byte (λ h. absurd cc) (λ h. absurd cc)
    by false false e = no_state BlockComment byte (λ h. absurd cc) (λ h. absurd cc)

-- a byte that is no gap stands inside of nothing
no_gap_ascii : (inside : Inside) (byte next before : ℕ) → IsGapState inside before → is_gap (kind_at inside byte next) ≡ false → before < 128
no_gap_ascii Nothing byte next before h e = h.ascii refl
no_gap_ascii QuotedText byte next before h e = absurd (h.no_text refl)
no_gap_ascii LineComment byte next before h e = absurd cc
no_gap_ascii OpeningStar byte next before h e = absurd cc
no_gap_ascii BlockComment byte next before h e = absurd cc
no_gap_ascii Star byte next before h e = absurd cc

-- the byte in front of the first byte that is no gap is ASCII
before_solid : (inside : Inside) (bytes : List ℕ) (before g : ℕ) → IsGapState inside before → g ≡ prefix_len is_gap (kinds_in inside bytes) → g < length bytes → get_or (before ∷ bytes) g 0 < 128
before_solid inside [] before g h e within = absurd (omega arith)
before_solid inside (byte ∷ bytes) before g h e within =
    let next = get_or bytes 0 0 in
    elim (cases_Bool (is_gap (kind_at inside byte next))) [
      | inl gap ↦ (let m = prefix_len is_gap (kinds_in (inside_after inside byte next) bytes) in
          let f : g ≡ 1 + m = e ∙ rw gap refl in
          let z : g ≡ suc m = omega arith in
          rw z (before_solid (inside_after inside byte next) bytes byte m (gap_state inside byte next before h gap) refl (omega arith)))
      | inr solid ↦ (let z : g ≡ 0 = e ∙ rw solid refl in rw z (no_gap_ascii inside byte next before h solid))
    ]

-- where a body is cut a semicolon stands
cut_byte : (inside : Inside) (bytes : List ℕ) (n : ℕ) → n ≡ cut_place inside bytes → n < length bytes → get_or bytes n 0 ≡ 59
cut_byte inside [] n e within = absurd (omega arith)
cut_byte inside (byte ∷ bytes) n e within =
    let next = get_or bytes 0 0 in
    let after = inside_after inside byte next in
    elim (cases_Bool (is_cut (kind_at inside byte next))) [
      | inl cut ↦ (let z : n ≡ 0 = e ∙ rw cut refl in rw z (cut_is inside byte next cut).0)
      | inr other ↦ (let m = cut_place after bytes in let f : n ≡ 1 + m = e ∙ rw other refl in let z : n ≡ suc m = omega arith in rw z (cut_byte after bytes m refl (omega arith)))
    ]

-- ---- in the whole text

-- the byte in front of a place is ASCII, or there is none
abbrev pub AfterAscii : List ℕ → ℕ → Type 0
AfterAscii text place = get_or (0 ∷ text) place 0 < 128

after_between : (text : List ℕ) (place : ℕ) → IsUtf8 text → 0 < place → place ≤ length text → AfterAscii text place → IsCharBoundary text place
after_between text zero utf8 some within h = absurd (omega arith)
after_between text (suc place) utf8 some within h = let e : place + 1 ≡ suc place = omega arith in subst (IsCharBoundary text) e (IsCharBoundary-after_ascii text place utf8 (omega arith) h)

pub get_drop : (text : List ℕ) (at i : ℕ) → get_or (drop at text) i 0 ≡ get_or text (at + i) 0
get_drop text at i = grind (arith, common_steps)

-- the same byte, seen from a place
before_drop : (text : List ℕ) (at i : ℕ) → get_or (get_or (0 ∷ text) at 0 ∷ drop at text) i 0 ≡ get_or (0 ∷ text) (at + i) 0
before_drop text at zero = let e : at ≡ at + 0 = omega arith in ap (λ (k : ℕ). get_or (0 ∷ text) k 0) e
before_drop text at (suc i) = let e : suc (at + i) ≡ at + suc i = omega arith in get_drop text at i ∙ ap (λ (k : ℕ). get_or (0 ∷ text) k 0) e

part_sound : (text : List ℕ) (at n gap : ℕ) → IsUtf8 text → 0 < at → at ≤ length text → AfterAscii text at → n ≤ length (drop at text) → gap ≡ prefix_len is_gap (kinds_in Nothing (drop at text)) → IsCharBoundary text (at + n)
    → AllByRecursion (IsSpan text) (part_span at gap n)
part_sound text at n gap utf8 some within ascii fits g ends = elim (cases_lt gap n) [
  | inl lt ↦ subst (AllByRecursion (IsSpan text)) (sym (cond-true _ _ _ (lt-ltb gap n lt))) (span lt, tt)
  | inr ge ↦ subst (AllByRecursion (IsSpan text)) (sym (cond-false _ _ _ (le-ltb gap n ge))) tt
]
  where
    long : length (drop at text) ≡ length text - at
    long = length-drop at text

    front : gap < n → AfterAscii text (at + gap)
    front lt = subst (λ (b : ℕ). b < 128) (before_drop text at gap) (before_solid Nothing (drop at text) (get_or (0 ∷ text) at 0) gap (nothing_state (get_or (0 ∷ text) at 0) ascii) g (omega arith))

    span : gap < n → IsSpan text (at + gap, at + n)
    span lt = record {
      ordered = omega arith;
      within = omega (arith, long);
      begins_between = after_between text (at + gap) utf8 (omega arith) (omega (arith, long)) (front lt);
      ends_between = ends;
    }

both_sound : (text : List ℕ) (xs ys : List (ℕ × ℕ)) → AllByRecursion (IsSpan text) xs → AllByRecursion (IsSpan text) ys → AllByRecursion (IsSpan text) (xs ++ ys)
both_sound text [] ys a b = b
both_sound text (x ∷ xs) ys a b = (a.0, both_sound text xs ys a.1 b)

-- the end of the text
end_between : (text : List ℕ) (place : ℕ) → place ≡ length text → IsCharBoundary text place
end_between text place e = (omega arith, λ lt high. absurd (omega arith))

more_sound : (text : List ℕ) (at n gap : ℕ) → IsUtf8 text → 0 < at → at ≤ length text → AfterAscii text at → n ≡ cut_place Nothing (drop at text) → gap ≡ prefix_len is_gap (kinds_in Nothing (drop at text)) → n < length (drop at text)
    → ((next : ℕ) → at < next → next ≤ length text → AfterAscii text next → AllByRecursion (IsSpan text) (statements_in next (drop next text))) → AllByRecursion (IsSpan text) (statements_in at (drop at text))
more_sound text at n gap utf8 some within ascii e g lt more =
    let rest = drop at text in
    let long : length rest ≡ length text - at = length-drop at text in
    let cut : get_or text (at + n) 0 ≡ 59 = sym (get_drop text at n) ∙ cut_byte Nothing rest n e lt in
    let ends : IsCharBoundary text (at + n) = IsCharBoundary-before_ascii text (at + n) (omega (arith, long)) (omega (arith, cut)) in
    let next : suc (at + n) ≡ at + (n + 1) = omega arith in
    let behind : AfterAscii text (at + (n + 1)) = subst (AfterAscii text) next (omega (arith, cut)) in
    let further : drop (n + 1) rest ≡ drop (at + (n + 1)) text = drop-drop (n + 1) at text in
    let split : statements_in at rest ≡ part_span at gap n ++ statements_in (at + (n + 1)) (drop (at + (n + 1)) text) =
    part_goes_on at rest n gap e g lt ∙ ap (λ (l : List ℕ). part_span at gap n ++ statements_in (at + (n + 1)) l) further in
    subst (AllByRecursion (IsSpan text)) (sym split)
    (both_sound text (part_span at gap n) (statements_in (at + (n + 1)) (drop (at + (n + 1)) text))
    (part_sound text at n gap utf8 some within ascii (omega arith) g ends)
    (more (at + (n + 1)) (omega arith) (omega (arith, long)) behind))

last_sound : (text : List ℕ) (at n gap : ℕ) → IsUtf8 text → 0 < at → at ≤ length text → AfterAscii text at → n ≡ cut_place Nothing (drop at text) → gap ≡ prefix_len is_gap (kinds_in Nothing (drop at text)) → length (drop at text) ≤ n → n ≤ length (drop at text)
    → AllByRecursion (IsSpan text) (statements_in at (drop at text))
last_sound text at n gap utf8 some within ascii e g past fits =
    let rest = drop at text in
    let long : length rest ≡ length text - at = length-drop at text in
    subst (AllByRecursion (IsSpan text)) (sym (part_ends at rest n gap e g (omega arith)))
    (part_sound text at n gap utf8 some within ascii fits g (end_between text (at + n) (omega (arith, long))))

spans_sound : (fuel : ℕ) (text : List ℕ) (at : ℕ) → IsUtf8 text → 0 < at → at ≤ length text → length text ≤ at + fuel → AfterAscii text at → AllByRecursion (IsSpan text) (statements_in at (drop at text))
spans_sound zero text at utf8 some within enough ascii =
    let rest = drop at text in
    let n = cut_place Nothing rest in
    let fits : n ≤ length rest = omega (arith, prefix_len-le-length (λ k. not (is_cut k)) (kinds_in Nothing rest), length-kinds Nothing rest) in
    last_sound text at n (prefix_len is_gap (kinds_in Nothing rest)) utf8 some within ascii refl refl (omega (arith, length-drop at text)) fits
spans_sound (suc fuel) text at utf8 some within enough ascii =
    let rest = drop at text in
    let n = cut_place Nothing rest in
    let gap = prefix_len is_gap (kinds_in Nothing rest) in
    let fits : n ≤ length rest = omega (arith, prefix_len-le-length (λ k. not (is_cut k)) (kinds_in Nothing rest), length-kinds Nothing rest) in
    elim (cases_lt n (length rest)) [
      | inl lt ↦ more_sound text at n gap utf8 some within ascii refl refl lt (λ next after in_text behind. spans_sound fuel text next utf8 (omega arith) in_text (omega arith) behind)
      | inr ge ↦ last_sound text at n gap utf8 some within ascii refl refl ge fits
    ]

pub statements_sound : (text : List ℕ) (at : ℕ) → IsUtf8 text → 0 < at → at ≤ length text → AfterAscii text at → All (IsSpan text) (statements_in at (drop at text))
statements_sound text at utf8 some within ascii = All-from_recursion (IsSpan text) (statements_in at (drop at text)) (spans_sound (length text) text at utf8 some within (omega arith) ascii)
