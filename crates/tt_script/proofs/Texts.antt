-- Lines of a text, one after the other, as the loops go over them.
use Rattle.std.proofs.Common.{◌≡◌, ℕ, suc, ◌+◌, ◌<◌, Bool, true, false, cond, ◌&&◌, ◌||◌, not, eqb, ltb, List, [], ◌∷◌, ◌++◌, length, take, drop, min, codes, Option, Some, None, refl, sym, ap, subst, ◌∙◌, arith, inl, inr}
use Rattle.std.specs.List.{list_all, onto_first, position, position_or_len}
use Rattle.std.specs.Str.{IsUtf8, is_utf8}
use Rattle.std.proofs.lemmas.Bool.{cases_Bool, cases_lt, lt-ltb}
use Rattle.std.proofs.lemmas.Bool.Decides.{nat_tests}
use Rattle.std.proofs.lemmas.Option.{cond_some}
use Rattle.std.proofs.lemmas.Str.{is_utf8-from_IsUtf8, IsUtf8-append, IsUtf8-nil, IsUtf8-from_is_utf8}
use Rattle.std.specs.Prelude.{nat_eq, is_ok, MatchResult, Result, Ok, Err}
use Rattle.std.specs.Cmp.Lexicographic.{pointwise}
use Rattle.tt_script.specs.Bytes.{is_white, is_line_feed}
use Rattle.tt_script.specs.Lines.{lines_of, is_faulty, first_faulty, begins_session, is_session_name, session_on, only_if, is_directive, may_stand}

-- ---- the first line

abbrev pub first_length : List ℕ → ℕ
first_length bytes = min (length bytes) (position_or_len is_line_feed bytes + 1)

feed_first : (byte : ℕ) (bytes : List ℕ) (n : ℕ) → is_line_feed byte ≡ true → n ≡ first_length (byte ∷ bytes) → n ≡ 1
feed_first byte bytes n feed e = let f : n ≡ min (suc (length bytes)) 1 = e ∙ rw feed refl in omega arith

byte_alone : (byte n : ℕ) → is_line_feed byte ≡ false → n ≡ first_length (byte ∷ []) → n ≡ 1
byte_alone byte n other e = let f : n ≡ min 1 2 = e ∙ rw other refl in omega arith

byte_first : (byte : ℕ) (bytes : List ℕ) (n : ℕ) → is_line_feed byte ≡ false → n ≡ first_length (byte ∷ bytes) → n ≡ suc (first_length bytes)
byte_first byte bytes n other e = let f : n ≡ min (suc (length bytes)) (1 + position_or_len is_line_feed bytes + 1) = e ∙ rw other refl in omega arith

pub split_first : (byte : ℕ) (bytes : List ℕ) (n : ℕ) → n ≡ first_length (byte ∷ bytes) → lines_of (byte ∷ bytes) ≡ take n (byte ∷ bytes) ∷ lines_of (drop n (byte ∷ bytes))
split_first byte [] n e = elim (cases_Bool (is_line_feed byte)) [
  | inl feed ↦ rw (feed, feed_first byte [] n feed e) refl
  | inr other ↦ rw (other, byte_alone byte n other e) refl
]
split_first byte (next ∷ bytes) n e =
    let more = split_first next bytes (first_length (next ∷ bytes)) refl in
    elim (cases_Bool (is_line_feed byte)) [
      | inl feed ↦ rw (feed, feed_first byte (next ∷ bytes) n feed e) refl
      | inr other ↦ rw (other, byte_first byte (next ∷ bytes) n other e) (ap (onto_first byte) more)
    ]

-- where the first line ends, by its line feed
pub first_length_some : (bytes : List ℕ) (place : ℕ) → position is_line_feed bytes ≡ Some place → place + 1 ≡ first_length bytes
first_length_some bytes place e =
    let here = cond_some (ltb (position_or_len is_line_feed bytes) (length bytes)) (position_or_len is_line_feed bytes) place e in
    let within : position_or_len is_line_feed bytes < length bytes = below here.0 in
    omega (arith, here.1)
  where
    below : {m n : ℕ} → ltb m n ≡ true → m < n
    below h = grind (arith, nat_tests)

pub first_length_none : (bytes : List ℕ) → position is_line_feed bytes ≡ None → length bytes ≡ first_length bytes
first_length_none bytes e = elim (cases_lt (position_or_len is_line_feed bytes) (length bytes)) [
  | inl within ↦ absurd (let f : Some (position_or_len is_line_feed bytes) ≡ None = rw (lt-ltb _ _ within) at e in cc)
  | inr past ↦ omega arith
]

pub split_any : (bytes : List ℕ) (n : ℕ) → (bytes ≡ [] → ⊥) → n ≡ first_length bytes → lines_of bytes ≡ take n bytes ∷ lines_of (drop n bytes)
split_any [] n some e = absurd (some refl)
split_any (byte ∷ bytes) n some e = split_first byte bytes n e

pub same_split : (bytes line behind : List ℕ) (n : ℕ) → eqb (length bytes) 0 ≡ false → n ≡ first_length bytes → line ≡ take n bytes → behind ≡ drop n bytes → lines_of bytes ≡ line ∷ lines_of behind
same_split bytes line behind n some e front back =
    let nonempty : (bytes ≡ [] → ⊥) = λ h. (let f : true ≡ false = rw h at some in absurd cc) in
    rw (front, back) (split_any bytes n nonempty e)

-- ---- the lines make up the text

joined : List (List ℕ) → List ℕ
joined [] = []
joined (line ∷ lines) = line ++ joined lines

joined_onto : (byte : ℕ) (lines : List (List ℕ)) → joined (onto_first byte lines) ≡ byte ∷ joined lines
unfolding joined
joined_onto byte [] = refl
joined_onto byte (line ∷ lines) = refl

joined_lines : (bytes : List ℕ) → joined (lines_of bytes) ≡ bytes
unfolding joined
joined_lines [] = refl
joined_lines (byte ∷ bytes) =
    let more = joined_lines bytes in
    elim (cases_Bool (is_line_feed byte)) [
      | inl feed ↦ rw feed (ap (λ l. byte ∷ l) more)
      | inr other ↦ rw other (joined_onto byte (lines_of bytes) ∙ ap (λ l. byte ∷ l) more)
    ]

-- ---- faulty lines

-- the test of a line's bytes
pub utf8_tested : {A E : Type 0} (r : Result A E) (bytes : List ℕ) (P : A → Type 0) (Q : E → Type 0) → MatchResult r (λ s. P s × IsUtf8 bytes) (λ e. ¬ (IsUtf8 bytes) × Q e) → is_ok r ≡ is_utf8 bytes
utf8_tested (Ok x) bytes P Q h = sym (is_utf8-from_IsUtf8 bytes h.1)
utf8_tested (Err e) bytes P Q h = elim (cases_Bool (is_utf8 bytes)) [
  | inl text ↦ absurd (h.0 (IsUtf8-from_is_utf8 bytes text))
  | inr other ↦ sym other
]

pub faulty_here : (rest line behind : List ℕ) (begun : Bool) (at : ℕ) (total : Option ℕ) → lines_of rest ≡ line ∷ lines_of behind → is_faulty begun at line ≡ true → first_faulty begun at (lines_of rest) ≡ total → Some at ≡ total
unfolding first_faulty
faulty_here rest line behind begun at total e faulty so_far = let f : cond true (Some at) (first_faulty (begun || begins_session line) (at + length line) (lines_of behind)) ≡ total = rw (e, faulty) at so_far in f

pub faulty_later : (rest line behind : List ℕ) (begun : Bool) (at : ℕ) (total : Option ℕ) → lines_of rest ≡ line ∷ lines_of behind → is_faulty begun at line ≡ false → first_faulty begun at (lines_of rest) ≡ total → first_faulty (begun || begins_session line) (at + length line) (lines_of behind) ≡ total
unfolding first_faulty
faulty_later rest line behind begun at total e right so_far = rw (e, right) at so_far

pub faulty_none : (rest : List ℕ) (begun : Bool) (at : ℕ) (total : Option ℕ) → rest ≡ [] → first_faulty begun at (lines_of rest) ≡ total → None ≡ total
unfolding first_faulty
faulty_none rest begun at total e so_far = rw e at so_far

-- a text in whose lines none is faulty is UTF-8
right_utf8 : (begun : Bool) (at : ℕ) (line : List ℕ) → is_faulty begun at line ≡ false → is_utf8 line ≡ true
unfolding is_faulty
right_utf8 begun at line right = by (is_utf8 line) (cond (is_directive line) (not (may_stand begun at line)) (not (begun || list_all is_white line))) right
  where
    by : (b other : Bool) → (not b || other) ≡ false → b ≡ true
    by true other h = refl
    by false other h = absurd cc

utf8_lines : (begun : Bool) (at : ℕ) (lines : List (List ℕ)) → first_faulty begun at lines ≡ None → IsUtf8 (joined lines)
unfolding first_faulty joined
utf8_lines begun at [] e = IsUtf8-nil
utf8_lines begun at (line ∷ lines) e = elim (cases_Bool (is_faulty begun at line)) [
  | inl faulty ↦ absurd (let f : Some at ≡ None = rw faulty at e in cc)
  | inr right ↦ IsUtf8-append line (joined lines) (IsUtf8-from_is_utf8 line (right_utf8 begun at line right)) (utf8_lines (begun || begins_session line) (at + length line) lines (rw right at e))
]

pub utf8_text : (bytes : List ℕ) → first_faulty false 0 (lines_of bytes) ≡ None → IsUtf8 bytes
utf8_text bytes e = subst IsUtf8 (joined_lines bytes) (utf8_lines false 0 (lines_of bytes) e)

-- ---- the session

pub session_named : (text name : List ℕ) → session_on text ≡ Some name → is_session_name name ≡ true
unfolding session_on
session_named text name e = by (pointwise nat_eq (take 9 text) (codes "%session ")) (is_session_name (drop 9 text)) (drop 9 text) refl e
  where
    by : (word right : Bool) (behind : List ℕ) → right ≡ is_session_name behind → only_if (word && right) behind ≡ Some name → is_session_name name ≡ true
    by true true behind r e = let f : behind ≡ name = cc in subst (λ (n : List ℕ). is_session_name n ≡ true) f (sym r)
    by true false behind r e = absurd cc
    by false right behind r e = absurd cc
