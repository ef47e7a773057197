-- Words that are looked up in a table, in any case.
use Rattle.std.proofs.Common.{◌≡◌, ℕ, zero, suc, ◌+◌, ◌<◌, ◌≤◌, Bool, true, false, ◌&&◌, ◌==◌, if◌then◌else◌, List, [], ◌∷◌, ◌++◌, map, drop, length, get_or, codes, bytes_eq, refl, sym, ap, ap₂, ◌∙◌, subst, arith, eqb-true, drop-cons, add-one}
use Rattle.std.specs.List.{list_all, list_any}
use Rattle.std.specs.Char.{to_ascii_uppercase, to_ascii_lowercase}
use Rattle.std.specs.Str.{str_eq_ignore_ascii_case}
use Rattle.std.proofs.lemmas.Bool.{and_parts, false≢true}
use Rattle.std.specs.Bool.{Decides}
use Rattle.std.proofs.lemmas.Bool.{lt-ltb}
use Rattle.std.proofs.lemmas.Bool.Decides.{nat_tests, same_from_decides}
use Rattle.std.proofs.lemmas.Slice.Eq.{bytes_eq-Decides}
use Rattle.std.proofs.lemmas.List.{get_or-map, length-map, drop_all}
use Rattle.tt_lex.specs.Lexis.{is_sign}
use Rattle.tt_lex.proofs.OneWay.{any_byte, any_bytes}
use Rattle.tt_sql.specs.grammar.TokenKinds.{NAME, OPEN, UNKNOWN, place_in, reserved_words, other_words, unit_words, signs, upper, word_kind, sign_kind}
use Rattle.tt_terminal.specs.KindNumbers.{kind_number}
use Rattle.tt_sql.specs.marks.Statements.{unit_number}
use Rattle.tt_sql.specs.declared.statement.TimeUnit.{TimeUnit}
use Rattle.tt_parse.specs.Tables.{Entry, Stands, IsUnit, words_of, is_upper}

-- ---- words in any case

same_byte : (b c : ℕ) → to_ascii_uppercase c ≡ c → (to_ascii_lowercase b == to_ascii_lowercase c) ≡ (c == to_ascii_uppercase b)
same_byte b c e = grind (arith, nat_tests)

pub same_word : (word other : List ℕ) → is_upper other ≡ true → str_eq_ignore_ascii_case word other ≡ bytes_eq other (upper word)
same_word [] [] e = refl
same_word [] (c ∷ other) e = refl
same_word (b ∷ word) [] e = refl
same_word (b ∷ word) (c ∷ other) e =
    let p = and_parts (to_ascii_uppercase c == c) (is_upper other) e in
    ap₂ (λ (x y : Bool). x && y) (same_byte b c (eqb-true (to_ascii_uppercase c) c p.0)) (same_word word other p.1)

-- whether two words are alike in any case
abbrev pub AreAlike : Bool → List ℕ → List ℕ → Type 0
AreAlike b word other = Decides b (map to_ascii_lowercase word ≡ map to_ascii_lowercase other)

pub tells : (word other : List ℕ) (b : Bool) → is_upper other ≡ true → AreAlike b word other → b ≡ bytes_eq other (upper word)
tells word other b e d = same_from_decides b (str_eq_ignore_ascii_case word other) d (bytes_eq-Decides (map to_ascii_lowercase word) (map to_ascii_lowercase other)) ∙ same_word word other e

-- ---- the place of a word

place_step : (b : Bool) (first : List ℕ) (words : List (List ℕ)) (word : List ℕ) → bytes_eq first word ≡ b → place_in (first ∷ words) word ≡ if b then 0 else 1 + place_in words word
place_step b first words word e = ap (λ (x : Bool). if x then 0 else 1 + place_in words word) e

place_at : (words : List (List ℕ)) (word : List ℕ) (i : ℕ) (b : Bool) → i < length words → bytes_eq (get_or words i []) word ≡ b → place_in (drop i words) word ≡ if b then 0 else 1 + place_in (drop (i + 1) words) word
place_at words word i b h e =
    let parts : drop i words ≡ get_or words i [] ∷ drop (suc i) words = drop-cons words i [] h in
    rw add-one (ap (λ (x : List (List ℕ)). place_in x word) parts ∙ place_step b (get_or words i []) (drop (suc i) words) word e)

-- so far the word has not stood in the table
abbrev pub NotAbove : List Entry → List ℕ → ℕ → Type 0
NotAbove table word i = place_in (words_of table) (upper word) ≡ i + place_in (drop i (words_of table)) (upper word)

word_there : (table : List Entry) (i : ℕ) (d : Entry) → i < length table → get_or (words_of table) i [] ≡ (get_or table i d).0.now
word_there table i d h = get_or-map (λ (e : Entry). e.0.now) table i d [] h

upper_there : (words : List (List ℕ)) (i : ℕ) → i < length words → list_all is_upper words ≡ true → is_upper (get_or words i []) ≡ true
upper_there [] i h e = absurd (omega arith)
upper_there (w ∷ words) zero h e = (and_parts (is_upper w) (list_all is_upper words) e).0
upper_there (w ∷ words) (suc i) h e = upper_there words i (omega arith) (and_parts (is_upper w) (list_all is_upper words) e).1

module _ (table : List Entry) (word : List ℕ) (i : ℕ) (d : Entry) (h : i < length table) (uppers : list_all is_upper (words_of table) ≡ true) where
  inside : i < length (words_of table)
  inside = let p : length (words_of table) ≡ length table = length-map table (λ (e : Entry). e.0.now) in omega (arith, p)

  tested : (b : Bool) → AreAlike b word (get_or table i d).0.now → bytes_eq (get_or (words_of table) i []) (upper word) ≡ b
  tested b e =
      let there = word_there table i d h in
      let p = upper_there (words_of table) i inside uppers in
      ap (λ (x : List ℕ). bytes_eq x (upper word)) there ∙ sym (tells word (get_or table i d).0.now b (subst (λ (x : List ℕ). is_upper x ≡ true) there p) e)

  -- it does not stand at this place
  pub not_here : NotAbove table word i → AreAlike false word (get_or table i d).0.now → NotAbove table word (i + 1)
  not_here so_far e =
      let p : place_in (drop i (words_of table)) (upper word) ≡ 1 + place_in (drop (i + 1) (words_of table)) (upper word) = place_at (words_of table) (upper word) i false inside (tested false e) in
      omega (arith, so_far, p)

  -- it does
  pub here : NotAbove table word i → AreAlike true word (get_or table i d).0.now → Stands table (place_in (words_of table) (upper word)) (get_or table i d).1
  here so_far e =
      let p : place_in (drop i (words_of table)) (upper word) ≡ 0 = place_at (words_of table) (upper word) i true inside (tested true e) in
      let at : place_in (words_of table) (upper word) ≡ i = omega (arith, so_far, p) in
      rw at (record { within = h; number_is = sym (get_or-map (λ (e : Entry). kind_number e.1) table i d 0 h) })

-- it stands nowhere
pub nowhere_in : (table : List Entry) (word : List ℕ) (i : ℕ) → length table ≤ i → i ≤ length table → NotAbove table word i → place_in (words_of table) (upper word) ≡ length table
nowhere_in table word i low high so_far =
    let l : length (words_of table) ≡ length table = length-map table (λ (e : Entry). e.0.now) in
    let none : drop i (words_of table) ≡ [] = drop_all i (words_of table) (omega (arith, l)) in
    let p : place_in (drop i (words_of table)) (upper word) ≡ 0 = ap (λ (x : List (List ℕ)). place_in x (upper word)) none in
    omega (arith, so_far, p)

-- ---- numbers in order

abbrev pub numbers_from : ℕ → ℕ → List ℕ
numbers_from n zero = []
numbers_from n (suc k) = n ∷ numbers_from (suc n) k

pub number_at : (n k i : ℕ) → i < k → get_or (numbers_from n k) i 0 ≡ n + i
number_at n zero i h = absurd (omega arith)
number_at n (suc k) zero h = omega arith
number_at n (suc k) (suc i) h = let p = number_at (suc n) k i (omega arith) in omega (arith, p)

-- ---- words and signs

pub word_stands : (word : List ℕ) (n : ℕ) → place_in (reserved_words ++ other_words) word < NAME → n ≡ get_or (numbers_from 0 NAME) (place_in (reserved_words ++ other_words) word) 0 → n ≡ word_kind word
unfolding word_kind
word_stands word n h e =
    let place : n ≡ place_in (reserved_words ++ other_words) word = omega (arith, e, number_at 0 NAME (place_in (reserved_words ++ other_words) word) h) in
    rw (lt-ltb (place_in (reserved_words ++ other_words) word) NAME h) place

is_plain : List ℕ → Bool
is_plain sign = bytes_eq (upper sign) sign

is_plain_byte : ℕ → Bool
is_plain_byte b = is_plain (b ∷ [])

all_plain : (sign : List ℕ) → is_sign sign ≡ true → is_plain sign ≡ true
unfolding is_plain is_plain_byte
all_plain [] e = refl
all_plain (a ∷ []) e = any_byte is_plain_byte a (codes "(),.;*+-=<>") e refl
all_plain (a ∷ b ∷ []) e = any_bytes is_plain (a ∷ b ∷ []) (codes "<>" ∷ codes "!=" ∷ codes "<=" ∷ codes ">=" ∷ codes "=>" ∷ codes "::" ∷ []) e refl
all_plain (a ∷ b ∷ c ∷ sign) e = absurd (false≢true e)

pub sign_upper : (sign : List ℕ) → is_sign sign ≡ true → upper sign ≡ sign
unfolding is_plain
sign_upper sign e = (bytes_eq-Decides (upper sign) sign).0 (all_plain sign e)

pub sign_stands : (sign : List ℕ) (n : ℕ) → is_sign sign ≡ true → bytes_eq sign (codes "!=") ≡ false → place_in signs (upper sign) < 16 → n ≡ get_or (numbers_from OPEN 16) (place_in signs (upper sign)) 0 → n ≡ sign_kind sign
unfolding sign_kind
sign_stands sign n is other h e = rw other (e ∙ number_at OPEN 16 (place_in signs (upper sign)) h ∙ ap (λ (x : List ℕ). OPEN + place_in signs x) (sign_upper sign is))

pub sign_unknown : (sign : List ℕ) → is_sign sign ≡ true → bytes_eq sign (codes "!=") ≡ false → place_in signs (upper sign) ≡ 16 → UNKNOWN ≡ sign_kind sign
unfolding sign_kind
sign_unknown sign is other e = rw other (ap (λ (k : ℕ). OPEN + k) (sym e) ∙ ap (λ (x : List ℕ). OPEN + place_in signs x) (sign_upper sign is))

-- ---- units of time

flip : (b : Bool) (xs ys : List ℕ) → Decides b (ys ≡ xs) → Decides b (xs ≡ ys)
flip b xs ys d = (λ e. sym (d.0 e), λ p. d.1 (sym p))

pub unit_apart : (word other : List ℕ) → is_upper other ≡ true → AreAlike false word other → bytes_eq (upper word) other ≡ false
unit_apart word other e d =
    same_from_decides (bytes_eq (upper word) other) (bytes_eq other (upper word)) (bytes_eq-Decides (upper word) other) (flip (bytes_eq other (upper word)) (upper word) other (bytes_eq-Decides other (upper word)))
    ∙ sym (tells word other false e d)

pub unit_there : (word other : List ℕ) (u : TimeUnit) → is_upper other ≡ true → list_any (bytes_eq other) unit_words ≡ true → unit_number u ≡ place_in unit_words other → AreAlike true word other → IsUnit word u
unit_there word other u e named place d =
    let same : other ≡ upper word = (bytes_eq-Decides other (upper word)).0 (sym (tells word other true e d)) in
    record { named = subst (λ (x : List ℕ). list_any (bytes_eq x) unit_words ≡ true) same named; place_is = place ∙ ap (place_in unit_words) same }
