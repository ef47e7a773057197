-- What is known of the tokens that are numbers.
use Rattle.std.proofs.Common.{◌≡◌, ℕ, ℤ, ◌+◌, ◌-◌, ◌*◌, ◌^◌, ◌<◌, ◌≤◌, Bool, true, false, ◌==◌, nat_le, nat_lt, List, [], ◌∷◌, ◌++◌, length, fold, Some, if◌then◌else◌, refl, sym, ap, ◌∙◌, subst, arith, true≢false}
use Rattle.std.specs.List.{list_all}
use Rattle.std.specs.Char.{is_ascii_digit}
use Rattle.std.proofs.lemmas.Bool.{and_parts}
use Rattle.std.proofs.lemmas.Bool.Decides.{nat_tests}
use Rattle.std.proofs.Math.Nat.{mul-le-mul_right, pow-succ', pow-le-pow_right}
use Rattle.tt_lex.specs.declared.TokenKind.{TokenKind}
use Rattle.tt_lex.specs.declared.TokenKind.TheVariants as kinds
use Rattle.tt_lex.specs.Lexis.{Piece, Word, Number, Quoted, Sign, Blank, LineComment, BlockComment, text_of, IsPiece, kind_of, spelling}
use Rattle.tt_sql.specs.grammar.Grammar.{is_of, Meant, Lexeme, Note}
use Rattle.tt_sql.proofs.grammar.Fronts.{false≢true, and_join}
use Rattle.tt_sql.specs.grammar.Combinators.{number, short_number, as_number, as_negative}
use Rattle.tt_sql.specs.machine.Factored.{negative}
use Rattle.tt_sql.specs.marks.Expressions.{number_marks}
use Rattle.tt_sql.specs.grammar.TokenKinds.{NAME, LONG_NAME, SHORT_NUMBER, NUMBER, LEAST_NUMBER, LARGE_NUMBER, DATE_TEXT, TIME_TEXT, UNIT_TEXT, NAME_TEXT, OTHER_TEXT, OPEN, UNEQUAL, is_number, is_negative, upper, word_kind, number_kind, text_kind, sign_kind, lexeme, unquoted, place_in, reserved_words, other_words}
use Rattle.tt_value.specs.calendar.Reading.{digits_value as number_of}
use Rattle.tt_value.specs.declared.name.Number.{Number as Value}
use Rattle.tt_terminal.specs.declared.rest.Lexed.{Lexed}
use Rattle.tt_terminal.specs.declared.rest.Rest.{Rest}
use Rattle.tt_terminal.specs.KindNumbers.{kind_number}
use Rattle.tt_terminal.specs.Reading.{IsOf, IsNumber, IsNegative, IsWord, Passes, seen_as}
use Rattle.tt_terminal.proofs.Steps.{passes_token, passes_noted, takes_kind, word_kind_is}

-- ---- only numbers have these kinds

low : (k : ℕ) → k < 82 → is_of SHORT_NUMBER is_negative k ≡ false
low k h = grind (arith, nat_tests)

high : (k : ℕ) → 85 ≤ k → is_of SHORT_NUMBER is_negative k ≡ false
high k h = grind (arith, nat_tests)

below : (n m : ℕ) → nat_lt n m ≡ true → n < m
below n m e = grind (arith, nat_tests)

at_most : (n m : ℕ) → nat_le n m ≡ true → n ≤ m
at_most n m e = grind (arith, nat_tests)

equal : (n m : ℕ) → (n == m) ≡ true → n ≡ m
equal n m e = grind (arith, nat_tests)

word_no_number : (b c : Bool) (place : ℕ) → nat_lt place NAME ≡ b → is_of SHORT_NUMBER is_negative (if b then place else (if c then NAME else LONG_NAME)) ≡ false
word_no_number true c place e = let p = below place NAME e in low place (omega arith)
word_no_number false true place e = refl
word_no_number false false place e = refl

text_no_number : (a b c d : Bool) → is_of SHORT_NUMBER is_negative (if a then DATE_TEXT else (if b then TIME_TEXT else (if c then UNIT_TEXT else (if d then NAME_TEXT else OTHER_TEXT)))) ≡ false
text_no_number true b c d = refl
text_no_number false true c d = refl
text_no_number false false true d = refl
text_no_number false false false true = refl
text_no_number false false false false = refl

sign_no_number : (a : Bool) (n : ℕ) → is_of SHORT_NUMBER is_negative (if a then UNEQUAL else OPEN + n) ≡ false
sign_no_number true n = refl
sign_no_number false n = high (OPEN + n) (omega arith)

number_is_digits : (k : TokenKind) (bytes : List ℕ) (place : ℕ) → is_of SHORT_NUMBER is_negative (lexeme k bytes place).kind ≡ true → k ≡ kinds.Number
unfolding word_kind text_kind sign_kind
number_is_digits kinds.Number bytes place e = refl
number_is_digits kinds.Word bytes place e = absurd (true≢false (sym e ∙ word_no_number (nat_lt (place_in (reserved_words ++ other_words) (upper bytes)) NAME) (nat_le (length (upper bytes)) 64) (place_in (reserved_words ++ other_words) (upper bytes)) refl))
number_is_digits kinds.Quoted bytes place e = let p : is_of SHORT_NUMBER is_negative (text_kind (unquoted bytes)) ≡ false = search text_no_number in absurd (true≢false (sym e ∙ p))
number_is_digits kinds.Sign bytes place e = let p : is_of SHORT_NUMBER is_negative (sign_kind bytes) ≡ false = search sign_no_number in absurd (true≢false (sym e ∙ p))

-- ---- how large a number is

digit_small : (d : ℕ) → is_ascii_digit d ≡ true → d - 48 ≤ 9
digit_small d e = grind (arith, nat_tests)

bounded_step : (n d p : ℕ) → d ≤ 9 → (10 * n + d + 1) * p ≤ (n + 1) * (10 * p)
bounded_step n d p h = let q : (10 * n + d + 1) * p ≤ (10 * (n + 1)) * p = mul-le-mul_right p (omega arith) in omega arith

bounded : (n : ℕ) (digits : List ℕ) → list_all is_ascii_digit digits ≡ true → fold (λ n digit. 10 * n + (digit - 48)) n digits + 1 ≤ (n + 1) * 10 ^ length digits
bounded n [] e = omega arith
bounded n (d ∷ digits) e =
    let p = and_parts (is_ascii_digit d) (list_all is_ascii_digit digits) e in
    let q = bounded (10 * n + (d - 48)) digits p.1 in
    let r = bounded_step n (d - 48) (10 ^ length digits) (digit_small d p.0) in
    rw (pow-succ' 10 (length digits)) (omega arith)

short_small : (digits : List ℕ) → list_all is_ascii_digit digits ≡ true → length digits ≤ 9 → number_of digits < 2 ^ 63
short_small digits e h =
    let p = bounded 0 digits e in
    let q : 10 ^ length digits ≤ 10 ^ 9 = pow-le-pow_right (omega arith) h in
    omega arith

-- behind a minus
negative_small : (b c d : Bool) (n m : ℕ) → nat_le n 9 ≡ b → nat_lt m (2 ^ 63) ≡ c → (m == 2 ^ 63) ≡ d → (n ≤ 9 → m < 2 ^ 63) → is_of SHORT_NUMBER is_negative (if b then SHORT_NUMBER else (if c then NUMBER else (if d then LEAST_NUMBER else LARGE_NUMBER))) ≡ true → m ≤ 2 ^ 63
negative_small true c d n m p q r small e = let s = small (at_most n 9 p) in omega arith
negative_small false true d n m p q r small e = let s = below m (2 ^ 63) q in omega arith
negative_small false false true n m p q r small e = let s = equal m (2 ^ 63) r in omega arith
negative_small false false false n m p q r small e = absurd (false≢true e)

positive_small : (b c d : Bool) (n m : ℕ) → nat_le n 9 ≡ b → nat_lt m (2 ^ 63) ≡ c → (n ≤ 9 → m < 2 ^ 63) → is_of SHORT_NUMBER is_number (if b then SHORT_NUMBER else (if c then NUMBER else (if d then LEAST_NUMBER else LARGE_NUMBER))) ≡ true → m < 2 ^ 63
positive_small true c d n m p q small e = small (at_most n 9 p)
positive_small false true d n m p q small e = below m (2 ^ 63) q
positive_small false false true n m p q small e = absurd (false≢true e)
positive_small false false false n m p q small e = absurd (false≢true e)

number_piece : (piece : Piece) → kind_of piece ≡ Some kinds.Number → IsPiece piece → list_all is_ascii_digit (spelling piece) ≡ true
number_piece (Number []) e p = absurd p
number_piece (Number (b ∷ bytes)) e p = and_join (is_ascii_digit b) (list_all is_ascii_digit bytes) p.0 p.1
number_piece (Blank b) e p = cc
number_piece (LineComment body) e p = cc
number_piece (BlockComment body) e p = cc
number_piece (Word bytes) e p = cc
number_piece (Quoted text) e p = cc
number_piece (Sign bytes) e p = cc

positive : (k : ℕ) → is_of SHORT_NUMBER is_number k ≡ true → is_of SHORT_NUMBER is_negative k ≡ true
positive k e = grind (arith, nat_tests)

module _ (text : List ℕ) (l : Lexed) (is : IsOf text l) (e : is_of SHORT_NUMBER is_negative (kind_number l.kind) ≡ true) where
  pub number_token : l.token.kind ≡ kinds.Number
  number_token = number_is_digits l.token.kind (text_of text l.token) l.token.start (subst (λ x. is_of SHORT_NUMBER is_negative x ≡ true) is.right e)

  pub number_digits : list_all is_ascii_digit (text_of text l.token) ≡ true
  number_digits = rw is.spelled.text_is (number_piece is.spelled.piece (is.spelled.kind_is ∙ ap (λ (x : TokenKind). Some x) number_token) is.spelled.right)

  pub number_says : (seen_as text l).text ≡ text_of text l.token
  number_says = ap (λ k. (lexeme k (text_of text l.token) l.token.start).text) number_token

  pub number_kind_is : kind_number l.kind ≡ number_kind (text_of text l.token)
  number_kind_is = is.right ∙ ap (λ k. (lexeme k (text_of text l.token) l.token.start).kind) number_token

  pub negative_few : number_of (text_of text l.token) ≤ 2 ^ 63
  unfolding number_kind
  negative_few = negative_small (nat_le (length (text_of text l.token)) 9) (nat_lt (number_of (text_of text l.token)) (2 ^ 63)) (number_of (text_of text l.token) == 2 ^ 63) (length (text_of text l.token)) (number_of (text_of text l.token)) refl refl refl
      (short_small (text_of text l.token) number_digits) (subst (λ x. is_of SHORT_NUMBER is_negative x ≡ true) number_kind_is e)

  pub number_few : is_of SHORT_NUMBER is_number (kind_number l.kind) ≡ true → number_of (text_of text l.token) < 2 ^ 63
  unfolding number_kind
  number_few f = positive_small (nat_le (length (text_of text l.token)) 9) (nat_lt (number_of (text_of text l.token)) (2 ^ 63)) (number_of (text_of text l.token) == 2 ^ 63) (length (text_of text l.token)) (number_of (text_of text l.token)) refl refl
      (short_small (text_of text l.token) number_digits) (subst (λ x. is_of SHORT_NUMBER is_number x ≡ true) number_kind_is f)

pub number_is_negative : (k : ℕ) → is_of SHORT_NUMBER is_number k ≡ true → is_of SHORT_NUMBER is_negative k ≡ true
number_is_negative k e = positive k e

-- a number, as a part of a grammar
pub passes_number : {before : List Lexeme} {r : Rest} {n : Value} {s : Rest} → IsNumber r n s → Passes before number r (number_marks n) s
passes_number {before = before} {r = r} {n = n} {s = s} is = passes_token is.takes is.kind
    (subst (λ x. Passes (seen_as r.text.now is.first ∷ before) (Note as_number) s x s) (rw (is.value_is, is.place_is) refl)
    (passes_noted is.takes.known (λ done. refl)))

-- a number of few digits
pub passes_short : {before : List Lexeme} {r : Rest} {n : Value} {s u : Rest} → IsWord SHORT_NUMBER r u → IsNumber r n s → Passes before short_number r (number_marks n) s
passes_short {before = before} {r = r} {n = n} {s = s} w is =
    passes_token is.takes (rw (sym (takes_kind is.takes) ∙ word_kind_is w) refl)
    (subst (λ x. Passes (seen_as r.text.now is.first ∷ before) (Note as_number) s x s) (rw (is.value_is, is.place_is) refl)
    (passes_noted is.takes.known (λ done. refl)))

-- a number behind a minus, with the minus in front
pub passes_negative : {before : List Lexeme} {minus : Lexeme} {r : Rest} {v : ℤ} {s : Rest} → IsNegative r v s → Passes (minus ∷ before) negative r (Meant v minus.place ∷ []) s
passes_negative {before = before} {minus = minus} {r = r} {v = v} {s = s} is = passes_token is.takes is.kind
    (subst (λ x. Passes (seen_as r.text.now is.first ∷ minus ∷ before) (Note as_negative) s (Meant x minus.place ∷ []) s) (sym is.value_is)
    (passes_noted is.takes.known (λ done. refl)))
