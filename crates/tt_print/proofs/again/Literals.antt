-- Literals are spelled by their words.
use Rattle.std.proofs.Common.{inl, inr, ◌≡◌, ℕ, suc, ◌+◌, ◌-◌, ◌^◌, ◌<◌, ◌≤◌, Bool, true, false, nat_le, nat_lt, ◌==◌, if◌then◌else◌, List, [], ◌∷◌, ◌++◌, length, take, Some, refl, sym, ap, subst, ◌∙◌, arith, codes}
use Rattle.std.specs.Prelude.{pos, negsuc, neg_ℤ, ℤ}
use Rattle.std.specs.Fmt.{decimal}
use Rattle.std.proofs.lemmas.Bool.{cases_lt, lt-ltb, le-leb, eq-eqb}
use Rattle.std.proofs.lemmas.List.{length-append}
use Rattle.std.proofs.Math.Seq.{take-append_seam}
use Rattle.std.proofs.lemmas.Int.{ints}
use Rattle.tt_lex.specs.declared.TokenKind.TheVariants as kinds
use Rattle.tt_value.specs.calendar.Calendar.{IsDay, day_text}
use Rattle.tt_value.specs.calendar.Reading.{digits_value, day_of}
use Rattle.tt_value.proofs.calendar.Dates.{day_of-written}
use Rattle.tt_value.specs.declared.value.Value.{Value}
use Rattle.tt_value.specs.declared.value.Value.TheVariants.{Null, Int, Date, Text}
use Rattle.tt_sql.specs.grammar.Grammar.{Lexeme, Way, At, Said, Meant, Tok, Note, Spells, token, note, both, is_of, nowhere}
use Rattle.tt_sql.specs.grammar.Written.{written_rule, literal, other_literal}
use Rattle.tt_sql.specs.grammar.Combinators.{placed, one, ◌▸◌, way, as_negative, as_date}
use Rattle.tt_sql.specs.grammar.TokenKinds.{NULL, MINUS, DATE, DATE_TEXT, SHORT_NUMBER, NUMBER, LEAST_NUMBER, is_negative, word_kind, sign_kind, number_kind, text_kind, lexeme, unquoted, undoubled, token_kind}
use Rattle.tt_print.specs.text.Words.{value_words, day_word, is_day}
use Rattle.tt_print.specs.again.Tokens.{IsToken, AreTokens}
use Rattle.tt_print.specs.again.Spelling.{IsSpelledBy}
use Rattle.tt_sql.specs.marks.Expressions.{value_marks}
use Rattle.tt_sql.specs.trees.Leaves.{IsWrittenValue}
use Rattle.tt_print.proofs.again.Spelling.{here, later, and_way}
use Rattle.tt_print.proofs.again.Tokens.{fixed_token, number_token, quoted_token, plain_token, nothing_plain, day_plain}
use Rattle.tt_print.proofs.again.Quoted.{decimal_means, number_lexeme, numbered, text_quoted}

null_spelled : (at : ℕ) → IsSpelledBy (placed NULL) at (codes "NULL" ∷ []) (At at ∷ [])
unfolding word_kind
null_spelled at = record { around = λ done K l ts d. both (token refl (note d)) }

-- ---- numbers below 0

least_or_more : (b c e : Bool) (x : ℕ) → (c ≡ false → e ≡ true) → is_of SHORT_NUMBER is_negative (if b then SHORT_NUMBER else (if c then NUMBER else (if e then LEAST_NUMBER else x))) ≡ true
least_or_more true c e x least = refl
least_or_more false true e x least = refl
least_or_more false false true x least = refl
least_or_more false false false x least = absurd (let clash : false ≡ true = least refl in cc)

negative_is : (digits : List ℕ) → digits_value digits ≤ 2 ^ 63 → is_of SHORT_NUMBER is_negative (number_kind digits) ≡ true
unfolding number_kind
negative_is digits less = least_or_more (nat_le (length digits) 9) (nat_lt (digits_value digits) (2 ^ 63)) (digits_value digits == 2 ^ 63) _ least
  where
    least : nat_lt (digits_value digits) (2 ^ 63) ≡ false → (digits_value digits == 2 ^ 63) ≡ true
    least none = elim (cases_lt (digits_value digits) (2 ^ 63)) [
      | inl under ↦ absurd (let clash : true ≡ false = sym (lt-ltb (digits_value digits) (2 ^ 63) under) ∙ none in cc)
      | inr over ↦ eq-eqb (digits_value digits) (2 ^ 63) (omega (arith, over, less))
    ]

-- a minus and a number
pub minus_number : (at m : ℕ) → m ≤ 2 ^ 63 → IsSpelledBy (one MINUS ▸ Tok SHORT_NUMBER is_negative ▸ Note as_negative ▸ way 1) at (codes "-" ∷ decimal m ∷ []) (Meant (neg_ℤ (pos m)) at ∷ Way 1 ∷ [])
unfolding sign_kind
minus_number at m less = record {
  around = λ done K l ts d.
      let fits : m < 2 ^ 64 = omega (arith, less) in
      let next = at + 1 + 1 in
      let minus = lexeme kinds.Sign (codes "-") at in
      let g = one MINUS ▸ Tok SHORT_NUMBER is_negative ▸ Note as_negative ▸ way 1 in
      let t : Lexeme = record { kind = number_kind (decimal m); place = next; text = decimal m } in
      let e : lexeme (token_kind (decimal m)) (decimal m) next ≡ t = number_lexeme next m fits in
      let known : is_of SHORT_NUMBER is_negative (number_kind (decimal m)) ≡ true = negative_is (decimal m) (subst (λ v. v ≤ 2 ^ 63) (sym (decimal_means m fits)) less) in
      let d' = subst (λ x. Spells written_rule false (x ∷ minus ∷ done) K l ts) e d in
      let read : Spells written_rule false done (g ∷ K) (Meant (neg_ℤ (pos (digits_value (decimal m)))) at ∷ Way 1 ∷ l) (minus ∷ t ∷ ts) = both (token refl (both (token known (both (note (note d')))))) in
      let meant : Spells written_rule false done (g ∷ K) (Meant (neg_ℤ (pos m)) at ∷ Way 1 ∷ l) (minus ∷ t ∷ ts) = subst (λ v. Spells written_rule false done (g ∷ K) (Meant (neg_ℤ (pos v)) at ∷ Way 1 ∷ l) (minus ∷ t ∷ ts)) (decimal_means m fits) read in
      subst (λ x. Spells written_rule false done (g ∷ K) (Meant (neg_ℤ (pos m)) at ∷ Way 1 ∷ l) (minus ∷ x ∷ ts)) (sym e) meant;
}

-- ---- dates

pub between_quotes : (inner : List ℕ) → unquoted (39 ∷ (inner ++ (39 ∷ []))) ≡ undoubled false inner
between_quotes inner =
    let long : length (39 ∷ (inner ++ (39 ∷ []))) - 2 ≡ length inner = omega (arith, length-append inner (39 ∷ [])) in
    ap (λ n. undoubled false (take n (inner ++ (39 ∷ [])))) long ∙ ap (undoubled false) (take-append_seam inner (39 ∷ []))

date_known : (text : List ℕ) (day : ℤ) → day_of text ≡ Some day → is_of DATE_TEXT nowhere (text_kind text) ≡ true
unfolding text_kind
date_known text day is = rw is refl

day_test : (day : ℤ) → IsDay day → is_day day ≡ true
day_test (pos n) is = le-leb n 2932896 (omega (arith, ints, is.1))
day_test (negsuc n) is = rw (le-leb n 719161 (omega (arith, ints, is.0))) refl

word_of_day : (day : ℤ) → IsDay day → day_word day ≡ 39 ∷ (day_text day ++ (39 ∷ []))
word_of_day day is = ap (λ b. 39 ∷ ((if b then day_text day else []) ++ (39 ∷ []))) (day_test day is)

dated : (at : ℕ) (day : ℤ) → IsDay day → IsSpelledBy (one DATE ▸ one DATE_TEXT ▸ Note as_date ▸ way 3) at (codes "DATE" ∷ day_word day ∷ []) (Said (day_text day) at ∷ Way 3 ∷ [])
unfolding word_kind
dated at day is = record {
  around = λ done K l ts d.
      let next = at + 4 + 1 in
      let text = day_text day in
      let word = lexeme kinds.Word (codes "DATE") at in
      let g = one DATE ▸ one DATE_TEXT ▸ Note as_date ▸ way 3 in
      let t : Lexeme = record { kind = text_kind text; place = next; text = text } in
      let bytes : unquoted (day_word day) ≡ text = ap unquoted (word_of_day day is) ∙ between_quotes text ∙ (day_plain day [] is nothing_plain).read in
      let e : lexeme kinds.Quoted (day_word day) next ≡ t = ap (λ x. record { kind = text_kind x; place = next; text = x }) bytes in
      let known : is_of DATE_TEXT nowhere (text_kind text) ≡ true = date_known text day (day_of-written day is) in
      let d' = subst (λ x. Spells written_rule false (x ∷ word ∷ done) K l ts) e d in
      subst (λ x. Spells written_rule false done (g ∷ K) (Said text at ∷ Way 3 ∷ l) (word ∷ x ∷ ts)) (sym e) (both (token refl (both (token known (both (note (note d')))))));
}

-- ---- literals

-- but a number without a minus
abbrev pub HasNoPlainNumber : Value → Type 0
HasNoPlainNumber (Int (pos n)) = ⊥
HasNoPlainNumber (Int (negsuc n)) = Unit {0}
HasNoPlainNumber Null = Unit {0}
HasNoPlainNumber (Date day) = Unit {0}
HasNoPlainNumber (Text bytes) = Unit {0}

pub other_spelled : (at : ℕ) (value : Value) → IsWrittenValue value → HasNoPlainNumber value → IsSpelledBy other_literal at (value_words value) (value_marks value at)
other_spelled at Null is other = here (and_way 0 (null_spelled at))
other_spelled at (Int (pos n)) is other = absurd other
other_spelled at (Int (negsuc n)) is other = later (here (minus_number at (suc n) is))
other_spelled at (Text bytes) is other = later (later (here (and_way 2 (text_quoted at bytes))))
other_spelled at (Date day) is other = later (later (later (dated at day is)))

pub literal_spelled : (at : ℕ) (value : Value) → IsWrittenValue value → IsSpelledBy literal at (value_words value) (value_marks value at)
literal_spelled at (Int (pos n)) is = here (and_way 1 (numbered at n is))
literal_spelled at (Int (negsuc n)) is = later (other_spelled at (Int (negsuc n)) is tt)
literal_spelled at Null is = later (other_spelled at Null is tt)
literal_spelled at (Text bytes) is = later (other_spelled at (Text bytes) is tt)
literal_spelled at (Date day) is = later (other_spelled at (Date day) is tt)

-- its words are tokens
pub value_tokens : (value : Value) → IsWrittenValue value → AreTokens (value_words value)
value_tokens Null is = (fixed_token (codes "NULL") refl, tt)
value_tokens (Int (pos n)) is = (number_token n (omega (arith, is)), tt)
value_tokens (Int (negsuc n)) is = (fixed_token (codes "-") refl, (number_token (suc n) (omega (arith, is)), tt))
value_tokens (Text bytes) is = (quoted_token bytes is, tt)
value_tokens (Date day) is =
    let quoted_day = plain_token (day_text day) (day_plain day [] is nothing_plain) (omega arith) in
    (fixed_token (codes "DATE") refl, (subst IsToken (sym (word_of_day day is)) quoted_day, tt))
