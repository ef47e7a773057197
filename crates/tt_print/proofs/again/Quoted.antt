-- Numbers and quoted texts are spelled by their words.
use Rattle.std.proofs.Common.{inl, inr, ◌≡◌, ℕ, ◌+◌, ◌-◌, ◌*◌, ◌^◌, ◌<◌, Bool, true, false, nat_le, nat_lt, ◌==◌, if◌then◌else◌, List, [], ◌∷◌, ◌++◌, length, take, refl, sym, ap, subst, ◌∙◌, arith}
use Rattle.std.specs.Prelude.{pos, fold, is_some, ◌&&◌, bytes_eq}
use Rattle.std.specs.Fmt.{decimal}
use Rattle.std.specs.Str.{all_ascii_digits}
use Rattle.std.specs.List.{list_any}
use Rattle.std.specs.Char.{is_ascii_digit}
use Rattle.std.proofs.lemmas.Bool.{cases_Bool, and_parts, lt-ltb, eqb-true}
use Rattle.std.proofs.lemmas.Fmt.{decimal_nonempty, digits_decimal, digits_value-decimal}
use Rattle.std.proofs.lemmas.Str.Parse.{IsNumeralModel, FoldsDigits, numerals_by_fold, tells_all_ascii_digits}
use Rattle.std.proofs.lemmas.List.{length-append}
use Rattle.std.proofs.Math.Seq.{take-append_seam}
use Rattle.tt_lex.specs.declared.TokenKind.TheVariants as kinds
use Rattle.tt_value.specs.calendar.Reading.{digits_value, day_of, timestamp_of}
use Rattle.tt_value.specs.values.RowText.{quotes_doubled}
use Rattle.tt_sql.specs.grammar.Grammar.{Lexeme, Way, Said, Meant, Tok, Note, Both, Spells, token, note, both, right, is_of}
use Rattle.tt_sql.specs.grammar.Written.{written_rule, name_and_number, only_number}
use Rattle.tt_sql.specs.grammar.Combinators.{◌▸◌, ◌∣◌, one, number, quoted as quoted_part, as_number}
use Rattle.tt_sql.specs.grammar.TokenKinds.{BY, CLUSTER, OPEN, CLOSE, NAME, upper, unit_words, is_word, is_name, word_kind, SHORT_NUMBER, NUMBER, OTHER_TEXT, is_number, is_quoted, number_kind, text_kind, lexeme, unquoted, undoubled, token_kind}
use Rattle.tt_print.specs.text.Words.{quoted}
use Rattle.tt_print.specs.again.Spelling.{IsSpelledBy}

-- ---- numbers

pub read_on : ℕ → List ℕ → ℕ
read_on n digits = fold (λ value digit. 10 * value + (digit - 48)) n digits

reads_digits : FoldsDigits read_on
unfolding read_on
reads_digits = record { empty = λ n. refl; more = λ n c cs is. (let same : 10 * n + (c - 48) ≡ n * 10 + (c - 48) = omega arith in ap (λ m. read_on m cs) same) }

pub numerals : IsNumeralModel (λ ds. all_ascii_digits ds ≡ true) (read_on 0)
numerals = numerals_by_fold _ tells_all_ascii_digits read_on reads_digits

-- the digits of a number mean that number
pub decimal_means : (n : ℕ) → n < 2 ^ 64 → digits_value (decimal n) ≡ n
unfolding read_on
decimal_means n less = digits_value-decimal numerals n less

digits_kind : (ds : List ℕ) → 0 < length ds → all_ascii_digits ds ≡ true → token_kind ds ≡ kinds.Number
digits_kind [] some all = absurd (omega (arith, some))
digits_kind (c ∷ cs) some all = rw ((and_parts (is_ascii_digit c) (all_ascii_digits cs) all).0) refl

decimal_kind : (n : ℕ) → n < 2 ^ 64 → token_kind (decimal n) ≡ kinds.Number
decimal_kind n less = digits_kind (decimal n) (decimal_nonempty n less) (digits_decimal numerals n less)

short_or_long : (b c : Bool) (x : ℕ) → c ≡ true → is_of SHORT_NUMBER is_number (if b then SHORT_NUMBER else (if c then NUMBER else x)) ≡ true
short_or_long true c x less = refl
short_or_long false true x less = refl
short_or_long false false x less = absurd cc

number_is : (digits : List ℕ) → digits_value digits < 2 ^ 63 → is_of SHORT_NUMBER is_number (number_kind digits) ≡ true
unfolding number_kind
number_is digits less = short_or_long (nat_le (length digits) 9) (nat_lt (digits_value digits) (2 ^ 63)) _ (lt-ltb (digits_value digits) (2 ^ 63) less)

pub number_lexeme : (at n : ℕ) → n < 2 ^ 64 → lexeme (token_kind (decimal n)) (decimal n) at ≡ record { kind = number_kind (decimal n); place = at; text = decimal n }
number_lexeme at n less = ap (λ k. lexeme k (decimal n) at) (decimal_kind n less)

-- one token of a number and its note
pub noted_number : (k : ℕ) (more : ℕ → Bool) (at n : ℕ) → n < 2 ^ 64 → is_of k more (number_kind (decimal n)) ≡ true → IsSpelledBy (Both (Tok k more) (Note as_number)) at (decimal n ∷ []) (Meant (pos n) at ∷ [])
noted_number k more at n less known = record {
  around = λ done K l ts d.
      let e = number_lexeme at n less in
      let g = Both (Tok k more) (Note as_number) in
      let d' = subst (λ x. Spells written_rule false (x ∷ done) K l ts) e d in
      let read : Spells written_rule false done (g ∷ K) (Meant (pos (digits_value (decimal n))) at ∷ l) (record { kind = number_kind (decimal n); place = at; text = decimal n } ∷ ts) = both (token known (note d')) in
      let meant : Spells written_rule false done (g ∷ K) (Meant (pos n) at ∷ l) (record { kind = number_kind (decimal n); place = at; text = decimal n } ∷ ts) =
      subst (λ v. Spells written_rule false done (g ∷ K) (Meant (pos v) at ∷ l) (record { kind = number_kind (decimal n); place = at; text = decimal n } ∷ ts)) (decimal_means n less) read in
      subst (λ x. Spells written_rule false done (g ∷ K) (Meant (pos n) at ∷ l) (x ∷ ts)) (sym e) meant;
}

pub numbered : (at n : ℕ) → n < 2 ^ 63 → IsSpelledBy number at (decimal n ∷ []) (Meant (pos n) at ∷ [])
numbered at n less =
    let fits : n < 2 ^ 64 = omega (arith, less) in
    noted_number SHORT_NUMBER is_number at n fits (number_is (decimal n) (subst (λ v. v < 2 ^ 63) (sym (decimal_means n fits)) less))

-- ---- quoted texts

undoubled-doubled : (text : List ℕ) → undoubled false (quotes_doubled text) ≡ text
unfolding undoubled
undoubled-doubled [] = refl
undoubled-doubled (b ∷ text) = elim (cases_Bool (b == 39)) [
  | inl is ↦ rw is (ap (λ l. 39 ∷ l) (undoubled-doubled text) ∙ ap (λ x. x ∷ text) (sym (eqb-true b 39 is)))
  | inr other ↦ rw (other, other) (ap (λ l. b ∷ l) (undoubled-doubled text))
]

unquoted-quoted : (text : List ℕ) → unquoted (quoted text) ≡ text
unquoted-quoted text =
    let inner = quotes_doubled text in
    let long : length (39 ∷ (inner ++ (39 ∷ []))) - 2 ≡ length inner = omega (arith, length-append inner (39 ∷ [])) in
    ap (λ n. undoubled false (take n (inner ++ (39 ∷ [])))) long ∙ ap (undoubled false) (take-append_seam inner (39 ∷ [])) ∙ undoubled-doubled text

-- each quoted text is of a kind that a quoted text may have
text_is : (text : List ℕ) → is_of OTHER_TEXT is_quoted (text_kind text) ≡ true
unfolding text_kind
text_is text = any_text (is_some (day_of text)) (is_some (timestamp_of text)) (list_any (bytes_eq (upper text)) unit_words) (is_word text && is_name (word_kind (upper text)))
  where
    any_text : (a b c d : Bool) → is_of OTHER_TEXT is_quoted (if a then 86 else (if b then 87 else (if c then 88 else (if d then 89 else 90)))) ≡ true
    any_text true b c d = refl
    any_text false true c d = refl
    any_text false false true d = refl
    any_text false false false true = refl
    any_text false false false false = refl

pub text_quoted : (at : ℕ) (text : List ℕ) → IsSpelledBy quoted_part at (quoted text ∷ []) (Said text at ∷ [])
text_quoted at text = record {
  around = λ done K l ts d.
      let e : lexeme kinds.Quoted (quoted text) at ≡ record { kind = text_kind text; place = at; text = text } = ap (λ t. record { kind = text_kind t; place = at; text = t }) (unquoted-quoted text) in
      let d' = subst (λ x. Spells written_rule false (x ∷ done) K l ts) e d in
      subst (λ x. Spells written_rule false done (quoted_part ∷ K) (Said text at ∷ l) (x ∷ ts)) (sym e) (both (token (text_is text) (note d')));
}

-- a number of days where no clustering key stands
pub lone_number : (at n : ℕ) → n < 2 ^ 63 → IsSpelledBy (Tok SHORT_NUMBER is_number ▸ (one CLUSTER ▸ one BY ▸ one OPEN ▸ Tok NAME is_name ▸ one CLOSE ▸ Note name_and_number ∣ Note only_number)) at (decimal n ∷ []) (Way 0 ∷ Meant (pos n) at ∷ Way 1 ∷ [])
lone_number at n small = record {
  around = λ done K l ts d.
      let less : n < 2 ^ 64 = omega (arith, small) in
      let t : Lexeme = record { kind = number_kind (decimal n); place = at; text = decimal n } in
      let e : lexeme (token_kind (decimal n)) (decimal n) at ≡ t = number_lexeme at n less in
      let g = Tok SHORT_NUMBER is_number ▸ (one CLUSTER ▸ one BY ▸ one OPEN ▸ Tok NAME is_name ▸ one CLOSE ▸ Note name_and_number ∣ Note only_number) in
      let known : is_of SHORT_NUMBER is_number (number_kind (decimal n)) ≡ true = number_is (decimal n) (subst (λ v. v < 2 ^ 63) (sym (decimal_means n less)) small) in
      let d' = subst (λ x. Spells written_rule false (x ∷ done) K l ts) e d in
      let read : Spells written_rule false done (g ∷ K) (Way 0 ∷ Meant (pos (digits_value (decimal n))) at ∷ Way 1 ∷ l) (t ∷ ts) = both (token known (right (note d'))) in
      let meant : Spells written_rule false done (g ∷ K) (Way 0 ∷ Meant (pos n) at ∷ Way 1 ∷ l) (t ∷ ts) = subst (λ v. Spells written_rule false done (g ∷ K) (Way 0 ∷ Meant (pos v) at ∷ Way 1 ∷ l) (t ∷ ts)) (decimal_means n less) read in
      subst (λ x. Spells written_rule false done (g ∷ K) (Way 0 ∷ Meant (pos n) at ∷ Way 1 ∷ l) (x ∷ ts)) (sym e) meant;
}
