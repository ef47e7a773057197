-- Moments at which tables are read are read again.
use Rattle.std.proofs.Common.{inl, ◌≡◌, ℕ, ◌+◌, ◌*◌, ◌/◌, ◌%◌, ◌^◌, ◌<◌, ◌≤◌, true, false, List, [], ◌∷◌, ◌++◌, map, length, Some, None, refl, sym, ap, subst, ◌∙◌, arith, append_assoc}
use Rattle.std.specs.Prelude.{codes, pos, negsuc, ℤ, if◌then◌else◌}
use Rattle.std.specs.Fmt.{decimal}
use Rattle.std.proofs.lemmas.Bool.{le-leb}
use Rattle.std.proofs.lemmas.Fmt.{length-decimal-le}
use Rattle.std.proofs.lemmas.Int.{ints}
use Rattle.std.proofs.lemmas.List.Elements.{All-from_recursion}
use Rattle.tt_lex.specs.declared.TokenKind.TheVariants as kinds
use Rattle.tt_value.specs.calendar.Calendar.{IsClock, seconds_of, IsFraction, milliseconds, IsTimestamp, timestamp_text, moment_of}
use Rattle.tt_value.specs.calendar.Reading.{day_of, timestamp_of}
use Rattle.tt_value.proofs.calendar.Timestamps.{timestamp_of-written}
use Rattle.tt_value.specs.declared.name.Number.{Number}
use Rattle.tt_sql.specs.declared.query.Clause.{Clause}
use Rattle.tt_sql.specs.declared.query.Moment.{Moment}
use Rattle.tt_sql.specs.declared.query.Moment.TheVariants.{Timestamp as AtTimestamp, Offset as AtOffset, Statement as AtStatement}
use Rattle.tt_sql.specs.declared.query.Offset.{Offset}
use Rattle.tt_sql.specs.declared.query.Side.{Side}
use Rattle.tt_sql.specs.declared.query.Side.TheVariants as side
use Rattle.tt_sql.specs.trees.Lists.{IsListed}
use Rattle.tt_sql.specs.grammar.Grammar.{Lexeme, Way, Meant, Spells, token, note, both, is_of, nowhere}
use Rattle.tt_sql.specs.grammar.Written.{written_rule, moment, clause, product}
use Rattle.tt_sql.specs.grammar.Combinators.{◌▸◌, ◌∣◌, one, way, quoted_moment, short_number, moment_mark}
use Rattle.tt_sql.specs.grammar.TokenKinds.{AT, BEFORE, TIME_TEXT, SHORT_NUMBER, word_kind, sign_kind, text_kind, number_kind, lexeme, unquoted}
use Rattle.tt_print.specs.text.Words.{separated, number_words}
use Rattle.tt_print.specs.text.Queries.{clock_at, fraction_at, timestamp_since, since_year_one, is_moment, moment_bytes, moment_word, timestamp_words, offset_words, moment_words, side_word, clause_words}
use Rattle.tt_sql.specs.trees.Leaves.{IsMoment}
use Rattle.tt_sql.specs.marks.Expressions.{flag_marks, listed_marks, number_marks}
use Rattle.tt_sql.specs.marks.Queries.{offset_marks, moment_marks, side_marks, clause_marks}
use Rattle.tt_print.specs.again.Tokens.{IsToken}
use Rattle.tt_print.specs.again.Spelling.{IsReadAs}
use Rattle.tt_sql.specs.trees.Queries.{IsShortNumber, IsWrittenMoment, IsWrittenClause}
use Rattle.tt_print.proofs.again.Quoted.{noted_number}
use Rattle.tt_print.proofs.again.Tokens.{IsPlain, nothing_plain, one_plain, digit_plain, day_plain, clock_plain, plain_token, number_token}
use Rattle.tt_print.proofs.again.Literals.{between_quotes}
use Rattle.tt_print.proofs.again.Parts.{as_told, in_order, as_first, as_second, a_way, word_first, with_way, a_flag, in_brackets}
use Rattle.tt_print.proofs.again.Expressions.{quoted_read}

-- ---- the parts of a printed moment

seconds_back : (e : ℕ) → 60 * (60 * (e / 3600) + e / 60 % 60) + e % 60 ≡ e
seconds_back e = omega arith

thousands : (d : ℕ) → 100 * (d / 100 % 10) + 10 * (d / 10 % 10) + d % 10 ≡ d % 1000
thousands d = omega arith

minutes_of : (d : ℕ) → d / 60000 ≡ d / 1000 / 60
minutes_of d = omega arith

hours_of : (d : ℕ) → d / 3600000 ≡ d / 1000 / 3600
hours_of d = omega arith

day_back : (d : ℕ) → 1000 * seconds_of (clock_at d) + milliseconds (fraction_at d) ≡ d
day_back d = omega (arith, seconds_back (d / 1000), thousands d, minutes_of d, hours_of d)

clock_right : (d : ℕ) → d < 86400000 → IsClock (clock_at d)
clock_right d less = record { hour = omega (arith, less); minute = omega arith; second = omega arith }

fraction_right : (d : ℕ) → IsFraction (fraction_at d)
fraction_right d = (omega arith, All-from_recursion (λ x. x ≤ 9) (fraction_at d) (omega arith, (omega arith, (omega arith, tt))))

timestamp_right : (since : ℕ) → since ≤ 315537897599999 → IsTimestamp (timestamp_since since)
timestamp_right since most = record {
  day = (omega (arith, ints, most), omega (arith, ints, most));
  between = inl refl;
  clock = clock_right (since % 86400000) (omega arith);
  fraction = fraction_right (since % 86400000);
  zone = inl refl;
}

moment_back : (n : ℤ) → IsMoment n → moment_of (timestamp_since (since_year_one n)) ≡ n
moment_back n is = omega (arith, ints, is.0, is.1, day_back (since_year_one n % 86400000))

since_most : (n : ℤ) → IsMoment n → since_year_one n ≤ 315537897599999
since_most n is = omega (arith, ints, is.0, is.1)

moment_test : (n : ℤ) → IsMoment n → is_moment n ≡ true
moment_test (pos n) is = le-leb n 253402300799999 (omega (arith, ints, is.1))
moment_test (negsuc n) is = rw (le-leb n 62135596799999 (omega (arith, ints, is.0))) refl

moment_text : (n : ℤ) → IsMoment n → moment_bytes n ≡ timestamp_text (timestamp_since (since_year_one n))
moment_text n is = ap (λ b. if b then timestamp_text (timestamp_since (since_year_one n)) else []) (moment_test n is)

-- ---- the bytes of a printed moment

timestamp_plain : (since : ℕ) → since ≤ 315537897599999 → IsPlain (timestamp_text (timestamp_since since))
timestamp_plain since most =
    let t = timestamp_since since in
    let right = timestamp_right since most in
    let d = since % 86400000 in
    day_plain t.day _ right.day (one_plain 32 _ refl refl (clock_plain t.clock _ right.clock (one_plain 46 _ refl refl
    (digit_plain (d / 100 % 10) _ (omega arith) (digit_plain (d / 10 % 10) _ (omega arith) (digit_plain (d % 10) _ (omega arith) nothing_plain))))))

moment_token : (n : ℤ) → IsMoment n → IsToken (moment_word n)
moment_token n is =
    let since = since_year_one n in
    subst (λ x. IsToken (39 ∷ (x ++ (39 ∷ [])))) (sym (moment_text n is)) (plain_token (timestamp_text (timestamp_since since)) (timestamp_plain since (since_most n is)) (omega arith))

-- it is too long for a date
no_date : (since : ℕ) → day_of (timestamp_text (timestamp_since since)) ≡ None
unfolding day_of
no_date since = refl

time_known : (text : List ℕ) (n : ℤ) → day_of text ≡ None → timestamp_of text ≡ Some n → is_of TIME_TEXT nowhere (text_kind text) ≡ true
unfolding text_kind
time_known text n none is = rw (none, is) refl

moment_text_read : (n : ℤ) → IsMoment n → IsReadAs quoted_moment (moment_word n ∷ []) (Meant n 0 ∷ [])
moment_text_read n is = record {
  tokens = (moment_token n is, tt);
  notes = λ at. Meant n 0 ∷ [];
  alike = λ at. refl;
  spelled = λ at. record {
    around = λ done K l ts d.
        let since = since_year_one n in
        let text = timestamp_text (timestamp_since since) in
        let t : Lexeme = record { kind = text_kind text; place = at; text = text } in
        let bytes : unquoted (moment_word n) ≡ text = ap (λ x. unquoted (39 ∷ (x ++ (39 ∷ [])))) (moment_text n is) ∙ between_quotes text ∙ (timestamp_plain since (since_most n is)).read in
        let e : lexeme kinds.Quoted (moment_word n) at ≡ t = ap (λ x. record { kind = text_kind x; place = at; text = x }) bytes in
        let means : timestamp_of text ≡ Some n = timestamp_of-written (timestamp_since since) (timestamp_right since (since_most n is)) ∙ ap (λ (z : ℤ). Some z) (moment_back n is) in
        let known : is_of TIME_TEXT nowhere (text_kind text) ≡ true = time_known text n (no_date since) means in
        let d' = subst (λ x. Spells written_rule false (x ∷ done) K l ts) e d in
        let read : Spells written_rule false done (quoted_moment ∷ K) (moment_mark (timestamp_of text) ++ l) (t ∷ ts) = both (token known (note d')) in
        let meant : Spells written_rule false done (quoted_moment ∷ K) (Meant n 0 ∷ l) (t ∷ ts) = subst (λ o. Spells written_rule false done (quoted_moment ∷ K) (moment_mark o ++ l) (t ∷ ts)) means read in
        subst (λ x. Spells written_rule false done (quoted_moment ∷ K) (Meant n 0 ∷ l) (x ∷ ts)) (sym e) meant;
  };
}

timestamp_read : (n : ℤ) → IsMoment n → IsReadAs moment (timestamp_words n) (Meant n 0 ∷ Way 0 ∷ [])
unfolding word_kind sign_kind
timestamp_read n is = as_first (word_first (codes "TIMESTAMP") (λ at. refl) (word_first (codes "=>") (λ at. refl) (in_order (moment_text_read n is) (as_second (a_way 0)))))

-- ---- offsets

short_known : (n : ℕ) → n < 10 ^ 9 → n < 2 ^ 64 → is_of SHORT_NUMBER nowhere (number_kind (decimal n)) ≡ true
unfolding number_kind
short_known n short less = rw (le-leb (length (decimal n)) 9 (length-decimal-le 9 n (omega arith) short less)) refl

pub short_read : (n : Number) → IsShortNumber n → IsReadAs short_number (number_words n) (number_marks n)
short_read n is =
    let less : n.value < 2 ^ 64 = omega (arith, is) in
    record { tokens = (number_token n.value less, tt); notes = λ at. Meant (pos n.value) at ∷ []; alike = λ at. refl; spelled = λ at. noted_number SHORT_NUMBER nowhere at n.value less (short_known n.value is less) }

product_read : (ns : List Number) → IsListed IsShortNumber ns → length ns ≤ 3 → IsReadAs product (separated (codes "*") (map number_words ns)) (listed_marks (map number_marks ns))
unfolding sign_kind
product_read [] are few = absurd are
product_read (a ∷ []) are few = in_order (short_read a are.0) (as_second (a_way 0))
product_read (a ∷ b ∷ []) are few = in_order (short_read a are.0) (as_first (in_order (a_way 1) (word_first (codes "*") (λ at. refl) (in_order (short_read b are.1.0) (as_second (a_way 0))))))
product_read (a ∷ b ∷ c ∷ []) are few = in_order (short_read a are.0) (as_first (in_order (a_way 1) (word_first (codes "*") (λ at. refl)
    (in_order (short_read b are.1.0) (as_first (in_order (a_way 1) (word_first (codes "*") (λ at. refl) (in_order (short_read c are.1.1.0) (a_way 0)))))))))
product_read (a ∷ b ∷ c ∷ d ∷ ns) are few = absurd (omega (arith, few))

offset_read : (o : Offset) → IsListed IsShortNumber o.factors → length o.factors ≤ 3 → IsReadAs moment (offset_words o) (offset_marks o ++ Way 1 ∷ [])
unfolding word_kind sign_kind
offset_read o are few =
    as_told refl (append_assoc (flag_marks o.negative) (listed_marks (map number_marks o.factors)) (Way 1 ∷ []))
    (as_second (as_first (word_first (codes "OFFSET") (λ at. refl) (word_first (codes "=>") (λ at. refl) (in_order (a_flag (codes "-") (λ at. refl) o.negative) (with_way 1 (product_read o.factors are few)))))))

-- ---- moments

moment_read : (m : Moment) → IsWrittenMoment m → IsReadAs moment (moment_words m) (moment_marks m)
unfolding word_kind sign_kind
moment_read (AtTimestamp n) is = timestamp_read n is
moment_read (AtOffset o) is = offset_read o is.0 is.1
moment_read (AtStatement id) is = as_second (as_second (word_first (codes "STATEMENT") (λ at. refl) (word_first (codes "=>") (λ at. refl) (with_way 2 (quoted_read id is)))))

side_read : (s : Side) → IsReadAs (one AT ▸ way 1 ∣ one BEFORE ▸ way 2) (side_word s ∷ []) (side_marks s)
unfolding word_kind
side_read side.At = as_first (word_first (codes "AT") (λ at. refl) (a_way 1))
side_read side.Before = as_second (word_first (codes "BEFORE") (λ at. refl) (a_way 2))

pub clause_read : (c : Clause) → IsWrittenClause c → IsReadAs clause (clause_words c) (clause_marks c)
clause_read c is = in_order (side_read c.side) (in_brackets (moment_read c.moment is))
