-- What the kind of a token says of its text.
use Rattle.std.proofs.Common.{◌≡◌, ℕ, suc, ◌+◌, ◌<◌, Bool, true, false, ◌==◌, nat_lt, nat_le, if◌then◌else◌, ◌⊎◌, inl, inr, List, [], ◌∷◌, ◌++◌, length, bytes_eq, Option, Some, None, is_some, Result, Ok, Err, is_ok, refl, sym, ap, ◌∙◌, subst, arith, eqb-true, ltb-true}
use Rattle.std.specs.Prelude.{ℤ, ◌==◌, ◌&&◌}
use Rattle.std.specs.List.{AllByRecursion, list_any}
use Rattle.std.proofs.lemmas.Slice.Eq.{bytes_eq-Decides}
use Rattle.std.proofs.lemmas.List.Elements.{recursion_from_All}
use Rattle.tt_lex.specs.declared.Token.{Token}
use Rattle.tt_lex.specs.declared.LexFault.{LexFault}
use Rattle.tt_lex.specs.declared.TokenKind.{TokenKind}
use Rattle.tt_lex.specs.declared.TokenKind.TheVariants as kinds
use Rattle.tt_lex.specs.Lexis.{Piece, Blank, LineComment, BlockComment, Word, Number, Quoted, Sign, IsPiece, spelling, kind_of, IsSpelled}
use Rattle.tt_lex.specs.answer.WholeTexts.{Answer, answer}
use Rattle.tt_lex.proofs.Places.{HasTokens-spelled}
use Rattle.tt_lex.specs.TokensOf.{answered, tokens_of}
use Rattle.tt_value.specs.calendar.Reading.{day_of, timestamp_of}
use Rattle.tt_sql.specs.grammar.Grammar.{Lexeme, is_of, nowhere}
use Rattle.tt_sql.specs.grammar.Lexemes.{IsLexeme, AreLexemes}
use Rattle.tt_sql.proofs.grammar.Quotes.{unquoted-spelling}
use Rattle.tt_sql.proofs.grammar.Fronts.{or_split, false≢true}
use Rattle.tt_sql.specs.grammar.TokenKinds.{NAME, LONG_NAME, SHORT_NUMBER, NUMBER, LEAST_NUMBER, LARGE_NUMBER, DATE_TEXT, TIME_TEXT, UNIT_TEXT, NAME_TEXT, OTHER_TEXT, UNEQUAL, OPEN, place_in, upper, unit_words, reserved_words, other_words, unquoted, word_kind, number_kind, text_kind, sign_kind, is_word, is_name, lexeme, lexemes}

-- ---- the tokens of a text

spelled_lexemes : (text : List ℕ) (tokens : List Token) → AllByRecursion (IsSpelled text) tokens → AreLexemes (lexemes text tokens)
spelled_lexemes text [] each = tt
spelled_lexemes text (t ∷ tokens) each = (
  record { piece = each.0.piece; right = each.0.right; kind = t.kind; kind_is = each.0.kind_is; place = t.start; seen = ap (λ (bytes : List ℕ). lexeme t.kind bytes t.start) each.0.text_is },
  spelled_lexemes text tokens each.1,
)

tokens_or : List Token → Result (List Token) LexFault → List Token
tokens_or others (Ok tokens) = tokens
tokens_or others (Err fault) = others

abbrev Tokens : Type 0
Tokens = Result (List Token) LexFault

fault_is_ok : (fault : LexFault) (tokens : List Token) (r : Tokens) → r ≡ Err fault → r ≡ Ok tokens → ⊥
fault_is_ok fault tokens r e f = false≢true (sym (ap is_ok e) ∙ ap is_ok f)

pub lexemes_are : (text : List ℕ) (tokens : List Token) → tokens_of text ≡ Ok tokens → AreLexemes (lexemes text tokens)
unfolding tokens_of tokens_or
lexemes_are text tokens e = by_answer (answer text) e
  where
    by_answer : (a : Answer text) → answered a ≡ Ok tokens → AreLexemes (lexemes text tokens)
    by_answer (inl found) f = subst (λ (xs : List Token). AreLexemes (lexemes text xs)) (ap (tokens_or []) f) (spelled_lexemes text found.0 (recursion_from_All (IsSpelled text) found.0 (HasTokens-spelled text found.0 found.1)))
    by_answer (inr fault) f = absurd (fault_is_ok fault.0 tokens (answered (inr fault)) refl f)

-- ---- kinds

pub only : (k kind : ℕ) → is_of k nowhere kind ≡ true → kind ≡ k
only k kind e = by_case (or_split (kind == k) (nowhere kind) e)
  where
    by_case : ((kind == k) ≡ true) ⊎ (nowhere kind ≡ true) → kind ≡ k
    by_case (inl f) = eqb-true kind k f
    by_case (inr f) = absurd (false≢true f)

pub word_below : (word : List ℕ) → word_kind word < DATE_TEXT
unfolding word_kind
word_below word = in_words (nat_lt (place_in (reserved_words ++ other_words) word) NAME) refl (nat_le (length word) 64)
  where
    in_words : (b : Bool) → nat_lt (place_in (reserved_words ++ other_words) word) NAME ≡ b → (c : Bool) → (if b then place_in (reserved_words ++ other_words) word else (if c then NAME else LONG_NAME)) < DATE_TEXT
    in_words true e c = let less : place_in (reserved_words ++ other_words) word < NAME = ltb-true (place_in (reserved_words ++ other_words) word) NAME e in omega arith
    in_words false e true = omega arith
    in_words false e false = omega arith

one_below : (a b c : Bool) → (if a then SHORT_NUMBER else (if b then NUMBER else (if c then LEAST_NUMBER else LARGE_NUMBER))) < DATE_TEXT
one_below true b c = omega arith
one_below false true c = omega arith
one_below false false true = omega arith
one_below false false false = omega arith

pub number_below : (digits : List ℕ) → number_kind digits < DATE_TEXT
unfolding number_kind
number_below digits = one_below _ _ _

one_above : (b : Bool) (n : ℕ) → OTHER_TEXT < (if b then UNEQUAL else OPEN + n)
one_above true n = omega arith
one_above false n = omega arith

pub sign_above : (sign : List ℕ) → OTHER_TEXT < sign_kind sign
unfolding sign_kind
sign_above sign = one_above _ _

-- a fact of each kind of tokens
pub record OfEach (P : Lexeme → Type 0) : Type 0 where
  pub words : (bytes : List ℕ) (place : ℕ) → IsPiece (Word bytes) → P (record { kind = word_kind (upper bytes); place = place; text = upper bytes })
  pub numbers : (bytes : List ℕ) (place : ℕ) → IsPiece (Number bytes) → P (record { kind = number_kind bytes; place = place; text = bytes })
  pub texts : (text : List ℕ) (place : ℕ) → IsPiece (Quoted text) → P (record { kind = text_kind text; place = place; text = text })
  pub signs : (bytes : List ℕ) (place : ℕ) → P (record { kind = sign_kind bytes; place = place; text = bytes })

of_piece : (P : Lexeme → Type 0) → OfEach P → (piece : Piece) (kind : TokenKind) (place : ℕ) → IsPiece piece → kind_of piece ≡ Some kind → P (lexeme kind (spelling piece) place)
of_piece P each (Blank b) kind place right is = absurd cc
of_piece P each (LineComment body) kind place right is = absurd cc
of_piece P each (BlockComment body) kind place right is = absurd cc
of_piece P each (Word bytes) kind place right is = (let same : kinds.Word ≡ kind = cc in subst (λ k. P (lexeme k bytes place)) same (each.words bytes place right))
of_piece P each (Number bytes) kind place right is = (let same : kinds.Number ≡ kind = cc in subst (λ k. P (lexeme k bytes place)) same (each.numbers bytes place right))
of_piece P each (Quoted text) kind place right is =
    (let same : kinds.Quoted ≡ kind = cc in
    let meant : unquoted (spelling (Quoted text)) ≡ text = unquoted-spelling text in
    subst (λ k. P (lexeme k (spelling (Quoted text)) place)) same (subst (λ x. P (record { kind = text_kind x; place = place; text = x })) (sym meant) (each.texts text place right)))
of_piece P each (Sign bytes) kind place right is = (let same : kinds.Sign ≡ kind = cc in subst (λ k. P (lexeme k bytes place)) same (each.signs bytes place))

pub of_lexeme : (P : Lexeme → Type 0) → OfEach P → (t : Lexeme) → IsLexeme t → P t
of_lexeme P each t is = subst P (sym is.seen) (of_piece P each is.piece is.kind is.place is.right is.kind_is)

-- ---- quoted texts

-- the kind of a quoted text, by four tests
abbrev kind_by : Bool → Bool → Bool → Bool → ℕ
kind_by a b c d = if a then DATE_TEXT else (if b then TIME_TEXT else (if c then UNIT_TEXT else (if d then NAME_TEXT else OTHER_TEXT)))

is_date : (a b c d : Bool) → kind_by a b c d ≡ DATE_TEXT → a ≡ true
is_date true b c d e = refl
is_date false true c d e = absurd (omega (arith, e))
is_date false false true d e = absurd (omega (arith, e))
is_date false false false true e = absurd (omega (arith, e))
is_date false false false false e = absurd (omega (arith, e))

is_time : (a b c d : Bool) → kind_by a b c d ≡ TIME_TEXT → b ≡ true
is_time true b c d e = absurd (omega (arith, e))
is_time false true c d e = refl
is_time false false true d e = absurd (omega (arith, e))
is_time false false false true e = absurd (omega (arith, e))
is_time false false false false e = absurd (omega (arith, e))

is_unit : (a b c d : Bool) → kind_by a b c d ≡ UNIT_TEXT → c ≡ true
is_unit true b c d e = absurd (omega (arith, e))
is_unit false true c d e = absurd (omega (arith, e))
is_unit false false true d e = refl
is_unit false false false true e = absurd (omega (arith, e))
is_unit false false false false e = absurd (omega (arith, e))

what_is : {A : Type 0} (o : Option A) → is_some o ≡ true → (x : A) × (o ≡ Some x)
what_is None e = absurd (false≢true e)
what_is (Some x) e = (x, refl)

abbrev IsDated : Lexeme → Type 0
IsDated t = t.kind ≡ DATE_TEXT → (day : ℤ) × (day_of t.text ≡ Some day)

text_dated : (text : List ℕ) → text_kind text ≡ DATE_TEXT → (day : ℤ) × (day_of text ≡ Some day)
unfolding text_kind
text_dated text e = what_is (day_of text) (is_date (is_some (day_of text)) (is_some (timestamp_of text)) (list_any (bytes_eq (upper text)) unit_words) (is_word text && is_name (word_kind (upper text))) e)

-- a date has a day
pub has_day : (t : Lexeme) → IsLexeme t → t.kind ≡ DATE_TEXT → (day : ℤ) × (day_of t.text ≡ Some day)
has_day t is e = of_lexeme IsDated (record {
  words = λ bytes place right f. absurd (omega (arith, f, word_below (upper bytes)));
  numbers = λ bytes place right f. absurd (omega (arith, f, number_below bytes));
  texts = λ text place right. text_dated text;
  signs = λ bytes place f. absurd (omega (arith, f, sign_above bytes));
}) t is e

abbrev IsTimed : Lexeme → Type 0
IsTimed t = t.kind ≡ TIME_TEXT → (moment : ℤ) × (timestamp_of t.text ≡ Some moment)

text_timed : (text : List ℕ) → text_kind text ≡ TIME_TEXT → (moment : ℤ) × (timestamp_of text ≡ Some moment)
unfolding text_kind
text_timed text e = what_is (timestamp_of text) (is_time (is_some (day_of text)) (is_some (timestamp_of text)) (list_any (bytes_eq (upper text)) unit_words) (is_word text && is_name (word_kind (upper text))) e)

-- a timestamp has a moment
pub has_moment : (t : Lexeme) → IsLexeme t → t.kind ≡ TIME_TEXT → (moment : ℤ) × (timestamp_of t.text ≡ Some moment)
has_moment t is e = of_lexeme IsTimed (record {
  words = λ bytes place right f. absurd (omega (arith, f, word_below (upper bytes)));
  numbers = λ bytes place right f. absurd (omega (arith, f, number_below bytes));
  texts = λ text place right. text_timed text;
  signs = λ bytes place f. absurd (omega (arith, f, sign_above bytes));
}) t is e

-- ---- units

place_below : (word : List ℕ) (words : List (List ℕ)) → list_any (bytes_eq word) words ≡ true → place_in words word < length words
place_below word [] e = absurd (false≢true e)
place_below word (first ∷ words) e = by_case (or_split (bytes_eq word first) (list_any (bytes_eq word) words) e) (place_below word words)
  where
    here : (b : Bool) → b ≡ true → (if b then 0 else 1 + place_in words word) < suc (length words)
    here true f = omega arith
    here false f = absurd (false≢true f)

    there : (b : Bool) → place_in words word < length words → (if b then 0 else 1 + place_in words word) < suc (length words)
    there true less = omega arith
    there false less = omega arith

    by_case : (bytes_eq word first ≡ true) ⊎ (list_any (bytes_eq word) words ≡ true) → (list_any (bytes_eq word) words ≡ true → place_in words word < length words) → (if bytes_eq first word then 0 else 1 + place_in words word) < suc (length words)
    by_case (inl f) later = here (bytes_eq first word) ((bytes_eq-Decides first word).1 (sym ((bytes_eq-Decides word first).0 f)))
    by_case (inr f) later = there (bytes_eq first word) (later f)

abbrev IsOfUnit : Lexeme → Type 0
IsOfUnit t = t.kind ≡ UNIT_TEXT → place_in unit_words (upper t.text) < 5

text_of_unit : (text : List ℕ) → text_kind text ≡ UNIT_TEXT → place_in unit_words (upper text) < 5
unfolding text_kind
text_of_unit text e = place_below (upper text) unit_words (is_unit (is_some (day_of text)) (is_some (timestamp_of text)) (list_any (bytes_eq (upper text)) unit_words) (is_word text && is_name (word_kind (upper text))) e)

-- a unit is one of five
pub has_unit : (t : Lexeme) → IsLexeme t → t.kind ≡ UNIT_TEXT → place_in unit_words (upper t.text) < 5
has_unit t is e = of_lexeme IsOfUnit (record {
  words = λ bytes place right f. absurd (omega (arith, f, word_below (upper bytes)));
  numbers = λ bytes place right f. absurd (omega (arith, f, number_below bytes));
  texts = λ text place right. text_of_unit text;
  signs = λ bytes place f. absurd (omega (arith, f, sign_above bytes));
}) t is e
