-- Names in quoted texts.
use Rattle.std.proofs.Common.{◌≡◌, ℕ, Bool, true, false, ◌&&◌, ◌||◌, ◌==◌, ◌⊎◌, inl, inr, List, [], ◌∷◌, All, if◌then◌else◌, bytes_eq, refl, sym, ap, ◌∙◌, subst, arith}
use Rattle.std.specs.Prelude.{is_some}
use Rattle.std.specs.List.{list_all, list_any}
use Rattle.std.proofs.lemmas.Bool.{and_parts, eqb-true}
use Rattle.std.proofs.lemmas.Bool.Decides.{nat_tests}
use Rattle.std.proofs.lemmas.List.Elements.{All-cons, All-nil}
use Rattle.std.proofs.lemmas.Slice.Eq.{bytes_eq-Decides}
use Rattle.tt_lex.specs.Lexis.{text_of, is_word_start, is_word_part}
use Rattle.tt_value.specs.calendar.Reading.{day_of, timestamp_of}
use Rattle.tt_value.specs.values.Texts.{IsPrintableAscii}
use Rattle.tt_value.specs.declared.name.Quoted.{Quoted}
use Rattle.tt_sql.specs.grammar.Grammar.{Said, Lexeme, Note, is_of}
use Rattle.tt_sql.proofs.grammar.Fronts.{false≢true, and_join, or_split}
use Rattle.tt_sql.specs.grammar.Combinators.{as_quoted_name, is_unit_text, quoted_name}
use Rattle.tt_sql.specs.grammar.TokenKinds.{DATE_TEXT, TIME_TEXT, UNIT_TEXT, NAME_TEXT, OTHER_TEXT, is_name, is_quoted, is_word, text_kind, unit_words, unquoted, upper, word_kind}
use Rattle.tt_terminal.specs.declared.rest.Rest.{Rest}
use Rattle.tt_terminal.specs.Reading.{IsOf, IsKnown, IsQuoted, Passes, seen_as, first_kind}
use Rattle.tt_terminal.proofs.Quotes.{quoted_kind_is, quoted_says}
use Rattle.tt_terminal.proofs.Steps.{first_is_of, takes_kind, passes_token, passes_noted}
use Rattle.tt_terminal.proofs.Words.{all_printable, starts}

name_of_kind : (a b c d : Bool) → is_of NAME_TEXT is_unit_text (if a then DATE_TEXT else (if b then TIME_TEXT else (if c then UNIT_TEXT else (if d then NAME_TEXT else OTHER_TEXT)))) ≡ true → (c || d) ≡ true
name_of_kind true b c d e = absurd (false≢true e)
name_of_kind false true c d e = absurd (false≢true e)
name_of_kind false false true d e = refl
name_of_kind false false false true e = refl
name_of_kind false false false false e = absurd (false≢true e)

printable : (b : ℕ) → is_word_part b ≡ true → IsPrintableAscii b
printable b e = grind (arith, nat_tests)

part_printable : (bytes : List ℕ) → list_all is_word_part bytes ≡ true → All IsPrintableAscii bytes
part_printable [] e = All-nil IsPrintableAscii
part_printable (b ∷ bytes) e = let p = and_parts (is_word_part b) (list_all is_word_part bytes) e in All-cons IsPrintableAscii b bytes (printable b p.0) (part_printable bytes p.1)

-- one of some words
one_printable : (word : List ℕ) (words : List (List ℕ)) → list_all (list_all is_word_part) words ≡ true → list_any (bytes_eq word) words ≡ true → All IsPrintableAscii word
one_printable word [] p e = absurd (false≢true e)
one_printable word (first ∷ words) p e =
    let q = and_parts (list_all is_word_part first) (list_all (list_all is_word_part) words) p in
    first_or_later (or_split (bytes_eq word first) (list_any (bytes_eq word) words) e) q.0 (λ f. one_printable word words q.1 f)
  where
    first_or_later : ((bytes_eq word first ≡ true) ⊎ (list_any (bytes_eq word) words ≡ true)) → list_all is_word_part first ≡ true → (list_any (bytes_eq word) words ≡ true → All IsPrintableAscii word) → All IsPrintableAscii word
    first_or_later (inl f) g later = subst (All IsPrintableAscii) (sym ((bytes_eq-Decides word first).0 f)) (part_printable first g)
    first_or_later (inr f) g later = later f

word_printable : (text : List ℕ) → is_word text ≡ true → All IsPrintableAscii (upper text)
word_printable [] e = absurd (false≢true e)
word_printable (b ∷ bytes) e = let p = and_parts (is_word_start b) (list_all is_word_part bytes) e in all_printable (b ∷ bytes) (and_join (is_word_part b) (list_all is_word_part bytes) (starts b p.0) p.1)

text_printable : (text : List ℕ) → is_of NAME_TEXT is_unit_text (text_kind text) ≡ true → All IsPrintableAscii (upper text)
unfolding text_kind
text_printable text e = unit_or_name (or_split (list_any (bytes_eq (upper text)) unit_words) (is_word text && is_name (word_kind (upper text))) (name_of_kind (is_some (day_of text)) (is_some (timestamp_of text)) (list_any (bytes_eq (upper text)) unit_words) (is_word text && is_name (word_kind (upper text))) e))
  where
    unit_or_name : ((list_any (bytes_eq (upper text)) unit_words ≡ true) ⊎ ((is_word text && is_name (word_kind (upper text))) ≡ true)) → All IsPrintableAscii (upper text)
    unit_or_name (inl f) = one_printable (upper text) unit_words refl f
    unit_or_name (inr f) = word_printable text (and_parts (is_word text) (is_name (word_kind (upper text))) f).0

-- such a token is a quoted text
pub name_is_quoted : (k : ℕ) → is_of NAME_TEXT is_unit_text k ≡ true → is_of OTHER_TEXT is_quoted k ≡ true
name_is_quoted k e = of_kind (or_split (k == NAME_TEXT) (k == UNIT_TEXT) e)
  where
    of_kind : (((k == NAME_TEXT) ≡ true) ⊎ ((k == UNIT_TEXT) ≡ true)) → is_of OTHER_TEXT is_quoted k ≡ true
    of_kind (inl p) = subst (λ j. is_of OTHER_TEXT is_quoted j ≡ true) (sym (eqb-true k NAME_TEXT p)) refl
    of_kind (inr p) = subst (λ j. is_of OTHER_TEXT is_quoted j ≡ true) (sym (eqb-true k UNIT_TEXT p)) refl

-- its text can be a name
pub name_printable : {r : Rest} {q : Quoted} {s : Rest} → IsKnown r → IsQuoted r q s → is_of NAME_TEXT is_unit_text (first_kind r) ≡ true → All IsPrintableAscii (upper q.text)
name_printable {r = r} {q = q} {s = s} known is e =
    let of : IsOf r.text.now is.first = first_is_of known is.takes in
    let kind = quoted_kind_is r.text.now is.first of is.kind in
    let says : q.text ≡ unquoted (text_of r.text.now is.first.token) = is.text_is ∙ quoted_says r.text.now is.first of is.kind in
    text_printable q.text (subst (λ k. is_of NAME_TEXT is_unit_text k ≡ true) (takes_kind is.takes ∙ kind ∙ sym (ap text_kind says)) e)

-- a name in a quoted text, as a part of a grammar
pub passes_quoted_name : {before : List Lexeme} {r : Rest} {q : Quoted} {s : Rest} → IsQuoted r q s → is_of NAME_TEXT is_unit_text (first_kind r) ≡ true → Passes before quoted_name r (Said (upper q.text) q.place ∷ []) s
passes_quoted_name {before = before} {r = r} {q = q} {s = s} is e = passes_token is.takes (subst (λ k. is_of NAME_TEXT is_unit_text k ≡ true) (takes_kind is.takes) e)
    (subst (λ x. Passes (seen_as r.text.now is.first ∷ before) (Note as_quoted_name) s x s) (rw (is.text_is, is.place_is) refl)
    (passes_noted is.takes.known (λ done. refl)))
