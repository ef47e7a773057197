-- What is known of the tokens that are quoted texts.
use Rattle.std.proofs.Common.{◌≡◌, ℕ, suc, ◌+◌, ◌-◌, ◌<◌, ◌≤◌, Bool, true, false, nat_le, nat_lt, List, [], ◌∷◌, ◌++◌, length, take, drop, get_or, Some, None, if◌then◌else◌, refl, sym, ap, ◌∙◌, subst, arith, true≢false, append_assoc, drop-cons, add-one, length-append, cond}
use Rattle.std.specs.List.{list_all, position}
use Rattle.std.specs.Str.{IsUtf8}
use Rattle.std.proofs.Math.Seq.{take-append_seam}
use Rattle.std.proofs.lemmas.List.{drop_all, append-nil}
use Rattle.std.specs.List.{position_or_len, AllPass}
use Rattle.std.proofs.lemmas.List.Sums.{position_or_len_is, AllPass-from_list_all}
use Rattle.std.proofs.lemmas.Bool.Decides.{nat_tests}
use Rattle.tt_lex.specs.declared.Token.{Token}
use Rattle.tt_lex.specs.declared.TokenKind.{TokenKind}
use Rattle.tt_lex.specs.declared.TokenKind.TheVariants as kinds
use Rattle.tt_lex.specs.Lexis.{Piece, Word, Number, Quoted, Sign, Blank, LineComment, BlockComment, text_of, is_quote, is_text_byte, doubled, IsPiece, IsSpelled, kind_of, spelling}
use Rattle.tt_value.specs.values.Texts.{IsText, is_control}
use Rattle.tt_sql.specs.grammar.Grammar.{is_of, Lexeme, Note}
use Rattle.tt_sql.specs.grammar.Combinators.{quoted, as_text}
use Rattle.tt_sql.specs.marks.Expressions.{quoted_marks}
use Rattle.tt_sql.specs.grammar.TokenKinds.{NAME, LONG_NAME, SHORT_NUMBER, NUMBER, LEAST_NUMBER, LARGE_NUMBER, OTHER_TEXT, OPEN, UNEQUAL, is_quoted, upper, word_kind, number_kind, sign_kind, text_kind, lexeme, unquoted, undoubled, place_in, reserved_words, other_words}
use Rattle.tt_value.specs.declared.name.Quoted.{Quoted as Value}
use Rattle.tt_terminal.specs.declared.rest.Lexed.{Lexed}
use Rattle.tt_terminal.specs.declared.rest.Rest.{Rest}
use Rattle.tt_terminal.specs.KindNumbers.{kind_number}
use Rattle.tt_terminal.specs.Reading.{IsOf, IsQuoted, Passes, seen_as}
use Rattle.tt_terminal.proofs.Steps.{passes_token, passes_noted}

-- ---- the loop that joins quotes

pub undoubled-nil : (second : Bool) → undoubled second [] ≡ []
unfolding undoubled
undoubled-nil second = refl

pub at_end : (out bytes whole : List ℕ) (second : Bool) (i : ℕ) → length bytes ≤ i → out ++ undoubled second (drop i bytes) ≡ whole → out ≡ whole
at_end out bytes whole second i h e = sym (append-nil out) ∙ ap (λ (x : List ℕ). out ++ x) (sym (ap (undoubled second) (drop_all i bytes h) ∙ undoubled-nil second)) ∙ e

pub after_second : (out bytes whole : List ℕ) (i : ℕ) → i < length bytes → out ++ undoubled true (drop i bytes) ≡ whole → out ++ undoubled false (drop (i + 1) bytes) ≡ whole
unfolding undoubled
after_second out bytes whole i h e = let p : drop i bytes ≡ get_or bytes i 0 ∷ drop (suc i) bytes = drop-cons bytes i 0 h in rw add-one (rw p at e)

pub after_first : (out bytes whole : List ℕ) (i : ℕ) → i < length bytes → out ++ undoubled false (drop i bytes) ≡ whole → (out ++ get_or bytes i 0 ∷ []) ++ undoubled (is_quote (get_or bytes i 0)) (drop (i + 1) bytes) ≡ whole
unfolding undoubled
after_first out bytes whole i h e = let p : drop i bytes ≡ get_or bytes i 0 ∷ drop (suc i) bytes = drop-cons bytes i 0 h in rw (add-one, append_assoc) (rw p at e)

-- ---- what a quoted text means

-- joined quotes of what was doubled
joined : (text : List ℕ) (rest : List ℕ) → undoubled false (doubled text ++ rest) ≡ text ++ undoubled false rest
unfolding undoubled
joined [] rest = refl
joined (b ∷ text) rest = one (is_quote b) refl (joined text rest)
  where
    one : (q : Bool) → is_quote b ≡ q → undoubled false (doubled text ++ rest) ≡ text ++ undoubled false rest → undoubled false (((if q then b ∷ b ∷ [] else b ∷ []) ++ doubled text) ++ rest) ≡ b ∷ (text ++ undoubled false rest)
    one true q e = rw q (ap (λ (x : List ℕ). b ∷ x) e)
    one false q e = rw q (ap (λ (x : List ℕ). b ∷ x) e)

inner : (text : List ℕ) → take (length (39 ∷ (doubled text ++ 39 ∷ [])) - 2) (drop 1 (39 ∷ (doubled text ++ 39 ∷ []))) ≡ doubled text
inner text =
    let n : length (doubled text ++ 39 ∷ []) ≡ length (doubled text) + 1 = length-append (doubled text) (39 ∷ []) in
    let p : length (39 ∷ (doubled text ++ 39 ∷ [])) - 2 ≡ length (doubled text) = omega arith in
    ap (λ k. take k (doubled text ++ 39 ∷ [])) p ∙ take-append_seam (doubled text) (39 ∷ [])

pub unquoted_spelling : (text : List ℕ) → unquoted (spelling (Quoted text)) ≡ text
unfolding undoubled
unquoted_spelling text =
    let p : undoubled false (doubled text ++ []) ≡ text ++ undoubled false [] = joined text [] in
    ap (undoubled false) (inner text) ∙ ap (undoubled false) (sym (append-nil (doubled text))) ∙ p ∙ append-nil text

not_below_itself : (n : ℕ) → nat_lt n n ≡ false
not_below_itself n = grind (arith, nat_tests)

no_control_byte : (b : ℕ) → is_text_byte b ≡ true → is_control b ≡ false
no_control_byte b e = grind (arith, nat_tests)

pub no_control : (text : List ℕ) → list_all is_text_byte text ≡ true → position is_control text ≡ None
no_control text e =
    let each : AllPass is_text_byte text = AllPass-from_list_all is_text_byte text e in
    let all : position_or_len is_control text ≡ length text =
    position_or_len_is is_control text (length text) 0 (omega arith) (λ k below. no_control_byte (get_or text k 0) (each k 0 below)) (λ below. absurd (omega arith)) in
    ap (λ n. cond (nat_lt n (length text)) (Some n) None) all ∙ ap (λ b. cond b (Some (length text)) None) (not_below_itself (length text))

text_piece : (piece : Piece) → kind_of piece ≡ Some kinds.Quoted → IsPiece piece → IsText (unquoted (spelling piece)) × (2 ≤ length (spelling piece))
text_piece (Quoted text) e p = (rw (unquoted_spelling text) (record { short = p.1; plain = no_control text p.0 }), let n : length (doubled text ++ 39 ∷ []) ≡ length (doubled text) + 1 = length-append (doubled text) (39 ∷ []) in omega arith)
text_piece (Word bytes) e p = cc
text_piece (Number bytes) e p = cc
text_piece (Blank b) e p = cc
text_piece (LineComment body) e p = cc
text_piece (BlockComment body) e p = cc
text_piece (Sign bytes) e p = cc

-- the bytes of a quoted text begin and end with a quote, and mean a text
module _ (text : List ℕ) (token : Token) (is : IsSpelled text token) (e : token.kind ≡ kinds.Quoted) where
  text_parts : IsText (unquoted (spelling is.piece)) × (2 ≤ length (spelling is.piece))
  text_parts = text_piece is.piece (is.kind_is ∙ ap (λ (x : TokenKind). Some x) e) is.right

  pub text_plain : IsText (unquoted (text_of text token))
  text_plain = rw is.text_is text_parts.0

  pub text_length : 2 ≤ length (text_of text token)
  text_length = rw is.text_is text_parts.1

-- ---- only quoted texts have these kinds

low : (k : ℕ) → k < 86 → is_of OTHER_TEXT is_quoted k ≡ false
low k h = grind (arith, nat_tests)

high : (k : ℕ) → 91 ≤ k → is_of OTHER_TEXT is_quoted k ≡ false
high k h = grind (arith, nat_tests)

below : (n m : ℕ) → nat_lt n m ≡ true → n < m
below n m e = grind (arith, nat_tests)

word_no_text : (b c : Bool) (place : ℕ) → nat_lt place NAME ≡ b → is_of OTHER_TEXT is_quoted (if b then place else (if c then NAME else LONG_NAME)) ≡ false
word_no_text true c place e = let p = below place NAME e in low place (omega arith)
word_no_text false true place e = refl
word_no_text false false place e = refl

number_no_text : (a b c : Bool) → is_of OTHER_TEXT is_quoted (if a then SHORT_NUMBER else (if b then NUMBER else (if c then LEAST_NUMBER else LARGE_NUMBER))) ≡ false
number_no_text true b c = refl
number_no_text false true c = refl
number_no_text false false true = refl
number_no_text false false false = refl

sign_no_text : (a : Bool) (n : ℕ) → is_of OTHER_TEXT is_quoted (if a then UNEQUAL else OPEN + n) ≡ false
sign_no_text true n = refl
sign_no_text false n = high (OPEN + n) (omega arith)

quoted_is_text : (k : TokenKind) (bytes : List ℕ) (place : ℕ) → is_of OTHER_TEXT is_quoted (lexeme k bytes place).kind ≡ true → k ≡ kinds.Quoted
unfolding word_kind number_kind sign_kind
quoted_is_text kinds.Quoted bytes place e = refl
quoted_is_text kinds.Word bytes place e = absurd (true≢false (sym e ∙ word_no_text (nat_lt (place_in (reserved_words ++ other_words) (upper bytes)) NAME) (nat_le (length (upper bytes)) 64) (place_in (reserved_words ++ other_words) (upper bytes)) refl))
quoted_is_text kinds.Number bytes place e = let p : is_of OTHER_TEXT is_quoted (number_kind bytes) ≡ false = search number_no_text in absurd (true≢false (sym e ∙ p))
quoted_is_text kinds.Sign bytes place e = let p : is_of OTHER_TEXT is_quoted (sign_kind bytes) ≡ false = search sign_no_text in absurd (true≢false (sym e ∙ p))

module _ (text : List ℕ) (l : Lexed) (is : IsOf text l) (e : is_of OTHER_TEXT is_quoted (kind_number l.kind) ≡ true) where
  pub quoted_token : l.token.kind ≡ kinds.Quoted
  quoted_token = quoted_is_text l.token.kind (text_of text l.token) l.token.start (subst (λ x. is_of OTHER_TEXT is_quoted x ≡ true) is.right e)

  pub quoted_plain : IsText (unquoted (text_of text l.token))
  quoted_plain = text_plain text l.token is.spelled quoted_token

  pub quoted_length : 2 ≤ length (text_of text l.token)
  quoted_length = text_length text l.token is.spelled quoted_token

  pub quoted_valid : IsUtf8 (unquoted (text_of text l.token))
  quoted_valid = is.valid quoted_token

  pub quoted_kind_is : kind_number l.kind ≡ text_kind (unquoted (text_of text l.token))
  quoted_kind_is = is.right ∙ ap (λ k. (lexeme k (text_of text l.token) l.token.start).kind) quoted_token

  pub quoted_says : (seen_as text l).text ≡ unquoted (text_of text l.token)
  quoted_says = ap (λ k. (lexeme k (text_of text l.token) l.token.start).text) quoted_token

-- a quoted text, as a part of a grammar
pub passes_quoted : {before : List Lexeme} {r : Rest} {q : Value} {s : Rest} → IsQuoted r q s → Passes before quoted r (quoted_marks q) s
passes_quoted {before = before} {r = r} {q = q} {s = s} is = passes_token is.takes is.kind
    (subst (λ x. Passes (seen_as r.text.now is.first ∷ before) (Note as_text) s x s) (rw (is.text_is, is.place_is) refl)
    (passes_noted is.takes.known (λ done. refl)))
