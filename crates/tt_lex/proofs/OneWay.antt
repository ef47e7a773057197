-- A text is divided in one way. `front_at` computes what it begins with; each piece and each fault that may
-- stand at the front is what `front_at` gives, so there is one.
use Rattle.std.proofs.Common.{◌≡◌, ℕ, suc, ◌+◌, ◌≤◌, Bool, true, false, cond, not, ◌&&◌, ◌||◌, ◌==◌, nat_lt, List, [], ◌∷◌, ◌++◌, length, get_or, take, drop, Option, Some, None, Result, Ok, Err, refl, sym, ap, subst, ◌∙◌, append_assoc, zero-add, arith, inl, inr, codes}
use Rattle.std.specs.List.{list_all, list_any, prefix_len}
use Rattle.std.specs.Option.{option_map}
use Rattle.std.specs.Char.{is_ascii_digit}
use Rattle.std.specs.Str.{bytes_eq}
use Rattle.std.proofs.lemmas.Bool.{cases_Bool, eqb-true, ne_eqb, lt-ltb, le-ltb, or_cases, or_parts, and_right, and_parts, not-true, false_from_ne_true, false≢true}
use Rattle.std.proofs.lemmas.Bool.Decides.{nat_tests}
use Rattle.std.proofs.lemmas.Slice.Eq.{bytes_eq-Decides}
use Rattle.std.proofs.lemmas.List.{append-nil, length-append, drop_at, get_or_at, take-append-drop}
use Rattle.tt_lex.specs.declared.Token.{Token}
use Rattle.tt_lex.specs.declared.TokenKind.{TokenKind}
use Rattle.tt_lex.specs.declared.TokenKind.TheVariants as kinds
use Rattle.tt_lex.specs.declared.LexFault.{LexFault}
use Rattle.tt_lex.specs.declared.LexFault.TheVariants.{BadByte, UnclosedText, UnclosedComment, BackslashInText, TextTooLong}
use Rattle.tt_lex.specs.Lexis.{Piece, Blank, LineComment, BlockComment, Word, Number, Quoted, Sign, is_white, is_word_start, is_word_part, is_line_byte, is_text_byte, is_sign, is_quote, doubled, spelling, NotClosed, StopsAt, IsPiece, EndsBefore, RefusesInText, IsQuotedAt, BeginsNothing, IsFault, spelled, ArePieces, kind_of, tokens_from, HasTokens, HasFault, IfFault, GivesFault}
use Rattle.tt_lex.specs.declared.TokensError.{TokensError}
use Rattle.tt_lex.specs.declared.TokensError.TheVariants.{Lex, Memory}
use Rattle.std.specs.Global.{Vec}
use Rattle.std.specs.Prelude.{IfOk}
use Rattle.tt_lex.specs.answer.Fronts.{passes-doubled, spelling_some}

-- ---- what a text begins with, computed

-- a kind or none, and a length; at the end of the text the length is 0
abbrev pub Begun : Type 0
Begun = Result (Option TokenKind × ℕ) LexFault

-- what is meant in quotes, and what stands behind them
with_byte : ℕ → Option (List ℕ × List ℕ) → Option (List ℕ × List ℕ)
with_byte b found = option_map (λ (p : List ℕ × List ℕ). (b ∷ p.0, p.1)) found

inside : List ℕ → Option (List ℕ × List ℕ)
inside [] = None
inside (b ∷ []) = cond (is_quote b) (Some ([], [])) None
inside (b ∷ c ∷ bytes) = cond (is_quote b) (cond (is_quote c) (with_byte b (inside bytes)) (Some ([], c ∷ bytes))) (with_byte b (inside (c ∷ bytes)))

refused_at : ℕ → ℕ → Begun
refused_at place b = cond (b == 92) (Err (BackslashInText place)) (Err (BadByte place))

text_at : ℕ → List ℕ → Begun
text_at at bytes = cond (list_all is_text_byte bytes) (Ok (Some kinds.Quoted, length bytes + 1)) (refused_at (at + prefix_len is_text_byte bytes) (get_or bytes (prefix_len is_text_byte bytes) 0))

quoted_front : ℕ → Option (List ℕ × List ℕ) → Begun
quoted_front at None = Err (UnclosedText at)
quoted_front at (Some p) = cond (nat_lt 65535 (length p.0)) (Err (TextTooLong at)) (text_at at (39 ∷ doubled p.0))

-- how many bytes stand in front of `*/`
close_of : List ℕ → Option ℕ
close_of [] = None
close_of (b ∷ bytes) = cond (bytes_eq (b ∷ take 1 bytes) (codes "*/")) (Some 0) (option_map (λ n. suc n) (close_of bytes))

block_front : ℕ → Option ℕ → Begun
block_front at None = Err (UnclosedComment at)
block_front at (Some n) = Ok (None, 4 + n)

short_front : ℕ → ℕ → Begun
short_front at a = cond (is_sign (a ∷ [])) (Ok (Some kinds.Sign, 1)) (Err (BadByte at))

sign_front : ℕ → ℕ → List ℕ → Begun
sign_front at a [] = short_front at a
sign_front at a (b ∷ more) = cond (is_sign (a ∷ b ∷ [])) (Ok (Some kinds.Sign, 2)) (short_front at a)

front_at : ℕ → List ℕ → Begun
front_at at [] = Ok (None, 0)
front_at at (b ∷ more) =
    cond (is_white b) (Ok (None, 1))
    (cond (is_word_start b) (Ok (Some kinds.Word, 1 + prefix_len is_word_part more))
    (cond (is_ascii_digit b) (Ok (Some kinds.Number, 1 + prefix_len is_ascii_digit more))
    (cond (is_quote b) (quoted_front at (inside more))
    (cond (bytes_eq (b ∷ take 1 more) (codes "--")) (Ok (None, 2 + prefix_len is_line_byte (drop 1 more)))
    (cond (bytes_eq (b ∷ take 1 more) (codes "/*")) (block_front at (close_of (drop 1 more)))
    (sign_front at b more))))))

-- ---- runs

run_is : (test : ℕ → Bool) (front behind : List ℕ) → list_all test front ≡ true → StopsAt test behind → prefix_len test (front ++ behind) ≡ length front
run_is test [] [] passes stops = refl
run_is test [] (b ∷ behind) passes stops = rw stops refl
run_is test (b ∷ front) behind passes stops =
    let p = and_parts (test b) (list_all test front) passes in
    rw (p.0, run_is test front behind p.1 stops) (omega arith)

run_before : (test : ℕ → Bool) (front : List ℕ) (b : ℕ) (behind : List ℕ) → list_all test front ≡ true → test b ≡ false → (prefix_len test (front ++ b ∷ behind) ≡ length front) × (list_all test (front ++ b ∷ behind) ≡ false)
run_before test [] b behind passes stops = (rw stops refl, rw stops refl)
run_before test (c ∷ front) b behind passes stops =
    let p = and_parts (test c) (list_all test front) passes in
    let r = run_before test front b behind p.1 stops in
    (rw (p.0, r.0) (omega arith), rw (p.0, r.1) refl)

-- ---- the classes of first bytes are apart

word_no_white : (b : ℕ) → is_word_start b ≡ true → is_white b ≡ false
word_no_white b word = grind (arith, nat_tests)

digit_no_white : (b : ℕ) → is_ascii_digit b ≡ true → is_white b ≡ false
digit_no_white b digit = grind (arith, nat_tests)

digit_no_word : (b : ℕ) → is_ascii_digit b ≡ true → is_word_start b ≡ false
digit_no_word b digit = grind (arith, nat_tests)

pub any_byte : (good : ℕ → Bool) (a : ℕ) (bytes : List ℕ) → list_any (λ s. s == a) bytes ≡ true → list_all good bytes ≡ true → good a ≡ true
any_byte good a [] found all = absurd (false≢true found)
any_byte good a (b ∷ bytes) found all =
    let p = and_parts (good b) (list_all good bytes) all in
    elim (or_cases (b == a) (list_any (λ s. s == a) bytes) found) [
      | inl here ↦ subst (λ (x : ℕ). good x ≡ true) (eqb-true b a here) p.0
      | inr there ↦ any_byte good a bytes there p.1
    ]

pub any_bytes : (good : List ℕ → Bool) (sign : List ℕ) (signs : List (List ℕ)) → list_any (bytes_eq sign) signs ≡ true → list_all good signs ≡ true → good sign ≡ true
any_bytes good sign [] found all = absurd (false≢true found)
any_bytes good sign (first ∷ signs) found all =
    let p = and_parts (good first) (list_all good signs) all in
    elim (or_cases (bytes_eq sign first) (list_any (bytes_eq sign) signs) found) [
      | inl here ↦ subst (λ (x : List ℕ). good x ≡ true) (sym ((bytes_eq-Decides sign first).0 here)) p.0
      | inr there ↦ any_bytes good sign signs there p.1
    ]

-- nothing but a sign or a comment begins with this byte
is_apart : ℕ → Bool
is_apart a = not (is_white a || is_word_start a || is_ascii_digit a || is_quote a || a == 47)

short_apart : (a : ℕ) → is_sign (a ∷ []) ≡ true → is_apart a ≡ true
unfolding is_apart
short_apart a sign = any_byte is_apart a (codes "(),.;*+-=<>") sign refl

is_long_apart : List ℕ → Bool
is_long_apart sign = is_apart (get_or sign 0 0) && not (bytes_eq sign (codes "--"))

long_apart : (a b : ℕ) → is_sign (a ∷ b ∷ []) ≡ true → (is_apart a ≡ true) × (bytes_eq (a ∷ b ∷ []) (codes "--") ≡ false)
unfolding is_apart is_long_apart
long_apart a b sign =
    let p = and_parts (is_apart a) (not (bytes_eq (a ∷ b ∷ []) (codes "--"))) (any_bytes is_long_apart (a ∷ b ∷ []) (codes "<>" ∷ codes "!=" ∷ codes "<=" ∷ codes ">=" ∷ codes "=>" ∷ codes "::" ∷ []) sign refl) in
    (p.0, not-true _ p.1)

-- ---- the branches

at_sign : (at a : ℕ) (more : List ℕ) → is_apart a ≡ true → bytes_eq (a ∷ take 1 more) (codes "--") ≡ false → front_at at (a ∷ more) ≡ sign_front at a more
unfolding front_at is_apart
at_sign at a more apart no_comment =
    let e = not-true _ apart in
    let p = or_parts (is_white a || is_word_start a || is_ascii_digit a || is_quote a) (a == 47) e in
    let q = or_parts (is_white a || is_word_start a || is_ascii_digit a) (is_quote a) p.0 in
    let r = or_parts (is_white a || is_word_start a) (is_ascii_digit a) q.0 in
    let s = or_parts (is_white a) (is_word_start a) r.0 in
    let no_white = s.0 in
    let no_word = s.1 in
    let no_digit = r.1 in
    let no_quote = q.1 in
    let no_block : bytes_eq (a ∷ take 1 more) (codes "/*") ≡ false = rw p.1 refl in
    rw (no_white, no_word, no_digit, no_quote, no_comment, no_block) refl

-- ---- comments

NotClosed-rest : (b : ℕ) (bytes : List ℕ) → NotClosed (b ∷ bytes) → NotClosed bytes
NotClosed-rest b bytes unclosed k star slash =
    let e : suc k + 1 ≡ suc (k + 1) = omega arith in
    unclosed (suc k) star (ap (λ (i : ℕ). get_or (b ∷ bytes) i 0) e ∙ slash)

-- no `*/` begins here
not_here : (b : ℕ) (bytes : List ℕ) → NotClosed (b ∷ bytes) → (next : List ℕ) → (bytes ≡ [] → get_or next 0 0 ≡ 47 → ⊥) → bytes_eq (b ∷ take 1 (bytes ++ next)) (codes "*/") ≡ false
not_here b [] unclosed [] apart = and_right (b == 42) _ refl
not_here b [] unclosed (c ∷ next) apart = and_right (b == 42) _ (rw (ne_eqb c 47 (apart refl)) refl)
not_here b (c ∷ bytes) unclosed next apart = elim (cases_Bool (b == 42)) [
  | inl star ↦ and_right (b == 42) _ (rw (ne_eqb c 47 (unclosed 0 (eqb-true b 42 star))) refl)
  | inr other ↦ rw other refl
]

close-next : (b : ℕ) (bytes : List ℕ) → bytes_eq (b ∷ take 1 bytes) (codes "*/") ≡ false → close_of (b ∷ bytes) ≡ option_map (λ n. suc n) (close_of bytes)
unfolding close_of
close-next b bytes none_here = rw none_here refl

close-here : (behind : List ℕ) → close_of (42 ∷ 47 ∷ behind) ≡ Some 0
unfolding close_of
close-here behind = refl

close-nil : close_of [] ≡ None
unfolding close_of
close-nil = refl

forty_two : ◌≡◌ {A = ℕ} 42 47 → ⊥
forty_two e = absurd (omega arith)

zero_apart : ◌≡◌ {A = ℕ} 0 47 → ⊥
zero_apart e = absurd (omega arith)

close_found : (body behind : List ℕ) → NotClosed body → close_of (body ++ 42 ∷ 47 ∷ behind) ≡ Some (length body)
close_found [] behind unclosed = close-here behind
close_found (b ∷ body) behind unclosed =
    close-next b (body ++ 42 ∷ 47 ∷ behind) (not_here b body unclosed (42 ∷ 47 ∷ behind) (λ _. forty_two)) ∙ ap (option_map (λ (n : ℕ). suc n)) (close_found body behind (NotClosed-rest b body unclosed))

close_none : (body : List ℕ) → NotClosed body → close_of body ≡ None
close_none [] unclosed = close-nil
close_none (b ∷ body) unclosed =
    let none_here : bytes_eq (b ∷ take 1 body) (codes "*/") ≡ false = subst (λ (xs : List ℕ). bytes_eq (b ∷ take 1 xs) (codes "*/") ≡ false) (append-nil body) (not_here b body unclosed [] (λ _. zero_apart)) in
    close-next b body none_here ∙ ap (option_map (λ (n : ℕ). suc n)) (close_none body (NotClosed-rest b body unclosed))

-- ---- quoted texts

inside-other : (b : ℕ) (bytes : List ℕ) → is_quote b ≡ false → inside (b ∷ bytes) ≡ with_byte b (inside bytes)
unfolding inside with_byte
inside-other b [] other = rw other refl
inside-other b (c ∷ bytes) other = rw other refl

inside-quotes : (b : ℕ) (bytes : List ℕ) → is_quote b ≡ true → inside (b ∷ b ∷ bytes) ≡ with_byte b (inside bytes)
unfolding inside
inside-quotes b bytes quote = rw quote refl

inside_closed : (text behind : List ℕ) → StopsAt is_quote behind → inside (doubled text ++ 39 ∷ behind) ≡ Some (text, behind)
unfolding inside with_byte
inside_closed [] [] stops = refl
inside_closed [] (b ∷ behind) stops = rw stops refl
inside_closed (b ∷ text) behind stops = elim (cases_Bool (is_quote b)) [
  | inl quote ↦ rw (quote, inside-quotes b (doubled text ++ 39 ∷ behind) quote, inside_closed text behind stops) refl
  | inr other ↦ rw (other, inside-other b (doubled text ++ 39 ∷ behind) other, inside_closed text behind stops) refl
]

inside_open : (text : List ℕ) → inside (doubled text) ≡ None
unfolding inside with_byte
inside_open [] = refl
inside_open (b ∷ text) = elim (cases_Bool (is_quote b)) [
  | inl quote ↦ rw (quote, inside-quotes b (doubled text) quote, inside_open text) refl
  | inr other ↦ rw (other, inside-other b (doubled text) other, inside_open text) refl
]

at_quote : (at : ℕ) (more : List ℕ) → front_at at (39 ∷ more) ≡ quoted_front at (inside more)
unfolding front_at
at_quote at more = refl

at_quoted : (at : ℕ) (rest text : List ℕ) → IsQuotedAt rest text → front_at at rest ≡ quoted_front at (Some (text, []))
unfolding quoted_front
at_quoted at rest text quoted =
    let e : rest ≡ 39 ∷ (doubled text ++ 39 ∷ quoted.behind) = quoted.parts ∙ ap (λ (xs : List ℕ). 39 ∷ xs) (append_assoc (doubled text) (39 ∷ []) quoted.behind) in
    ap (front_at at) e ∙ at_quote at (doubled text ++ 39 ∷ quoted.behind) ∙ ap (quoted_front at) (inside_closed text quoted.behind quoted.ends)

short_enough : (at : ℕ) (text : List ℕ) → length text ≤ 65535 → quoted_front at (Some (text, [])) ≡ text_at at (39 ∷ doubled text)
unfolding quoted_front
short_enough at text short = rw (le-ltb 65535 (length text) short) refl

refuses_at : (at : ℕ) (rest before : List ℕ) (refused : ℕ) → RefusesInText rest before refused → front_at at rest ≡ refused_at (at + length before) refused
unfolding text_at
refuses_at at rest before refused r =
    let p = run_before is_text_byte before refused r.after r.allowed r.not_allowed in
    let here : get_or (before ++ refused ∷ r.after) (length before) 0 ≡ refused = get_or_at before refused r.after 0 (length before) refl in
    at_quoted at rest r.text r.quoted ∙ short_enough at r.text r.short ∙ ap (text_at at) r.parts ∙ rw (p.1, p.0, here) refl

-- ---- each piece

quoted_piece : (at : ℕ) (text behind : List ℕ) → list_all is_text_byte text ≡ true → length text ≤ 65535 → StopsAt is_quote behind → front_at at (spelling (Quoted text) ++ behind) ≡ Ok (Some kinds.Quoted, length (spelling (Quoted text)))
unfolding text_at
quoted_piece at text behind passes short ends =
    let all : list_all is_text_byte (39 ∷ doubled text) ≡ true = passes-doubled is_text_byte text ∙ passes in
    at_quoted at (spelling (Quoted text) ++ behind) text (record { behind = behind; parts = refl; ends = ends }) ∙ short_enough at text short ∙ rw all (ap (λ (n : ℕ). Ok (Some kinds.Quoted, n)) (omega (arith, length-append (doubled text) (39 ∷ []))))

front_piece : (at : ℕ) (piece : Piece) (behind : List ℕ) → IsPiece piece → EndsBefore piece behind → front_at at (spelling piece ++ behind) ≡ Ok (kind_of piece, length (spelling piece))
unfolding front_at sign_front short_front block_front
front_piece at (Blank b) behind right ends = rw right refl
front_piece at (LineComment body) behind right ends = rw (run_is is_line_byte body behind right ends) (ap (λ (n : ℕ). Ok (None, n)) (omega arith))
front_piece at (BlockComment body) behind right ends =
    let parts : (body ++ codes "*/") ++ behind ≡ body ++ 42 ∷ 47 ∷ behind = append_assoc body (codes "*/") behind in
    rw (parts, close_found body behind right) (ap (λ (n : ℕ). Ok (None, n)) (omega (arith, length-append body (codes "*/"))))
front_piece at (Word []) behind right ends = absurd right
front_piece at (Word (b ∷ bytes)) behind right ends = rw (word_no_white b right.0, right.0, run_is is_word_part bytes behind right.1 ends) (ap (λ (n : ℕ). Ok (Some kinds.Word, n)) (omega arith))
front_piece at (Number []) behind right ends = absurd right
front_piece at (Number (b ∷ bytes)) behind right ends = rw (digit_no_white b right.0, digit_no_word b right.0, right.0, run_is is_ascii_digit bytes behind right.1 ends) (ap (λ (n : ℕ). Ok (Some kinds.Number, n)) (omega arith))
front_piece at (Quoted text) behind right ends = quoted_piece at text behind right.0 right.1 ends
front_piece at (Sign []) behind right ends = absurd (false≢true right)
front_piece at (Sign (a ∷ [])) [] right ends = at_sign at a [] (short_apart a right) (and_right (a == 45) _ refl) ∙ rw right refl
front_piece at (Sign (a ∷ [])) (b ∷ behind) right ends =
    let p = or_parts (is_sign (a ∷ b ∷ [])) (bytes_eq (a ∷ b ∷ []) (codes "--")) ends in
    at_sign at a (b ∷ behind) (short_apart a right) p.1 ∙ rw (p.0, right) refl
front_piece at (Sign (a ∷ b ∷ [])) behind right ends =
    let p = long_apart a b right in
    at_sign at a (b ∷ behind) p.0 p.1 ∙ rw right refl
front_piece at (Sign (a ∷ b ∷ c ∷ bytes)) behind right ends = absurd (false≢true right)

-- ---- each fault

-- the text begins with these two bytes
two_front : (b : ℕ) (more : List ℕ) (c d : ℕ) → bytes_eq (b ∷ take 1 more) (c ∷ d ∷ []) ≡ true → b ∷ more ≡ c ∷ d ∷ drop 1 more
two_front b more c d e =
    let f : b ∷ take 1 more ≡ c ∷ d ∷ [] = (bytes_eq-Decides (b ∷ take 1 more) (c ∷ d ∷ [])).0 e in
    let g : b ∷ (take 1 more ++ drop 1 more) ≡ c ∷ d ∷ drop 1 more = ap (λ (xs : List ℕ). xs ++ drop 1 more) f in
    ap (λ (xs : List ℕ). b ∷ xs) (sym (take-append-drop 1 more)) ∙ g

no_sign : (at b : ℕ) (more : List ℕ) → BeginsNothing (b ∷ more) → sign_front at b more ≡ Err (BadByte at)
unfolding sign_front short_front
no_sign at b [] nothing =
    let no_short : is_sign (b ∷ []) ≡ false = false_from_ne_true _ (λ e. nothing.no_piece (Sign (b ∷ [])) [] e refl) in
    rw no_short refl
no_sign at b (c ∷ more) nothing =
    let no_short : is_sign (b ∷ []) ≡ false = false_from_ne_true _ (λ e. nothing.no_piece (Sign (b ∷ [])) (c ∷ more) e refl) in
    let no_long : is_sign (b ∷ c ∷ []) ≡ false = false_from_ne_true _ (λ e. nothing.no_piece (Sign (b ∷ c ∷ [])) more e refl) in
    rw (no_long, no_short) refl

front_nothing : (at : ℕ) (rest : List ℕ) → BeginsNothing rest → front_at at rest ≡ Err (BadByte at)
unfolding front_at
front_nothing at [] nothing = absurd (nothing.some_byte refl)
front_nothing at (b ∷ more) nothing =
    let no_white : is_white b ≡ false = false_from_ne_true _ (λ e. nothing.no_piece (Blank b) more e refl) in
    let no_word : is_word_start b ≡ false = false_from_ne_true _ (λ e. nothing.no_piece (Word (b ∷ [])) more (e, refl) refl) in
    let no_digit : is_ascii_digit b ≡ false = false_from_ne_true _ (λ e. nothing.no_piece (Number (b ∷ [])) more (e, refl) refl) in
    let no_quote : is_quote b ≡ false = false_from_ne_true _ (λ e. nothing.no_quote more (ap (λ (x : ℕ). x ∷ more) (eqb-true b 39 e))) in
    let no_line : bytes_eq (b ∷ take 1 more) (codes "--") ≡ false = false_from_ne_true _ (λ e. nothing.no_piece (LineComment []) (drop 1 more) refl (two_front b more 45 45 e)) in
    let no_block : bytes_eq (b ∷ take 1 more) (codes "/*") ≡ false = false_from_ne_true _ (λ e. nothing.no_comment (drop 1 more) (two_front b more 47 42 e)) in
    rw (no_white, no_word, no_digit, no_quote, no_line, no_block) (no_sign at b more nothing)

front_fault : (at : ℕ) (fault : LexFault) (rest : List ℕ) → IsFault fault at rest → front_at at rest ≡ Err fault
unfolding quoted_front refused_at front_at block_front
front_fault at (UnclosedText place) rest (place_is, text, rest_is) =
    rw rest_is (ap (quoted_front at) (inside_open text) ∙ rw place_is refl)
front_fault at (TextTooLong place) rest (place_is, text, quoted, long) =
    at_quoted at rest text quoted ∙ rw (lt-ltb 65535 (length text) long, place_is) refl
front_fault at (BackslashInText place) rest (before, refused, place_is) =
    refuses_at at rest before 92 refused ∙ rw place_is refl
front_fault at (UnclosedComment place) rest (place_is, body, rest_is, unclosed) =
    rw rest_is (ap (block_front at) (close_none body unclosed) ∙ rw place_is refl)
front_fault at (BadByte place) rest fault = elim fault [
  | inl here ↦ front_nothing at rest here.1 ∙ rw here.0 refl
  | inr there ↦ refuses_at at rest there.0 there.1 there.2 ∙ rw (ne_eqb there.1 92 there.3, there.4) refl
]

-- ---- whole texts

abbrev Begun_ok : Option TokenKind × ℕ → Begun
Begun_ok front = Ok front

abbrev Begun_err : LexFault → Begun
Begun_err fault = Err fault

-- no piece stands here: the end of the text, or a fault
abbrev pub IsStop : Begun → Type 0
IsStop (Ok front) = front.1 ≡ 0
IsStop (Err fault) = Unit {0}

same_front : (f g : Option TokenKind × ℕ) → Begun_ok f ≡ Begun_ok g → f ≡ g
same_front f g e = cc

-- what begins with a piece does not stop
no_stop : (at : ℕ) (piece : Piece) (behind : List ℕ) (stop : Begun) → IsPiece piece → EndsBefore piece behind → front_at at (spelling piece ++ behind) ≡ stop → IsStop stop → ⊥
no_stop at piece behind (Ok front) right ends begun stops =
    let e : Begun_ok (kind_of piece, length (spelling piece)) ≡ Begun_ok front = sym (front_piece at piece behind right ends) ∙ begun in
    let some = spelling_some piece right in
    let same : length (spelling piece) ≡ front.1 = cc in
    absurd (omega arith)
no_stop at piece behind (Err fault) right ends begun stops =
    let e : Begun_ok (kind_of piece, length (spelling piece)) ≡ Begun_err fault = sym (front_piece at piece behind right ends) ∙ begun in
    absurd cc

-- Two divisions of a text have the same tokens, and stop in the same way.
one_way : (at : ℕ) (ps qs : List Piece) (rest rest' : List ℕ) (stop stop' : Begun) → spelled ps ++ rest ≡ spelled qs ++ rest' → ArePieces ps rest → ArePieces qs rest'
    → front_at (at + length (spelled ps)) rest ≡ stop → front_at (at + length (spelled qs)) rest' ≡ stop' → IsStop stop → IsStop stop'
    → (tokens_from at ps ≡ tokens_from at qs) × (stop ≡ stop')
one_way at [] [] rest rest' stop stop' same each each' begun begun' stops stops' =
    (refl, sym begun ∙ ap (front_at (at + 0)) same ∙ begun')
one_way at [] (q ∷ qs) rest rest' stop stop' same each each' begun begun' stops stops' =
    let e : rest ≡ spelling q ++ (spelled qs ++ rest') = same ∙ append_assoc (spelling q) (spelled qs) rest' in
    absurd (no_stop (at + 0) q (spelled qs ++ rest') stop each'.0 each'.1 (ap (front_at (at + 0)) (sym e) ∙ begun) stops)
one_way at (p ∷ ps) [] rest rest' stop stop' same each each' begun begun' stops stops' =
    let e : rest' ≡ spelling p ++ (spelled ps ++ rest) = sym same ∙ append_assoc (spelling p) (spelled ps) rest in
    absurd (no_stop (at + 0) p (spelled ps ++ rest) stop' each.0 each.1 (ap (front_at (at + 0)) (sym e) ∙ begun') stops')
one_way at (p ∷ ps) (q ∷ qs) rest rest' stop stop' same each each' begun begun' stops stops' =
    let e : spelling p ++ (spelled ps ++ rest) ≡ spelling q ++ (spelled qs ++ rest') = sym (append_assoc (spelling p) (spelled ps) rest) ∙ same ∙ append_assoc (spelling q) (spelled qs) rest' in
    let fronts : Begun_ok (kind_of p, length (spelling p)) ≡ Begun_ok (kind_of q, length (spelling q)) = sym (front_piece at p (spelled ps ++ rest) each.0 each.1) ∙ ap (front_at at) e ∙ front_piece at q (spelled qs ++ rest') each'.0 each'.1 in
    let both = same_front (kind_of p, length (spelling p)) (kind_of q, length (spelling q)) fronts in
    let kinds_same : kind_of p ≡ kind_of q = ap (λ (f : Option TokenKind × ℕ). f.0) both in
    let lengths_same : length (spelling p) ≡ length (spelling q) = ap (λ (f : Option TokenKind × ℕ). f.1) both in
    let behind_same : spelled ps ++ rest ≡ spelled qs ++ rest' = sym (drop_at (spelling p) (spelled ps ++ rest) (length (spelling p)) refl) ∙ ap (drop (length (spelling p))) e ∙ drop_at (spelling q) (spelled qs ++ rest') (length (spelling p)) (sym lengths_same) in
    let next = at + length (spelling p) in
    let place : at + length (spelled (p ∷ ps)) ≡ next + length (spelled ps) = omega (arith, length-append (spelling p) (spelled ps)) in
    let place' : at + length (spelled (q ∷ qs)) ≡ next + length (spelled qs) = omega (arith, lengths_same, length-append (spelling q) (spelled qs)) in
    let more = one_way next ps qs rest rest' stop stop' behind_same each.2 each'.2 (ap (λ (n : ℕ). front_at n rest) (sym place) ∙ begun) (ap (λ (n : ℕ). front_at n rest') (sym place') ∙ begun') stops stops' in
    (rw (← kinds_same, ← lengths_same, more.0) refl, more.1)

-- ---- one answer for a text

ended : (at : ℕ) (rest : List ℕ) → rest ≡ [] → front_at at rest ≡ Begun_ok (None, 0)
unfolding front_at
ended at rest e = ap (front_at at) e

pub same_tokens : (text : List ℕ) (xs ys : List Token) → HasTokens text xs → HasTokens text ys → xs ≡ ys
same_tokens text xs ys h k =
    let e : spelled h.pieces ++ [] ≡ spelled k.pieces ++ [] = ap (λ (bytes : List ℕ). bytes ++ []) (sym h.whole ∙ k.whole) in
    h.kept ∙ (one_way 0 h.pieces k.pieces [] [] (Begun_ok (None, 0)) (Begun_ok (None, 0)) e h.each k.each (ended _ [] refl) (ended _ [] refl) refl refl).0 ∙ sym k.kept

pub same_fault : (text : List ℕ) (f g : LexFault) → HasFault text f → HasFault text g → f ≡ g
same_fault text f g h k =
    let here : IsFault f (0 + length (spelled h.pieces)) h.rest = subst (λ (n : ℕ). IsFault f n h.rest) (sym (zero-add _)) h.here in
    let there : IsFault g (0 + length (spelled k.pieces)) k.rest = subst (λ (n : ℕ). IsFault g n k.rest) (sym (zero-add _)) k.here in
    let stops : Begun_err f ≡ Begun_err g = (one_way 0 h.pieces k.pieces h.rest k.rest (Err f) (Err g) (sym h.whole ∙ k.whole) h.each k.each (front_fault _ f h.rest here) (front_fault _ g k.rest there) tt tt).1 in
    cc

pub not_both : (text : List ℕ) (xs : List Token) (f : LexFault) → HasTokens text xs → HasFault text f → ⊥
not_both text xs f h k =
    let e : spelled h.pieces ++ [] ≡ spelled k.pieces ++ k.rest = append-nil (spelled h.pieces) ∙ sym h.whole ∙ k.whole in
    let there : IsFault f (0 + length (spelled k.pieces)) k.rest = subst (λ (n : ℕ). IsFault f n k.rest) (sym (zero-add _)) k.here in
    let stops : Begun_ok (None, 0) ≡ Begun_err f = (one_way 0 h.pieces k.pieces [] k.rest (Begun_ok (None, 0)) (Err f) e h.each k.each (ended _ [] refl) (front_fault _ f k.rest there) refl tt).1 in
    cc

pub only_fault : (text : List ℕ) (result : Result (Vec Token) TokensError) (f : LexFault) → IfOk result (λ tokens. HasTokens text tokens.items) → IfFault result (HasFault text) → HasFault text f → GivesFault f result
only_fault text (Ok given) f found fault h = not_both text given.items f found h
only_fault text (Err Memory) f found fault h = tt
only_fault text (Err (Lex g)) f found fault h = same_fault text g f fault h
