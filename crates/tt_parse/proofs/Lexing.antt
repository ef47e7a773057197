-- The tokens of a text, and what is known of them.
use Rattle.std.proofs.Common.{◌≡◌, ℕ, suc, ◌+◌, ◌<◌, ◌≤◌, Bool, true, false, List, [], ◌∷◌, ◌++◌, length, map, get_or, All, Some, if◌then◌else◌, refl, sym, ap, ap₂, ◌∙◌, subst, append_assoc, arith, length-append}
use Rattle.std.specs.Str.{IsUtf8}
use Rattle.std.proofs.lemmas.Bool.{eqb-true}
use Rattle.std.proofs.lemmas.List.{take_at, drop_at, get_or_at}
use Rattle.std.proofs.lemmas.List.Elements.{All-nil, All-cons, All-head, All-tail}
use Rattle.std.proofs.lemmas.Str.{IsUtf8-append, IsUtf8-take, IsUtf8-drop, IsUtf8-between, IsUtf8-past_char, IsCharBoundary-before_ascii}
use Rattle.tt_lex.specs.declared.Token.{Token}
use Rattle.tt_lex.specs.declared.TokenKind.{TokenKind}
use Rattle.tt_lex.specs.declared.TokenKind.TheVariants as kinds
use Rattle.tt_lex.specs.Lexis.{Piece, Word, Number, Quoted, Sign, Blank, LineComment, BlockComment, is_quote, doubled, spelling, kind_of, text_of, AreInOrder, IsBetweenCharacters, IsSpelled}
use Rattle.tt_sql.specs.grammar.Grammar.{Lexeme}
use Rattle.tt_sql.specs.grammar.TokenKinds.{lexeme, lexemes, unquoted}
use Rattle.tt_terminal.specs.declared.rest.Lexed.{Lexed}
use Rattle.tt_parse.specs.Lexing.{IsToken}
use Rattle.tt_terminal.specs.Reading.{IsOf, seen_as}
use Rattle.tt_terminal.proofs.Quotes.{unquoted_spelling}

-- ---- what a quoted text means is a text

past_quote : (rest : List ℕ) → IsUtf8 (39 ∷ rest) → IsUtf8 rest
unfolding lib.Utf8.encode
past_quote rest u = IsUtf8-past_char (39 ∷ rest) rest 39 u refl

before_quote : (rest : List ℕ) → IsUtf8 rest → IsUtf8 (39 ∷ rest)
unfolding lib.Utf8.encode
before_quote rest u = IsUtf8-append (39 ∷ []) rest (39 ∷ [], (refl, refl)) u

-- on both sides of a quote
at_quote : (front rest : List ℕ) → IsUtf8 (front ++ 39 ∷ rest) → IsUtf8 front × IsUtf8 (39 ∷ rest)
at_quote front rest u =
    let n : length (front ++ 39 ∷ rest) ≡ length front + suc (length rest) = length-append front (39 ∷ rest) in
    let byte : get_or (front ++ 39 ∷ rest) (length front) 0 ≡ 39 = get_or_at front 39 rest 0 (length front) refl in
    let cut = IsCharBoundary-before_ascii (front ++ 39 ∷ rest) (length front) (omega (arith, n)) (omega (arith, byte)) in (
      subst IsUtf8 (take_at front (39 ∷ rest) (length front) refl) (IsUtf8-take (front ++ 39 ∷ rest) (length front) u cut),
      subst IsUtf8 (drop_at front (39 ∷ rest) (length front) refl) (IsUtf8-drop (front ++ 39 ∷ rest) (length front) u cut),
    )

single : (front text : List ℕ) → IsUtf8 (front ++ doubled text) → IsUtf8 (front ++ text)
single front [] u = u
single front (b ∷ text) u = one (is_quote b) refl u (λ v. single [] text v) (λ v. single (front ++ b ∷ []) text v)
  where
    one : (q : Bool) → is_quote b ≡ q → IsUtf8 (front ++ ((if q then b ∷ b ∷ [] else b ∷ []) ++ doubled text)) → (IsUtf8 (doubled text) → IsUtf8 text) → (IsUtf8 ((front ++ b ∷ []) ++ doubled text) → IsUtf8 ((front ++ b ∷ []) ++ text)) → IsUtf8 (front ++ b ∷ text)
    one true e u there next =
        let quote : b ≡ 39 = eqb-true b 39 e in
        let parts = at_quote front (39 ∷ doubled text) (subst (λ (x : ℕ). IsUtf8 (front ++ x ∷ x ∷ doubled text)) quote u) in
        let more = there (past_quote (doubled text) (past_quote (39 ∷ doubled text) parts.1)) in
        subst (λ (x : ℕ). IsUtf8 (front ++ x ∷ text)) (sym quote) (IsUtf8-append front (39 ∷ text) parts.0 (before_quote text more))
    one false e u there next = subst IsUtf8 (append_assoc front (b ∷ []) text) (next (subst IsUtf8 (sym (append_assoc front (b ∷ []) (doubled text))) u))

meant_valid : (text : List ℕ) → IsUtf8 (spelling (Quoted text)) → IsUtf8 text
meant_valid text u = single [] text (at_quote (doubled text) [] (past_quote (doubled text ++ 39 ∷ []) u)).0

piece_valid : (piece : Piece) → kind_of piece ≡ Some kinds.Quoted → IsUtf8 (spelling piece) → IsUtf8 (unquoted (spelling piece))
piece_valid (Quoted text) e u = subst IsUtf8 (sym (unquoted_spelling text)) (meant_valid text u)
piece_valid (Word bytes) e u = cc
piece_valid (Number bytes) e u = cc
piece_valid (Sign bytes) e u = cc
piece_valid (Blank b) e u = cc
piece_valid (LineComment body) e u = cc
piece_valid (BlockComment body) e u = cc

-- ---- tokens

order_within : (low high : ℕ) (tokens : List Token) → AreInOrder low high tokens → low ≤ high
order_within low high [] o = o
order_within low high (t ∷ tokens) o = let later = order_within t.«end» high tokens o.2 in omega (arith, later, o.0, o.1)

one_token : (text : List ℕ) (t : Token) → IsUtf8 text → t.start < t.«end» → t.«end» ≤ length text → IsSpelled text t → IsBetweenCharacters text t → IsToken text t
one_token text t u low high spelled between = record {
  low = low;
  high = high;
  spelled = spelled;
  valid = λ e. subst (λ (x : List ℕ). IsUtf8 (unquoted x)) (sym spelled.text_is)
      (piece_valid spelled.piece (spelled.kind_is ∙ ap (λ (x : TokenKind). Some x) e) (subst IsUtf8 spelled.text_is (IsUtf8-between text t.start t.«end» u (omega (arith, low)) between.0 between.1)));
}

pub all_tokens : (text : List ℕ) (low : ℕ) (tokens : List Token) → IsUtf8 text → AreInOrder low (length text) tokens → All (IsSpelled text) tokens → All (IsBetweenCharacters text) tokens → All (IsToken text) tokens
all_tokens text low [] u o spelled between = All-nil (IsToken text)
all_tokens text low (t ∷ tokens) u o spelled between =
    All-cons (IsToken text) t tokens
    (one_token text t u o.1 (order_within t.«end» (length text) tokens o.2) (All-head (IsSpelled text) t tokens spelled) (All-head (IsBetweenCharacters text) t tokens between))
    (all_tokens text t.«end» tokens u o.2 (All-tail (IsSpelled text) t tokens spelled) (All-tail (IsBetweenCharacters text) t tokens between))

-- ---- as the grammar sees them

same_lexeme : (k : TokenKind) (bytes : List ℕ) (place n : ℕ) → n ≡ (lexeme k bytes place).kind → record { kind = n; place = place; text = (lexeme k bytes place).text } ≡ lexeme k bytes place
same_lexeme kinds.Word bytes place n e = ap (λ (x : ℕ). record { kind = x; place = place; text = (lexeme kinds.Word bytes place).text }) e
same_lexeme kinds.Number bytes place n e = ap (λ (x : ℕ). record { kind = x; place = place; text = (lexeme kinds.Number bytes place).text }) e
same_lexeme kinds.Quoted bytes place n e = ap (λ (x : ℕ). record { kind = x; place = place; text = (lexeme kinds.Quoted bytes place).text }) e
same_lexeme kinds.Sign bytes place n e = ap (λ (x : ℕ). record { kind = x; place = place; text = (lexeme kinds.Sign bytes place).text }) e

pub all_lexemes : (text : List ℕ) (ls : List Lexed) → All (IsOf text) ls → map (seen_as text) ls ≡ lexemes text (map (λ (l : Lexed). l.token) ls)
all_lexemes text [] is = refl
all_lexemes text (l ∷ ls) is =
    ap₂ (λ (x : Lexeme) (xs : List Lexeme). x ∷ xs) (same_lexeme l.token.kind (text_of text l.token) l.token.start _ (All-head (IsOf text) l ls is).right) (all_lexemes text ls (All-tail (IsOf text) l ls is))

pub whole_seen : (text bytes : List ℕ) (ls items : List Lexed) (tokens : List Token) → bytes ≡ text → ls ≡ items → All (IsOf bytes) items → map (λ (l : Lexed). l.token) items ≡ tokens → map (seen_as bytes) ls ≡ lexemes text tokens
whole_seen text bytes ls items tokens e f is g = ap (map (seen_as bytes)) f ∙ all_lexemes bytes items is ∙ ap (lexemes bytes) g ∙ ap (λ (x : List ℕ). lexemes x tokens) e
