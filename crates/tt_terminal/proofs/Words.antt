-- What the tokens are that are names.
use Rattle.std.proofs.Common.{◌≡◌, ℕ, suc, ◌+◌, ◌<◌, ◌≤◌, Bool, true, false, ◌||◌, ◌==◌, nat_le, nat_lt, List, [], ◌∷◌, ◌++◌, length, All, Some, if◌then◌else◌, bytes_eq, refl, sym, ap, ◌∙◌, subst, arith, true≢false}
use Rattle.std.specs.List.{list_all}
use Rattle.std.specs.Char.{is_ascii_digit, to_ascii_uppercase}
use Rattle.std.proofs.lemmas.Bool.{and_parts}
use Rattle.std.proofs.lemmas.List.Elements.{All-cons, All-nil}
use Rattle.std.proofs.lemmas.Bool.Decides.{nat_tests}
use Rattle.std.proofs.lemmas.Slice.Eq.{bytes_eq-Decides}
use Rattle.std.proofs.lemmas.List.{length-map}
use Rattle.tt_lex.specs.declared.Token.{Token}
use Rattle.tt_lex.specs.declared.TokenKind.{TokenKind}
use Rattle.tt_lex.specs.declared.TokenKind.TheVariants as kinds
use Rattle.tt_lex.specs.Lexis.{Piece, Word, Number, Quoted, Sign, Blank, LineComment, BlockComment, is_word_start, is_word_part, text_of, IsPiece, IsSpelled, kind_of, spelling}
use Rattle.tt_value.specs.values.Texts.{IsPrintableAscii}
use Rattle.tt_sql.specs.grammar.Grammar.{is_of}
use Rattle.tt_sql.proofs.grammar.Fronts.{false≢true, and_join, or_first}
use Rattle.tt_sql.specs.grammar.TokenKinds.{NAME, LONG_NAME, SHORT_NUMBER, NUMBER, LEAST_NUMBER, LARGE_NUMBER, DATE_TEXT, TIME_TEXT, UNIT_TEXT, NAME_TEXT, OTHER_TEXT, OPEN, UNEQUAL, is_name, upper, word_kind, number_kind, text_kind, sign_kind, unquoted, lexeme, place_in, reserved_words, other_words}

-- ---- only words are names

above : (k : ℕ) → 81 ≤ k → is_of NAME is_name k ≡ false
above k h = grind (arith, nat_tests)

number_no_name : (a b c : Bool) → is_of NAME is_name (if a then SHORT_NUMBER else (if b then NUMBER else (if c then LEAST_NUMBER else LARGE_NUMBER))) ≡ false
number_no_name true b c = refl
number_no_name false true c = refl
number_no_name false false true = refl
number_no_name false false false = refl

text_no_name : (a b c d : Bool) → is_of NAME is_name (if a then DATE_TEXT else (if b then TIME_TEXT else (if c then UNIT_TEXT else (if d then NAME_TEXT else OTHER_TEXT)))) ≡ false
text_no_name true b c d = refl
text_no_name false true c d = refl
text_no_name false false true d = refl
text_no_name false false false true = refl
text_no_name false false false false = refl

sign_no_name : (a : Bool) (n : ℕ) → is_of NAME is_name (if a then UNEQUAL else OPEN + n) ≡ false
sign_no_name true n = refl
sign_no_name false n = above (OPEN + n) (omega arith)

pub name_is_word : (k : TokenKind) (bytes : List ℕ) (place : ℕ) → is_of NAME is_name (lexeme k bytes place).kind ≡ true → k ≡ kinds.Word
unfolding number_kind text_kind sign_kind
name_is_word kinds.Word bytes place e = refl
name_is_word kinds.Number bytes place e = let p : is_of NAME is_name (number_kind bytes) ≡ false = search number_no_name in absurd (true≢false (sym e ∙ p))
name_is_word kinds.Quoted bytes place e = let p : is_of NAME is_name (text_kind (unquoted bytes)) ≡ false = search text_no_name in absurd (true≢false (sym e ∙ p))
name_is_word kinds.Sign bytes place e = let p : is_of NAME is_name (sign_kind bytes) ≡ false = search sign_no_name in absurd (true≢false (sym e ∙ p))

-- ---- what a word is

printable_upper : (b : ℕ) → is_word_part b ≡ true → IsPrintableAscii (to_ascii_uppercase b)
printable_upper b e = grind (arith, nat_tests)

pub all_printable : (bytes : List ℕ) → list_all is_word_part bytes ≡ true → All IsPrintableAscii (upper bytes)
all_printable [] e = All-nil IsPrintableAscii
all_printable (b ∷ bytes) e = let p = and_parts (is_word_part b) (list_all is_word_part bytes) e in All-cons IsPrintableAscii (to_ascii_uppercase b) (upper bytes) (printable_upper b p.0) (all_printable bytes p.1)

pub starts : (b : ℕ) → is_word_start b ≡ true → is_word_part b ≡ true
starts b e = or_first (is_word_start b || is_ascii_digit b) (b == 36) (or_first (is_word_start b) (is_ascii_digit b) e)

word_piece : (piece : Piece) → kind_of piece ≡ Some kinds.Word → IsPiece piece → list_all is_word_part (spelling piece) ≡ true
word_piece (Word []) e p = absurd p
word_piece (Word (b ∷ bytes)) e p = and_join (is_word_part b) (list_all is_word_part bytes) (starts b p.0) p.1
word_piece (Blank b) e p = cc
word_piece (LineComment body) e p = cc
word_piece (BlockComment body) e p = cc
word_piece (Number bytes) e p = cc
word_piece (Quoted text) e p = cc
word_piece (Sign bytes) e p = cc

pub word_bytes : (text : List ℕ) (token : Token) → IsSpelled text token → token.kind ≡ kinds.Word → list_all is_word_part (text_of text token) ≡ true
word_bytes text token s e = rw s.text_is (word_piece s.piece (s.kind_is ∙ ap (λ (x : TokenKind). Some x) e) s.right)

-- ---- how long a name is

abbrev short : List ℕ → Bool
short word = nat_le (length word) 64

at_most : (n m : ℕ) → nat_le n m ≡ true → n ≤ m
at_most n m e = grind (arith, nat_tests)

found_here : (first word : List ℕ) → bytes_eq first word ≡ true → short first ≡ true → length word ≤ 64
found_here first word e s = let p : first ≡ word = (bytes_eq-Decides first word).0 e in subst (λ (x : List ℕ). length x ≤ 64) p (at_most (length first) 64 s)

found_one : (b : Bool) (first word : List ℕ) (n m : ℕ) → bytes_eq first word ≡ b → short first ≡ true → (if b then 0 else 1 + n) < suc m → (n < m → length word ≤ 64) → length word ≤ 64
found_one true first word n m q s h later = found_here first word q s
found_one false first word n m q s h later = later (omega arith)

found_short : (words : List (List ℕ)) (word : List ℕ) → list_all short words ≡ true → place_in words word < length words → length word ≤ 64
found_short [] word e h = absurd (omega arith)
found_short (first ∷ words) word e h =
    let p = and_parts (short first) (list_all short words) e in
    found_one (bytes_eq first word) first word (place_in words word) (length words) refl p.0 h (λ less. found_short words word p.1 less)

below : (n m : ℕ) → nat_lt n m ≡ true → n < m
below n m e = grind (arith, nat_tests)

short_kind : (b c : Bool) (place n : ℕ) → nat_lt place NAME ≡ b → nat_le n 64 ≡ c → is_of NAME is_name (if b then place else (if c then NAME else LONG_NAME)) ≡ true → (place < NAME → n ≤ 64) → n ≤ 64
short_kind true c place n p q e word = word (below place NAME p)
short_kind false true place n p q e word = at_most n 64 q
short_kind false false place n p q e word = absurd (false≢true e)

pub name_short : (word : List ℕ) → is_of NAME is_name (word_kind word) ≡ true → length word ≤ 64
unfolding word_kind
name_short word e = short_kind (nat_lt (place_in (reserved_words ++ other_words) word) NAME) (nat_le (length word) 64) (place_in (reserved_words ++ other_words) word) (length word) refl refl e (λ less. found_short (reserved_words ++ other_words) word refl less)

-- a name has few bytes
pub name_length : (bytes : List ℕ) (place : ℕ) → is_of NAME is_name (lexeme kinds.Word bytes place).kind ≡ true → length bytes ≤ 64
name_length bytes place e = let p = name_short (upper bytes) e in let q : length (upper bytes) ≡ length bytes = length-map bytes to_ascii_uppercase in omega (arith, p, q)
