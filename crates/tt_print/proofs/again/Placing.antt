-- Words with blanks between them are read as the tokens that they are.
use Rattle.std.proofs.Common.{◌≡◌, ℕ, ◌+◌, ◌-◌, Bool, true, false, not, ◌||◌, List, [], ◌∷◌, ◌++◌, length, take, drop, Some, Ok, refl, sym, ap, ◌∙◌, append_assoc, arith, codes}
use Rattle.std.specs.List.{list_all, join_with_byte}
use Rattle.std.specs.Str.{bytes_eq}
use Rattle.std.specs.Char.{is_ascii_digit}
use Rattle.std.proofs.lemmas.List.{length-append}
use Rattle.std.proofs.Math.Seq.{drop-append_seam, take-append_seam}
use Rattle.std.proofs.lemmas.Bool.{not-true, or_parts, false≢true}
use Rattle.std.proofs.lemmas.Bool.Decides.{nat_tests}
use Rattle.tt_lex.specs.declared.Token.{Token}
use Rattle.tt_lex.specs.declared.TokenKind.{TokenKind}
use Rattle.tt_lex.specs.declared.TokenKind.TheVariants as kinds
use Rattle.tt_lex.specs.Lexis.{Piece, Blank, LineComment, BlockComment, Word, Number, Quoted, Sign, is_sign, is_word_start, is_quote, IsPiece, EndsBefore, spelling, spelled, ArePieces, kind_of, tokens_from, with_token, HasTokens}
use Rattle.tt_lex.specs.TokensOf.{tokens_of}
use Rattle.tt_lex.proofs.Function.{tokens_law}
use Rattle.tt_lex.proofs.OneWay.{any_byte, any_bytes}
use Rattle.tt_sql.specs.grammar.TokenKinds.{lexeme, lexemes, token_kind}
use Rattle.tt_print.specs.text.Words.{spaced}
use Rattle.tt_print.specs.again.Tokens.{IsToken, AreTokens, tokens_at, lexemes_at}
use Rattle.tt_print.proofs.text.Joining.{joined}

-- ---- signs

-- what holds of each sign
each_sign : (good : List ℕ → Bool) → list_all (λ s. good (s ∷ [])) (codes "(),.;*+-=<>") ≡ true
    → list_all good (codes "<>" ∷ codes "!=" ∷ codes "<=" ∷ codes ">=" ∷ codes "=>" ∷ codes "::" ∷ []) ≡ true
    → (sign : List ℕ) → is_sign sign ≡ true → good sign ≡ true
each_sign good short long [] is = absurd (false≢true is)
each_sign good short long (a ∷ []) is = any_byte (λ s. good (s ∷ [])) a (codes "(),.;*+-=<>") is short
each_sign good short long (a ∷ b ∷ []) is = any_bytes good (a ∷ b ∷ []) (codes "<>" ∷ codes "!=" ∷ codes "<=" ∷ codes ">=" ∷ codes "=>" ∷ codes "::" ∷ []) is long
each_sign good short long (a ∷ b ∷ c ∷ bytes) is = absurd (false≢true is)

-- with a blank behind it, it is no sign and no `--`
ends_there : List ℕ → Bool
ends_there sign = not (is_sign (sign ++ 32 ∷ []) || bytes_eq (sign ++ 32 ∷ []) (codes "--"))

sign_ends : (sign : List ℕ) → is_sign sign ≡ true → (is_sign (sign ++ 32 ∷ []) || bytes_eq (sign ++ 32 ∷ []) (codes "--")) ≡ false
unfolding ends_there
sign_ends sign is = not-true _ (each_sign ends_there refl refl sign is)

-- its first byte begins no number, no word and no text
begins_sign : List ℕ → Bool
begins_sign [] = false
begins_sign (b ∷ bytes) = not (is_ascii_digit b || is_word_start b || is_quote b)

sign_kind_is : (sign : List ℕ) → begins_sign sign ≡ true → token_kind sign ≡ kinds.Sign
unfolding begins_sign
sign_kind_is [] begins = refl
sign_kind_is (b ∷ bytes) begins =
    let p = or_parts (is_ascii_digit b || is_word_start b) (is_quote b) (not-true _ begins) in
    let q = or_parts (is_ascii_digit b) (is_word_start b) p.0 in
    rw (q.0, q.1, p.1) refl

signs_begin : (sign : List ℕ) → is_sign sign ≡ true → begins_sign sign ≡ true
unfolding begins_sign
signs_begin sign is = each_sign begins_sign refl refl sign is

-- ---- tokens

pub word_no_digit : (b : ℕ) → is_word_start b ≡ true → is_ascii_digit b ≡ false
word_no_digit b word = grind (arith, nat_tests)

-- the kind of a token is told by its first byte
kind_is : (piece : Piece) (kind : TokenKind) → IsPiece piece → kind_of piece ≡ Some kind → token_kind (spelling piece) ≡ kind
kind_is (Blank b) kind right is = absurd cc
kind_is (LineComment body) kind right is = absurd cc
kind_is (BlockComment body) kind right is = absurd cc
kind_is (Word []) kind right is = absurd right
kind_is (Word (b ∷ bytes)) kind right is = (let same : kinds.Word ≡ kind = cc in rw (word_no_digit b right.0, right.0) same)
kind_is (Number []) kind right is = absurd right
kind_is (Number (b ∷ bytes)) kind right is = (let same : kinds.Number ≡ kind = cc in rw right.0 same)
kind_is (Quoted text) kind right is = cc
kind_is (Sign sign) kind right is = (let same : kinds.Sign ≡ kind = cc in sign_kind_is sign (signs_begin sign right) ∙ same)

-- a token ends before a blank
ends_before : (piece : Piece) (kind : TokenKind) (rest : List ℕ) → IsPiece piece → kind_of piece ≡ Some kind → EndsBefore piece (32 ∷ rest)
ends_before (Blank b) kind rest right is = tt
ends_before (LineComment body) kind rest right is = absurd cc
ends_before (BlockComment body) kind rest right is = tt
ends_before (Word bytes) kind rest right is = refl
ends_before (Number bytes) kind rest right is = refl
ends_before (Quoted text) kind rest right is = refl
ends_before (Sign sign) kind rest right is = sign_ends sign right

-- and at the end of the text
ends_at_end : (piece : Piece) → EndsBefore piece []
ends_at_end (Blank b) = tt
ends_at_end (LineComment body) = tt
ends_at_end (BlockComment body) = tt
ends_at_end (Word bytes) = tt
ends_at_end (Number bytes) = tt
ends_at_end (Quoted text) = tt
ends_at_end (Sign sign) = tt

-- ---- pieces

-- the pieces of words with a blank in front of each
pieces_behind : (words : List (List ℕ)) → AreTokens words → List Piece
pieces_behind [] are = []
pieces_behind (word ∷ words) are = Blank 32 ∷ are.0.piece ∷ pieces_behind words are.1

spelled_behind : (words : List (List ℕ)) (are : AreTokens words) → spelled (pieces_behind words are) ≡ spaced words
unfolding pieces_behind spaced
spelled_behind [] are = refl
spelled_behind (word ∷ words) are = ap (λ l. 32 ∷ (l ++ spelled (pieces_behind words are.1))) are.0.text_is ∙ ap (λ l. 32 ∷ (word ++ l)) (spelled_behind words are.1)

ends_here : (word : List ℕ) (words : List (List ℕ)) (is : IsToken word) (are : AreTokens words) → EndsBefore is.piece (spelled (pieces_behind words are) ++ [])
unfolding pieces_behind
ends_here word [] is are = ends_at_end is.piece
ends_here word (next ∷ words) is are = ends_before is.piece is.kind _ is.right is.kind_is

each_behind : (words : List (List ℕ)) (are : AreTokens words) → ArePieces (pieces_behind words are) []
unfolding pieces_behind
each_behind [] are = tt
each_behind (word ∷ words) are = (refl, tt, (are.0.right, ends_here word words are.0 are.1, each_behind words are.1))

-- one token, and what stands behind it
one_token : (at : ℕ) (word : List ℕ) (is : IsToken word) (pieces : List Piece) (tokens : List Token) → tokens_from (at + length word) pieces ≡ tokens
    → tokens_from at (is.piece ∷ pieces) ≡ record { start = at; «end» = at + length word; kind = token_kind word } ∷ tokens
one_token at word is pieces tokens later =
    let kind_here : kind_of is.piece ≡ Some (token_kind word) = is.kind_is ∙ ap Some (sym (kind_is is.piece is.kind is.right is.kind_is) ∙ ap token_kind is.text_is) in
    ap (λ k. with_token k at (at + length (spelling is.piece)) (tokens_from (at + length (spelling is.piece)) pieces)) kind_here
    ∙ ap (λ l. with_token (Some (token_kind word)) at (at + length l) (tokens_from (at + length l) pieces)) is.text_is
    ∙ ap (λ l. with_token (Some (token_kind word)) at (at + length word) l) later

tokens_behind : (at : ℕ) (words : List (List ℕ)) (are : AreTokens words) → tokens_from at (pieces_behind words are) ≡ tokens_at (at + 1) words
unfolding pieces_behind
tokens_behind at [] are = refl
tokens_behind at (word ∷ words) are = one_token (at + 1) word are.0 (pieces_behind words are.1) _ (tokens_behind (at + 1 + length word) words are.1)

-- the text of words has these words for its tokens
pub words_have_tokens : (words : List (List ℕ)) → AreTokens words → HasTokens (join_with_byte 32 words) (tokens_at 0 words)
words_have_tokens [] are = record { pieces = []; whole = refl; each = tt; kept = refl }
words_have_tokens (word ∷ words) are = record {
  pieces = are.0.piece ∷ pieces_behind words are.1;
  whole = joined word words ∙ ap (λ l. l ++ spaced words) (sym are.0.text_is) ∙ ap (λ l. spelling are.0.piece ++ l) (sym (spelled_behind words are.1));
  each = (are.0.right, ends_here word words are.0 are.1, each_behind words are.1);
  kept = sym (one_token 0 word are.0 (pieces_behind words are.1) _ (tokens_behind (0 + length word) words are.1));
}

pub words_are_tokens : (words : List (List ℕ)) → AreTokens words → tokens_of (join_with_byte 32 words) ≡ Ok (tokens_at 0 words)
words_are_tokens words are = (tokens_law (join_with_byte 32 words) (tokens_at 0 words)).1 (words_have_tokens words are)

-- ---- lexemes

-- a word that stands between others
word_there : (front word rest : List ℕ) → take (length front + length word - length front) (drop (length front) (front ++ (word ++ rest))) ≡ word
word_there front word rest =
    let long : length front + length word - length front ≡ length word = omega arith in
    ap (λ l. take (length front + length word - length front) l) (drop-append_seam front (word ++ rest))
    ∙ ap (λ n. take n (word ++ rest)) long ∙ take-append_seam word rest

-- words with a blank in front of each, behind others
lexemes_behind : (text front : List ℕ) (at : ℕ) (words : List (List ℕ)) → text ≡ front ++ spaced words → at ≡ length front → lexemes text (tokens_at (at + 1) words) ≡ lexemes_at (at + 1) words
unfolding spaced
lexemes_behind text front at [] are here = refl
lexemes_behind text front at (word ∷ words) are here =
    let before = front ++ 32 ∷ [] in
    let start : at + 1 ≡ length before = omega (arith, here, length-append front (32 ∷ [])) in
    let parts : text ≡ before ++ (word ++ spaced words) = are ∙ sym (append_assoc front (32 ∷ []) (word ++ spaced words)) in
    let there : take (at + 1 + length word - (at + 1)) (drop (at + 1) text) ≡ word =
    ap (λ n. take (n + length word - n) (drop n text)) start ∙ ap (λ l. take (length before + length word - length before) (drop (length before) l)) parts ∙ word_there before word (spaced words) in
    let later : lexemes text (tokens_at (at + 1 + length word + 1) words) ≡ lexemes_at (at + 1 + length word + 1) words =
    lexemes_behind text (before ++ word) (at + 1 + length word) words (parts ∙ sym (append_assoc before word (spaced words))) (omega (arith, start, length-append before word)) in
    ap (λ w. lexeme (token_kind word) w (at + 1) ∷ lexemes text (tokens_at (at + 1 + length word + 1) words)) there ∙ ap (λ l. lexeme (token_kind word) word (at + 1) ∷ l) later

pub words_are_lexemes : (words : List (List ℕ)) → lexemes (join_with_byte 32 words) (tokens_at 0 words) ≡ lexemes_at 0 words
words_are_lexemes [] = refl
words_are_lexemes (word ∷ words) =
    let text = join_with_byte 32 (word ∷ words) in
    let there : take (0 + length word - 0) (drop 0 text) ≡ word = ap (λ l. take (0 + length word - 0) (drop 0 l)) (joined word words) ∙ word_there [] word (spaced words) in
    let later : lexemes text (tokens_at (0 + length word + 1) words) ≡ lexemes_at (0 + length word + 1) words = lexemes_behind text word (0 + length word) words (joined word words) (omega arith) in
    ap (λ w. lexeme (token_kind word) w 0 ∷ lexemes text (tokens_at (0 + length word + 1) words)) there ∙ ap (λ l. lexeme (token_kind word) word 0 ∷ l) later
