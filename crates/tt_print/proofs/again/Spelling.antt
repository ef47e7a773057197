-- Parts of the grammar are spelled by words, one part after another.
use Rattle.std.proofs.Common.{◌≡◌, ℕ, ◌+◌, Bool, true, false, ◌==◌, List, [], ◌∷◌, ◌++◌, length, refl, sym, ap, subst, ◌∙◌, append_assoc}
use Rattle.std.specs.List.{list_all}
use Rattle.std.proofs.lemmas.List.{append-nil}
use Rattle.std.proofs.lemmas.Bool.{and_parts, or_right, false≢true}
use Rattle.tt_lex.specs.declared.TokenKind.TheVariants as kinds
use Rattle.tt_lex.specs.Lexis.{is_word_start, is_word_part}
use Rattle.tt_sql.specs.grammar.Grammar.{Lexeme, Mark, Way, Said, Gram, Tok, Note, Both, Either, Spells, token, note, both, left, right, nothing, is_of}
use Rattle.tt_sql.specs.grammar.Statements.{IsStatement}
use Rattle.tt_sql.specs.grammar.Written.{written_rule, statement}
use Rattle.tt_sql.specs.grammar.Combinators.{way, name}
use Rattle.tt_sql.specs.grammar.TokenKinds.{NAME, lexeme, word_kind, is_name, token_kind}
use Rattle.tt_print.specs.text.Words.{Words}
use Rattle.tt_print.specs.again.Tokens.{lexemes_at}
use Rattle.tt_print.specs.again.Spelling.{place_behind, onto, IsSpelledBy}
use Rattle.tt_sql.specs.trees.Leaves.{IsNameText}
use Rattle.tt_print.proofs.again.Placing.{word_no_digit}

-- ---- words behind words

lexemes-append : (at : ℕ) (v w : Words) → lexemes_at at (v ++ w) ≡ lexemes_at at v ++ lexemes_at (place_behind at v) w
lexemes-append at [] w = refl
lexemes-append at (word ∷ v) w = ap (λ l. lexeme (token_kind word) word at ∷ l) (lexemes-append (at + length word + 1) v w)

onto-append : (a b done : List Lexeme) → onto (a ++ b) done ≡ onto b (onto a done)
onto-append [] b done = refl
onto-append (t ∷ a) b done = onto-append a b (t ∷ done)

-- ---- parts

pub in_turn : {g h : Gram} {at : ℕ} {v w : Words} {m n : List Mark} → IsSpelledBy g at v m → IsSpelledBy h (place_behind at v) w n → IsSpelledBy (Both g h) at (v ++ w) (m ++ n)
in_turn {g} {h} {at} {v} {w} {m} {n} first next = record {
  around = λ done K l ts d.
      let a = lexemes_at at v in
      let b = lexemes_at (place_behind at v) w in
      let whole : lexemes_at at (v ++ w) ≡ a ++ b = lexemes-append at v w in
      let behind : onto (lexemes_at at (v ++ w)) done ≡ onto b (onto a done) = ap (λ x. onto x done) whole ∙ onto-append a b done in
      let here : Spells written_rule false done (Both g h ∷ K) (m ++ (n ++ l)) (a ++ (b ++ ts)) =
      both (first.around done (h ∷ K) (n ++ l) (b ++ ts) (next.around (onto a done) K l ts (subst (λ x. Spells written_rule false x K l ts) behind d))) in
      subst (λ x. Spells written_rule false done (Both g h ∷ K) x (lexemes_at at (v ++ w) ++ ts)) (sym (append_assoc m n l))
      (subst (λ x. Spells written_rule false done (Both g h ∷ K) (m ++ (n ++ l)) x) (sym (ap (λ x. x ++ ts) whole ∙ append_assoc a b ts)) here);
}

-- the first of two
pub here : {g h : Gram} {at : ℕ} {v : Words} {m : List Mark} → IsSpelledBy g at v m → IsSpelledBy (Either g h) at v m
here is = record { around = λ done K n ts d. left (is.around done K n ts d) }

-- the second of two
pub later : {g h : Gram} {at : ℕ} {v : Words} {m : List Mark} → IsSpelledBy h at v m → IsSpelledBy (Either g h) at v m
later is = record { around = λ done K n ts d. right (is.around done K n ts d) }

-- a word of one of these kinds
pub word_of : (k : ℕ) (more : ℕ → Bool) (at : ℕ) (word : List ℕ) → is_of k more (lexeme (token_kind word) word at).kind ≡ true → IsSpelledBy (Tok k more) at (word ∷ []) []
word_of k more at word is = record { around = λ done K n ts d. token is d }

-- a way that is noted
pub noted : (k at : ℕ) → IsSpelledBy (way k) at [] (Way k ∷ [])
noted k at = record { around = λ done K n ts d. note d }

-- a word that may be left out is
pub spared : (at : ℕ) → IsSpelledBy (Note (λ done. [])) at [] []
spared at = record { around = λ done K n ts d. note d }

-- a word, and then more
pub word_then : {k : ℕ} {more : ℕ → Bool} {h : Gram} {at : ℕ} {w : Words} {m : List Mark} (word : List ℕ)
    → is_of k more (lexeme (token_kind word) word at).kind ≡ true → IsSpelledBy h (at + length word + 1) w m → IsSpelledBy (Both (Tok k more) h) at (word ∷ w) m
word_then {k} {more} {h} {at} {w} {m} word is next = in_turn (word_of k more at word is) next

-- a part, and the way that is noted at its end
pub and_way : {g : Gram} {at : ℕ} {v : Words} {m : List Mark} (k : ℕ) → IsSpelledBy g at v m → IsSpelledBy (Both g (way k)) at v (m ++ Way k ∷ [])
and_way {g} {at} {v} {m} k is = subst (λ x. IsSpelledBy (Both g (way k)) at x (m ++ Way k ∷ [])) (append-nil v) (in_turn is (noted k (place_behind at v)))

-- ---- names

name_kind : (text : List ℕ) → IsNameText text → token_kind text ≡ kinds.Word
name_kind [] is = absurd (false≢true is.word)
name_kind (b ∷ bytes) is =
    let starts = (and_parts (is_word_start b) (list_all is_word_part bytes) is.word).0 in
    rw (word_no_digit b starts, starts) refl

-- a name of the tree is the token that the grammar sees
name_lexeme : (at : ℕ) (text : List ℕ) → IsNameText text → lexeme (token_kind text) text at ≡ record { kind = word_kind text; place = at; text = text }
name_lexeme at text is =
    ap (λ k. lexeme k text at) (name_kind text is) ∙ ap (λ t. record { kind = word_kind t; place = at; text = t }) is.high

pub named : (at : ℕ) (text : List ℕ) → IsNameText text → IsSpelledBy name at (text ∷ []) (Said text at ∷ [])
named at text is = record {
  around = λ done K n ts d.
      let e = name_lexeme at text is in
      let known : is_of NAME is_name (word_kind text) ≡ true = or_right (word_kind text == NAME) (is_name (word_kind text)) is.free in
      let d' = subst (λ x. Spells written_rule false (x ∷ done) K n ts) e d in
      subst (λ x. Spells written_rule false done (name ∷ K) (Said text at ∷ n) (x ∷ ts)) (sym e) (both (token known (note d')));
}

-- ---- whole statements

pub is_statement : (levels : ℕ) {words : Words} {m : List Mark} → IsSpelledBy (statement levels) 0 words m → IsStatement levels m (lexemes_at 0 words)
is_statement levels {words} {m} is =
    subst (λ x. Spells written_rule false [] (statement levels ∷ []) x (lexemes_at 0 words)) (append-nil m)
    (subst (λ x. Spells written_rule false [] (statement levels ∷ []) (m ++ []) x) (append-nil (lexemes_at 0 words)) (is.around [] [] [] [] nothing))
