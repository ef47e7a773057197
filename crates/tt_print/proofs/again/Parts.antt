-- Parts of the grammar are read again wherever their words stand, and note the same but for places.
use Rattle.std.proofs.Common.{◌≡◌, ℕ, Bool, true, false, List, [], ◌∷◌, ◌++◌, map, Option, Some, None, refl, sym, ap, subst, ◌∙◌}
use Rattle.std.specs.Prelude.{codes, ◌&&◌}
use Rattle.std.specs.List.{flat_map}
use Rattle.std.proofs.lemmas.Bool.{and_parts}
use Rattle.std.proofs.lemmas.List.{append-nil, map-append}
use Rattle.tt_sql.specs.trees.Lists.{Each, IsListed, WhenThere}
use Rattle.tt_sql.specs.grammar.Grammar.{Lexeme, Mark, Way, At, Gram, Rule, Tok, Both, Either, Many, Again, Spells, token, note, both, more, enough, again, is_of, nowhere}
use Rattle.tt_sql.specs.grammar.Written.{written_rule}
use Rattle.tt_sql.specs.grammar.Combinators.{way, one, placed, maybe, brackets, listed}
use Rattle.tt_sql.specs.grammar.TokenKinds.{COMMA, lexeme, sign_kind, token_kind}
use Rattle.tt_print.specs.text.Words.{Words, listed as listed_words, words_if, word_if}
use Rattle.tt_sql.specs.marks.Expressions.{repeated, listed_marks, maybe_marks, flag_marks}
use Rattle.tt_print.specs.again.Tokens.{AreTokens}
use Rattle.tt_print.specs.again.Spelling.{place_behind, IsReadAs}
use Rattle.tt_print.specs.places.Marks.{unplaced}
use Rattle.tt_print.proofs.again.Spelling.{in_turn, here, later, word_of, noted}
use Rattle.tt_print.proofs.again.Tokens.{is_fixed, fixed_token, tokens_both}

-- ---- one after the other, and one of two

pub as_told : {g : Gram} {v w : Words} {m n : List Mark} → w ≡ v → n ≡ m → IsReadAs g v m → IsReadAs g w n
as_told {g} {v} {w} {m} {n} words marks is = subst (λ x. IsReadAs g x n) (sym words) (subst (λ x. IsReadAs g v x) (sym marks) is)

pub in_order : {g h : Gram} {v w : Words} {m n : List Mark} → IsReadAs g v m → IsReadAs h w n → IsReadAs (Both g h) (v ++ w) (m ++ n)
in_order {g} {h} {v} {w} {m} {n} first next = record {
  tokens = tokens_both v w first.tokens next.tokens;
  notes = λ at. first.notes at ++ next.notes (place_behind at v);
  alike = λ at.
      map-append _ (first.notes at) (next.notes (place_behind at v))
      ∙ ap (λ x. x ++ unplaced (next.notes (place_behind at v))) (first.alike at)
      ∙ ap (λ x. unplaced m ++ x) (next.alike (place_behind at v))
      ∙ sym (map-append _ m n);
  spelled = λ at. in_turn (first.spelled at) (next.spelled (place_behind at v));
}

pub as_first : {g h : Gram} {v : Words} {m : List Mark} → IsReadAs g v m → IsReadAs (Either g h) v m
as_first is = record { tokens = is.tokens; notes = is.notes; alike = is.alike; spelled = λ at. here (is.spelled at) }

pub as_second : {g h : Gram} {v : Words} {m : List Mark} → IsReadAs h v m → IsReadAs (Either g h) v m
as_second is = record { tokens = is.tokens; notes = is.notes; alike = is.alike; spelled = λ at. later (is.spelled at) }

-- ---- words and ways

-- this word is one token, and of this kind
abbrev pub IsWordOf : ℕ → (ℕ → Bool) → List ℕ → Type 0
IsWordOf k also word = (at : ℕ) → (is_of k also (lexeme (token_kind word) word at).kind && is_fixed word) ≡ true

of_kind : (k : ℕ) (also : ℕ → Bool) (word : List ℕ) → IsWordOf k also word → (at : ℕ) → is_of k also (lexeme (token_kind word) word at).kind ≡ true
of_kind k also word is at = (and_parts _ (is_fixed word) (is at)).0

one_token : (k : ℕ) (also : ℕ → Bool) (word : List ℕ) → IsWordOf k also word → AreTokens (word ∷ [])
one_token k also word is = (fixed_token word (and_parts (is_of k also (lexeme (token_kind word) word 0).kind) (is_fixed word) (is 0)).1, tt)

pub a_word : {k : ℕ} {also : ℕ → Bool} (word : List ℕ) → IsWordOf k also word → IsReadAs (Tok k also) (word ∷ []) []
a_word {k} {also} word is = record { tokens = one_token k also word is; notes = λ at. []; alike = λ at. refl; spelled = λ at. word_of k also at word (of_kind k also word is at) }

pub a_way : (k : ℕ) → IsReadAs (way k) [] (Way k ∷ [])
a_way k = record { tokens = tt; notes = λ at. Way k ∷ []; alike = λ at. refl; spelled = λ at. noted k at }

pub word_first : {k : ℕ} {more : ℕ → Bool} {h : Gram} {w : Words} {m : List Mark} (word : List ℕ)
    → IsWordOf k more word → IsReadAs h w m → IsReadAs (Both (Tok k more) h) (word ∷ w) m
word_first word is next = in_order (a_word word is) next

-- a word at the end
pub word_last : {g : Gram} {k : ℕ} {more : ℕ → Bool} {v : Words} {m : List Mark} (word : List ℕ)
    → IsWordOf k more word → IsReadAs g v m → IsReadAs (Both g (Tok k more)) (v ++ (word ∷ [])) m
word_last {m = m} word is first = as_told refl (sym (append-nil m)) (in_order first (a_word word is))

-- a part, and the way that is noted at its end
pub with_way : {g : Gram} {v : Words} {m : List Mark} (k : ℕ) → IsReadAs g v m → IsReadAs (Both g (way k)) v (m ++ Way k ∷ [])
with_way {v = v} k is = as_told (sym (append-nil v)) refl (in_order is (a_way k))

-- a word whose place is noted
pub word_placed : {k : ℕ} (word : List ℕ) (place : ℕ) → IsWordOf k nowhere word
    → ((at : ℕ) → (lexeme (token_kind word) word at).place ≡ at) → IsReadAs (placed k) (word ∷ []) (At place ∷ [])
word_placed {k} word place is stands = record {
  tokens = one_token k nowhere word is;
  notes = λ at. At at ∷ [];
  alike = λ at. refl;
  spelled = λ at. record {
    around = λ done K n ts d. subst (λ x. Spells written_rule false done (placed k ∷ K) (At x ∷ n) (lexeme (token_kind word) word at ∷ ts)) (stands at) (both (token (of_kind k nowhere word is at) (note d)));
  };
}

-- ---- what is repeated

pub no_more : {g : Gram} → IsReadAs (Many g) [] (Way 0 ∷ [])
no_more = record { tokens = tt; notes = λ at. Way 0 ∷ []; alike = λ at. refl; spelled = λ at. record { around = λ done K n ts d. enough d } }

parted : {done : List Lexeme} {g h : Gram} {K : List Gram} {m : List Mark} {ts : List Lexeme} → Spells written_rule false done (Both g h ∷ K) m ts → Spells written_rule false done (g ∷ h ∷ K) m ts
parted (both d) = d

pub one_more : {g : Gram} {v w : Words} {m n : List Mark} → IsReadAs g v m → IsReadAs (Many g) w n → IsReadAs (Many g) (v ++ w) (Way 1 ∷ (m ++ n))
one_more first next =
    let both_read = in_order first next in
    record {
      tokens = both_read.tokens;
      notes = λ at. Way 1 ∷ both_read.notes at;
      alike = λ at. ap (λ x. Way 1 ∷ x) (both_read.alike at);
      spelled = λ at. record { around = λ done K n ts d. more (parted ((both_read.spelled at).around done K n ts d)) };
    }

-- a fact of each gives a reading of each
module _ {A : Type 0} (g : Gram) (words : A → Words) (marks : A → List Mark) (ok : A → Type 0) (read : (x : A) → ok x → IsReadAs g (words x) (marks x)) where
  pub all_more : (xs : List A) → Each ok xs → IsReadAs (Many g) (flat_map words xs) (repeated (map marks xs))
  all_more [] each = no_more
  all_more (x ∷ xs) each = one_more (read x each.0) (all_more xs each.1)

  commas : (xs : List A) → Each ok xs → IsReadAs (Many (Both (one COMMA) g)) (flat_map (λ w. codes "," ∷ w) (map words xs)) (repeated (map marks xs))
  unfolding sign_kind
  commas [] each = no_more
  commas (x ∷ xs) each = one_more (word_first (codes ",") (λ at. refl) (read x each.0)) (commas xs each.1)

  pub in_list : (xs : List A) → IsListed ok xs → IsReadAs (listed g) (listed_words (map words xs)) (listed_marks (map marks xs))
  in_list [] is = absurd is
  in_list (x ∷ xs) is = in_order (read x is.0) (commas xs is.1)

  pub when_there : (o : Option A) → WhenThere ok o → IsReadAs (maybe g) (words_if words o) (maybe_marks marks o)
  when_there None is = as_second (a_way 0)
  when_there (Some x) is = as_first (with_way 1 (read x is))

-- ---- what may be left out, brackets, and productions

pub put_in : {g : Gram} {v : Words} {m : List Mark} → IsReadAs g v m → IsReadAs (maybe g) v (m ++ Way 1 ∷ [])
put_in is = as_first (with_way 1 is)

pub left_out : {g : Gram} → IsReadAs (maybe g) [] (Way 0 ∷ [])
left_out = as_second (a_way 0)

pub a_flag : {k : ℕ} {more : ℕ → Bool} (word : List ℕ) → IsWordOf k more word
    → (b : Bool) → IsReadAs (maybe (Tok k more)) (word_if b word) (flag_marks b)
a_flag word is true = put_in (a_word word is)
a_flag word is false = left_out

pub in_brackets : {g : Gram} {v : Words} {m : List Mark} → IsReadAs g v m → IsReadAs (brackets g) (codes "(" ∷ (v ++ (codes ")" ∷ []))) m
unfolding sign_kind
in_brackets is = word_first (codes "(") (λ at. refl) (word_last (codes ")") (λ at. refl) is)

pub in_production : {r : Rule} {levels : ℕ} {v : Words} {m : List Mark} → IsReadAs (written_rule r levels) v m → IsReadAs (Again r levels) v m
in_production is = record { tokens = is.tokens; notes = is.notes; alike = is.alike; spelled = λ at. record { around = λ done K n ts d. again ((is.spelled at).around done K n ts d) } }
