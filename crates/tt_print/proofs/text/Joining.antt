-- Words with blanks between them.
use Rattle.std.proofs.Common.{◌≡◌, ℕ, List, [], ◌∷◌, ◌++◌, ap, ◌∙◌, sym, Result, Ok, Err, OnOk}
use Rattle.std.proofs.lemmas.List.{append-nil}
use Rattle.std.specs.Prelude.{is_ok, if◌then◌else◌}
use Rattle.std.specs.List.{join_with_byte}
use Rattle.tt_print.specs.text.Words.{spaced}

-- The words with a blank between any two are those with a blank in front of each, without the first blank.
pub joined : (word : List ℕ) (words : List (List ℕ)) → join_with_byte 32 (word ∷ words) ≡ word ++ spaced words
unfolding spaced
joined word [] = sym (append-nil word)
joined word (next ∷ words) = ap (λ rest. word ++ (32 ∷ rest)) (joined next words)

pub joined_behind : (words : List (List ℕ)) (text rest : List ℕ) (first : ℕ) → text ≡ spaced words → text ≡ first ∷ rest → join_with_byte 32 words ≡ rest
unfolding spaced
joined_behind [] text rest first are begins = let clash : [] ≡ first ∷ rest = sym are ∙ begins in absurd (cc)
joined_behind (word ∷ words) text rest first are begins =
    let all : 32 ∷ (word ++ spaced words) ≡ first ∷ rest = sym are ∙ begins in
    let same : word ++ spaced words ≡ rest = cc in
    joined word words ∙ same

-- The words with a blank in front of each were made, and what stands behind the first blank was appended.
pub appended : {T E : Type 0} (result : Result T E) (words : List (List ℕ)) (start text slice rest old new : List ℕ) (first : ℕ)
    → start ≡ [] → text ≡ start ++ spaced words → slice ≡ text → slice ≡ first ∷ rest
    → new ≡ (if is_ok result then old ++ rest else old) → OnOk result (new ≡ old ++ join_with_byte 32 words)
appended (Ok value) words start text slice rest old new first empty made same begins here =
    let all : slice ≡ spaced words = same ∙ made ∙ ap (λ l. l ++ spaced words) empty in
    here ∙ ap (λ l. old ++ l) (sym (joined_behind words slice rest first all begins))
appended (Err error) words start text slice rest old new first empty made same begins here = tt
