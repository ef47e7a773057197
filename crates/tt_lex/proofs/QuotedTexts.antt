-- What the loops over comments and quoted texts have read.
use Rattle.std.proofs.Common.{◌≡◌, ◌≢◌, ℕ, ◌+◌, ◌<◌, ◌≤◌, false, cond, List, [], ◌∷◌, ◌++◌, length, get_or, take, drop, refl, sym, ap, ◌∙◌, append_assoc, arith, inl, inr, codes}
use Rattle.std.proofs.lemmas.List.Concat.{flat_map-append}
use Rattle.std.proofs.lemmas.Bool.{cases_Bool, ne_eqb, cases_lt}
use Rattle.std.proofs.lemmas.List.{length-append, length-take, get_or-take, get_or_past, append-nil, drop_more, take-append-drop}
use Rattle.tt_lex.specs.Lexis.{is_quote, doubled, NotClosed}

-- ---- comments

-- `*/` stands at this place, and none in front of it
pub closed_at : (rest : List ℕ) (i : ℕ) → i + 1 < length rest → get_or rest i 0 ≡ 42 → get_or rest (i + 1) 0 ≡ 47 → ((k : ℕ) → k + 1 < i + 1 → get_or rest k 0 ≡ 42 → get_or rest (k + 1) 0 ≢ 47)
    → (body : List ℕ) × (behind : List ℕ) × (rest ≡ body ++ (codes "*/" ++ behind)) × NotClosed body × (i ≡ length body)
closed_at rest i within star slash before =
    let at_star : drop i rest ≡ get_or rest i 0 ∷ drop (i + 1) rest = drop_more rest i 0 (omega arith) in
    let at_slash : drop (i + 1) rest ≡ get_or rest (i + 1) 0 ∷ drop (i + 1 + 1) rest = drop_more rest (i + 1) 0 within in
    let here : drop i rest ≡ 42 ∷ 47 ∷ drop (i + 1 + 1) rest = cc in
    let whole : rest ≡ take i rest ++ (42 ∷ 47 ∷ drop (i + 1 + 1) rest) = sym (take-append-drop i rest) ∙ ap (λ (xs : List ℕ). take i rest ++ xs) here in
    let long : length (take i rest) ≡ i = omega (arith, length-take i rest) in
    let unclosed : NotClosed (take i rest) = λ k s t. (elim (cases_lt (k + 1) i) [
      | inl inside ↦ before k (omega arith) (sym (get_or-take i rest k 0 (omega arith)) ∙ s) (sym (get_or-take i rest (k + 1) 0 inside) ∙ t)
      | inr past ↦ absurd (omega (arith, sym (get_or_past (take i rest) (k + 1) 0 (omega arith)) ∙ t))
    ]) in
    (take i rest, drop (i + 1 + 1) rest, whole, unclosed, sym long)

pub doubled-push : (text : List ℕ) (b : ℕ) → doubled (text ++ b ∷ []) ≡ doubled text ++ cond (is_quote b) (b ∷ b ∷ []) (b ∷ [])
doubled-push text b = flat_map-append (λ (c : ℕ). cond (is_quote c) (c ∷ c ∷ []) (c ∷ [])) text (b ∷ []) ∙ ap (λ (xs : List ℕ). doubled text ++ xs) (append-nil (cond (is_quote b) (b ∷ b ∷ []) (b ∷ [])))

pub length-le-doubled : (text : List ℕ) → length text ≤ length (doubled text)
length-le-doubled [] = omega arith
length-le-doubled (b ∷ text) = elim (cases_Bool (is_quote b)) [
  | inl quote ↦ rw quote (omega (arith, length-le-doubled text))
  | inr other ↦ rw other (omega (arith, length-le-doubled text))
]

-- what stands in front of a place is a text with its quotes doubled
abbrev pub IsDoubledUpTo : List ℕ → ℕ → ℕ → Type 0
IsDoubledUpTo rest i meant = (text : List ℕ) × (rest ≡ doubled text ++ drop i rest) × (i ≡ length (doubled text)) × (meant ≡ length text)

pub one_byte : (rest : List ℕ) (i meant : ℕ) → IsDoubledUpTo rest i meant → i < length rest → (get_or rest i 0 ≡ 39 → ⊥) → IsDoubledUpTo rest (i + 1) (meant + 1)
one_byte rest i meant so_far within other =
    let b = get_or rest i 0 in
    let text = so_far.0 in
    let not_quote : is_quote b ≡ false = ne_eqb b 39 other in
    let here : drop i rest ≡ b ∷ drop (i + 1) rest = drop_more rest i 0 within in
    let longer : doubled (text ++ b ∷ []) ≡ doubled text ++ b ∷ [] = rw (doubled-push text b, not_quote) refl in
    let whole : rest ≡ doubled (text ++ b ∷ []) ++ drop (i + 1) rest = so_far.1 ∙ ap (λ (xs : List ℕ). doubled text ++ xs) here ∙ sym (append_assoc (doubled text) (b ∷ []) (drop (i + 1) rest)) ∙ ap (λ (xs : List ℕ). xs ++ drop (i + 1) rest) (sym longer) in
    (text ++ b ∷ [], whole, omega (arith, so_far.2, ap length longer, length-append (doubled text) (b ∷ [])), omega (arith, so_far.3, length-append text (b ∷ [])))

pub two_quotes : (rest : List ℕ) (i meant : ℕ) → IsDoubledUpTo rest i meant → i + 1 < length rest → get_or rest i 0 ≡ 39 → get_or rest (i + 1) 0 ≡ 39 → IsDoubledUpTo rest (i + 1 + 1) (meant + 1)
two_quotes rest i meant so_far within first second =
    let text = so_far.0 in
    let at_first : drop i rest ≡ get_or rest i 0 ∷ drop (i + 1) rest = drop_more rest i 0 (omega arith) in
    let at_second : drop (i + 1) rest ≡ get_or rest (i + 1) 0 ∷ drop (i + 1 + 1) rest = drop_more rest (i + 1) 0 within in
    let here : drop i rest ≡ 39 ∷ 39 ∷ drop (i + 1 + 1) rest = cc in
    let longer : doubled (text ++ 39 ∷ []) ≡ doubled text ++ 39 ∷ 39 ∷ [] = doubled-push text 39 in
    let whole : rest ≡ doubled (text ++ 39 ∷ []) ++ drop (i + 1 + 1) rest = so_far.1 ∙ ap (λ (xs : List ℕ). doubled text ++ xs) here ∙ sym (append_assoc (doubled text) (39 ∷ 39 ∷ []) (drop (i + 1 + 1) rest)) ∙ ap (λ (xs : List ℕ). xs ++ drop (i + 1 + 1) rest) (sym longer) in
    (text ++ 39 ∷ [], whole, omega (arith, so_far.2, ap length longer, length-append (doubled text) (39 ∷ 39 ∷ [])), omega (arith, so_far.3, length-append text (39 ∷ [])))
