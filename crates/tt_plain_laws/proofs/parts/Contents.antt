-- Contents that grow by those of the parts that an entry adds.
use Rattle.std.specs.List.{range_with_len}
use Rattle.std.specs.Prelude.{List, Option, Some, [], drop, length, refl, slice_get, take, true, unwrap_or, ℕ, ◌++◌, ◌+◌, ◌-◌, ◌<◌, ◌∷◌, ◌≡◌, ◌≤◌}
use Rattle.std.proofs.Common.{ap, append_assoc, arith, length-append, suc, sym, zero, ◌∙◌}
use Rattle.std.proofs.lemmas.List.{length-drop, length-take-le, take-append-drop}
use Rattle.std.proofs.lemmas.Option.{none-some, same_Some}
use Rattle.tt_layout.specs.Numbers.{has}
use Rattle.tt_plain.specs.history.Contents.{pieces_of_lengths, rows_numbered, rows_of_parts}
use Rattle.tt_value.specs.declared.value.Row.{Row}
use Rattle.tt_plain_laws.proofs.parts.Numbers.{has_itself, has_more}

-- each number is one of so many parts
abbrev pub Known : ℕ → List ℕ → Type 0
Known count ns = (k : ℕ) → has ns k ≡ true → (1 ≤ k) × (k ≤ count)

pub known_more : (count more : ℕ) (ns : List ℕ) → count ≤ more → Known count ns → Known more ns
known_more count more ns le known k e = ((known k e).0, omega (arith, le, (known k e).1))

pub append_get : {A : Type 0} (xs ys : List A) (k : ℕ) → k < length xs → slice_get (xs ++ ys) k ≡ slice_get xs k
append_get [] ys k within = absurd (omega (arith, within))
append_get (x ∷ xs) ys zero within = refl
append_get (x ∷ xs) ys (suc k) within = append_get xs ys k (omega (arith, within))

pub seam_get : {A : Type 0} (xs : List A) (y : A) (ys : List A) → slice_get (xs ++ y ∷ ys) (length xs) ≡ Some y
seam_get [] y ys = refl
seam_get (x ∷ xs) y ys = seam_get xs y ys

pub same_numbered : (contents more : List (List Row)) (k : ℕ) → 1 ≤ k → k ≤ length contents → rows_numbered (contents ++ more) k ≡ rows_numbered contents k
same_numbered contents more k first within = ap (λ (o : Option (List Row)). unwrap_or o []) (append_get contents more (k - 1) (omega (arith, first, within)))

pub same_contents : (contents more : List (List Row)) (ns : List ℕ) → Known (length contents) ns → rows_of_parts (contents ++ more) ns ≡ rows_of_parts contents ns
same_contents contents more [] known = refl
same_contents contents more (n ∷ ns) known =
    let here = known n (has_itself n ns) in
    ap (λ (rows : List Row). rows ++ rows_of_parts (contents ++ more) ns) (same_numbered contents more n here.0 here.1)
    ∙ ap (λ (rows : List Row). rows_numbered contents n ++ rows) (same_contents contents more ns (λ k e. known k (has_more n ns k e)))

-- ---- rows cut into pieces

abbrev pub total : List ℕ → ℕ
total [] = 0
total (n ∷ lengths) = n + total lengths

pub length-pieces : (lengths : List ℕ) (rows : List Row) → length (pieces_of_lengths lengths rows) ≡ length lengths
length-pieces [] rows = refl
length-pieces (n ∷ lengths) rows = omega (arith, length-pieces lengths (drop n rows))

no_rows : (rows : List Row) → length rows ≡ 0 → [] ≡ rows
no_rows [] e = refl
no_rows (r ∷ rows) e = absurd (omega (arith, e))

piece_numbered : (contents : List (List Row)) (piece : List Row) (more : List (List Row)) → rows_numbered (contents ++ piece ∷ more) (length contents + 1) ≡ piece
piece_numbered contents piece more =
    ap (λ (k : ℕ). unwrap_or (slice_get (contents ++ piece ∷ more) k) []) (omega arith) ∙ ap (λ (o : Option (List Row)). unwrap_or o []) (seam_get contents piece more)

-- the parts that are added hold just the rows
pub pieces_hold : (contents : List (List Row)) (lengths : List ℕ) (rows : List Row) → total lengths ≡ length rows
    → rows_of_parts (contents ++ pieces_of_lengths lengths rows) (range_with_len (length contents + 1) (length lengths)) ≡ rows
pieces_hold contents [] rows all = no_rows rows (sym all)
pieces_hold contents (n ∷ lengths) rows all =
    let piece : List Row = take n rows in
    let more : List (List Row) = pieces_of_lengths lengths (drop n rows) in
    let rest : rows_of_parts ((contents ++ piece ∷ []) ++ more) (range_with_len (length (contents ++ piece ∷ []) + 1) (length lengths)) ≡ drop n rows =
    pieces_hold (contents ++ piece ∷ []) lengths (drop n rows) (omega (arith, all, length-drop n rows)) in
    let here : rows_of_parts (contents ++ piece ∷ more) (range_with_len (length contents + 1 + 1) (length lengths)) ≡ drop n rows =
    ap (λ (c : List (List Row)). rows_of_parts c (range_with_len (length contents + 1 + 1) (length lengths))) (sym (append_assoc contents (piece ∷ []) more))
    ∙ ap (λ (k : ℕ). rows_of_parts ((contents ++ piece ∷ []) ++ more) (range_with_len (k + 1) (length lengths))) (omega (arith, length-append contents (piece ∷ []))) ∙ rest in
    ap (λ (rs : List Row). rs ++ rows_of_parts (contents ++ piece ∷ more) (range_with_len (length contents + 1 + 1) (length lengths))) (piece_numbered contents piece more)
    ∙ ap (λ (rs : List Row). piece ++ rs) here ∙ take-append-drop n rows

pub behind_get : {A : Type 0} (xs ys : List A) (k : ℕ) → slice_get (xs ++ ys) (length xs + k) ≡ slice_get ys k
behind_get {A} [] ys k =
    let same : length {A = A} [] + k ≡ k = omega arith in
    ap (slice_get ys) same
behind_get (x ∷ xs) ys k =
    let same : length (x ∷ xs) + k ≡ suc (length xs + k) = omega arith in
    ap (slice_get (x ∷ (xs ++ ys))) same ∙ behind_get xs ys k

-- and each has its length
piece_length : (lengths : List ℕ) (rows : List Row) (place n : ℕ) → total lengths ≤ length rows → slice_get lengths place ≡ Some n → length (unwrap_or (slice_get (pieces_of_lengths lengths rows) place) []) ≡ n
piece_length [] rows place n few at = absurd (none-some n at)
piece_length (l ∷ lengths) rows zero n few at = length-take-le l rows (omega (arith, few)) ∙ same_Some l n at
piece_length (l ∷ lengths) rows (suc place) n few at = piece_length lengths (drop l rows) place n (omega (arith, few, length-drop l rows)) at

pub piece_lengths : (contents : List (List Row)) (lengths : List ℕ) (rows : List Row) (place n : ℕ) → total lengths ≤ length rows → slice_get lengths place ≡ Some n
    → length (rows_numbered (contents ++ pieces_of_lengths lengths rows) (length contents + place + 1)) ≡ n
piece_lengths contents lengths rows place n few at =
    ap (λ (k : ℕ). length (unwrap_or (slice_get (contents ++ pieces_of_lengths lengths rows) k) [])) (omega arith)
    ∙ ap (λ (o : Option (List Row)). length (unwrap_or o [])) (behind_get contents (pieces_of_lengths lengths rows) place) ∙ piece_length lengths rows place n few at
