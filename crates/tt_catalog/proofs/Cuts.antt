-- Rows cut into parts: the lengths of the parts, and that their rows are those that were cut.
use Rattle.std.specs.List.{range_with_len}
use Rattle.std.specs.Prelude.{List, [], drop, length, map, refl, take, true, zero, suc, ℕ, ◌*◌, ◌+◌, ◌-◌, ◌/◌, ◌<◌, ◌∷◌, ◌≡◌, ◌≤◌}
use Rattle.std.proofs.Common.{ap, arith, inl, inr, subst, sym, ◌∙◌}
use Rattle.std.proofs.Math.Nat.{add-div_right, add-mul, div-eq_of_lt}
use Rattle.std.proofs.lemmas.Bool.{cases_order, eq-eqb, le-leb}
use Rattle.std.proofs.lemmas.List.{drop-drop, length-drop, length-take}
use Rattle.std.proofs.lemmas.List.Sums.{sum_by-cons}
use Rattle.tt_value.specs.declared.value.Kind.{Kind}
use Rattle.tt_value.specs.declared.value.Row.{Row}
use Rattle.tt_history.specs.declared.history.Added.{Added}
use Rattle.tt_partition.specs.Cuts.{cut, cut_at, cut_count}
use Rattle.tt_partition.specs.Image.{image_of}
use Rattle.tt_partition.specs.Table.{Table}
use Rattle.tt_plain.specs.history.Contents.{pieces_of_lengths}
use Rattle.tt_plain.specs.history.TrueFacts.{is_cut_at}
use Rattle.tt_plain.specs.law.Lists.{Every}
use Rattle.tt_plain.specs.tally.Parts.{rows_in_added}
use Rattle.tt_catalog.proofs.Numbered.{both_true}
use Rattle.tt_catalog.specs.Changes.{facts_from}

-- how many rows a part has
abbrev pub size_of : Table → ℕ
size_of part = length part.rows

-- ---- the first part, and the others

-- so many parts are cut of rows, and one fewer of those behind the first part
one_more : (n m cap : ℕ) → 1 ≤ cap → 1 ≤ n → m ≡ n - cap → (n + (cap - 1)) / cap ≡ suc ((m + (cap - 1)) / cap)
one_more n m cap one some is = elim (cases_order n cap) [
  | inl e ↦ full (omega (arith, e))
  | inr (inl less) ↦ last less
  | inr (inr more) ↦ full (omega (arith, more))
]
  where
    full : cap ≤ n → (n + (cap - 1)) / cap ≡ suc ((m + (cap - 1)) / cap)
    full le =
        let next = add-div_right (m + (cap - 1)) {k = cap} (omega (arith, one)) in
        let same : n + (cap - 1) ≡ m + (cap - 1) + cap = omega (arith, is, le, one) in
        ap (λ x. x / cap) same ∙ omega (arith, next)

    last : n < cap → (n + (cap - 1)) / cap ≡ suc ((m + (cap - 1)) / cap)
    last less =
        let next = add-div_right (n - 1) {k = cap} (omega (arith, one)) in
        let none : (n - 1) / cap ≡ 0 = div-eq_of_lt (omega (arith, less)) in
        let rest : (m + (cap - 1)) / cap ≡ 0 = div-eq_of_lt (omega (arith, is, less, one)) in
        let same : n + (cap - 1) ≡ n - 1 + cap = omega (arith, some, one) in
        ap (λ x. x / cap) same ∙ omega (arith, next, none, rest)

module _ (kinds : List Kind) (cap : ℕ) (one : 1 ≤ cap) where
  -- the parts behind the first are those of the rows behind it
  later_parts : (rows : List Row) (first count : ℕ) → map (cut_at kinds cap rows) (range_with_len (first + 1) count) ≡ map (cut_at kinds cap (drop cap rows)) (range_with_len first count)
  later_parts rows first zero = refl
  later_parts rows first (suc count) =
      let place : (first + 1) * cap ≡ cap + first * cap = add-mul first 1 cap ∙ omega arith in
      let here : drop ((first + 1) * cap) rows ≡ drop (first * cap) (drop cap rows) = ap (λ n. drop n rows) place ∙ sym (drop-drop (first * cap) cap rows) in
      ap (λ (rs : List Row). record { kinds = kinds; rows = take cap rs } ∷ map (cut_at kinds cap rows) (range_with_len (first + 1 + 1) count)) here
      ∙ ap (λ (ps : List Table). cut_at kinds cap (drop cap rows) first ∷ ps) (later_parts rows (first + 1) count)

  cut_none : cut kinds cap [] ≡ []
  cut_none =
      let none : cut_count cap [] ≡ 0 = div-eq_of_lt (omega (arith, one)) in
      ap (λ n. map (cut_at kinds cap []) (range_with_len 0 n)) none

  cut_some : (row : Row) (rows : List Row) → cut kinds cap (row ∷ rows) ≡ record { kinds = kinds; rows = take cap (row ∷ rows) } ∷ cut kinds cap (drop cap (row ∷ rows))
  cut_some row rows =
      let count = one_more (length (row ∷ rows)) (length (drop cap (row ∷ rows))) cap one (omega arith) (length-drop cap (row ∷ rows)) in
      let front : 0 * cap ≡ 0 = omega arith in
      ap (λ n. map (cut_at kinds cap (row ∷ rows)) (range_with_len 0 n)) count
      ∙ ap (λ n. record { kinds = kinds; rows = take cap (drop n (row ∷ rows)) } ∷ map (cut_at kinds cap (row ∷ rows)) (range_with_len (0 + 1) (cut_count cap (drop cap (row ∷ rows))))) front
      ∙ ap (λ (ps : List Table). record { kinds = kinds; rows = take cap (row ∷ rows) } ∷ ps) (later_parts (row ∷ rows) 0 (cut_count cap (drop cap (row ∷ rows))))

  -- what holds of no rows, and of rows with their first part in front where it holds of those behind it, holds of all
  module _ (P : List Row → List Table → Type 0) (none : P [] [])
      (some : (row : Row) (rows : List Row) (rest : List Table) → P (drop cap (row ∷ rows)) rest → P (row ∷ rows) (record { kinds = kinds; rows = take cap (row ∷ rows) } ∷ rest)) where
    up_to : (most : ℕ) (rows : List Row) → length rows ≤ most → P rows (cut kinds cap rows)
    up_to most [] few = subst (P []) (sym cut_none) none
    up_to zero (row ∷ rows) few = absurd (omega (arith, few))
    up_to (suc most) (row ∷ rows) few =
        subst (P (row ∷ rows)) (sym (cut_some row rows))
        (some row rows (cut kinds cap (drop cap (row ∷ rows))) (up_to most (drop cap (row ∷ rows)) (omega (arith, few, one, length-drop cap (row ∷ rows)))))

    pub by_parts : (rows : List Row) → P rows (cut kinds cap rows)
    by_parts rows = up_to (length rows) rows (omega arith)

-- ---- the lengths of the parts

pub sizes_told : (number : ℕ) (parts : List Table) → map (λ (part : Added). part.rows) (facts_from number parts) ≡ map size_of parts
sizes_told number [] = refl
sizes_told number (part ∷ parts) = ap (λ ns. size_of part ∷ ns) (sizes_told (number + 1) parts)

module _ (kinds : List Kind) (cap : ℕ) (one : 1 ≤ cap) where
  -- each but the last has so many rows, and the last at most as many
  abbrev AreCut : List Row → List Table → Type 0
  AreCut rows parts = (is_cut_at cap (map size_of parts) ≡ true) × (length parts ≤ length rows)

  next_cut : (row : Row) (rows : List Row) (rest : List Table) → AreCut (drop cap (row ∷ rows)) rest → AreCut (row ∷ rows) (record { kinds = kinds; rows = take cap (row ∷ rows) } ∷ rest)
  next_cut row rows rest (is, few) =
      (sized rest is few, omega (arith, few, one, length-drop cap (row ∷ rows)))
    where
      sized : (rest : List Table) → is_cut_at cap (map size_of rest) ≡ true → length rest ≤ length (drop cap (row ∷ rows))
          → is_cut_at cap (length (take cap (row ∷ rows)) ∷ map size_of rest) ≡ true
      sized [] is few =
          both_true _ _ (le-leb 1 (length (take cap (row ∷ rows))) (omega (arith, one, length-take cap (row ∷ rows))))
          (le-leb (length (take cap (row ∷ rows))) cap (omega (arith, length-take cap (row ∷ rows))))
      sized (next ∷ rest) is few =
          both_true _ _ (eq-eqb (length (take cap (row ∷ rows))) cap (omega (arith, few, length-take cap (row ∷ rows), length-drop cap (row ∷ rows)))) is

  pub are_cut : (rows : List Row) → is_cut_at cap (map size_of (cut kinds cap rows)) ≡ true
  are_cut rows = (by_parts kinds cap one AreCut (refl, omega arith) next_cut rows).0

  pub all_counted : (number : ℕ) (rows : List Row) → rows_in_added (facts_from number (cut kinds cap rows)) ≡ length rows
  all_counted number rows = by_parts kinds cap one (λ rs parts. (n : ℕ) → rows_in_added (facts_from n parts) ≡ length rs) (λ n. refl)
      (λ row rs rest all n. omega (
        arith,
        all (n + 1),
        sum_by-cons (λ (part : Added). part.rows) (record { number = n; rows = length (take cap (row ∷ rs)); bytes = length (image_of (record { kinds = kinds; rows = take cap (row ∷ rs) })) }) (facts_from (n + 1) rest),
        length-take cap (row ∷ rs),
        length-drop cap (row ∷ rs),
      )) rows number

  -- ---- rows cut by these lengths are the rows of the parts

  take_again : {A : Type 0} (n : ℕ) (xs : List A) → take (length (take n xs)) xs ≡ take n xs
  take_again zero xs = refl
  take_again (suc n) [] = refl
  take_again (suc n) (x ∷ xs) = ap (λ ys. x ∷ ys) (take_again n xs)

  drop_again : {A : Type 0} (n : ℕ) (xs : List A) → drop (length (take n xs)) xs ≡ drop n xs
  drop_again zero xs = refl
  drop_again (suc n) [] = refl
  drop_again (suc n) (x ∷ xs) = drop_again n xs

  pub pieces_are_parts : (rows : List Row) → pieces_of_lengths (map size_of (cut kinds cap rows)) rows ≡ map (λ (part : Table). part.rows) (cut kinds cap rows)
  pieces_are_parts rows = by_parts kinds cap one (λ rs parts. pieces_of_lengths (map size_of parts) rs ≡ map (λ (part : Table). part.rows) parts) refl
      (λ row rs rest all.
      ap (λ (piece : List Row). piece ∷ pieces_of_lengths (map size_of rest) (drop (length (take cap (row ∷ rs))) (row ∷ rs))) (take_again cap (row ∷ rs))
      ∙ ap (λ (left : List Row). take cap (row ∷ rs) ∷ pieces_of_lengths (map size_of rest) left) (drop_again cap (row ∷ rs))
      ∙ ap (λ (pieces : List (List Row)). take cap (row ∷ rs) ∷ pieces) all) rows

  -- and have its kinds
  pub have_kinds : (rows : List Row) → Every (λ (part : Table). part.kinds ≡ kinds) (cut kinds cap rows)
  have_kinds rows = by_parts kinds cap one (λ rs parts. Every (λ (part : Table). part.kinds ≡ kinds) parts) tt (λ row rs rest all. (refl, all)) rows
