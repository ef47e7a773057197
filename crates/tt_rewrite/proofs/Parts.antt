-- What is left of parts, one part after another.
use Rattle.std.proofs.Common.{◌≡◌, ℕ, ◌+◌, ◌<◌, ◌≤◌, Bool, true, false, List, [], ◌∷◌, ◌++◌, length, take, get_or, refl, ap, sym, subst, ◌∙◌, arith}
use Rattle.std.specs.Prelude.{cond, ◌||◌}
use Rattle.std.specs.List.{count_by, filter, flat_map, list_any}
use Rattle.std.proofs.lemmas.Grind.{flat_map-append}
use Rattle.std.proofs.lemmas.List.{append-nil, map-append, take_more, take_all}
use Rattle.std.proofs.lemmas.List.Elements.{filter-append}
use Rattle.std.proofs.lemmas.List.Sums.{length-filter, sum_by-append}
use Rattle.tt_value.specs.declared.value.Row.{Row}
use Rattle.tt_partition.specs.Table.{Table}
use Rattle.tt_rewrite.specs.declared.leaving.Left.{Left}
use Rattle.tt_rewrite.specs.Left.{AddsPart, AreLeft, numbers_of, rows_left, rows_of, touched}
use Rattle.tt_rewrite.proofs.Bits.{count-cons}

module _ (taken : Row → Bool) where
  -- ---- whether a part is touched

  with_first : (test : Bool) (n : ℕ) (any : Bool) → (n ≡ 0 → any ≡ false) → cond test 1 0 + n ≡ 0 → (test || any) ≡ false
  with_first true n any rest is = absurd (omega (arith, is))
  with_first false n any rest is = rest (omega (arith, is))

  none_taken : (rows : List Row) → count_by taken rows ≡ 0 → list_any taken rows ≡ false
  none_taken [] is = refl
  none_taken (row ∷ rows) is = with_first (taken row) (count_by taken rows) (list_any taken rows) (none_taken rows) (sym (count-cons taken row rows) ∙ is)

  some_first : (test : Bool) (n : ℕ) (any : Bool) → (0 < n → any ≡ true) → 0 < cond test 1 0 + n → (test || any) ≡ true
  some_first true n any rest is = refl
  some_first false n any rest is = rest (omega (arith, is))

  some_taken : (rows : List Row) → 0 < count_by taken rows → list_any taken rows ≡ true
  some_taken [] is = absurd (omega (arith, is))
  some_taken (row ∷ rows) is = some_first (taken row) (count_by taken rows) (list_any taken rows) (some_taken rows) (subst (λ n. 0 < n) (count-cons taken row rows) is)

  pub count_filtered : (rows : List Row) → filter taken rows ≡ [] → count_by taken rows ≡ 0
  count_filtered rows is = sym (length-filter taken rows) ∙ ap (λ (rs : List Row). length rs) is

  untouched : (part : ℕ × Table) → count_by taken part.1.rows ≡ 0 → touched taken (part ∷ []) ≡ []
  untouched part none = rw (none_taken part.1.rows none) refl

  is_touched : (part : ℕ × Table) → 0 < count_by taken part.1.rows → touched taken (part ∷ []) ≡ part ∷ []
  is_touched part some = rw (some_taken part.1.rows some) refl

module _ (taken : Row → Bool) (stays : Row → List Row) where
  -- ---- one part

  pub adds_nothing : (part : ℕ × Table) (left : Left) → count_by taken part.1.rows ≡ 0 → AddsPart taken stays part left left
  adds_nothing part left none = record {
    gone = sym (ap (λ ps. left.gone ++ numbers_of ps) (untouched taken part none) ∙ append-nil left.gone);
    rows = sym (ap (λ ps. left.rows ++ rows_left stays ps) (untouched taken part none) ∙ append-nil left.rows);
    count = omega (arith, none);
  }

  pub adds_touched : (part : ℕ × Table) (old new : Left) → 0 < count_by taken part.1.rows → new.gone ≡ old.gone ++ part.0 ∷ [] → new.rows ≡ old.rows ++ flat_map stays part.1.rows → new.count ≡ old.count + count_by taken part.1.rows → AddsPart taken stays part old new
  adds_touched part old new some gone rows count = record {
    gone = gone ∙ ap (λ ps. old.gone ++ numbers_of ps) (sym (is_touched taken part some));
    rows =
        rows
        ∙ ap (λ rs. old.rows ++ flat_map stays rs) (sym (append-nil part.1.rows))
        ∙ ap (λ ps. old.rows ++ rows_left stays ps) (sym (is_touched taken part some));
    count = count;
  }

  -- ---- and all of them

  pub next_part : {A : Type 0} (xs : List A) (i : ℕ) (x : A) → i < length xs → x ≡ get_or xs i x → take (i + 1) xs ≡ take i xs ++ x ∷ []
  next_part xs i x below is = take_more xs i x below ∙ ap (λ y. take i xs ++ y ∷ []) (sym is)

  abbrev with_part : List (ℕ × Table) → ℕ × Table → List (ℕ × Table)
  with_part parts part = parts ++ part ∷ []

  pub left_behind : (parts : List (ℕ × Table)) (part : ℕ × Table) (old new : Left) → AreLeft taken stays parts old → AddsPart taken stays part old new → AreLeft taken stays (with_part parts part) new
  left_behind parts part old new are adds =
      let both : touched taken (with_part parts part) ≡ touched taken parts ++ touched taken (part ∷ []) = filter-append (λ (p : ℕ × Table). list_any taken p.1.rows) parts (part ∷ []) in
      let rows_both : rows_of (touched taken parts ++ touched taken (part ∷ [])) ≡ rows_of (touched taken parts) ++ rows_of (touched taken (part ∷ [])) = flat_map-append (λ (p : ℕ × Table). p.1.rows) (touched taken parts) (touched taken (part ∷ [])) in
      let all_rows : rows_of (with_part parts part) ≡ rows_of parts ++ (part.1.rows ++ []) = flat_map-append (λ (p : ℕ × Table). p.1.rows) parts (part ∷ []) in
      record {
        gone =
            adds.gone ∙ ap (λ ns. ns ++ numbers_of (touched taken (part ∷ []))) are.gone
            ∙ sym (map-append (λ (p : ℕ × Table). p.0) (touched taken parts) (touched taken (part ∷ [])))
            ∙ ap numbers_of (sym both);
        rows =
            adds.rows ∙ ap (λ rs. rs ++ rows_left stays (touched taken (part ∷ []))) are.rows
            ∙ sym (flat_map-append stays (rows_of (touched taken parts)) (rows_of (touched taken (part ∷ []))))
            ∙ ap (flat_map stays) (sym rows_both)
            ∙ ap (rows_left stays) (sym both);
        count =
            adds.count ∙ ap (λ n. n + count_by taken part.1.rows) are.count
            ∙ sym (sum_by-append (λ (row : Row). cond (taken row) 1 0) (rows_of parts) part.1.rows)
            ∙ ap (λ rs. count_by taken (rows_of parts ++ rs)) (sym (append-nil part.1.rows))
            ∙ ap (count_by taken) (sym all_rows);
      }

  pub left_next : (parts : List (ℕ × Table)) (i : ℕ) (part : ℕ × Table) (old new : Left) → i < length parts → part ≡ get_or parts i part → AreLeft taken stays (take i parts) old → AddsPart taken stays part old new → AreLeft taken stays (take (i + 1) parts) new
  left_next parts i part old new below is are adds = rw (next_part parts i part below is) (left_behind (take i parts) part old new are adds)

  pub left_whole : (parts : List (ℕ × Table)) (i : ℕ) (left : Left) → length parts ≤ i → AreLeft taken stays (take i parts) left → AreLeft taken stays parts left
  left_whole parts i left past are = subst (λ ps. AreLeft taken stays ps left) (take_all i parts past) are
