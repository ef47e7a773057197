-- Counts that are at most those of the distinct texts: of each number that texts have, one text is counted.
use Rattle.std.proofs.Common.{◌≡◌, ℕ, zero, suc, ◌+◌, ◌-◌, ◌≤◌, ◌<◌, Bool, true, false, ◌||◌, List, [], ◌∷◌, length, get_or, set, take, refl, sym, ap, subst, ◌∙◌, eq-eqb, arith, Ordering, ◌⊎◌, inl, inr, length-append}
use Rattle.std.specs.Prelude.{◌==◌}
use Rattle.std.specs.declared.cmp.Ordering.TheVariants.{Less, Equal, Greater}
use Rattle.std.specs.Ordering.{is_eq, match_ordering}
use Rattle.std.specs.List.{flat_map}
use Rattle.std.proofs.lemmas.Bool.{eqb-true}
use Rattle.std.proofs.lemmas.Grind.{get_or-set_at}
use Rattle.std.proofs.lemmas.List.{get_or-set_other, take_all}
use Rattle.std.proofs.lemmas.List.Folds.{list_any_more}
use Rattle.tt_value.specs.columns.Body.{distinct, with_value}
use Rattle.tt_value.proofs.columns.Distinct.{has, has_with, has_distinct, ascends_with, distinct_ascends, same_ascending}
use Rattle.tt_textcol.specs.TextBody.{text_bytes, text_cmp}
use Rattle.tt_textcol.proofs.TextLaws.{text_total, text_ties}
use Rattle.tt_textcol.proofs.Lengths.{length-text}

abbrev pub holds : List ℕ → List (List ℕ) → Bool
holds v vs = has text_cmp text_total text_ties v vs

abbrev spelled : List (List ℕ) → ℕ
spelled vs = length (flat_map text_bytes vs)

or_swap : (b c : Bool) → (b || c) ≡ (c || b)
or_swap true true = refl
or_swap true false = refl
or_swap false true = refl
or_swap false false = refl

or_either : (b c : Bool) → (b || c) ≡ true → (b ≡ true) ⊎ (c ≡ true)
or_either true c e = inl refl
or_either false c e = inr e

is_equal : (o : Ordering) → is_eq o ≡ true → o ≡ Equal
is_equal Less h = absurd cc
is_equal Equal h = refl
is_equal Greater h = absurd cc

-- ---- one more distinct text

abbrev Grown : List ℕ → List (List ℕ) → List (List ℕ) → Type 0
Grown v ds es = (length es ≡ length ds + 1) × (spelled es ≡ spelled ds + (length v + 2))

put_before : (v : List ℕ) (ds : List (List ℕ)) → Grown v ds (v ∷ ds)
put_before v ds = (omega arith, (let a = length-append (text_bytes v) (flat_map text_bytes ds) in let b = length-text v in omega arith))

put_behind : (v d : List ℕ) (ds es : List (List ℕ)) → Grown v ds es → Grown v (d ∷ ds) (d ∷ es)
put_behind v d ds es h =
    let a = length-append (text_bytes d) (flat_map text_bytes ds) in
    let b = length-append (text_bytes d) (flat_map text_bytes es) in
    let p = h.0 in
    let q = h.1 in
    (omega arith, omega arith)

grown_with : (v : List ℕ) (ds : List (List ℕ)) → holds v ds ≡ false → Grown v ds (with_value text_cmp v ds)
grown_with v [] new = put_before v []
grown_with v (d ∷ ds) new = go (grown_with v ds) (text_cmp v d) new
  where
    go : (holds v ds ≡ false → Grown v ds (with_value text_cmp v ds)) → (o : Ordering) → (is_eq o || holds v ds) ≡ false → Grown v (d ∷ ds) (match_ordering o (v ∷ d ∷ ds) (d ∷ ds) (d ∷ with_value text_cmp v ds))
    go ih Less h = put_before v (d ∷ ds)
    go ih Equal h = absurd cc
    go ih Greater h = put_behind v d ds (with_value text_cmp v ds) (ih h)

abbrev NoLess : List (List ℕ) → List (List ℕ) → Type 0
NoLess ds es = (length ds ≤ length es) × (spelled ds ≤ spelled es)

no_less_grown : (v : List ℕ) (ds es : List (List ℕ)) → Grown v ds es → NoLess ds es
no_less_grown v ds es h = let p = h.0 in let q = h.1 in (omega arith, omega arith)

no_less_behind : (d : List ℕ) (ds es : List (List ℕ)) → NoLess ds es → NoLess (d ∷ ds) (d ∷ es)
no_less_behind d ds es h =
    let a = length-append (text_bytes d) (flat_map text_bytes ds) in
    let b = length-append (text_bytes d) (flat_map text_bytes es) in
    let p = h.0 in
    let q = h.1 in
    (omega arith, omega arith)

no_less_with : (v : List ℕ) (ds : List (List ℕ)) → NoLess ds (with_value text_cmp v ds)
no_less_with v [] = no_less_grown v [] (v ∷ []) (put_before v [])
no_less_with v (d ∷ ds) = go (no_less_with v ds) (text_cmp v d)
  where
    go : NoLess ds (with_value text_cmp v ds) → (o : Ordering) → NoLess (d ∷ ds) (match_ordering o (v ∷ d ∷ ds) (d ∷ ds) (d ∷ with_value text_cmp v ds))
    go ih Less = no_less_grown v (d ∷ ds) (v ∷ d ∷ ds) (put_before v (d ∷ ds))
    go ih Equal = (omega arith, omega arith)
    go ih Greater = no_less_behind d ds (with_value text_cmp v ds) ih

-- the distinct texts of one more text
distinct_more : (vs : List (List ℕ)) (i : ℕ) (d : List ℕ) → i < length vs → distinct text_cmp (take (i + 1) vs) ≡ with_value text_cmp (get_or vs i d) (distinct text_cmp (take i vs))
distinct_more vs i d lt =
    let v : List ℕ = get_or vs i d in
    let before : List (List ℕ) = take i vs in
    same_ascending text_cmp text_total text_ties (distinct text_cmp (take (i + 1) vs)) (with_value text_cmp v (distinct text_cmp before))
    (distinct_ascends text_cmp text_total text_ties (take (i + 1) vs)) (ascends_with text_cmp text_total text_ties v (distinct text_cmp before) (distinct_ascends text_cmp text_total text_ties before))
    (λ u. has_distinct text_cmp text_total text_ties u (take (i + 1) vs) ∙ list_any_more (λ x. is_eq (text_cmp u x)) vs i d lt ∙ or_swap (holds u before) (is_eq (text_cmp u v))
    ∙ ap (λ b. is_eq (text_cmp u v) || b) (sym (has_distinct text_cmp text_total text_ties u before)) ∙ sym (has_with text_cmp text_total text_ties u v (distinct text_cmp before)))

-- the distinct texts in front are no more than those of all
front_no_less : (vs : List (List ℕ)) (i k : ℕ) → i + k ≡ length vs → NoLess (distinct text_cmp (take i vs)) (distinct text_cmp vs)
front_no_less vs i zero e = subst (λ (us : List (List ℕ)). NoLess (distinct text_cmp us) (distinct text_cmp vs)) (sym (take_all i vs (omega arith))) (omega arith, omega arith)
front_no_less vs i (suc k) e =
    let here : NoLess (distinct text_cmp (take i vs)) (distinct text_cmp (take (i + 1) vs))
    = subst (λ (ds : List (List ℕ)). NoLess (distinct text_cmp (take i vs)) ds) (sym (distinct_more vs i [] (omega arith))) (no_less_with (get_or vs i []) (distinct text_cmp (take i vs))) in
    let later = front_no_less vs (i + 1) k (omega arith) in
    let a = here.0 in
    let b = here.1 in
    let c = later.0 in
    let d = later.1 in
    (omega arith, omega arith)

-- ---- numbers that have come

module _ (number : List ℕ → ℕ) where
  -- the numbers of all these texts have come
  abbrev pub Marked : List Bool → List (List ℕ) → Type 0
  Marked seen vs = (q : List ℕ) → holds q vs ≡ true → get_or seen (number q) false ≡ true

  -- the distinct texts are no fewer, and take no fewer bytes
  abbrev pub AreCounted : List Bool → List (List ℕ) → ℕ → ℕ → Type 0
  AreCounted seen vs count bytes = Marked seen vs × (count ≤ length (distinct text_cmp vs)) × (bytes ≤ length (flat_map text_bytes (distinct text_cmp vs)))

  pub none_counted : (seen : List Bool) → AreCounted seen [] 0 0
  none_counted seen = ((λ q h. absurd cc), omega arith, omega arith)

  pub counted_before : (seen : List Bool) (vs : List (List ℕ)) (i : ℕ) (d : List ℕ) (count bytes : ℕ) → i < length vs → get_or seen (number (get_or vs i d)) false ≡ true
      → AreCounted seen (take i vs) count bytes → AreCounted seen (take (i + 1) vs) count bytes
  counted_before seen vs i d count bytes lt old c =
      let v : List ℕ = get_or vs i d in
      let more = no_less_with v (distinct text_cmp (take i vs)) in
      let is = distinct_more vs i d lt in (
        λ q h. go q (or_either (holds q (take i vs)) (is_eq (text_cmp q v)) (sym (list_any_more (λ u. is_eq (text_cmp q u)) vs i d lt) ∙ h)),
        subst (λ (ds : List (List ℕ)). count ≤ length ds) (sym is) (let a = more.0 in let b = c.1 in omega arith),
        subst (λ (ds : List (List ℕ)). bytes ≤ length (flat_map text_bytes ds)) (sym is) (let a = more.1 in let b = c.2 in omega arith),
      )
    where
      go : (q : List ℕ) → (holds q (take i vs) ≡ true) ⊎ (is_eq (text_cmp q (get_or vs i d)) ≡ true) → get_or seen (number q) false ≡ true
      go q (inl h) = c.0 q h
      go q (inr h) = ap (λ u. get_or seen (number u) false) (text_ties q (get_or vs i d) (is_equal (text_cmp q (get_or vs i d)) h)) ∙ old

  differs : (n : ℕ) → false ≡ (n == n) → ⊥
  differs n h = let e : (n == n) ≡ true = eq-eqb n n refl in absurd cc

  marked_still : (seen : List Bool) (v q : List ℕ) → number v < length seen → get_or seen (number q) false ≡ true → get_or (set seen (number v) true) (number q) false ≡ true
  marked_still seen v q within h = go (number q == number v) refl
    where
      go : (b : Bool) → (number q == number v) ≡ b → get_or (set seen (number v) true) (number q) false ≡ true
      go true t = get_or-set_at seen (number v) (number q) true false (eqb-true (number q) (number v) t) within
      go false t = get_or-set_other seen (number v) (number q) true false (λ e. let h = ap (λ n. n == number v) e in differs (number v) (sym t ∙ h)) ∙ h

  not_come : (seen : List Bool) (vs : List (List ℕ)) (v : List ℕ) → get_or seen (number v) false ≡ false → Marked seen vs → holds v (distinct text_cmp vs) ≡ false
  not_come seen vs v new marked = has_distinct text_cmp text_total text_ties v vs ∙ go (holds v vs) refl
    where
      go : (b : Bool) → holds v vs ≡ b → b ≡ false
      go true t = let h = marked v t in absurd cc
      go false t = refl

  pub counted_more : (seen : List Bool) (vs : List (List ℕ)) (i : ℕ) (d : List ℕ) (count bytes : ℕ) → i < length vs → number (get_or vs i d) < length seen → get_or seen (number (get_or vs i d)) false ≡ false
      → AreCounted seen (take i vs) count bytes → AreCounted (set seen (number (get_or vs i d)) true) (take (i + 1) vs) (count + 1) (bytes + (length (get_or vs i d) + 2))
  counted_more seen vs i d count bytes lt within new c =
      let v : List ℕ = get_or vs i d in
      let more = grown_with v (distinct text_cmp (take i vs)) (not_come seen (take i vs) v new c.0) in
      let is = distinct_more vs i d lt in (
        λ q h. go q (or_either (holds q (take i vs)) (is_eq (text_cmp q v)) (sym (list_any_more (λ u. is_eq (text_cmp q u)) vs i d lt) ∙ h)),
        subst (λ (ds : List (List ℕ)). count + 1 ≤ length ds) (sym is) (let a = more.0 in let b = c.1 in omega arith),
        subst (λ (ds : List (List ℕ)). bytes + (length v + 2) ≤ length (flat_map text_bytes ds)) (sym is) (let a = more.1 in let b = c.2 in omega arith),
      )
    where
      go : (q : List ℕ) → (holds q (take i vs) ≡ true) ⊎ (is_eq (text_cmp q (get_or vs i d)) ≡ true) → get_or (set seen (number (get_or vs i d)) true) (number q) false ≡ true
      go q (inl h) = marked_still seen (get_or vs i d) q within (c.0 q h)
      go q (inr h) = get_or-set_at seen (number (get_or vs i d)) (number q) true false (ap number (text_ties q (get_or vs i d) (is_equal (text_cmp q (get_or vs i d)) h))) within

  -- what has been counted in front is no more than the distinct texts of all
  pub counted_in_front : (seen : List Bool) (vs : List (List ℕ)) (i count bytes : ℕ) → i ≤ length vs → AreCounted seen (take i vs) count bytes
      → (count ≤ length (distinct text_cmp vs)) × (bytes ≤ length (flat_map text_bytes (distinct text_cmp vs)))
  counted_in_front seen vs i count bytes le c =
      let h = front_no_less vs i (length vs - i) (omega arith) in
      let a = h.0 in
      let b = h.1 in
      let p = c.1 in
      let q = c.2 in
      (omega arith, omega arith)
