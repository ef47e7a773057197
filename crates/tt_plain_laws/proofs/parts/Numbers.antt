-- Copies of a row in the contents of parts, through lists of their numbers that ascend.
use Rattle.std.specs.Prelude.{Bool, List, [], false, filter, not, refl, true, ℕ, ◌&&◌, ◌+◌, ◌==◌, ◌∷◌, ◌≡◌}
use Rattle.std.proofs.Common.{ap, arith, cond, inl, inr, sym, ◌∙◌, ◌⊎◌}
use Rattle.std.proofs.Math.Bool.{or-true}
use Rattle.std.proofs.lemmas.Bool.{and_parts, cases_order, eq-eqb, eqb-true, false≢true, or_cases}
use Rattle.tt_layout.proofs.Ascending.{ascends-filter, has_below, same_numbers}
use Rattle.tt_layout.proofs.Members.{has-filter, has-joined, has-without, with_above, with_below}
use Rattle.tt_layout.specs.Numbers.{AscendsFrom, IsAscending, changed, has, joined, with_number, without}
use Rattle.tt_plain.specs.history.Contents.{rows_numbered, rows_of_parts}
use Rattle.tt_value.proofs.values.Bags.{copies_of-append}
use Rattle.tt_value.specs.declared.value.Row.{Row}
use Rattle.tt_value.specs.values.Bags.{copies_of}

-- ---- numbers of lists

-- each number of a list is one of another, or none is
abbrev pub Within : List ℕ → List ℕ → Type 0
Within ns others = (k : ℕ) → has ns k ≡ true → has others k ≡ true

abbrev pub Outside : List ℕ → List ℕ → Type 0
Outside ns others = (k : ℕ) → has ns k ≡ true → has others k ≡ false

pub not_both : (b : Bool) → b ≡ true → b ≡ false → ⊥
not_both b e f = false≢true (sym f ∙ e)

pub is_false : (b : Bool) → (b ≡ true → ⊥) → b ≡ false
is_false true none = absurd (none refl)
is_false false none = refl

pub has_itself : (n : ℕ) (ns : List ℕ) → has (n ∷ ns) n ≡ true
has_itself n ns = rw (eq-eqb n n refl) refl

pub has_more : (n : ℕ) (ns : List ℕ) (k : ℕ) → has ns k ≡ true → has (n ∷ ns) k ≡ true
has_more n ns k e = rw e (or-true (n == k))

pub within_joined : (ns ms : List ℕ) (k : ℕ) → has (joined ns ms) k ≡ true → (has ns k ≡ true) ⊎ (has ms k ≡ true)
within_joined ns ms k e = or_cases (has ns k) (has ms k) (sym (has-joined ns ms k) ∙ e)

pub joined_first : (ns ms : List ℕ) (k : ℕ) → has ns k ≡ true → has (joined ns ms) k ≡ true
joined_first ns ms k e = has-joined ns ms k ∙ rw e refl

pub joined_second : (ns ms : List ℕ) (k : ℕ) → has ms k ≡ true → has (joined ns ms) k ≡ true
joined_second ns ms k e = has-joined ns ms k ∙ rw e (or-true (has ns k))

pub within_without : (gone ns : List ℕ) (k : ℕ) → has (without gone ns) k ≡ true → (has ns k ≡ true) × (has gone k ≡ false)
within_without gone ns k e = let both = and_parts (has ns k) (not (has gone k)) (sym (has-without gone ns k) ∙ e) in (both.0, not_held (has gone k) both.1)
  where
    not_held : (b : Bool) → not b ≡ true → b ≡ false
    not_held true f = absurd (false≢true f)
    not_held false f = refl

pub without_has : (gone ns : List ℕ) (k : ℕ) → has ns k ≡ true → has gone k ≡ false → has (without gone ns) k ≡ true
without_has gone ns k e f = has-without gone ns k ∙ rw (e, f) refl

pub within_changed : (ns gone added : List ℕ) (k : ℕ) → has (changed ns gone added) k ≡ true → ((has ns k ≡ true) × (has gone k ≡ false)) ⊎ (has added k ≡ true)
within_changed ns gone added k e = elim (within_joined (without gone ns) added k e) [ inl h ↦ inl (within_without gone ns k h) | inr h ↦ inr h ]

-- ---- copies

module _ (contents : List (List Row)) (row : Row) where
  abbrev pub copies_in : List ℕ → ℕ
  copies_in numbers = copies_of row (rows_of_parts contents numbers)

  abbrev one : ℕ → ℕ
  one n = copies_of row (rows_numbered contents n)

  pub copies-first : (n : ℕ) (ns : List ℕ) → copies_in (n ∷ ns) ≡ one n + copies_in ns
  copies-first n ns = copies_of-append row (rows_numbered contents n) (rows_of_parts contents ns)

  copies-with : (n : ℕ) (ns : List ℕ) → has ns n ≡ false → copies_in (with_number n ns) ≡ one n + copies_in ns
  copies-with n [] none = copies-first n []
  copies-with n (m ∷ ms) none = elim (cases_order m n) [
    | inl same ↦ absurd (not_both (has (m ∷ ms) n) (rw (eq-eqb m n same) refl) none)
    | inr (inl below) ↦
        ap copies_in (with_below n m ms below) ∙ omega (arith, copies-first m (with_number n ms), copies-with n ms (is_false (has ms n) (λ e. not_both (has (m ∷ ms) n) (has_more m ms n e) none)), copies-first m ms)
    | inr (inr above) ↦ ap copies_in (with_above n m ms above) ∙ copies-first n (m ∷ ms)
  ]

  pub copies-joined : (ns ms : List ℕ) (low : ℕ) → AscendsFrom low ms → Outside ms ns → copies_in (joined ns ms) ≡ copies_in ns + copies_in ms
  copies-joined ns [] low up apart = omega arith
  copies-joined ns (m ∷ ms) low up apart =
      omega (
        arith,
        copies-joined (with_number m ns) ms (m + 1) up.1 (λ k e. later k e),
        copies-with m ns (apart m (has_itself m ms)),
        copies-first m ms,
      )
    where
      later : (k : ℕ) → has ms k ≡ true → has (with_number m ns) k ≡ false
      later k e = is_false (has (with_number m ns) k) (λ f. elim (or_cases (has ns k) (has (m ∷ []) k) (sym (has-joined ns (m ∷ []) k) ∙ f)) [
        | inl h ↦ not_both (has ns k) h (apart k (has_more m ms k e))
        | inr h ↦ elim (or_cases (m == k) false h) [
          | inl g ↦ not_both (has ms k) e (has_below ms (m + 1) k up.1 (omega (arith, eqb-true m k g)))
          | inr g ↦ absurd (false≢true g)
        ]
      ])

  split_by : (b : Bool) (n : ℕ) (ns kept left : List ℕ) → copies_in ns ≡ copies_in kept + copies_in left → copies_in (n ∷ ns) ≡ copies_in (cond b (n ∷ kept) kept) + copies_in (cond (not b) (n ∷ left) left)
  split_by true n ns kept left e = omega (arith, e, copies-first n ns, copies-first n kept)
  split_by false n ns kept left e = omega (arith, e, copies-first n ns, copies-first n left)

  pub copies-split : (test : ℕ → Bool) (ns : List ℕ) → copies_in ns ≡ copies_in (filter test ns) + copies_in (filter (λ n. not (test n)) ns)
  copies-split test [] = refl
  copies-split test (n ∷ ns) = split_by (test n) n ns (filter test ns) (filter (λ n. not (test n)) ns) (copies-split test ns)

  -- the numbers of a list that are in another are that one
  found_all : (ns gone : List ℕ) → IsAscending ns → IsAscending gone → Within gone ns → filter (has gone) ns ≡ gone
  found_all ns gone up down within =
      same_numbers (filter (has gone) ns) gone 0 (ascends-filter (has gone) ns 0 up) down (λ k. has-filter (has gone) ns k ∙ both (has ns k) (has gone k) (within k))
    where
      both : (a b : Bool) → (b ≡ true → a ≡ true) → (a && b) ≡ b
      both true true h = refl
      both true false h = refl
      both false true h = absurd (false≢true (h refl))
      both false false h = refl

  pub copies-without : (gone ns : List ℕ) → IsAscending ns → IsAscending gone → Within gone ns → copies_in (without gone ns) + copies_in gone ≡ copies_in ns
  copies-without gone ns up down within =
      omega (arith, copies-split (has gone) ns, ap copies_in (found_all ns gone up down within))

  pub copies-changed : (ns gone added : List ℕ) → IsAscending ns → IsAscending gone → IsAscending added → Within gone ns → Outside added ns
      → copies_in (changed ns gone added) + copies_in gone ≡ copies_in ns + copies_in added
  copies-changed ns gone added up down more within apart =
      omega (
        arith,
        copies-joined (without gone ns) added 0 more (λ k e. is_false (has (without gone ns) k) (λ f. not_both (has ns k) (within_without gone ns k f).0 (apart k e))),
        copies-without gone ns up down within,
      )

  -- what two lists share is the same in both orders
  shared : (ns ms : List ℕ) → IsAscending ns → IsAscending ms → filter (has ns) ms ≡ filter (has ms) ns
  shared ns ms up down =
      same_numbers (filter (has ns) ms) (filter (has ms) ns) 0 (ascends-filter (has ns) ms 0 down) (ascends-filter (has ms) ns 0 up)
      (λ k. has-filter (has ns) ms k ∙ turned (has ms k) (has ns k) ∙ sym (has-filter (has ms) ns k))
    where
      turned : (a b : Bool) → (a && b) ≡ (b && a)
      turned true true = refl
      turned true false = refl
      turned false true = refl
      turned false false = refl

  -- one more change of lists of what is gone and added
  pub copies-lists : (current lost won gone added : List ℕ) → IsAscending lost → IsAscending won → IsAscending gone → IsAscending added → Within gone (changed current lost won) → Outside won current → Within lost current
      → Outside added won → copies_in (joined (without gone won) added) + copies_in lost + copies_in gone ≡ copies_in (joined lost (without won gone)) + copies_in won + copies_in added
  copies-lists current lost won gone added up more down news within apart inside fresh =
      omega (
        arith,
        copies-joined (without gone won) added 0 news (λ k e. is_false (has (without gone won) k) (λ f. not_both (has won k) (within_without gone won k f).0 (fresh k e))),
        copies-joined lost (without won gone) 0 (ascends-filter (λ n. not (has won n)) gone 0 down) (λ k e. not_lost k (within_without won gone k e)),
        copies-split (has won) gone,
        copies-split (has gone) won,
        ap copies_in (shared won gone more down),
      )
    where
      not_lost : (k : ℕ) → (has gone k ≡ true) × (has won k ≡ false) → has lost k ≡ false
      not_lost k both = elim (within_changed current lost won k (within k both.0)) [ inl h ↦ h.1 | inr h ↦ absurd (not_both (has won k) h both.1) ]
