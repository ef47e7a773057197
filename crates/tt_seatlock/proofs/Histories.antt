-- Histories: beginnings of one history, the entries of one number, and the longer of two.
use Rattle.std.proofs.Common.{◌≡◌, ◌≢◌, ℕ, suc, ◌≤◌, Bool, true, false, cond, List, [], ◌∷◌, ◌++◌, length, All, nat_lt, ne_eqb, eqb, refl, ap, sym, ◌∙◌, subst, arith, append_assoc}
use Rattle.std.proofs.lemmas.List.{append-nil}
use Rattle.std.proofs.lemmas.List.Elements.{filter-append}
use Rattle.std.proofs.lemmas.Bool.Decides.{nat_tests}
use mathlib.Core.List.{IsPrefix}
use Rattle.tt_seatlock.specs.History.{made_by, AddsOnly, longer, shorter}

pub prefix_self : {E : Type 0} (xs : List E) → IsPrefix xs xs
prefix_self xs = ([], append-nil xs)

pub prefix_trans : {E : Type 0} (xs ys zs : List E) → IsPrefix xs ys → IsPrefix ys zs → IsPrefix xs zs
prefix_trans xs ys zs p q = (p.0 ++ q.0, sym (append_assoc xs p.0 q.0) ∙ (ap (λ w. w ++ q.0) p.1 ∙ q.1))

-- of two beginnings of one history the shorter begins the longer
pub prefix_shorter : {E : Type 0} (xs ys zs : List E) → IsPrefix xs zs → IsPrefix ys zs → length xs ≤ length ys → IsPrefix xs ys
prefix_shorter [] ys zs p q le = (ys, refl)
prefix_shorter (x ∷ xs) [] zs p q le = absurd (omega arith)
prefix_shorter (x ∷ xs) (y ∷ ys) [] p q le = absurd (cc (p.1))
prefix_shorter (x ∷ xs) (y ∷ ys) (z ∷ zs) p q le =
    let heads : x ≡ y = cc (p.1, q.1) in
    let rest = prefix_shorter xs ys zs (p.0, cc (p.1)) (q.0, cc (q.1)) (omega arith) in
    (rest.0, cc (heads, rest.1))

-- entries of one number have none of another
pub none_made : {E : Type 0} (number : E → ℕ) (n k : ℕ) (xs : List E) → n ≢ k → All (λ e. number e ≡ k) xs → made_by number n xs ≡ []
none_made number n k [] other all = refl
none_made {E} number n k (x ∷ xs) other all =
    let off : eqb (number x) n ≡ false = ne_eqb (number x) n (λ e. other (sym e ∙ all 0 x (omega arith))) in
    let rest : made_by number n xs ≡ [] = none_made number n k xs other (λ i d h. all (suc i) d (omega arith)) in
    subst (λ (t : Bool). cond t (x ∷ made_by number n xs) (made_by number n xs) ≡ []) (sym off) rest

-- what one number adds changes no other number's entries
pub made_else : {E : Type 0} (number : E → ℕ) (n k : ℕ) (old new : List E) → n ≢ k → AddsOnly number k old new → made_by number n new ≡ made_by number n old
made_else {E} number n k old new other adds =
    ap (made_by number n) (sym adds.1)
    ∙ (filter-append (λ e. eqb (number e) n) old adds.0
    ∙ (ap (λ (t : List E). made_by number n old ++ t) (none_made number n k adds.0 other adds.2) ∙ append-nil (made_by number n old)))

module _ {E : Type 0} (xs ys : List E) where
  shorter_by : (b : Bool) → nat_lt (length xs) (length ys) ≡ b → (log : List E) → IsPrefix xs log → IsPrefix ys log → IsPrefix (cond b xs ys) (cond b ys xs)
  shorter_by true is log p q = prefix_shorter xs ys log p q (grind (arith, nat_tests))
  shorter_by false is log p q = prefix_shorter ys xs log q p (grind (arith, nat_tests))

  -- of two beginnings of one history the shorter begins the longer
  pub shorter_begins : (log : List E) → IsPrefix xs log → IsPrefix ys log → IsPrefix (shorter xs ys) (longer xs ys)
  shorter_begins = shorter_by (nat_lt (length xs) (length ys)) refl

  longer_by : (b : Bool) (log : List E) → IsPrefix xs log → IsPrefix ys log → IsPrefix (cond b ys xs) log
  longer_by true log p q = q
  longer_by false log p q = p

  pub longer_in : (log : List E) → IsPrefix xs log → IsPrefix ys log → IsPrefix (longer xs ys) log
  longer_in = longer_by (nat_lt (length xs) (length ys))
