-- The steps of one pass over two ascending lists.
use Rattle.std.proofs.Common.{◌≡◌, ℕ, ◌+◌, ◌<◌, Bool, false, not, ◌||◌, List, [], ◌∷◌, ◌++◌, ◌==◌, cond, length, refl, ap, sym, subst, ◌∙◌, ◌⊎◌, inl, inr, arith, append_assoc}
use Rattle.std.proofs.lemmas.Bool.{ne_eqb, eq-eqb}
use Rattle.std.proofs.lemmas.List.{append-nil}
use Rattle.tt_layout.specs.Numbers.{AscendsFrom, IsAscending, has, without, with_number, joined}
use Rattle.tt_layout.proofs.Members.{with_below, with_same, with_above}
use Rattle.tt_layout.proofs.Ascending.{ascends_lower, has_below}

pub ascends-tail : (ns rest : List ℕ) (n : ℕ) → ns ≡ n ∷ rest → IsAscending ns → IsAscending rest
ascends-tail ns rest n e up =
    let whole : AscendsFrom 0 (n ∷ rest) = subst (AscendsFrom 0) e up in ascends_lower rest 0 (n + 1) (omega arith) whole.1

empty : (ns : List ℕ) → length ns ≡ 0 → ns ≡ []
empty [] e = refl
empty (n ∷ ns) e = absurd (omega arith)

-- ---- without

without_first : (y x : ℕ) (ys xs : List ℕ) → AscendsFrom (y + 1) ys → x < y → without (y ∷ ys) (x ∷ xs) ≡ x ∷ without (y ∷ ys) xs
without_first y x ys xs up h =
    ap (λ (b : Bool). cond (not b) (x ∷ without (y ∷ ys) xs) (without (y ∷ ys) xs)) (has_below (y ∷ ys) y x (omega arith, up) h)

without_same : (y : ℕ) (ys xs : List ℕ) → without (y ∷ ys) (y ∷ xs) ≡ without (y ∷ ys) xs
without_same y ys xs =
    ap (λ (b : Bool). cond (not (b || has ys y)) (y ∷ without (y ∷ ys) xs) (without (y ∷ ys) xs)) (eq-eqb y y refl)

without_passed : (y : ℕ) (ys xs : List ℕ) → AscendsFrom (y + 1) xs → without (y ∷ ys) xs ≡ without ys xs
without_passed y ys [] up = refl
without_passed y ys (x ∷ xs) up =
    let later : AscendsFrom (y + 1) xs = ascends_lower xs (y + 1) (x + 1) (omega (arith, up.0)) up.1 in
    let away : (y == x) ≡ false = ne_eqb y x (λ e. omega (arith, up.0)) in
    ap (λ (b : Bool). cond (not (b || has ys x)) (x ∷ without (y ∷ ys) xs) (without (y ∷ ys) xs)) away
    ∙ ap (λ (zs : List ℕ). cond (not (has ys x)) (x ∷ zs) zs) (without_passed y ys xs later)

without_none : (xs : List ℕ) → without [] xs ≡ xs
without_none [] = refl
without_none (x ∷ xs) = ap (λ (zs : List ℕ). x ∷ zs) (without_none xs)

pub kept_step : (done xs ys later others whole : List ℕ) (x y : ℕ) → xs ≡ x ∷ later → ys ≡ y ∷ others → IsAscending ys → x < y
    → done ++ without ys xs ≡ whole → (done ++ x ∷ []) ++ without ys later ≡ whole
kept_step done xs ys later others whole x y p q up h e =
    let order : AscendsFrom 0 (y ∷ others) = subst (AscendsFrom 0) q up in
    rw (append_assoc, q)
    (sym (ap (λ (l : List ℕ). done ++ l) (without_first y x others later order.1 h))
    ∙ ap (λ (l : List ℕ). done ++ without (y ∷ others) l) (sym p) ∙ ap (λ (l : List ℕ). done ++ without l xs) (sym q) ∙ e)

pub passed_step : (done xs ys later others whole : List ℕ) (x y : ℕ) → xs ≡ x ∷ later → ys ≡ y ∷ others → IsAscending xs → y < x
    → done ++ without ys xs ≡ whole → done ++ without others xs ≡ whole
passed_step done xs ys later others whole x y p q up h e =
    let order : AscendsFrom 0 (x ∷ later) = subst (AscendsFrom 0) p up in
    let above : AscendsFrom (y + 1) xs = subst (AscendsFrom (y + 1)) (sym p) (omega arith, order.1) in
    sym (ap (λ (l : List ℕ). done ++ l) (without_passed y others xs above)) ∙ ap (λ (l : List ℕ). done ++ without l xs) (sym q) ∙ e

pub left_step : (done xs ys later others whole : List ℕ) (x y : ℕ) → xs ≡ x ∷ later → ys ≡ y ∷ others → x ≡ y
    → done ++ without ys xs ≡ whole → done ++ without ys later ≡ whole
left_step done xs ys later others whole x y p q h e =
    let first : xs ≡ y ∷ later = p ∙ ap (λ (n : ℕ). n ∷ later) h in
    ap (λ (l : List ℕ). done ++ without l later) q
    ∙ sym (ap (λ (l : List ℕ). done ++ l) (without_same y others later))
    ∙ ap (λ (l : List ℕ). done ++ without (y ∷ others) l) (sym first) ∙ ap (λ (l : List ℕ). done ++ without l xs) (sym q) ∙ e

pub kept_end : (done xs ys whole : List ℕ) → ((length xs ≡ 0) ⊎ (length ys ≡ 0)) → done ++ without ys xs ≡ whole → done ++ xs ≡ whole
kept_end done xs ys whole (inl p) e =
    let none : xs ≡ [] = empty xs p in
    ap (λ (l : List ℕ). done ++ l) none ∙ sym (ap (λ (l : List ℕ). done ++ without ys l) none) ∙ e
kept_end done xs ys whole (inr p) e =
    let none : ys ≡ [] = empty ys p in
    sym (ap (λ (l : List ℕ). done ++ l) (without_none xs)) ∙ sym (ap (λ (l : List ℕ). done ++ without l xs) none) ∙ e

-- ---- joined

pub joined_first : (ms : List ℕ) (x : ℕ) (xs : List ℕ) → AscendsFrom (x + 1) ms → joined (x ∷ xs) ms ≡ x ∷ joined xs ms
joined_first [] x xs up = refl
joined_first (m ∷ ms) x xs up =
    ap (λ (l : List ℕ). joined l ms) (with_below m x xs (omega (arith, up.0)))
    ∙ joined_first ms x (with_number m xs) (ascends_lower ms (x + 1) (m + 1) (omega (arith, up.0)) up.1)

joined_second : (x y : ℕ) (xs ys : List ℕ) → y < x → AscendsFrom (y + 1) ys → joined (x ∷ xs) (y ∷ ys) ≡ y ∷ joined (x ∷ xs) ys
joined_second x y xs ys h up =
    ap (λ (l : List ℕ). joined l ys) (with_above y x xs h) ∙ joined_first ys y (x ∷ xs) up

with_first : (x : ℕ) (xs : List ℕ) → AscendsFrom (x + 1) xs → with_number x xs ≡ x ∷ xs
with_first x [] up = refl
with_first x (z ∷ zs) up = with_above x z zs (omega (arith, up.0))

joined_same : (x : ℕ) (xs ys : List ℕ) → AscendsFrom (x + 1) xs → joined (x ∷ xs) (x ∷ ys) ≡ joined xs (x ∷ ys)
joined_same x xs ys up =
    ap (λ (l : List ℕ). joined l ys) (with_same x x xs refl) ∙ sym (ap (λ (l : List ℕ). joined l ys) (with_first x xs up))

pub joined_none : (ms : List ℕ) (low : ℕ) → AscendsFrom low ms → joined [] ms ≡ ms
joined_none [] low up = refl
joined_none (m ∷ ms) low up = joined_first ms m [] up.1 ∙ ap (λ (l : List ℕ). m ∷ l) (joined_none ms (m + 1) up.1)

pub first_step : (done xs ys firsts seconds whole : List ℕ) (x y : ℕ) → xs ≡ x ∷ firsts → ys ≡ y ∷ seconds → IsAscending ys → x < y
    → done ++ joined xs ys ≡ whole → (done ++ x ∷ []) ++ joined firsts ys ≡ whole
first_step done xs ys firsts seconds whole x y p q up h e =
    let order : AscendsFrom 0 (y ∷ seconds) = subst (AscendsFrom 0) q up in
    let above : AscendsFrom (x + 1) ys = subst (AscendsFrom (x + 1)) (sym q) (omega arith, order.1) in
    rw append_assoc
    (sym (ap (λ (l : List ℕ). done ++ l) (joined_first ys x firsts above)) ∙ ap (λ (l : List ℕ). done ++ joined l ys) (sym p) ∙ e)

pub second_step : (done xs ys firsts seconds whole : List ℕ) (x y : ℕ) → xs ≡ x ∷ firsts → ys ≡ y ∷ seconds → IsAscending ys → y < x
    → done ++ joined xs ys ≡ whole → (done ++ y ∷ []) ++ joined xs seconds ≡ whole
second_step done xs ys firsts seconds whole x y p q up h e =
    let order : AscendsFrom 0 (y ∷ seconds) = subst (AscendsFrom 0) q up in
    rw (append_assoc, p)
    (sym (ap (λ (l : List ℕ). done ++ l) (joined_second x y firsts seconds h order.1))
    ∙ ap (λ (l : List ℕ). done ++ joined l (y ∷ seconds)) (sym p) ∙ ap (λ (l : List ℕ). done ++ joined xs l) (sym q) ∙ e)

pub both_step : (done xs ys firsts seconds whole : List ℕ) (x y : ℕ) → xs ≡ x ∷ firsts → ys ≡ y ∷ seconds → IsAscending xs → x ≡ y
    → done ++ joined xs ys ≡ whole → done ++ joined firsts ys ≡ whole
both_step done xs ys firsts seconds whole x y p q up h e =
    let order : AscendsFrom 0 (x ∷ firsts) = subst (AscendsFrom 0) p up in
    let first : ys ≡ x ∷ seconds = q ∙ ap (λ (n : ℕ). n ∷ seconds) (sym h) in
    ap (λ (l : List ℕ). done ++ joined firsts l) first
    ∙ sym (ap (λ (l : List ℕ). done ++ l) (joined_same x firsts seconds order.1))
    ∙ ap (λ (l : List ℕ). done ++ joined l (x ∷ seconds)) (sym p) ∙ ap (λ (l : List ℕ). done ++ joined xs l) (sym first) ∙ e

pub joined_end : (done xs ys whole : List ℕ) → ((length xs ≡ 0) ⊎ (length ys ≡ 0)) → IsAscending ys → done ++ joined xs ys ≡ whole
    → (done ++ xs) ++ ys ≡ whole
joined_end done xs ys whole (inl p) up e =
    let none : xs ≡ [] = empty xs p in
    rw (none, append-nil)
    (sym (ap (λ (l : List ℕ). done ++ l) (joined_none ys 0 up)) ∙ sym (ap (λ (l : List ℕ). done ++ joined l ys) none) ∙ e)
joined_end done xs ys whole (inr p) up e =
    let none : ys ≡ [] = empty ys p in
    rw (none, append-nil) (sym (ap (λ (l : List ℕ). done ++ joined xs l) none) ∙ e)

-- where nothing is gone, what was added joins the numbers
pub nothing_gone : (ns gone added : List ℕ) → length gone ≡ 0 → joined ns added ≡ joined (without gone ns) added
nothing_gone ns gone added e =
    let none : gone ≡ [] = empty gone e in
    ap (λ (l : List ℕ). joined l added) (sym (without_none ns)) ∙ sym (ap (λ (l : List ℕ). joined (without l ns) added) none)
