-- A change and the layouts in front of it and behind it.
use Rattle.std.proofs.Common.{◌≡◌, ℕ, Bool, true, false, not, ◌&&◌, ◌||◌, List, refl, ap, sym, ◌∙◌}
use Rattle.tt_layout.specs.Numbers.{IsAscending, has, HasAll, HasNone, without, joined, changed}
use Rattle.tt_layout.proofs.Members.{has-joined, has-without, has-changed, has_all, has_none}
use Rattle.tt_layout.proofs.Ascending.{ascends-filter, ascends-joined, ascends-changed, same_numbers}

gone_table : (p g a : Bool) → (g ≡ true → p ≡ true) → (a ≡ true → p ≡ false) → (p && not ((p && not g) || a)) ≡ g
gone_table true true true all none = sym (none refl)
gone_table true true false all none = refl
gone_table true false true all none = refl
gone_table true false false all none = refl
gone_table false true a all none = all refl
gone_table false false a all none = refl

added_table : (p g a : Bool) → (g ≡ true → p ≡ true) → (a ≡ true → p ≡ false) → (((p && not g) || a) && not p) ≡ a
added_table true g true all none = none' g (none refl)
  where
    none' : (g : Bool) → true ≡ false → (((true && not g) || true) && false) ≡ true
    none' g h = absurd (cc)
added_table true true false all none = refl
added_table true false false all none = refl
added_table false g true all none = refl
added_table false g false all none = refl

back_table : (p n : Bool) → ((p && not (p && not n)) || (n && not p)) ≡ n
back_table true true = refl
back_table true false = refl
back_table false true = refl
back_table false false = refl

pub gone_again : (ns gone added : List ℕ) → IsAscending ns → IsAscending gone → IsAscending added → HasAll ns gone → HasNone ns added
    → without (changed ns gone added) ns ≡ gone
gone_again ns gone added up left right all none =
    same_numbers _ gone 0 (ascends-filter (λ n. not (has (changed ns gone added) n)) ns 0 up) left
    (λ k.
    has-without (changed ns gone added) ns k
    ∙ ap (λ (b : Bool). has ns k && not b) (has-changed ns gone added k)
    ∙ gone_table (has ns k) (has gone k) (has added k) (has_all ns gone k all) (has_none ns added k none))

pub added_again : (ns gone added : List ℕ) → IsAscending ns → IsAscending gone → IsAscending added → HasAll ns gone → HasNone ns added
    → without ns (changed ns gone added) ≡ added
added_again ns gone added up left right all none =
    same_numbers _ added 0 (ascends-filter (λ n. not (has ns n)) (changed ns gone added) 0 (ascends-changed ns gone added up right)) right
    (λ k.
    has-without ns (changed ns gone added) k
    ∙ ap (λ (b : Bool). b && not (has ns k)) (has-changed ns gone added k)
    ∙ added_table (has ns k) (has gone k) (has added k) (has_all ns gone k all) (has_none ns added k none))

pub changed_back : (ns ms : List ℕ) → IsAscending ns → IsAscending ms → changed ns (without ms ns) (without ns ms) ≡ ms
changed_back ns ms left right =
    same_numbers _ ms 0 (ascends-changed ns (without ms ns) (without ns ms) left (ascends-filter (λ n. not (has ns n)) ms 0 right)) right
    (λ k.
    has-changed ns (without ms ns) (without ns ms) k
    ∙ ap (λ (b : Bool). (has ns k && not b) || has (without ns ms) k) (has-without ms ns k)
    ∙ ap (λ (b : Bool). (has ns k && not (has ns k && not (has ms k))) || b) (has-without ns ms k)
    ∙ back_table (has ns k) (has ms k))

-- ---- two changes as one

twice_table : (n g a h b : Bool)
    → ((((n && not g) || a) && not h) || b) ≡ ((n && not (g || h)) || ((a && not h) || b))
twice_table true true true true b = refl
twice_table true true true false b = refl
twice_table true true false h b = refl
twice_table true false true true b = refl
twice_table true false true false b = refl
twice_table true false false true b = refl
twice_table true false false false b = refl
twice_table false g true true b = refl
twice_table false g true false b = refl
twice_table false g false h b = refl

pub changed_twice : (ns gone added less more : List ℕ) → IsAscending ns → IsAscending added → IsAscending more
    → changed (changed ns gone added) less more ≡ changed ns (joined gone less) (joined (without less added) more)
changed_twice ns gone added less more up right later =
    same_numbers _ _ 0
    (ascends-changed (changed ns gone added) less more (ascends-changed ns gone added up right) later)
    (ascends-changed ns (joined gone less) (joined (without less added) more) up (ascends-joined more (without less added) 0 (ascends-filter (λ n. not (has less n)) added 0 right) later))
    (λ k.
    has-changed (changed ns gone added) less more k
    ∙ ap (λ (b : Bool). (b && not (has less k)) || has more k) (has-changed ns gone added k)
    ∙ twice_table (has ns k) (has gone k) (has added k) (has less k) (has more k)
    ∙ sym (
    has-changed ns (joined gone less) (joined (without less added) more) k
    ∙ ap (λ (b : Bool). (has ns k && not b) || has (joined (without less added) more) k) (has-joined gone less k)
    ∙ ap (λ (b : Bool). (has ns k && not (has gone k || has less k)) || b) (has-joined (without less added) more k)
    ∙ ap (λ (b : Bool). (has ns k && not (has gone k || has less k)) || (b || has more k)) (has-without less added k)))
