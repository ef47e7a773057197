-- Each stored byte counts once.
use Rattle.std.proofs.Common.{◌≡◌, ℕ, ◌+◌, ◌<◌, Bool, true, false, ◌==◌, ◌&&◌, ◌||◌, List, [], ◌∷◌, map, filter, cond, sum_by, refl, ap, sym, ◌∙◌, inl, inr, arith}
use Rattle.std.specs.List.{list_any, list_all}
use Rattle.std.proofs.lemmas.Bool.{cases_Bool, cases_eq, eq-eqb, ne_eqb, and_parts, or_cases}
use Rattle.std.proofs.lemmas.List.Sums.{sum_by-cons}
use Rattle.tt_layout.specs.declared.hold.Class.{Class}
use Rattle.tt_layout.specs.declared.hold.Class.TheVariants as class
use Rattle.tt_layout.specs.declared.facts.TableFacts.{TableFacts}
use Rattle.tt_layout.specs.declared.facts.PartFacts.{PartFacts}
use Rattle.tt_layout.specs.declared.facts.Facts.{Facts}
use Rattle.tt_layout.specs.Numbers.{has, AscendsFrom}
use Rattle.tt_layout.specs.Holds.{stands}
use Rattle.tt_layout.specs.Owners.{owner_of, class_of, is_holder, least_or}
use Rattle.tt_plain.specs.report.Metrics.{class_number, bytes_owned, is_measured}
use Rattle.tt_owner.specs.declared.row.MetricRow.{MetricRow}
use Rattle.tt_owner.specs.Holders.{origin_stands}
use Rattle.tt_owner.specs.Rows.{metric_of, table_numbers, AreByNumber, total_of, stored_bytes}
use Rattle.tt_owner.proofs.Lists.{least_in}
use Rattle.tt_owner.proofs.Totals.{sum_by-map, sum_by-same, sum_by-filter, share, owned_is_shares}

-- ---- sums of sums

sum_by-add : {X : Type 0} (f g : X → ℕ) (xs : List X) → sum_by f xs + sum_by g xs ≡ sum_by (λ x. f x + g x) xs
sum_by-add f g [] = refl
sum_by-add f g (x ∷ xs) =
    omega (arith, sum_by-cons f x xs, sum_by-cons g x xs, sum_by-cons (λ x. f x + g x) x xs, sum_by-add f g xs)

sum_by-none : {X : Type 0} (xs : List X) → sum_by (λ (x : X). 0) xs ≡ 0
sum_by-none [] = refl
sum_by-none {X = X} (x ∷ xs) = omega (arith, sum_by-cons (λ (x : X). 0) x xs, sum_by-none xs)

exchanged : {X Y : Type 0} (f : X → Y → ℕ) (xs : List X) (ys : List Y) → sum_by (λ x. sum_by (f x) ys) xs ≡ sum_by (λ y. sum_by (λ x. f x y) xs) ys
exchanged f [] ys = sym (sum_by-none ys)
exchanged f (x ∷ xs) ys =
    sum_by-cons (λ x. sum_by (f x) ys) x xs
    ∙ ap (λ (n : ℕ). sum_by (f x) ys + n) (exchanged f xs ys)
    ∙ sum_by-add (f x) (λ y. sum_by (λ x. f x y) xs) ys
    ∙ sum_by-same (λ y. f x y + sum_by (λ x. f x y) xs) (λ y. sum_by (λ x. f x y) (x ∷ xs)) ys (λ y. sym (sum_by-cons (λ x. f x y) x xs))

sum_by-known : {X : Type 0} (ok : X → Bool) (f g : X → ℕ) (xs : List X) → list_all ok xs ≡ true → ((x : X) → ok x ≡ true → f x ≡ g x) → sum_by f xs ≡ sum_by g xs
sum_by-known ok f g [] all same = refl
sum_by-known ok f g (x ∷ xs) all same =
    let parts : (ok x ≡ true) × (list_all ok xs ≡ true) = and_parts (ok x) (list_all ok xs) all in
    omega (arith, sum_by-cons f x xs, sum_by-cons g x xs, same x parts.0, sum_by-known ok f g xs parts.1 same)

-- ---- one table of a number

below : (ns : List ℕ) (low k b : ℕ) → AscendsFrom low ns → k < low → sum_by (λ n. cond (k == n) b 0) ns ≡ 0
below [] low k b up h = refl
below (n ∷ ns) low k b up h =
    sum_by-cons (λ n. cond (k == n) b 0) n ns
    ∙ ap (λ (t : Bool). cond t b 0 + sum_by (λ n. cond (k == n) b 0) ns) (ne_eqb k n (λ e. omega (arith, up.0)))
    ∙ omega (arith, below ns (n + 1) k b up.1 (omega (arith, up.0)))

once : (ns : List ℕ) (low k b : ℕ) → AscendsFrom low ns → has ns k ≡ true → sum_by (λ n. cond (k == n) b 0) ns ≡ b
once [] low k b up there = absurd (cc)
once (n ∷ ns) low k b up there =
    elim (cases_eq n k) [
      | inl same ↦ sum_by-cons (λ n. cond (k == n) b 0) n ns
          ∙ ap (λ (t : Bool). cond t b 0 + sum_by (λ n. cond (k == n) b 0) ns) (eq-eqb k n (sym same))
          ∙ omega (arith, below ns (n + 1) k b up.1 (omega arith))
      | inr other ↦ sum_by-cons (λ n. cond (k == n) b 0) n ns
          ∙ ap (λ (t : Bool). cond t b 0 + sum_by (λ n. cond (k == n) b 0) ns) (ne_eqb k n (λ e. other (sym e)))
          ∙ omega (arith, once ns (n + 1) k b up.1 (sym (ap (λ (t : Bool). t || has ns k) (ne_eqb n k other)) ∙ there))
    ]

-- ---- the owner is a table

kept : {X : Type 0} (q : X → Bool) (n : X → ℕ) (xs : List X) (k : ℕ) → has (map n (filter q xs)) k ≡ true → has (map n xs) k ≡ true
kept q n [] k there = there
kept q n (x ∷ xs) k there = step (q x) (kept q n xs k) there
  where
    later : (a : Bool) → (a || true) ≡ true
    later true = refl
    later false = refl

    in_tail : has (map n xs) k ≡ true → has (map n (x ∷ xs)) k ≡ true
    in_tail h = ap (λ (b : Bool). (n x == k) || b) h ∙ later (n x == k)

    first_or : (has (map n (filter q xs)) k ≡ true → has (map n xs) k ≡ true) → ((n x == k) || has (map n (filter q xs)) k) ≡ true → has (map n (x ∷ xs)) k ≡ true
    first_or rest h =
        elim (or_cases (n x == k) (has (map n (filter q xs)) k) h) [
          | inl here ↦ ap (λ (b : Bool). b || has (map n xs) k) here
          | inr more ↦ in_tail (rest more)
        ]

    step : (b : Bool) → (has (map n (filter q xs)) k ≡ true → has (map n xs) k ≡ true)
        → has (map n (cond b (x ∷ filter q xs) (filter q xs))) k ≡ true → has (map n (x ∷ xs)) k ≡ true
    step true rest h = first_or rest h
    step false rest h = in_tail (rest h)

known_least : (other : ℕ) (ns all : List ℕ) → has all other ≡ true → ((k : ℕ) → has ns k ≡ true → has all k ≡ true) → has all (least_or other ns) ≡ true
known_least other [] all there within = there
known_least other (n ∷ ns) all there within = within (least_or other (n ∷ ns)) (least_in n ns)

pub owner_known : (facts : Facts) (part : PartFacts) → has (table_numbers facts) part.origin ≡ true → has (table_numbers facts) (owner_of facts part) ≡ true
owner_known facts part there = step (origin_stands facts part.origin)
  where
    least : has (table_numbers facts) (least_or part.origin (map (λ (table : TableFacts). table.number) (filter (is_holder facts part.number) facts.tables))) ≡ true
    least = known_least part.origin (map (λ (table : TableFacts). table.number) (filter (is_holder facts part.number) facts.tables)) (table_numbers facts) there
        (λ k h. kept (is_holder facts part.number) (λ (table : TableFacts). table.number) facts.tables k h)

    step : (b : Bool) → has (table_numbers facts) (cond b part.origin (least_or part.origin (map (λ (table : TableFacts). table.number) (filter (is_holder facts part.number) facts.tables)))) ≡ true
    step true = there
    step false = least

-- ---- a table's bytes

-- what a part counts for a table
owned_share : Facts → ℕ → PartFacts → ℕ
owned_share facts table part = cond (owner_of facts part == table) part.bytes 0

five : (own : Bool) (k : Class) (n : ℕ) →
    cond (own && (class_number k == 0)) n 0 + cond (own && (class_number k == 1)) n 0 + cond (own && (class_number k == 2)) n 0
    + cond (own && (class_number k == 3)) n 0 + cond (own && (class_number k == 4)) n 0 ≡ cond own n 0
five false k n = refl
five true class.Active n = omega arith
five true class.TimeTravel n = omega arith
five true class.FailSafe n = omega arith
five true class.RetainedForClone n = omega arith
five true class.Pending n = omega arith

row_total : (facts : Facts) (table : TableFacts) → total_of (metric_of facts table) ≡ sum_by (owned_share facts table.number) facts.parts
unfolding owned_share
row_total facts table =
    let s : Class → PartFacts → ℕ = share facts table.number in
    let a : bytes_owned facts table.number class.Active ≡ sum_by (s class.Active) facts.parts = owned_is_shares facts table.number class.Active in
    let t : bytes_owned facts table.number class.TimeTravel ≡ sum_by (s class.TimeTravel) facts.parts = owned_is_shares facts table.number class.TimeTravel in
    let f : bytes_owned facts table.number class.FailSafe ≡ sum_by (s class.FailSafe) facts.parts = owned_is_shares facts table.number class.FailSafe in
    let r : bytes_owned facts table.number class.RetainedForClone ≡ sum_by (s class.RetainedForClone) facts.parts = owned_is_shares facts table.number class.RetainedForClone in
    let p : bytes_owned facts table.number class.Pending ≡ sum_by (s class.Pending) facts.parts = owned_is_shares facts table.number class.Pending in
    ap (λ (n : ℕ). n + bytes_owned facts table.number class.TimeTravel + bytes_owned facts table.number class.FailSafe + bytes_owned facts table.number class.RetainedForClone + bytes_owned facts table.number class.Pending) a
    ∙ ap (λ (n : ℕ). sum_by (s class.Active) facts.parts + n + bytes_owned facts table.number class.FailSafe + bytes_owned facts table.number class.RetainedForClone + bytes_owned facts table.number class.Pending) t
    ∙ ap (λ (n : ℕ). sum_by (s class.Active) facts.parts + sum_by (s class.TimeTravel) facts.parts + n + bytes_owned facts table.number class.RetainedForClone + bytes_owned facts table.number class.Pending) f
    ∙ ap (λ (n : ℕ). sum_by (s class.Active) facts.parts + sum_by (s class.TimeTravel) facts.parts + sum_by (s class.FailSafe) facts.parts + n + bytes_owned facts table.number class.Pending) r
    ∙ ap (λ (n : ℕ). sum_by (s class.Active) facts.parts + sum_by (s class.TimeTravel) facts.parts + sum_by (s class.FailSafe) facts.parts + sum_by (s class.RetainedForClone) facts.parts + n) p
    ∙ together (s class.Active) (s class.TimeTravel) (s class.FailSafe) (s class.RetainedForClone) (s class.Pending)
    ∙ sum_by-same (λ (part : PartFacts). s class.Active part + s class.TimeTravel part + s class.FailSafe part + s class.RetainedForClone part + s class.Pending part)
    (owned_share facts table.number) facts.parts (λ part. five (owner_of facts part == table.number) (class_of facts part) part.bytes)
  where
    together : (a t f r p : PartFacts → ℕ) → sum_by a facts.parts + sum_by t facts.parts + sum_by f facts.parts + sum_by r facts.parts + sum_by p facts.parts
        ≡ sum_by (λ (part : PartFacts). a part + t part + f part + r part + p part) facts.parts
    together a t f r p =
        ap (λ (n : ℕ). n + sum_by f facts.parts + sum_by r facts.parts + sum_by p facts.parts) (sum_by-add a t facts.parts)
        ∙ ap (λ (n : ℕ). n + sum_by r facts.parts + sum_by p facts.parts) (sum_by-add (λ part. a part + t part) f facts.parts)
        ∙ ap (λ (n : ℕ). n + sum_by p facts.parts) (sum_by-add (λ part. a part + t part + f part) r facts.parts)
        ∙ sum_by-add (λ part. a part + t part + f part + r part) p facts.parts

owns_none : (facts : Facts) (table : ℕ) (parts : List PartFacts) → list_any (λ (part : PartFacts). owner_of facts part == table) parts ≡ false
    → sum_by (owned_share facts table) parts ≡ 0
unfolding owned_share
owns_none facts table [] none = refl
owns_none facts table (part ∷ parts) none =
    let both : ((owner_of facts part == table) ≡ false) × (list_any (λ (part : PartFacts). owner_of facts part == table) parts ≡ false) = neither _ _ none in
    sum_by-cons (owned_share facts table) part parts
    ∙ ap (λ (b : Bool). cond b part.bytes 0 + sum_by (owned_share facts table) parts) both.0
    ∙ omega (arith, owns_none facts table parts both.1)
  where
    neither : (a b : Bool) → (a || b) ≡ false → (a ≡ false) × (b ≡ false)
    neither true b h = absurd (cc)
    neither false b h = (refl, h)

measured_total : (facts : Facts) (table : TableFacts) → cond (is_measured facts table) (total_of (metric_of facts table)) 0 ≡ sum_by (owned_share facts table.number) facts.parts
measured_total facts table =
    elim (cases_Bool (is_measured facts table)) [
      | inl here ↦ ap (λ (b : Bool). cond b (total_of (metric_of facts table)) 0) here ∙ row_total facts table
      | inr away ↦ ap (λ (b : Bool). cond b (total_of (metric_of facts table)) 0) away
          ∙ sym (owns_none facts table.number facts.parts (second (stands facts.at table) (list_any (λ (part : PartFacts). owner_of facts part == table.number) facts.parts) away))
    ]
  where
    second : (a b : Bool) → (a || b) ≡ false → b ≡ false
    second true b h = absurd (cc)
    second false b h = h

-- ---- all rows

pub all_add_up : (facts : Facts) (rows : List MetricRow) → AreByNumber facts → rows ≡ map (metric_of facts) (filter (is_measured facts) facts.tables)
    → sum_by total_of rows ≡ stored_bytes facts
unfolding owned_share
all_add_up facts rows known is =
    ap (sum_by total_of) is
    ∙ sum_by-map total_of (metric_of facts) (filter (is_measured facts) facts.tables)
    ∙ sum_by-filter (λ (table : TableFacts). total_of (metric_of facts table)) (is_measured facts) facts.tables
    ∙ sum_by-same (λ (table : TableFacts). cond (is_measured facts table) (total_of (metric_of facts table)) 0)
    (λ (table : TableFacts). sum_by (owned_share facts table.number) facts.parts) facts.tables (measured_total facts)
    ∙ exchanged (λ (table : TableFacts). owned_share facts table.number) facts.tables facts.parts
    ∙ sum_by-known (λ (part : PartFacts). has (table_numbers facts) part.origin)
    (λ (part : PartFacts). sum_by (λ (table : TableFacts). cond (owner_of facts part == table.number) part.bytes 0) facts.tables) (λ (part : PartFacts). part.bytes) facts.parts known.origins
    (λ part there. sym (sum_by-map (λ n. cond (owner_of facts part == n) part.bytes 0) (λ (table : TableFacts). table.number) facts.tables)
    ∙ once (table_numbers facts) 0 (owner_of facts part) part.bytes known.tables (owner_known facts part there))
