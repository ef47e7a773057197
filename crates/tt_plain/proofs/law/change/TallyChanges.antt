-- Each sound change of the tally keeps it sound.
use Rattle.std.specs.List.{list_all, range_with_len}
use Rattle.std.specs.Prelude.{List, None, Option, Some, [], bytes_eq, filter, fold, length, map, nat_lt, not, refl, slice_get, true, unwrap_or, ℕ, ◌&&◌, ◌++◌, ◌+◌, ◌-◌, ◌<◌, ◌==◌, ◌||◌, ◌∷◌, ◌≡◌, ◌≤◌}
use Rattle.std.proofs.Common.{arith, inl, inr, subst, sym, ◌∙◌, ◌⊎◌}
use Rattle.std.proofs.Math.Bool.{or-true}
use Rattle.std.proofs.lemmas.Bool.{and_parts, eq-eqb, eqb-true, lt-ltb, ltb-true, or_cases}
use Rattle.std.proofs.lemmas.Slice.Eq.{bytes_eq-Decides}
use Rattle.tt_history.specs.declared.history.Added.{Added}
use Rattle.tt_layout.proofs.ChainLaws.{follow-more, last_begun_is, tail_begun}
use Rattle.tt_layout.specs.Numbers.{IsAscending}
use Rattle.tt_plain.proofs.law.Lists.{every-append, every-filter, every-set, every_at, every_kept, every_on, two-append, two-filter}
use Rattle.tt_plain.specs.declared.tally.Tally.{Tally}
use Rattle.tt_plain.specs.declared.tally.TallyPart.{TallyPart}
use Rattle.tt_plain.specs.declared.tally.TallyPending.{TallyPending}
use Rattle.tt_plain.specs.declared.tally.TallyPin.{TallyPin}
use Rattle.tt_plain.specs.law.Changes.{AreSoundTallyChanges, IsSoundTallyChange}
use Rattle.tt_plain.specs.law.Lists.{EachTwo, Every}
use Rattle.tt_plain.specs.law.Sound.{AreNumberedParts, AreSoundLayouts, AreSoundLists, IsSoundTally}
use Rattle.tt_plain.specs.tally.Changes.{AddsParts, BeginsLayout, EndsPending, EndsRound, Keeps, MakesTable, Pins, StartsRound, TakesAway, TallyChange, Unpins, changed_tally, part_added, stands_before, taken_away, with_layout, with_lists, with_pins}
use Rattle.tt_plain.specs.tally.Parts.{are_next_parts, has_right_size, numbers_added}

-- ---- parts

parts-append : (number : ℕ) (parts others : List TallyPart) → AreNumberedParts number parts → AreNumberedParts (number + length parts) others → AreNumberedParts number (parts ++ others)
parts-append number [] others all behind = subst (λ (n : ℕ). AreNumberedParts n others) (omega arith) behind
parts-append number (part ∷ parts) others all behind =
    (all.0, parts-append (number + 1) parts others all.1 (subst (λ (n : ℕ). AreNumberedParts n others) (omega arith) behind))

parts_added : (origin number : ℕ) (added : List Added) → numbers_added added ≡ range_with_len number (length added) → AreNumberedParts number (map (part_added origin) added)
parts_added origin number [] e = tt
parts_added origin number (part ∷ added) e =
    let here : part.number ≡ number = cc in
    let behind : numbers_added added ≡ range_with_len (number + 1) (length added) = cc in
    (here, parts_added origin (number + 1) added behind)

parts_taken : (number : ℕ) (taken : List ℕ) (parts : List TallyPart) → AreNumberedParts number parts → AreNumberedParts number (map (taken_away taken) parts)
parts_taken number taken [] all = tt
parts_taken number taken (part ∷ parts) all = (all.0, parts_taken (number + 1) taken parts all.1)

pub next_numbers : (tally : Tally) (added : List Added) → are_next_parts tally added ≡ true → numbers_added added ≡ range_with_len (length tally.parts + 1) (length added)
unfolding are_next_parts
next_numbers tally added e =
    let both = and_parts (bytes_eq (numbers_added added) (range_with_len (length tally.parts + 1) (length added))) (list_all has_right_size added) e in
    (bytes_eq-Decides (numbers_added added) (range_with_len (length tally.parts + 1) (length added))).0 both.0

-- ---- layouts

one_layout : (moment : ℕ) (parts : List ℕ) → IsAscending parts → AreSoundLayouts moment ((moment, parts) ∷ [])
one_layout moment parts up = (((λ e. absurd cc), (omega arith, up, tt)), omega arith)

last_pushed : (before : ℕ) (layouts : List (ℕ × List ℕ)) (layout : ℕ × List ℕ) → tail_begun before (layouts ++ layout ∷ []) ≡ layout.0
last_pushed before [] layout = refl
last_pushed before (first ∷ layouts) layout = last_pushed first.0 layouts layout

none_pushed : {A : Type 0} (xs : List A) (x : A) → xs ++ x ∷ [] ≡ [] → ⊥
none_pushed [] x e = cc
none_pushed (y ∷ xs) x e = cc

layouts-push : (moment : ℕ) (layouts : List (ℕ × List ℕ)) (parts : List ℕ) → AreSoundLayouts moment layouts → IsAscending parts → AreSoundLayouts moment (layouts ++ (moment, parts) ∷ [])
layouts-push moment layouts parts all up =
    let begun : tail_begun 0 layouts ≤ moment = subst (λ (n : ℕ). n ≤ moment) (last_begun_is layouts) all.1 in (
      (none_pushed layouts (moment, parts), follow-more 0 layouts (moment, parts) all.0.1 begun up),
      subst (λ (n : ℕ). n ≤ moment) (sym (last_begun_is (layouts ++ (moment, parts) ∷ []) ∙ last_pushed 0 layouts (moment, parts))) (omega arith),
    )

layout_given : (moment : ℕ) (layouts : List (List (ℕ × List ℕ))) (place : ℕ) (parts : List ℕ) → Every (AreSoundLayouts moment) layouts → IsAscending parts
    → (found : Option (List (ℕ × List ℕ))) → slice_get layouts place ≡ found → AreSoundLayouts moment (unwrap_or found [] ++ (moment, parts) ∷ [])
layout_given moment layouts place parts all up None e = one_layout moment parts up
layout_given moment layouts place parts all up (Some found) e = layouts-push moment found parts (every_at (AreSoundLayouts moment) layouts place found all e) up

layouts_later : (moment later : ℕ) (layouts : List (List (ℕ × List ℕ))) → moment ≤ later → Every (AreSoundLayouts moment) layouts → Every (AreSoundLayouts later) layouts
layouts_later moment later layouts le all = every_on (AreSoundLayouts moment) (AreSoundLayouts later) layouts (λ ls sound. (sound.0, omega (arith, sound.1))) all

-- ---- lists of transactions

abbrev Before : TallyPending → TallyPending → Type 0
Before a b = stands_before a b ≡ true

before_parts : (s t u v : ℕ) → (nat_lt s u || (s == u && nat_lt t v)) ≡ true → (s < u) ⊎ ((s ≡ u) × (t < v))
before_parts s t u v e = elim (or_cases (nat_lt s u) (s == u && nat_lt t v) e) [
  | inl h ↦ inl (ltb-true s u h)
  | inr h ↦ let both = and_parts (s == u) (nat_lt t v) h in inr (eqb-true s u both.0, ltb-true t v both.1)
]

before_from : (s t u v : ℕ) → (s < u) ⊎ ((s ≡ u) × (t < v)) → (nat_lt s u || (s == u && nat_lt t v)) ≡ true
before_from s t u v (inl h) = rw (lt-ltb s u h) refl
before_from s t u v (inr h) = rw (eq-eqb s u h.0, lt-ltb t v h.1) (or-true (nat_lt s u))

chain_parts : (s t u v w x : ℕ) → (s < u) ⊎ ((s ≡ u) × (t < v)) → (u < w) ⊎ ((u ≡ w) × (v < x)) → (s < w) ⊎ ((s ≡ w) × (t < x))
chain_parts s t u v w x (inl h) (inl k) = inl (omega (arith, h, k))
chain_parts s t u v w x (inl h) (inr k) = inl (omega (arith, h, k.0))
chain_parts s t u v w x (inr h) (inl k) = inl (omega (arith, h.0, k))
chain_parts s t u v w x (inr h) (inr k) = inr (omega (arith, h.0, k.0), omega (arith, h.1, k.1))

before_chain : (a b c : TallyPending) → Before a b → Before b c → Before a c
before_chain a b c left right =
    before_from a.session a.table c.session c.table (chain_parts a.session a.table b.session b.table c.session c.table
    (before_parts a.session a.table b.session b.table left) (before_parts b.session b.table c.session c.table right))

lists_put : (lists : TallyPending) (all : List TallyPending) → EachTwo Before all → EachTwo Before (with_lists lists all)
lists_put lists all two =
    let left : List TallyPending = filter (λ (other : TallyPending). stands_before other lists) all in
    let right : List TallyPending = filter (λ (other : TallyPending). stands_before lists other) all in
    let above : Every (Before lists) right = every_kept (λ (other : TallyPending). stands_before lists other) all in
    two-append Before left (lists ∷ right) (two-filter Before (λ (other : TallyPending). stands_before other lists) all two)
    (above, two-filter Before (λ (other : TallyPending). stands_before lists other) all two)
    (every_on (λ (x : TallyPending). Before x lists) (λ (x : TallyPending). Every (Before x) (lists ∷ right)) left
    (λ x below. (below, every_on (Before lists) (Before x) right (λ y h. before_chain x lists y below h) above))
    (every_kept (λ (other : TallyPending). stands_before other lists) all))

lists_with : (lists : TallyPending) (all : List TallyPending) → AreSoundLists lists → Every AreSoundLists all → Every AreSoundLists (with_lists lists all)
lists_with lists all here each =
    every-append AreSoundLists (filter (λ (other : TallyPending). stands_before other lists) all) (lists ∷ filter (λ (other : TallyPending). stands_before lists other) all)
    (every-filter AreSoundLists (λ (other : TallyPending). stands_before other lists) all each)
    (here, every-filter AreSoundLists (λ (other : TallyPending). stands_before lists other) all each)

-- ---- pins

abbrev Ascends : TallyPin → Type 0
Ascends pin = IsAscending pin.parts

pins_put : (session : ℕ) (pins all : List TallyPin) → Every Ascends pins → Every Ascends all → Every Ascends (with_pins session pins all)
pins_put session pins all here each =
    every-append Ascends (filter (λ (pin : TallyPin). nat_lt pin.session session) all ++ pins) (filter (λ (pin : TallyPin). nat_lt session pin.session) all)
    (every-append Ascends (filter (λ (pin : TallyPin). nat_lt pin.session session) all) pins (every-filter Ascends (λ (pin : TallyPin). nat_lt pin.session session) all each) here)
    (every-filter Ascends (λ (pin : TallyPin). nat_lt session pin.session) all each)

-- ---- each change

pub tally_later : (moment later : ℕ) (tally : Tally) → moment ≤ later → IsSoundTally moment tally → IsSoundTally later tally
tally_later moment later tally le sound = record {
  numbered = sound.numbered;
  pending = sound.pending;
  lists = sound.lists;
  pins = sound.pins;
  round = sound.round;
  layouts = layouts_later moment later tally.layouts le sound.layouts;
}

pub tally_keeps : (moment : ℕ) (tally : Tally) (change : TallyChange) → IsSoundTally moment tally → IsSoundTallyChange moment tally change → IsSoundTally moment (changed_tally tally change)
tally_keeps moment tally (AddsParts origin parts) sound ok = record {
  layouts = sound.layouts;
  pending = sound.pending;
  lists = sound.lists;
  pins = sound.pins;
  round = sound.round;
  numbered = parts-append 1 tally.parts (map (part_added origin) parts) sound.numbered
      (subst (λ (n : ℕ). AreNumberedParts n (map (part_added origin) parts)) (omega arith) (parts_added origin (length tally.parts + 1) parts (next_numbers tally parts ok)));
}
tally_keeps moment tally (MakesTable begun parts) sound ok = record {
  numbered = sound.numbered;
  pending = sound.pending;
  lists = sound.lists;
  pins = sound.pins;
  round = sound.round;
  layouts = every-append (AreSoundLayouts moment) tally.layouts (((begun, parts) ∷ []) ∷ []) sound.layouts
      (subst (λ (n : ℕ). AreSoundLayouts moment ((n, parts) ∷ [])) (sym ok.0) (one_layout moment parts ok.1), tt);
}
tally_keeps moment tally (BeginsLayout table begun parts) sound ok = record {
  numbered = sound.numbered;
  pending = sound.pending;
  lists = sound.lists;
  pins = sound.pins;
  round = sound.round;
  layouts = subst (λ (n : ℕ). Every (AreSoundLayouts moment) (with_layout tally.layouts table (n, parts))) (sym ok.0)
      (every-set (AreSoundLayouts moment) tally.layouts (table - 1) (unwrap_or (slice_get tally.layouts (table - 1)) [] ++ (moment, parts) ∷ []) sound.layouts
      (layout_given moment tally.layouts (table - 1) parts sound.layouts ok.1 (slice_get tally.layouts (table - 1)) refl));
}
tally_keeps moment tally (Keeps lists) sound ok = record {
  numbered = sound.numbered;
  layouts = sound.layouts;
  pins = sound.pins;
  round = sound.round;
  pending = lists_put lists tally.pending sound.pending;
  lists = lists_with lists tally.pending ok sound.lists;
}
tally_keeps moment tally (EndsPending session) sound ok = record {
  numbered = sound.numbered;
  layouts = sound.layouts;
  pins = sound.pins;
  round = sound.round;
  pending = two-filter Before (λ (lists : TallyPending). not (lists.session == session)) tally.pending sound.pending;
  lists = every-filter AreSoundLists (λ (lists : TallyPending). not (lists.session == session)) tally.pending sound.lists;
}
tally_keeps moment tally (Pins session pins) sound ok = record {
  numbered = sound.numbered;
  layouts = sound.layouts;
  pending = sound.pending;
  lists = sound.lists;
  round = sound.round;
  pins = pins_put session pins tally.pins (every_on (λ (pin : TallyPin). (pin.session ≡ session) × IsAscending pin.parts) Ascends pins (λ pin h. h.1) ok) sound.pins;
}
tally_keeps moment tally (Unpins session) sound ok = record {
  numbered = sound.numbered;
  layouts = sound.layouts;
  pending = sound.pending;
  lists = sound.lists;
  round = sound.round;
  pins = pins_put session [] tally.pins tt sound.pins;
}
tally_keeps moment tally (StartsRound round) sound ok = record {
  numbered = sound.numbered;
  layouts = sound.layouts;
  pending = sound.pending;
  lists = sound.lists;
  pins = sound.pins;
  round = ok;
}
tally_keeps moment tally EndsRound sound ok = record {
  numbered = sound.numbered;
  layouts = sound.layouts;
  pending = sound.pending;
  lists = sound.lists;
  pins = sound.pins;
  round = tt;
}
tally_keeps moment tally (TakesAway parts) sound ok = record {
  layouts = sound.layouts;
  pending = sound.pending;
  lists = sound.lists;
  pins = sound.pins;
  round = sound.round;
  numbered = parts_taken 1 parts tally.parts sound.numbered;
}

-- all of them, one after the other
pub tally_kept : (moment : ℕ) (tally : Tally) (changes : List TallyChange) → IsSoundTally moment tally → AreSoundTallyChanges moment tally changes → IsSoundTally moment (fold changed_tally tally changes)
tally_kept moment tally [] sound ok = sound
tally_kept moment tally (change ∷ changes) sound ok =
    tally_kept moment (changed_tally tally change) changes (tally_keeps moment tally change sound ok.0) ok.1
