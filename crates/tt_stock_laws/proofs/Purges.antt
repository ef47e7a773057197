-- A purge takes away what is not named, so that what is named stays stored.
use Rattle.std.specs.List.{list_all, list_any}
use Rattle.std.specs.Prelude.{Bool, List, Some, [], false, flat_map, length, map, nat_lt, not, refl, slice_get, true, ℕ, ◌&&◌, ◌++◌, ◌+◌, ◌-◌, ◌==◌, ◌∷◌, ◌≡◌}
use Rattle.std.proofs.Common.{ap, arith, inl, inr, suc, sym, zero, ◌∙◌}
use Rattle.std.proofs.Math.Bool.{or-true}
use Rattle.std.proofs.lemmas.Bool.{and_parts, false≢true, or_cases}
use Rattle.std.proofs.lemmas.List.Folds.{list_any-append}
use Rattle.std.proofs.lemmas.Option.{none-some, same_Some}
use Rattle.tt_layout.specs.Holds.{hold_of, is_held}
use Rattle.tt_layout.specs.Numbers.{has}
use Rattle.tt_layout.specs.declared.facts.TableFacts.{TableFacts}
use Rattle.tt_plain.proofs.Tests.{same_number}
use Rattle.tt_plain.proofs.law.Lists.{any_at, every_at, every_from}
use Rattle.tt_plain.specs.asked.Carried.{Carried}
use Rattle.tt_plain.specs.declared.store.Plain.{Plain}
use Rattle.tt_plain.specs.declared.store.PlainTable.{PlainTable}
use Rattle.tt_plain.specs.declared.tally.Tally.{Tally}
use Rattle.tt_plain.specs.declared.tally.TallyPart.{TallyPart}
use Rattle.tt_plain.specs.declared.tally.TallyPending.{TallyPending}
use Rattle.tt_plain.specs.declared.tally.TallyPin.{TallyPin}
use Rattle.tt_plain.specs.effect.Apply.{applied}
use Rattle.tt_plain.specs.effect.Purge.{may_purge}
use Rattle.tt_plain.specs.effect.Round.{worker_effect}
use Rattle.tt_plain.specs.law.Sound.{IsSound}
use Rattle.tt_plain.specs.law.Stocked.{AreStored}
use Rattle.tt_plain.specs.tally.Changes.{TakesAway, changed_tally, taken_away}
use Rattle.tt_plain.specs.tally.Facts.{facts_at, facts_of_table, is_named_at, pinned_parts, round_parts}
use Rattle.tt_plain.specs.tally.Layouts.{is_ascending}
use Rattle.tt_plain.specs.tally.Parts.{is_stored}
use Rattle.tt_plain_laws.proofs.guard.Kept.{are_numbered}
use Rattle.tt_script.specs.declared.script.Script.{Script}
use Rattle.tt_stock_laws.proofs.Layouts.{all_has}
use Rattle.tt_stock_laws.proofs.Stock.{Stock, layouts_in, stock_later, stored_from, stored_has}
use Rattle.tt_stock_laws.proofs.Supplied.{Stocks}
use Rattle.tt_stock_laws.proofs.Used.{used_held, uses}

left_stored : (taken : List ℕ) (n : ℕ) → has taken n ≡ false → (parts : List TallyPart) → list_any (λ (part : TallyPart). part.number == n && part.stored) parts ≡ true
    → list_any (λ (part : TallyPart). part.number == n && part.stored) (map (taken_away taken) parts) ≡ true
left_stored taken n free [] e = e
left_stored taken n free (part ∷ parts) e = elim (or_cases (part.number == n && part.stored) (list_any (λ (part : TallyPart). part.number == n && part.stored) parts) e) [
  | inl h ↦
      let both = and_parts (part.number == n) part.stored h in
      rw (both.0, both.1, ap (has taken) (same_number part.number n both.0) ∙ free) refl
  | inr h ↦ rw (left_stored taken n free parts h) (or-true (part.number == n && (part.stored && not (has taken part.number))))
]

get_mapped : {A B : Type 0} (f : A → B) (xs : List A) (place : ℕ) (x : A) → slice_get xs place ≡ Some x → slice_get (map f xs) place ≡ Some (f x)
get_mapped f [] place x e = absurd (none-some x e)
get_mapped f (y ∷ xs) zero x e = ap Some (ap f (same_Some y x e))
get_mapped f (y ∷ xs) (suc place) x e = get_mapped f xs place x e

has_flat : {A : Type 0} (f : A → List ℕ) (n : ℕ) (xs : List A) (place : ℕ) (x : A) → slice_get xs place ≡ Some x → has (f x) n ≡ true → has (flat_map f xs) n ≡ true
has_flat f n [] place x e h = absurd (none-some x e)
has_flat f n (y ∷ xs) zero x e h = list_any-append (λ m. m == n) (f y) (flat_map f xs) ∙ rw (ap (λ z. has (f z) n) (same_Some y x e) ∙ h) refl
has_flat f n (y ∷ xs) (suc place) x e h = list_any-append (λ m. m == n) (f y) (flat_map f xs) ∙ rw (has_flat f n xs place x e h) (or-true (has (f y) n))

-- ---- what is named

pub used_named : (store : Plain) (moment place : ℕ) (table : PlainTable) (part : ℕ) → slice_get store.tables place ≡ Some table → table.number - 1 ≡ place → uses moment table.regimes table.dropped (layouts_in store.tally place) part ≡ true → is_named_at store moment part ≡ true
unfolding facts_at
used_named store moment place table part at number e =
    let facts = facts_of_table store.tally table in
    let same : uses moment table.regimes table.dropped facts.layouts part ≡ true = ap (λ (n : ℕ). uses moment table.regimes table.dropped (layouts_in store.tally n) part) number ∙ e in
    rw (any_at (λ (t : TableFacts). is_held (hold_of moment t part)) (map (facts_of_table store.tally) store.tables) place facts (get_mapped (facts_of_table store.tally) store.tables place table at) (used_held moment facts part same)) refl

pub pinned_named : (store : Plain) (moment part : ℕ) → has (pinned_parts store.tally) part ≡ true → is_named_at store moment part ≡ true
unfolding facts_at
pinned_named store moment part e = rw e (or-true (list_any (λ (t : TableFacts). is_held (hold_of moment t part)) (map (facts_of_table store.tally) store.tables)))

in_pins : (tally : Tally) (place : ℕ) (pin : TallyPin) (n : ℕ) → slice_get tally.pins place ≡ Some pin → has pin.parts n ≡ true → has (pinned_parts tally) n ≡ true
unfolding pinned_parts
in_pins tally place pin n at e =
    let pins = flat_map (λ (p : TallyPin). p.parts) tally.pins in
    let added = flat_map (λ (lists : TallyPending). lists.added) tally.pending in
    let here : has pins n ≡ true = has_flat (λ (p : TallyPin). p.parts) n tally.pins place pin at e in
    let first : has (pins ++ round_parts tally.round) n ≡ true = list_any-append (λ m. m == n) pins (round_parts tally.round) ∙ rw here refl in
    list_any-append (λ m. m == n) (pins ++ round_parts tally.round) added ∙ rw first refl

in_round : (tally : Tally) (n : ℕ) → has (round_parts tally.round) n ≡ true → has (pinned_parts tally) n ≡ true
unfolding pinned_parts
in_round tally n e =
    let pins = flat_map (λ (p : TallyPin). p.parts) tally.pins in
    let added = flat_map (λ (lists : TallyPending). lists.added) tally.pending in
    let first : has (pins ++ round_parts tally.round) n ≡ true = list_any-append (λ m. m == n) pins (round_parts tally.round) ∙ rw e (or-true (has pins n)) in
    list_any-append (λ m. m == n) (pins ++ round_parts tally.round) added ∙ rw first refl

in_added : (tally : Tally) (place : ℕ) (lists : TallyPending) (n : ℕ) → slice_get tally.pending place ≡ Some lists → has lists.added n ≡ true → has (pinned_parts tally) n ≡ true
unfolding pinned_parts
in_added tally place lists n at e =
    let pins = flat_map (λ (p : TallyPin). p.parts) tally.pins in
    let added = flat_map (λ (lists : TallyPending). lists.added) tally.pending in
    list_any-append (λ m. m == n) (pins ++ round_parts tally.round) added
    ∙ rw (has_flat (λ (lists : TallyPending). lists.added) n tally.pending place lists at e) (or-true (has (pins ++ round_parts tally.round) n))

-- ---- the purge

module _ (carried : Carried) (program : Script) (store : Plain) (sound : IsSound carried program store) (stocks : Stocks carried program store) (parts : List ℕ) (allowed : may_purge store parts ≡ true) where
  abbrev purged : Tally
  purged = changed_tally store.tally (TakesAway parts)

  not_taken : (n : ℕ) → is_named_at store (store.moment + 1) n ≡ true → has parts n ≡ false
  not_taken n is = by (has parts n) refl
    where
      by : (b : Bool) → has parts n ≡ b → has parts n ≡ false
      by false e = e
      by true e =
          let all = (and_parts (is_ascending parts && nat_lt 0 (length parts)) (list_all (λ number. is_stored store.tally number && not (is_named_at store (store.moment + 1) number)) parts) allowed).1 in
          let one = (and_parts (is_stored store.tally n) (not (is_named_at store (store.moment + 1) n)) (all_has (λ number. is_stored store.tally number && not (is_named_at store (store.moment + 1) number)) parts n all e)).1 in
          absurd (false≢true (sym (ap not is) ∙ one))

  still : (n : ℕ) → is_stored store.tally n ≡ true → is_named_at store (store.moment + 1) n ≡ true → is_stored purged n ≡ true
  still n e is = left_stored parts n (not_taken n is) store.tally.parts e

  next : Stock (store.moment + 1) store.tables store.tally
  next = stock_later store.moment (store.moment + 1) (length store.tables) store.tables store.tally (omega arith) sound.tables stocks.stock

  pub purge_stocks : Stocks carried program (applied store (worker_effect store (TakesAway parts ∷ [])))
  unfolding applied
  purge_stocks = record {
    stock = record {
      used = λ place table at part e. still part (next.used place table at part e) (used_named store (store.moment + 1) place table part at (omega (arith, are_numbered carried program store sound place table at)) e);
      pins = every_from (λ (pin : TallyPin). AreStored purged pin.parts) store.tally.pins (λ place pin at.
          stored_from purged pin.parts (λ n h. still n (stored_has store.tally pin.parts n (every_at (λ (p : TallyPin). AreStored store.tally p.parts) store.tally.pins place pin stocks.stock.pins at) h) (pinned_named store (store.moment + 1) n (in_pins store.tally place pin n at h))));
      round = stored_from purged (round_parts store.tally.round) (λ n h. still n (stored_has store.tally (round_parts store.tally.round) n stocks.stock.round h) (pinned_named store (store.moment + 1) n (in_round store.tally n h)));
      added = every_from (λ (lists : TallyPending). AreStored purged lists.added) store.tally.pending (λ place lists at.
          stored_from purged lists.added (λ n h. still n (stored_has store.tally lists.added n (every_at (λ (l : TallyPending). AreStored store.tally l.added) store.tally.pending place lists stocks.stock.added at) h) (pinned_named store (store.moment + 1) n (in_added store.tally place lists n at h))));
    };
    there = stocks.there;
    marked = stocks.marked;
    held = stocks.held;
  }
