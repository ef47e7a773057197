-- The numbers that the tally names are those of parts that were added, through each change of it.
use Rattle.std.specs.Prelude.{List, None, Option, Some, [], filter, fold, nat_le, nat_lt, not, option_map, refl, slice_get, unwrap_or, ℕ, ⊤, ◌++◌, ◌-◌, ◌==◌, ◌∷◌, ◌≡◌, ◌≤◌}
use Rattle.std.proofs.lemmas.Bool.{false≢true}
use Rattle.tt_plain.proofs.law.Lists.{every-append, every-filter, every-set, every_at, every_on}
use Rattle.tt_plain.proofs.law.session.Views.{every_found}
use Rattle.tt_plain.specs.declared.tally.Tally.{Tally}
use Rattle.tt_plain.specs.declared.tally.TallyPending.{TallyPending}
use Rattle.tt_plain.specs.declared.tally.TallyPin.{TallyPin}
use Rattle.tt_plain.specs.law.Bag.{pins_of}
use Rattle.tt_plain.specs.law.Lists.{Every}
use Rattle.tt_plain.specs.tally.Changes.{AddsParts, BeginsLayout, EndsPending, EndsRound, Keeps, MakesTable, Pins, StartsRound, TakesAway, TallyChange, Unpins, changed_tally, stands_before}
use Rattle.tt_plain.specs.tally.Layouts.{current_parts, is_pending_of, layouts_of, lists_of, parts_at}
use Rattle.tt_plain.specs.tally.Pending.{no_lists}
use Rattle.tt_plain_laws.proofs.parts.Balance.{lists_now}
use Rattle.tt_plain_laws.proofs.parts.Contents.{Known, known_more}
use Rattle.tt_layout.specs.Chain as chain

abbrev pub KnownLayout : ℕ → ℕ × List ℕ → Type 0
KnownLayout count layout = Known count layout.1

abbrev pub KnownLists : ℕ → TallyPending → Type 0
KnownLists count lists = (1 ≤ lists.table) × Known count lists.gone × Known count lists.added

abbrev pub KnownPin : ℕ → TallyPin → Type 0
KnownPin count pin = Known count pin.parts

pub record AreKnown (count : ℕ) (tally : Tally) : Type 0 where
  pub layouts : Every (Every (KnownLayout count)) tally.layouts
  pub lists : Every (KnownLists count) tally.pending
  pub pins : Every (KnownPin count) tally.pins

none_known : (count : ℕ) → Known count []
none_known count k e = absurd (false≢true e)

pub more_known : (count more : ℕ) (tally : Tally) → count ≤ more → AreKnown count tally → AreKnown more tally
more_known count more tally le known = record {
  layouts = every_on (Every (KnownLayout count)) (Every (KnownLayout more)) tally.layouts (λ ls all. every_on (KnownLayout count) (KnownLayout more) ls (λ l h. known_more count more l.1 le h) all) known.layouts;
  lists = every_on (KnownLists count) (KnownLists more) tally.pending (λ l h. (h.0, known_more count more l.gone le h.1, known_more count more l.added le h.2)) known.lists;
  pins = every_on (KnownPin count) (KnownPin more) tally.pins (λ p h. known_more count more p.parts le h) known.pins;
}

-- ---- changes

abbrev pub KnownChange : ℕ → TallyChange → Type 0
KnownChange count (AddsParts origin parts) = ⊤
KnownChange count (MakesTable moment parts) = Known count parts
KnownChange count (BeginsLayout table moment parts) = Known count parts
KnownChange count (Keeps lists) = KnownLists count lists
KnownChange count (EndsPending session) = ⊤
KnownChange count (Pins session pins) = Every (KnownPin count) pins
KnownChange count (Unpins session) = ⊤
KnownChange count (StartsRound round) = ⊤
KnownChange count EndsRound = ⊤
KnownChange count (TakesAway parts) = ⊤

pins_known : (count session : ℕ) (pins all : List TallyPin) → Every (KnownPin count) pins → Every (KnownPin count) all
    → Every (KnownPin count) (filter (λ (pin : TallyPin). nat_lt pin.session session) all ++ pins ++ filter (λ (pin : TallyPin). nat_lt session pin.session) all)
pins_known count session pins all here there =
    every-append (KnownPin count) (filter (λ (pin : TallyPin). nat_lt pin.session session) all ++ pins) (filter (λ (pin : TallyPin). nat_lt session pin.session) all)
    (every-append (KnownPin count) (filter (λ (pin : TallyPin). nat_lt pin.session session) all) pins (every-filter (KnownPin count) (λ (pin : TallyPin). nat_lt pin.session session) all there) here)
    (every-filter (KnownPin count) (λ (pin : TallyPin). nat_lt session pin.session) all there)

layouts_or : (count : ℕ) (all : List (List (ℕ × List ℕ))) (place : ℕ) → Every (Every (KnownLayout count)) all → Every (KnownLayout count) (unwrap_or (slice_get all place) [])
layouts_or count all place known = by (slice_get all place) refl
  where
    by : (o : Option (List (ℕ × List ℕ))) → slice_get all place ≡ o → Every (KnownLayout count) (unwrap_or o [])
    by None e = tt
    by (Some ls) e = every_at (Every (KnownLayout count)) all place ls known e

known_changed : (count : ℕ) (tally : Tally) (change : TallyChange) → KnownChange count change → AreKnown count tally → AreKnown count (changed_tally tally change)
known_changed count tally (AddsParts origin parts) ok known = record { layouts = known.layouts; lists = known.lists; pins = known.pins }
known_changed count tally (MakesTable moment parts) ok known =
    record { layouts = every-append (Every (KnownLayout count)) tally.layouts (((moment, parts) ∷ []) ∷ []) known.layouts ((ok, tt), tt); lists = known.lists; pins = known.pins }
known_changed count tally (BeginsLayout table moment parts) ok known = record {
  layouts = every-set (Every (KnownLayout count)) tally.layouts (table - 1) (unwrap_or (slice_get tally.layouts (table - 1)) [] ++ (moment, parts) ∷ []) known.layouts
      (every-append (KnownLayout count) (unwrap_or (slice_get tally.layouts (table - 1)) []) ((moment, parts) ∷ []) (layouts_or count tally.layouts (table - 1) known.layouts) (ok, tt));
  lists = known.lists;
  pins = known.pins;
}
known_changed count tally (Keeps lists) ok known = record {
  layouts = known.layouts;
  lists = every-append (KnownLists count) (filter (λ other. stands_before other lists) tally.pending) (lists ∷ filter (λ other. stands_before lists other) tally.pending)
      (every-filter (KnownLists count) (λ other. stands_before other lists) tally.pending known.lists) (ok, every-filter (KnownLists count) (λ other. stands_before lists other) tally.pending known.lists);
  pins = known.pins;
}
known_changed count tally (EndsPending session) ok known = record {
  layouts = known.layouts;
  lists = every-filter (KnownLists count) (λ (lists : TallyPending). not (lists.session == session)) tally.pending known.lists;
  pins = known.pins;
}
known_changed count tally (Pins session pins) ok known = record { layouts = known.layouts; lists = known.lists; pins = pins_known count session pins tally.pins ok known.pins }
known_changed count tally (Unpins session) ok known = record { layouts = known.layouts; lists = known.lists; pins = pins_known count session [] tally.pins tt known.pins }
known_changed count tally (StartsRound round) ok known = record { layouts = known.layouts; lists = known.lists; pins = known.pins }
known_changed count tally EndsRound ok known = record { layouts = known.layouts; lists = known.lists; pins = known.pins }
known_changed count tally (TakesAway parts) ok known = record { layouts = known.layouts; lists = known.lists; pins = known.pins }

pub known_fold : (count : ℕ) (tally : Tally) (changes : List TallyChange) → Every (KnownChange count) changes → AreKnown count tally → AreKnown count (fold changed_tally tally changes)
known_fold count tally [] ok known = known
known_fold count tally (change ∷ changes) ok known = known_fold count (changed_tally tally change) changes ok.1 (known_changed count tally change ok.0 known)

-- ---- what follows

last_known : (count : ℕ) (layouts : List (ℕ × List ℕ)) → Every (KnownLayout count) layouts → Known count (unwrap_or (option_map (λ (l : ℕ × List ℕ). l.1) (chain.last_of layouts)) [])
last_known count [] all = none_known count
last_known count (l ∷ []) all = all.0
last_known count (l ∷ m ∷ layouts) all = last_known count (m ∷ layouts) all.1

pub known_current : (count : ℕ) (tally : Tally) (table : ℕ) → AreKnown count tally → Known count (current_parts tally table)
known_current count tally table known = last_known count (layouts_of tally table) (layouts_or count tally.layouts (table - 1) known.layouts)

pub known_at : (count : ℕ) (tally : Tally) (table moment : ℕ) → AreKnown count tally → Known count (parts_at tally table moment)
known_at count tally table moment known =
    last_known count (filter (λ (l : ℕ × List ℕ). nat_le l.0 moment) (layouts_of tally table))
    (every-filter (KnownLayout count) (λ (l : ℕ × List ℕ). nat_le l.0 moment) (layouts_of tally table) (layouts_or count tally.layouts (table - 1) known.layouts))

pub known_lists : (count : ℕ) (tally : Tally) (session table : ℕ) → AreKnown count tally → Known count (lists_now tally session table).gone × Known count (lists_now tally session table).added
known_lists count tally session table known = by (lists_of tally session table) refl
  where
    by : (o : Option TallyPending) → lists_of tally session table ≡ o → Known count (unwrap_or o (no_lists session table)).gone × Known count (unwrap_or o (no_lists session table)).added
    by None e = (none_known count, none_known count)
    by (Some lists) e = let found = every_found (KnownLists count) (is_pending_of session table) tally.pending lists known.lists e in (found.1, found.2)

pub known_pins : (count : ℕ) (tally : Tally) (session : ℕ) → AreKnown count tally → Every (KnownPin count) (pins_of tally session)
known_pins count tally session known = every-filter (KnownPin count) (λ (pin : TallyPin). pin.session == session) tally.pins known.pins
