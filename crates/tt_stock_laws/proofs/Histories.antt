-- After a legal history what is named is stored.
use Rattle.std.specs.List.{list_any}
use Rattle.std.specs.Prelude.{Bool, List, Some, [], flat_map, map, refl, slice_get, true, ℕ, ◌++◌, ◌-◌, ◌==◌, ◌∷◌, ◌≡◌}
use Rattle.std.proofs.Common.{ap, arith, inl, inr, suc, sym, ◌∙◌}
use Rattle.std.proofs.lemmas.Bool.{false≢true, or_cases}
use Rattle.std.proofs.lemmas.List.Folds.{list_any-append}
use Rattle.tt_layout.specs.Holds.{hold_of, is_held}
use Rattle.tt_layout.specs.Numbers.{has}
use Rattle.tt_layout.specs.declared.facts.TableFacts.{TableFacts}
use Rattle.tt_plain.proofs.law.Histories.{legal_sound}
use Rattle.tt_plain.specs.asked.Carried.{Carried}
use Rattle.tt_plain.specs.declared.store.Plain.{Plain}
use Rattle.tt_plain.specs.declared.tally.Tally.{Tally}
use Rattle.tt_plain.specs.declared.tally.TallyPending.{TallyPending}
use Rattle.tt_plain.specs.declared.tally.TallyPin.{TallyPin}
use Rattle.tt_plain.specs.law.Lists.{Every}
use Rattle.tt_plain.specs.law.Sound.{IsSound}
use Rattle.tt_plain.specs.law.Stocked.{AreStored, IsStocked, LegalIsStocked}
use Rattle.tt_plain.specs.tally.Facts.{facts_at, facts_of_table, is_named_at, pinned_parts, round_parts}
use Rattle.tt_plain.specs.tally.Parts.{is_stored}
use Rattle.tt_plain_laws.proofs.guard.Kept.{are_numbered, every_two}
use Rattle.tt_script.specs.declared.script.Script.{Script}
use Rattle.tt_stock_laws.proofs.Entries.{legal_stocks}
use Rattle.tt_stock_laws.proofs.Layouts.{owned, there_stored}
use Rattle.tt_stock_laws.proofs.Stock.{layouts_in, stored_from, stored_has}
use Rattle.tt_stock_laws.proofs.Supplied.{AreThere, IsMarked, Stocks}
use Rattle.tt_stock_laws.proofs.Used.{held_used, uses}

flat_stored : {A : Type 0} (tally : Tally) (f : A → List ℕ) (n : ℕ) (xs : List A) → Every (λ x. AreStored tally (f x)) xs → has (flat_map f xs) n ≡ true → is_stored tally n ≡ true
flat_stored tally f n [] all e = absurd (false≢true e)
flat_stored tally f n (x ∷ xs) all e = elim (or_cases (has (f x) n) (has (flat_map f xs) n) (sym (list_any-append (λ m. m == n) (f x) (flat_map f xs)) ∙ e)) [
  | inl h ↦ stored_has tally (f x) n all.0 h
  | inr h ↦ flat_stored tally f n xs all.1 h
]

-- some table, by its place
any_place : {A B : Type 0} (test : B → Bool) (f : A → B) (xs : List A) → list_any test (map f xs) ≡ true → (place : ℕ) × (x : A) × (slice_get xs place ≡ Some x) × (test (f x) ≡ true)
any_place test f [] e = absurd (false≢true e)
any_place test f (x ∷ xs) e = elim (or_cases (test (f x)) (list_any test (map f xs)) e) [
  | inl h ↦ (0, x, refl, h)
  | inr h ↦ let found = any_place test f xs h in (suc found.0, found.1, found.2, found.3)
]

module _ (carried : Carried) (program : Script) (store : Plain) (sound : IsSound carried program store) (stocks : Stocks carried program store) where
  held_stored : (n : ℕ) → list_any (λ (t : TableFacts). is_held (hold_of store.moment t n)) (map (facts_of_table store.tally) store.tables) ≡ true → is_stored store.tally n ≡ true
  held_stored n e =
      let found = any_place (λ (t : TableFacts). is_held (hold_of store.moment t n)) (facts_of_table store.tally) store.tables e in
      let number : found.1.number - 1 ≡ found.0 = omega (arith, are_numbered carried program store sound found.0 found.1 found.2) in
      stocks.stock.used found.0 found.1 found.2 n
      (ap (λ (k : ℕ). uses store.moment found.1.regimes found.1.dropped (layouts_in store.tally k) n) (sym number) ∙ held_used store.moment (facts_of_table store.tally found.1) n found.3)

  pinned_stored : (n : ℕ) → has (pinned_parts store.tally) n ≡ true → is_stored store.tally n ≡ true
  unfolding pinned_parts
  pinned_stored n e =
      let pins = flat_map (λ (p : TallyPin). p.parts) store.tally.pins in
      let added = flat_map (λ (lists : TallyPending). lists.added) store.tally.pending in
      elim (or_cases (has (pins ++ round_parts store.tally.round) n) (has added n) (sym (list_any-append (λ m. m == n) (pins ++ round_parts store.tally.round) added) ∙ e)) [
        | inl h ↦ elim (or_cases (has pins n) (has (round_parts store.tally.round) n) (sym (list_any-append (λ m. m == n) pins (round_parts store.tally.round)) ∙ h)) [
          | inl k ↦ flat_stored store.tally (λ (p : TallyPin). p.parts) n store.tally.pins stocks.stock.pins k
          | inr k ↦ stored_has store.tally (round_parts store.tally.round) n stocks.stock.round k
        ]
        | inr h ↦ flat_stored store.tally (λ (lists : TallyPending). lists.added) n store.tally.pending stocks.stock.added h
      ]

  named_stored : (n : ℕ) → is_named_at store store.moment n ≡ true → is_stored store.tally n ≡ true
  unfolding facts_at
  named_stored n e = elim (or_cases (list_any (λ (t : TableFacts). is_held (hold_of store.moment t n)) (map (facts_of_table store.tally) store.tables)) (has (pinned_parts store.tally) n) e) [
    | inl h ↦ held_stored n h
    | inr h ↦ pinned_stored n h
  ]

  pub stocked : IsStocked store
  stocked = record {
    named = named_stored;
    gone = every_two (IsMarked store.sessions) (AreThere store.tally) (λ (lists : TallyPending). AreStored store.tally lists.gone) store.tally.pending
        (λ lists marked there. stored_from store.tally lists.gone (λ n h. there_stored carried program store sound stocks lists.table (owned carried program store sound lists marked).live n (there n h))) stocks.marked stocks.there;
  }

pub legal_stocked : LegalIsStocked
legal_stocked carried program history run time e = stocked carried program run.0 (legal_sound carried program history run time e) (legal_stocks carried program history run time e).1
