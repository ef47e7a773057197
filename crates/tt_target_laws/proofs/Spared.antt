-- Changes of the tally that spare what a session has pinned, sees and has pending of a table.
use Rattle.std.specs.Prelude.{Bool, List, None, Option, Some, [], false, filter, find, flat_map, fold, if◌then◌else◌, length, not, refl, slice_get, true, unwrap_or, ℕ, ⊤, ◌&&◌, ◌++◌, ◌-◌, ◌<◌, ◌==◌, ◌||◌, ◌∷◌, ◌≡◌, ◌≢◌, ◌≤◌}
use Rattle.std.proofs.Common.{ap, arith, cond, inl, inr, length-set, sym, ◌∙◌}
use Rattle.std.proofs.Math.Bool.{or-true}
use Rattle.std.proofs.lemmas.Bool.{false≢true}
use Rattle.std.proofs.lemmas.List.{length_push}
use Rattle.tt_layout.proofs.Members.{has-changed}
use Rattle.tt_layout.specs.Chain.{current_of}
use Rattle.tt_layout.specs.Numbers.{has}
use Rattle.tt_plain.specs.declared.tally.Tally.{Tally}
use Rattle.tt_plain.specs.declared.tally.TallyPending.{TallyPending}
use Rattle.tt_plain.specs.declared.tally.TallyPin.{TallyPin}
use Rattle.tt_plain.specs.history.TrueFacts.{parts_pinned}
use Rattle.tt_plain.specs.law.Lists.{Every}
use Rattle.tt_plain.specs.tally.Changes.{AddsParts, BeginsLayout, EndsPending, EndsRound, Keeps, MakesTable, Pins, StartsRound, TakesAway, TallyChange, Unpins, changed_tally}
use Rattle.tt_plain.specs.tally.Layouts.{changed_parts, current_parts, is_pending_of, layouts_of, lists_of}
use Rattle.tt_plain.specs.tally.Pending.{layout_begun}
use Rattle.tt_plain_laws.proofs.guard.Grown.{push_get}
use Rattle.tt_plain_laws.proofs.parts.Numbers.{Within}
use Rattle.tt_plain_laws.proofs.parts.Places.{key_of, lists_kept, lists_other}
use Rattle.tt_plain_laws.proofs.parts.Views.{pins_other}
use Rattle.tt_stock_laws.proofs.Stock.{get_set}
use Rattle.tt_target_laws.specs.Targets.{SeesPinned}

abbrev pub own_pins : Tally → ℕ → List TallyPin
own_pins tally session = filter (λ (pin : TallyPin). pin.session == session) tally.pins

-- a layout of the table that begins has all that the current one has, and of the session's own pins and lists nothing changes
abbrev pub Spares : Tally → ℕ → ℕ → TallyChange → Type 0
Spares tally session table (AddsParts origin parts) = ⊤
Spares tally session table (MakesTable begun parts) = ⊤
Spares tally session table (BeginsLayout number begun parts) = number - 1 ≡ table - 1 → Within (current_parts tally table) parts
Spares tally session table (Keeps lists) = session ≡ lists.session → ⊥
Spares tally session table (EndsPending other) = session ≡ other → ⊥
Spares tally session table (Pins other pins) = (session ≡ other → ⊥) × Every (λ (pin : TallyPin). pin.session ≡ other) pins
Spares tally session table (Unpins other) = session ≡ other → ⊥
Spares tally session table (StartsRound round) = ⊤
Spares tally session table EndsRound = ⊤
Spares tally session table (TakesAway parts) = ⊤

-- what is so after them
pub record IsSpared (tally : Tally) (session table : ℕ) (now : Tally) : Type 0 where
  pub many : length tally.layouts ≤ length now.layouts
  pub current : Within (current_parts tally table) (current_parts now table)
  pub lists : lists_of now session table ≡ lists_of tally session table
  pub pins : own_pins now session ≡ own_pins tally session

last_pushed : (layouts : List (ℕ × List ℕ)) (l : ℕ × List ℕ) → current_of (layouts ++ l ∷ []) ≡ l.1
last_pushed [] l = refl
last_pushed (a ∷ []) l = refl
last_pushed (a ∷ b ∷ layouts) l = last_pushed (b ∷ layouts) l

module _ (tally : Tally) (session table : ℕ) (there : table - 1 < length tally.layouts) where
  abbrev Spared : Tally → Type 0
  Spared now = IsSpared tally session table now

  begun_current : (now : Tally) (number begun : ℕ) (parts : List ℕ) → (number - 1 ≡ table - 1 → Within (current_parts tally table) parts) → Within (current_parts tally table) (current_parts now table)
      → Within (current_parts tally table) (current_parts (changed_tally now (BeginsLayout number begun parts)) table)
  begun_current now number begun parts spares before k e =
      let more = layouts_of now number ++ (begun, parts) ∷ [] in
      elim (get_set now.layouts (number - 1) more (table - 1)) [
        | inl h ↦ ap (λ (o : Option (List (ℕ × List ℕ))). has (current_of (unwrap_or o [])) k) h ∙ before k e
        | inr h ↦ ap (λ (o : Option (List (ℕ × List ℕ))). has (current_of (unwrap_or o [])) k) h.1
            ∙ ap (λ (ns : List ℕ). has ns k) (last_pushed (layouts_of now number) (begun, parts)) ∙ spares (sym h.0) k e
      ]

  made_current : (now : Tally) (begun : ℕ) (parts : List ℕ) → length tally.layouts ≤ length now.layouts → Within (current_parts tally table) (current_parts now table)
      → Within (current_parts tally table) (current_parts (changed_tally now (MakesTable begun parts)) table)
  made_current now begun parts many before k e =
      ap (λ (o : Option (List (ℕ × List ℕ))). has (current_of (unwrap_or o [])) k) (push_get now.layouts ((begun, parts) ∷ []) (table - 1) (omega (arith, there, many))) ∙ before k e

  kept_lists : (lists : TallyPending) (all : List TallyPending) → (session ≡ lists.session → ⊥) → (b : Bool) → is_pending_of session table lists ≡ b
      → (if b then Some lists else find (is_pending_of session table) all) ≡ find (is_pending_of session table) all
  kept_lists lists all apart true e = absurd (apart (sym (key_of session table lists e).0))
  kept_lists lists all apart false e = refl

  one_spared : (now : Tally) (change : TallyChange) → Spares tally session table change → Spared now → Spared (changed_tally now change)
  one_spared now (AddsParts origin parts) spares is = record { many = is.many; current = is.current; lists = is.lists; pins = is.pins }
  one_spared now (MakesTable begun parts) spares is = record {
    many = omega (arith, is.many, length_push now.layouts ((begun, parts) ∷ []));
    current = made_current now begun parts is.many is.current;
    lists = is.lists;
    pins = is.pins;
  }
  one_spared now (BeginsLayout number begun parts) spares is = record {
    many = omega (arith, is.many, length-set now.layouts (number - 1) (layouts_of now number ++ (begun, parts) ∷ []));
    current = begun_current now number begun parts spares is.current;
    lists = is.lists;
    pins = is.pins;
  }
  one_spared now (Keeps lists) spares is = record {
    many = is.many;
    current = is.current;
    lists = lists_kept lists now.pending session table ∙ kept_lists lists now.pending spares (is_pending_of session table lists) refl ∙ is.lists;
    pins = is.pins;
  }
  one_spared now (EndsPending other) spares is = record { many = is.many; current = is.current; lists = lists_other other session table now.pending spares ∙ is.lists; pins = is.pins }
  one_spared now (Pins other pins) spares is = record { many = is.many; current = is.current; lists = is.lists; pins = pins_other other pins now.pins spares.1 session spares.0 ∙ is.pins }
  one_spared now (Unpins other) spares is = record { many = is.many; current = is.current; lists = is.lists; pins = pins_other other [] now.pins tt session spares ∙ is.pins }
  one_spared now (StartsRound round) spares is = record { many = is.many; current = is.current; lists = is.lists; pins = is.pins }
  one_spared now EndsRound spares is = record { many = is.many; current = is.current; lists = is.lists; pins = is.pins }
  one_spared now (TakesAway parts) spares is = record { many = is.many; current = is.current; lists = is.lists; pins = is.pins }

  all_spared : (now : Tally) (changes : List TallyChange) → Every (Spares tally session table) changes → Spared now → Spared (fold changed_tally now changes)
  all_spared now [] spares is = is
  all_spared now (change ∷ changes) spares is = all_spared (changed_tally now change) changes spares.1 (one_spared now change spares.0 is)

-- ---- what is pinned, and what is seen

filter_both : {A : Type 0} (first second : A → Bool) (xs : List A) → filter (λ x. first x && second x) xs ≡ filter second (filter first xs)
filter_both first second [] = refl
filter_both first second (x ∷ xs) = by (first x) (filter_both first second xs)
  where
    by : (b : Bool) → filter (λ y. first y && second y) xs ≡ filter second (filter first xs) → cond (b && second x) (x ∷ filter (λ y. first y && second y) xs) (filter (λ y. first y && second y) xs) ≡ filter second (cond b (x ∷ filter first xs) (filter first xs))
    by true e = ap (λ ys. cond (second x) (x ∷ ys) ys) e
    by false e = e

abbrev pub pinned_in : ℕ → List TallyPin → List ℕ
pinned_in table pins = flat_map (λ (pin : TallyPin). pin.parts) (filter (λ (pin : TallyPin). pin.table == table) pins)

pub pinned_is : (tally : Tally) (session table : ℕ) → parts_pinned tally session table ≡ pinned_in table (own_pins tally session)
pinned_is tally session table =
    ap (flat_map (λ (pin : TallyPin). pin.parts)) (filter_both (λ (pin : TallyPin). pin.session == session) (λ (pin : TallyPin). pin.table == table) tally.pins)

wider : (a b gone added : Bool) → (a ≡ true → b ≡ true) → ((a && not gone) || added) ≡ true → ((b && not gone) || added) ≡ true
wider true b gone added on e = rw (on refl) e
wider false true gone true on e = or-true (not gone)
wider false true gone false on e = absurd (false≢true e)
wider false false gone added on e = e

more_seen : (parts others : List ℕ) (lists : Option TallyPending) → Within parts others → Within (changed_parts parts lists) (changed_parts others lists)
more_seen parts others None more k e = more k e
more_seen parts others (Some lists) more k e =
    has-changed others lists.gone lists.added k ∙ wider (has parts k) (has others k) (has lists.gone k) (has lists.added k) (more k) (sym (has-changed parts lists.gone lists.added k) ∙ e)

pub spared_sees : (tally : Tally) (session table : ℕ) (changes : List TallyChange) → table - 1 < length tally.layouts → Every (Spares tally session table) changes → SeesPinned tally session table
    → SeesPinned (fold changed_tally tally changes) session table
spared_sees tally session table changes there spares sees k e =
    let is : IsSpared tally session table (fold changed_tally tally changes) = all_spared tally session table there tally changes spares (record { many = omega arith; current = λ k e. e; lists = refl; pins = refl }) in
    let same : parts_pinned (fold changed_tally tally changes) session table ≡ parts_pinned tally session table =
    pinned_is (fold changed_tally tally changes) session table ∙ ap (pinned_in table) is.pins ∙ sym (pinned_is tally session table) in
    ap (λ (o : Option TallyPending). has (changed_parts (current_parts (fold changed_tally tally changes) table) o) k) is.lists
    ∙ more_seen (current_parts tally table) (current_parts (fold changed_tally tally changes) table) (lists_of tally session table) is.current k (sees k (sym (ap (λ (ns : List ℕ). has ns k) same) ∙ e))

-- ---- a layout that begins

pub begun_spares : (tally : Tally) (session table moment number : ℕ) (gone added : List ℕ) → (number - 1 ≡ table - 1 → gone ≢ [] → ⊥) → Every (Spares tally session table) (layout_begun tally moment number gone added)
begun_spares tally session table moment number [] [] alone = tt
begun_spares tally session table moment number [] (n ∷ added) alone = (
  (λ same k e.
      has-changed (current_parts tally number) [] (n ∷ added) k
      ∙ rw (ap (λ (place : ℕ). has (current_of (unwrap_or (slice_get tally.layouts place) [])) k) same ∙ e) refl),
  tt,
)
begun_spares tally session table moment number (g ∷ gone) added alone = ((λ same. absurd (alone same (λ f. cc))), tt)
