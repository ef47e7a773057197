-- What is stored while tables and the tally change.
use Rattle.std.specs.Int.Signed.{≤ℤ_refl}
use Rattle.std.specs.List.{list_any}
use Rattle.std.specs.Prelude.{Bool, List, None, Option, Some, [], false, filter, fold, if◌then◌else◌, length, map, nat_lt, not, refl, slice_get, slice_set, true, unwrap_or, ℕ, ⊤, ◌&&◌, ◌++◌, ◌-◌, ◌<◌, ◌==◌, ◌^◌, ◌∷◌, ◌≡◌, ◌≤◌}
use Rattle.std.proofs.Common.{ap, arith, inl, inr, subst, suc, sym, zero, ◌∙◌, ◌⊎◌}
use Rattle.std.proofs.Math.Bool.{or-true}
use Rattle.std.proofs.lemmas.Bool.{false≢true, or_cases}
use Rattle.std.proofs.lemmas.List.Folds.{list_any-append}
use Rattle.std.proofs.lemmas.List.{length-map, length_push}
use Rattle.std.proofs.lemmas.Option.{none-some, same_Some}
use Rattle.tt_history.specs.declared.history.Added.{Added}
use Rattle.tt_layout.specs.Numbers.{has}
use Rattle.tt_plain.proofs.Tests.{same_number, same_test}
use Rattle.tt_plain.proofs.law.Lists.{every-append, every-filter, every_on}
use Rattle.tt_plain.proofs.law.change.Apart.{get_unmap}
use Rattle.tt_plain.proofs.law.change.Applied.{Stand, change_keeps}
use Rattle.tt_plain.proofs.law.change.Tables.{table_at}
use Rattle.tt_plain.proofs.law.session.Versions.{get_map}
use Rattle.tt_plain.specs.declared.store.PlainTable.{PlainTable}
use Rattle.tt_plain.specs.declared.tally.Tally.{Tally}
use Rattle.tt_plain.specs.declared.tally.TallyPart.{TallyPart}
use Rattle.tt_plain.specs.declared.tally.TallyPending.{TallyPending}
use Rattle.tt_plain.specs.declared.tally.TallyPin.{TallyPin}
use Rattle.tt_plain.specs.effect.Apply.{changed_table, renamed, with_table, with_version}
use Rattle.tt_plain.specs.effect.Effect.{Dropped, Made, NewKey, NewRegime, NewVersion, Renamed, Suspended, TableChange, Undropped}
use Rattle.tt_plain.specs.law.Changes.{AreSoundTableChanges, IsSoundTableChange}
use Rattle.tt_plain.specs.law.Lists.{Every}
use Rattle.tt_plain.specs.law.Sound.{AreRegimesOf, AreSoundTables}
use Rattle.tt_plain.specs.law.Stocked.{AreStored}
use Rattle.tt_plain.specs.tally.Changes.{AddsParts, BeginsLayout, EndsPending, EndsRound, Keeps, MakesTable, Pins, StartsRound, TakesAway, TallyChange, Unpins, changed_tally, part_added, stands_before, with_pins}
use Rattle.tt_plain.specs.tally.Facts.{round_parts}
use Rattle.tt_plain.specs.tally.Parts.{is_stored, numbers_added}
use Rattle.tt_retain.proofs.HorizonLaws.{expired_stays, horizon_grows}
use Rattle.tt_retain.specs.Horizon.{horizon_of}
use Rattle.tt_retain.specs.Retention.{IsRetention, Retention, with_regime}
use Rattle.tt_stock_laws.proofs.Used.{Later, lives, used_alone, used_before, used_dropped, used_more, used_undropped, uses}

-- ---- numbers that are stored

pub stored_has : (tally : Tally) (numbers : List ℕ) (n : ℕ) → AreStored tally numbers → has numbers n ≡ true → is_stored tally n ≡ true
stored_has tally [] n all e = absurd (false≢true e)
stored_has tally (m ∷ numbers) n all e = elim (or_cases (m == n) (has numbers n) e) [
  | inl h ↦ subst (λ (k : ℕ). is_stored tally k ≡ true) (same_number m n h) all.0
  | inr h ↦ stored_has tally numbers n all.1 h
]

pub stored_from : (tally : Tally) (numbers : List ℕ) → ((n : ℕ) → has numbers n ≡ true → is_stored tally n ≡ true) → AreStored tally numbers
stored_from tally [] on = tt
stored_from tally (m ∷ numbers) on = (on m (rw (same_test m) refl), stored_from tally numbers (λ n h. on n (rw h (or-true (m == n)))))

pub stored_more : (tally : Tally) (origin : ℕ) (parts : List Added) (n : ℕ) → is_stored tally n ≡ true → is_stored (changed_tally tally (AddsParts origin parts)) n ≡ true
stored_more tally origin parts n e =
    list_any-append (λ (part : TallyPart). part.number == n && part.stored) tally.parts (map (part_added origin) parts) ∙ rw e refl

all_more : (tally : Tally) (origin : ℕ) (parts : List Added) (numbers : List ℕ) → AreStored tally numbers → AreStored (changed_tally tally (AddsParts origin parts)) numbers
all_more tally origin parts numbers all = every_on (λ n. is_stored tally n ≡ true) (λ n. is_stored (changed_tally tally (AddsParts origin parts)) n ≡ true) numbers (λ n h. stored_more tally origin parts n h) all

added_any : (origin n : ℕ) (parts : List Added) → has (numbers_added parts) n ≡ true → list_any (λ (part : TallyPart). part.number == n && part.stored) (map (part_added origin) parts) ≡ true
added_any origin n [] e = absurd (false≢true e)
added_any origin n (part ∷ parts) e = elim (or_cases (part.number == n) (has (numbers_added parts) n) e) [
  | inl h ↦ rw h refl
  | inr h ↦ rw (added_any origin n parts h) (or-true (part.number == n && true))
]

-- what is added is stored
pub added_stored : (tally : Tally) (origin : ℕ) (parts : List Added) → AreStored (changed_tally tally (AddsParts origin parts)) (numbers_added parts)
added_stored tally origin parts =
    stored_from (changed_tally tally (AddsParts origin parts)) (numbers_added parts) (λ n h.
    list_any-append (λ (part : TallyPart). part.number == n && part.stored) tally.parts (map (part_added origin) parts)
    ∙ rw (added_any origin n parts h) (or-true (is_stored tally n)))

-- ---- what has to be stored

abbrev pub layouts_in : Tally → ℕ → List (ℕ × List ℕ)
layouts_in tally place = unwrap_or (slice_get tally.layouts place) []

abbrev pub IsUsedStored : ℕ → Tally → ℕ → PlainTable → Type 0
IsUsedStored moment tally place table = (part : ℕ) → uses moment table.regimes table.dropped (layouts_in tally place) part ≡ true → is_stored tally part ≡ true

abbrev pub AreUsedStored : ℕ → List PlainTable → Tally → Type 0
AreUsedStored moment tables tally = (place : ℕ) (table : PlainTable) → slice_get tables place ≡ Some table → IsUsedStored moment tally place table

-- the parts that tables use, and those that are pinned
pub record Stock (moment : ℕ) (tables : List PlainTable) (tally : Tally) : Type 0 where
  pub used : AreUsedStored moment tables tally
  pub pins : Every (λ (pin : TallyPin). AreStored tally pin.parts) tally.pins
  pub round : AreStored tally (round_parts tally.round)
  pub added : Every (λ (lists : TallyPending). AreStored tally lists.added) tally.pending

-- ---- time

same_later : (moment : ℕ) (regimes : Retention) → IsRetention regimes → Later moment regimes regimes
same_later moment regimes order = record { transient = refl; horizon = λ s u up within. horizon_grows regimes s u order up }

pub stock_later : (before moment count : ℕ) (tables : List PlainTable) (tally : Tally) → before ≤ moment → AreSoundTables before count 1 tables → Stock before tables tally → Stock moment tables tally
stock_later before moment count tables tally le sound stock = record {
  used = λ place table at part e.
      stock.used place table at part
      (used_before before moment table.regimes table.regimes table.dropped (layouts_in tally place) part le (same_later moment table.regimes (table_at before count 1 place tables table sound at).regimes.order) e);
  pins = stock.pins;
  round = stock.round;
  added = stock.added;
}

-- ---- changes of tables

-- what a change asks beside soundness: a table that is dropped was live, and one that comes back was in use
abbrev pub IsFair : ℕ → List PlainTable → TableChange → Type 0
IsFair moment tables (Made table) = ⊤
IsFair moment tables (Dropped number dropped) = (place : ℕ) (table : PlainTable) → slice_get tables place ≡ Some table → (table.number == number) ≡ true → table.dropped ≡ None
IsFair moment tables (Undropped number) = (place : ℕ) (table : PlainTable) → slice_get tables place ≡ Some table → (table.number == number) ≡ true → lives moment table.regimes table.dropped ≡ true
IsFair moment tables (Renamed names) = ⊤
IsFair moment tables (NewVersion number begun rows) = ⊤
IsFair moment tables (NewRegime number begun days) = ⊤
IsFair moment tables (NewKey number key) = ⊤
IsFair moment tables (Suspended number suspended) = ⊤

abbrev pub AreFair : ℕ → List PlainTable → List TableChange → Type 0
AreFair moment tables [] = ⊤
AreFair moment tables (change ∷ changes) = IsFair moment tables change × AreFair moment (changed_table tables change) changes

pushed_at : {A : Type 0} (xs : List A) (y : A) (place : ℕ) (x : A) → slice_get (xs ++ y ∷ []) place ≡ Some x → (slice_get xs place ≡ Some x) ⊎ ((place ≡ length xs) × (x ≡ y))
pushed_at [] y zero x e = inr (refl, sym (same_Some y x e))
pushed_at [] y (suc place) x e = absurd (none-some x e)
pushed_at (z ∷ xs) y zero x e = inl e
pushed_at (z ∷ xs) y (suc place) x e = elim (pushed_at xs y place x e) [ inl h ↦ inl h | inr h ↦ inr (ap suc h.0, h.1) ]

beyond : {A : Type 0} (xs : List A) (place : ℕ) → length xs ≤ place → slice_get xs place ≡ None
beyond [] place le = refl
beyond (x ∷ xs) zero le = absurd (omega (arith, le))
beyond (x ∷ xs) (suc place) le = beyond xs place (omega (arith, le))

module _ (moment : ℕ) (tally : Tally) where
  abbrev LessUsed : PlainTable → PlainTable → Type 0
  LessUsed old new = (layouts : List (ℕ × List ℕ)) (part : ℕ) → uses moment new.regimes new.dropped layouts part ≡ true → uses moment old.regimes old.dropped layouts part ≡ true

  mapped : (tables : List PlainTable) (f : PlainTable → PlainTable) → ((place : ℕ) (old : PlainTable) → slice_get tables place ≡ Some old → LessUsed old (f old)) → AreUsedStored moment tables tally → AreUsedStored moment (map f tables) tally
  mapped tables f less stored place new at part e =
      let found = get_unmap f tables place new at in
      let same : f found.0 ≡ new = same_Some (f found.0) new (sym (get_map f tables place found.0 found.1) ∙ at) in
      stored place found.0 found.1 part
      (less place found.0 found.1 (layouts_in tally place) part (subst (λ (t : PlainTable). uses moment t.regimes t.dropped (layouts_in tally place) part ≡ true) (sym same) e))

  if_less : (test : Bool) (f : PlainTable → PlainTable) (old : PlainTable) → (test ≡ true → LessUsed old (f old)) → LessUsed old (if test then f old else old)
  if_less true f old less = less refl
  if_less false f old less = λ layouts part e. e

  with_less : (tables : List PlainTable) (number : ℕ) (f : PlainTable → PlainTable) → ((place : ℕ) (old : PlainTable) → slice_get tables place ≡ Some old → (old.number == number) ≡ true → LessUsed old (f old)) → AreUsedStored moment tables tally
      → AreUsedStored moment (with_table number f tables) tally
  with_less tables number f less stored =
      mapped tables (λ (t : PlainTable). if t.number == number then f t else t) (λ place old at. if_less (old.number == number) f old (λ h. less place old at h)) stored

  dropped_less : (old : PlainTable) (dropped : ℕ) → old.dropped ≡ None → LessUsed old (record old { dropped = Some dropped })
  dropped_less old dropped live layouts part e =
      subst (λ (d : Option ℕ). uses moment old.regimes d layouts part ≡ true) (sym live) (used_dropped moment old.regimes part dropped layouts e)

  regime_later : (old : PlainTable) (begun days : ℕ) → begun ≡ moment → days ≤ 90 → moment < 2 ^ 62 → AreRegimesOf moment old → Later moment old.regimes (with_regime old.regimes begun days)
  regime_later old begun days is few time sound =
      subst (λ (m : ℕ). Later moment old.regimes (with_regime old.regimes m days)) (sym is) (record {
        transient = refl;
        horizon = λ s u up within. expired_stays old.regimes moment days (horizon_of old.regimes s) s u sound.order sound.begun time few (≤ℤ_refl (horizon_of old.regimes s)) within up;
      })

  one_stored : (tables : List PlainTable) (change : TableChange) → moment < 2 ^ 62 → Stand moment tables → IsSoundTableChange moment tables change → IsFair moment tables change → length tally.layouts ≤ length tables
      → AreUsedStored moment tables tally → AreUsedStored moment (changed_table tables change) tally
  one_stored tables (Made table) time stand good fair few stored = λ place new at part e. elim (pushed_at tables table place new at) [
    | inl h ↦ stored place new h part e
    | inr h ↦ absurd (false≢true (sym (ap (λ (found : Option (List (ℕ × List ℕ))). uses moment new.regimes new.dropped (unwrap_or found []) part) (beyond tally.layouts place (omega (arith, few, h.0)))) ∙ e))
  ]
  one_stored tables (Dropped number dropped) time stand good fair few stored =
      with_less tables number (λ (t : PlainTable). record t { dropped = Some dropped }) (λ place old at h. dropped_less old dropped (fair place old at h)) stored
  one_stored tables (Undropped number) time stand good fair few stored =
      with_less tables number (λ (t : PlainTable). record t { dropped = None }) (λ place old at h layouts part e. used_undropped moment old.regimes part old.dropped layouts (fair place old at h) e) stored
  one_stored tables (Renamed names) time stand good fair few stored = mapped tables (renamed names) (λ place old at layouts part e. e) stored
  one_stored tables (NewVersion number begun rows) time stand good fair few stored = with_less tables number (with_version begun rows) (λ place old at h layouts part e. e) stored
  one_stored tables (NewRegime number begun days) time stand good fair few stored =
      with_less tables number (λ (t : PlainTable). record t { regimes = with_regime t.regimes begun days }) (λ place old at h layouts part e.
      used_before moment moment old.regimes (with_regime old.regimes begun days) old.dropped layouts part (omega arith)
      (regime_later old begun days good.0 good.1 time (table_at moment (length tables) 1 place tables old stand.0 at).regimes) e) stored
  one_stored tables (NewKey number key) time stand good fair few stored = with_less tables number (λ (t : PlainTable). record t { key = key }) (λ place old at h layouts part e. e) stored
  one_stored tables (Suspended number suspended) time stand good fair few stored = with_less tables number (λ (t : PlainTable). record t { suspended = suspended }) (λ place old at h layouts part e. e) stored

  as_many : (tables : List PlainTable) (change : TableChange) → length tables ≤ length (changed_table tables change)
  as_many tables (Made table) = omega (arith, length_push tables table)
  as_many tables (Dropped number dropped) = omega (arith, length-map tables (λ (t : PlainTable). if t.number == number then record t { dropped = Some dropped } else t))
  as_many tables (Undropped number) = omega (arith, length-map tables (λ (t : PlainTable). if t.number == number then record t { dropped = None } else t))
  as_many tables (Renamed names) = omega (arith, length-map tables (renamed names))
  as_many tables (NewVersion number begun rows) = omega (arith, length-map tables (λ (t : PlainTable). if t.number == number then with_version begun rows t else t))
  as_many tables (NewRegime number begun days) = omega (arith, length-map tables (λ (t : PlainTable). if t.number == number then record t { regimes = with_regime t.regimes begun days } else t))
  as_many tables (NewKey number key) = omega (arith, length-map tables (λ (t : PlainTable). if t.number == number then record t { key = key } else t))
  as_many tables (Suspended number suspended) = omega (arith, length-map tables (λ (t : PlainTable). if t.number == number then record t { suspended = suspended } else t))

  pub tables_stored : (tables : List PlainTable) (changes : List TableChange) → moment < 2 ^ 62 → Stand moment tables → AreSoundTableChanges moment tables changes → AreFair moment tables changes → length tally.layouts ≤ length tables
      → AreUsedStored moment tables tally → AreUsedStored moment (fold changed_table tables changes) tally
  tables_stored tables [] time stand good fair few stored = stored
  tables_stored tables (change ∷ changes) time stand good fair few stored =
      tables_stored (changed_table tables change) changes time (change_keeps moment tables change time stand good.0) good.1 fair.1 (omega (arith, few, as_many tables change))
      (one_stored tables change time stand good.0 fair.0 few stored)

-- ---- changes of the tally

-- what is given is stored, and only a live table's layout begins; what is taken away is looked at elsewhere
abbrev pub IsGiven : List PlainTable → Tally → TallyChange → Type 0
IsGiven tables tally (AddsParts origin parts) = ⊤
IsGiven tables tally (MakesTable begun parts) = AreStored tally parts
IsGiven tables tally (BeginsLayout number begun parts) = AreStored tally parts × ((table : PlainTable) → slice_get tables (number - 1) ≡ Some table → table.dropped ≡ None)
IsGiven tables tally (Keeps lists) = AreStored tally lists.added
IsGiven tables tally (EndsPending session) = ⊤
IsGiven tables tally (Pins session pins) = Every (λ (pin : TallyPin). AreStored tally pin.parts) pins
IsGiven tables tally (Unpins session) = ⊤
IsGiven tables tally (StartsRound round) = AreStored tally round.parts
IsGiven tables tally EndsRound = ⊤
IsGiven tables tally (TakesAway parts) = ⊥

abbrev pub AreGiven : List PlainTable → Tally → List TallyChange → Type 0
AreGiven tables tally [] = ⊤
AreGiven tables tally (change ∷ changes) = IsGiven tables tally change × AreGiven tables (changed_tally tally change) changes

get_pushed : {A : Type 0} (xs : List A) (y : A) (place : ℕ) → (slice_get (xs ++ y ∷ []) place ≡ slice_get xs place) ⊎ (slice_get (xs ++ y ∷ []) place ≡ Some y)
get_pushed [] y zero = inr refl
get_pushed [] y (suc place) = inl refl
get_pushed (x ∷ xs) y zero = inl refl
get_pushed (x ∷ xs) y (suc place) = get_pushed xs y place

pub get_set : {A : Type 0} (xs : List A) (place : ℕ) (y : A) (k : ℕ) → (slice_get (slice_set xs place y) k ≡ slice_get xs k) ⊎ ((k ≡ place) × (slice_get (slice_set xs place y) k ≡ Some y))
get_set [] place y k = inl refl
get_set (x ∷ xs) zero y zero = inr (refl, refl)
get_set (x ∷ xs) zero y (suc k) = inl refl
get_set (x ∷ xs) (suc place) y zero = inl refl
get_set (x ∷ xs) (suc place) y (suc k) = elim (get_set xs place y k) [ inl h ↦ inl h | inr h ↦ inr (ap suc h.0, h.1) ]

pins_with : (P : TallyPin → Type 0) (session : ℕ) (pins all : List TallyPin) → Every P pins → Every P all → Every P (with_pins session pins all)
pins_with P session pins all here each =
    let left : List TallyPin = filter (λ (pin : TallyPin). nat_lt pin.session session) all in
    let right : List TallyPin = filter (λ (pin : TallyPin). nat_lt session pin.session) all in
    every-append P (left ++ pins) right (every-append P left pins (every-filter P (λ (pin : TallyPin). nat_lt pin.session session) all each) here) (every-filter P (λ (pin : TallyPin). nat_lt session pin.session) all each)

module _ (moment : ℕ) (tables : List PlainTable) where
  made_used : (tally : Tally) (begun : ℕ) (parts : List ℕ) → AreStored tally parts → AreUsedStored moment tables tally → AreUsedStored moment tables (changed_tally tally (MakesTable begun parts))
  made_used tally begun parts all stored place table at part e = elim (get_pushed tally.layouts ((begun, parts) ∷ []) place) [
    | inl h ↦ stored place table at part (sym (ap (λ (found : Option (List (ℕ × List ℕ))). uses moment table.regimes table.dropped (unwrap_or found []) part) h) ∙ e)
    | inr h ↦ stored_has tally parts part all
        (used_alone moment table.regimes part begun parts table.dropped (sym (ap (λ (found : Option (List (ℕ × List ℕ))). uses moment table.regimes table.dropped (unwrap_or found []) part) h) ∙ e))
  ]

  begun_used : (tally : Tally) (number begun : ℕ) (parts : List ℕ) → IsGiven tables tally (BeginsLayout number begun parts) → AreUsedStored moment tables tally → AreUsedStored moment tables (changed_tally tally (BeginsLayout number begun parts))
  begun_used tally number begun parts given stored place table at part e =
      let more = layouts_in tally (number - 1) ++ (begun, parts) ∷ [] in
      elim (get_set tally.layouts (number - 1) more place) [
        | inl h ↦ stored place table at part (sym (ap (λ (found : Option (List (ℕ × List ℕ))). uses moment table.regimes table.dropped (unwrap_or found []) part) h) ∙ e)
        | inr h ↦
            let live : table.dropped ≡ None = given.1 table (sym (ap (slice_get tables) h.0) ∙ at) in
            let here : uses moment table.regimes table.dropped more part ≡ true = sym (ap (λ (found : Option (List (ℕ × List ℕ))). uses moment table.regimes table.dropped (unwrap_or found []) part) h.1) ∙ e in
            elim (used_more moment table.regimes part begun parts (layouts_in tally (number - 1)) (sym (ap (λ (d : Option ℕ). uses moment table.regimes d more part) live) ∙ here)) [
              | inl k ↦ stored place table at part
                  (ap (λ (d : Option ℕ). uses moment table.regimes d (layouts_in tally place) part) live ∙ ap (λ (n : ℕ). uses moment table.regimes None (layouts_in tally n) part) h.0 ∙ k)
              | inr k ↦ stored_has tally parts part given.0 k
            ]
      ]

  pub one_given : (tally : Tally) (change : TallyChange) → IsGiven tables tally change → Stock moment tables tally → Stock moment tables (changed_tally tally change)
  one_given tally (AddsParts origin parts) given stock = record {
    used = λ place table at part e. stored_more tally origin parts part (stock.used place table at part e);
    pins = every_on (λ (pin : TallyPin). AreStored tally pin.parts) (λ (pin : TallyPin). AreStored (changed_tally tally (AddsParts origin parts)) pin.parts) tally.pins (λ pin all. all_more tally origin parts pin.parts all) stock.pins;
    round = all_more tally origin parts (round_parts tally.round) stock.round;
    added = every_on (λ (lists : TallyPending). AreStored tally lists.added) (λ (lists : TallyPending). AreStored (changed_tally tally (AddsParts origin parts)) lists.added) tally.pending
        (λ lists all. all_more tally origin parts lists.added all) stock.added;
  }
  one_given tally (MakesTable begun parts) given stock = record { used = made_used tally begun parts given stock.used; pins = stock.pins; round = stock.round; added = stock.added }
  one_given tally (BeginsLayout number begun parts) given stock = record { used = begun_used tally number begun parts given stock.used; pins = stock.pins; round = stock.round; added = stock.added }
  one_given tally (Keeps lists) given stock = record {
    used = stock.used;
    pins = stock.pins;
    round = stock.round;
    added = every-append (λ (other : TallyPending). AreStored tally other.added) (filter (λ (other : TallyPending). stands_before other lists) tally.pending) (lists ∷ filter (λ (other : TallyPending). stands_before lists other) tally.pending)
        (every-filter (λ (other : TallyPending). AreStored tally other.added) (λ (other : TallyPending). stands_before other lists) tally.pending stock.added)
        (given, every-filter (λ (other : TallyPending). AreStored tally other.added) (λ (other : TallyPending). stands_before lists other) tally.pending stock.added);
  }
  one_given tally (EndsPending session) given stock = record {
    used = stock.used;
    pins = stock.pins;
    round = stock.round;
    added = every-filter (λ (lists : TallyPending). AreStored tally lists.added) (λ (lists : TallyPending). not (lists.session == session)) tally.pending stock.added;
  }
  one_given tally (Pins session pins) given stock =
      let P : TallyPin → Type 0 = λ pin. AreStored tally pin.parts in
      record { used = stock.used; pins = pins_with P session pins tally.pins given stock.pins; round = stock.round; added = stock.added }
  one_given tally (Unpins session) given stock =
      let P : TallyPin → Type 0 = λ pin. AreStored tally pin.parts in
      record { used = stock.used; pins = pins_with P session [] tally.pins tt stock.pins; round = stock.round; added = stock.added }
  one_given tally (StartsRound round) given stock = record { used = stock.used; pins = stock.pins; round = given; added = stock.added }
  one_given tally EndsRound given stock = record { used = stock.used; pins = stock.pins; round = tt; added = stock.added }
  one_given tally (TakesAway parts) given stock = absurd given

  pub all_given : (tally : Tally) (changes : List TallyChange) → AreGiven tables tally changes → Stock moment tables tally → Stock moment tables (fold changed_tally tally changes)
  all_given tally [] given stock = stock
  all_given tally (change ∷ changes) given stock = all_given (changed_tally tally change) changes given.1 (one_given tally change given.0 stock)
