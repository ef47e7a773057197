-- Sound effects change nothing that is past, and no horizon falls.
use Rattle.std.specs.Int.Signed.{≤ℤ_refl}
use Rattle.std.specs.List.{last_or}
use Rattle.std.specs.Prelude.{Bool, List, None, Option, Some, [], false, filter, fold, if◌then◌else◌, length, nat_le, option_map, pos, refl, slice_get, slice_set, true, unwrap_or, ℕ, ℤ, ◌++◌, ◌-◌, ◌<◌, ◌==◌, ◌^◌, ◌∷◌, ◌≡◌, ◌≤ℤ◌, ◌≤◌}
use Rattle.std.proofs.Common.{ap, arith, cond, length-set, le→leb, subst, suc, sym, zero, ◌∙◌}
use Rattle.std.proofs.lemmas.Bool.{lt-leb}
use Rattle.std.proofs.lemmas.List.{length_push}
use Rattle.std.proofs.lemmas.Option.{none-some, same_Some}
use Rattle.tt_plain.proofs.law.change.Applied.{Stand, change_keeps}
use Rattle.tt_plain.proofs.law.change.Tables.{table_at, tables_later}
use Rattle.tt_plain.proofs.law.session.Versions.{get_map}
use Rattle.tt_plain.specs.asked.Carried.{Carried}
use Rattle.tt_plain.specs.declared.store.Plain.{Plain}
use Rattle.tt_plain.specs.declared.store.PlainTable.{PlainTable}
use Rattle.tt_plain.specs.declared.store.Version.{Version}
use Rattle.tt_plain.specs.declared.tally.Tally.{Tally}
use Rattle.tt_plain.specs.effect.Apply.{applied, changed_table, renamed, with_table, with_version}
use Rattle.tt_plain.specs.effect.Effect.{Dropped, Effect, Made, NewKey, NewRegime, NewVersion, Renamed, Suspended, TableChange, Undropped}
use Rattle.tt_plain.specs.law.Changes.{AreSoundTableChanges, AreSoundTallyChanges, IsSoundEffect, IsSoundTableChange, IsSoundTallyChange}
use Rattle.tt_plain.specs.law.Past.{KeepsHorizons, KeepsPast, SoundEffectsKeepHorizons, SoundEffectsKeepPast}
use Rattle.tt_plain.specs.law.Sound.{AreRegimesOf, AreSoundTables, IsSound}
use Rattle.tt_plain.specs.stored.Tables.{is_begun_at, rows_at, rows_of, table_numbered}
use Rattle.tt_plain.specs.tally.Changes.{AddsParts, BeginsLayout, EndsPending, EndsRound, Keeps, MakesTable, Pins, StartsRound, TakesAway, TallyChange, Unpins, changed_tally}
use Rattle.tt_plain.specs.tally.Layouts.{parts_at}
use Rattle.tt_retain.proofs.HorizonLaws.{expired_stays, horizon_grows}
use Rattle.tt_retain.proofs.Limits.{le_trans}
use Rattle.tt_retain.specs.Horizon.{horizon_of}
use Rattle.tt_retain.specs.Retention.{IsRetention, Retention, with_regime}
use Rattle.tt_script.specs.declared.script.Script.{Script}
use Rattle.tt_value.specs.declared.value.Row.{Row}
use Rattle.tt_layout.specs.Chain as chain

le_pos : (a b : ℕ) → a ≤ b → pos a ≤ℤ pos b
le_pos a b h = record { le = le→leb a b h }

-- ---- rows and horizons of a table

-- what becomes of a table through changes at a moment
record Becomes (moment : ℕ) (old new : PlainTable) : Type 0 where
  rows : (at : ℕ) → at < moment → rows_at new at ≡ rows_at old at
  horizon : (s : ℤ) → s ≤ℤ pos moment → horizon_of old.regimes s ≤ℤ horizon_of new.regimes (pos moment)

becomes_on : (moment : ℕ) (a b c : PlainTable) → Becomes moment a b → Becomes moment b c → Becomes moment a c
becomes_on moment a b c left right = record {
  rows = λ at before. right.rows at before ∙ left.rows at before;
  horizon = λ s k. le_trans (horizon_of a.regimes s) (horizon_of b.regimes (pos moment)) (horizon_of c.regimes (pos moment)) (left.horizon s k) (right.horizon (pos moment) (≤ℤ_refl (pos moment)));
}

filter_last : {A : Type 0} (test : A → Bool) (xs : List A) (x : A) → test x ≡ false → filter test (xs ++ x ∷ []) ≡ filter test xs
filter_last test [] x e = rw e refl
filter_last test (y ∷ xs) x e = ap (λ (ys : List _). cond (test y) (y ∷ ys) ys) (filter_last test xs x e)

-- with the same versions and regimes
same_past : (moment : ℕ) (old new : PlainTable) → IsRetention old.regimes → new.versions ≡ old.versions → new.regimes ≡ old.regimes → Becomes moment old new
unfolding rows_at
same_past moment old new order versions regimes = record {
  rows = λ at before. ap (λ (vs : List Version). rows_of (last_or None (filter (is_begun_at at) vs))) versions;
  horizon = λ s k. subst (λ (r : Retention). horizon_of old.regimes s ≤ℤ horizon_of r (pos moment)) (sym regimes) (horizon_grows old.regimes s (pos moment) order k);
}

version_past : (moment : ℕ) (rows : List Row) (table : PlainTable) → IsRetention table.regimes → Becomes moment table (with_version moment rows table)
unfolding rows_at
version_past moment rows table order = record {
  rows = λ at before. ap (λ (vs : List Version). rows_of (last_or None vs)) (filter_last (is_begun_at at) table.versions (record { begun = moment; rows = rows }) (lt-leb moment at before));
  horizon = λ s k. horizon_grows table.regimes s (pos moment) order k;
}

regime_past : (moment days : ℕ) (table : PlainTable) → AreRegimesOf moment table → moment < 2 ^ 62 → days ≤ 90 → Becomes moment table (record table { regimes = with_regime table.regimes moment days })
unfolding rows_at
regime_past moment days table sound time few = record {
  rows = λ at before. refl;
  horizon = λ s k. expired_stays table.regimes moment days (horizon_of table.regimes s) s (pos moment) sound.order sound.begun time few (≤ℤ_refl (horizon_of table.regimes s)) k k;
}

if_becomes : (moment : ℕ) (test : Bool) (f : PlainTable → PlainTable) (table : PlainTable) → IsRetention table.regimes → Becomes moment table (f table) → Becomes moment table (if test then f table else table)
if_becomes moment true f table order becomes = becomes
if_becomes moment false f table order becomes = same_past moment table table order refl refl

pub get_push : {A : Type 0} (xs : List A) (place : ℕ) (x y : A) → slice_get xs place ≡ Some x → slice_get (xs ++ y ∷ []) place ≡ Some x
get_push [] place x y e = absurd (none-some x e)
get_push (z ∷ xs) zero x y e = e
get_push (z ∷ xs) (suc place) x y e = get_push xs place x y e

-- the table at a place after a change
abbrev After : ℕ → List PlainTable → ℕ → PlainTable → Type 0
After moment tables place old = (new : PlainTable) × (slice_get tables place ≡ Some new) × Becomes moment old new

with_after : (moment number place : ℕ) (f : PlainTable → PlainTable) (tables : List PlainTable) (old : PlainTable) → slice_get tables place ≡ Some old → IsRetention old.regimes → Becomes moment old (f old)
    → After moment (with_table number f tables) place old
with_after moment number place f tables old at order becomes =
    ((if old.number == number then f old else old), get_map (λ (t : PlainTable). if t.number == number then f t else t) tables place old at, if_becomes moment (old.number == number) f old order becomes)

change_after : (moment count : ℕ) (tables : List PlainTable) (change : TableChange) (place : ℕ) (old : PlainTable) → moment < 2 ^ 62 → AreSoundTables moment count 1 tables → IsSoundTableChange moment tables change
    → slice_get tables place ≡ Some old → After moment (changed_table tables change) place old
change_after moment count tables change place old time sound ok at = by change ok
  where
    regimes : AreRegimesOf moment old
    regimes = (table_at moment count 1 place tables old sound at).regimes

    by : (c : TableChange) → IsSoundTableChange moment tables c → After moment (changed_table tables c) place old
    by (Made table) good = (old, get_push tables place old table at, same_past moment old old regimes.order refl refl)
    by (Dropped number dropped) good = with_after moment number place (λ (t : PlainTable). record t { dropped = Some dropped }) tables old at regimes.order (same_past moment old (record old { dropped = Some dropped }) regimes.order refl refl)
    by (Undropped number) good = with_after moment number place (λ (t : PlainTable). record t { dropped = None }) tables old at regimes.order (same_past moment old (record old { dropped = None }) regimes.order refl refl)
    by (Renamed names) good = (renamed names old, get_map (renamed names) tables place old at, same_past moment old (renamed names old) regimes.order refl refl)
    by (NewVersion number begun rows) good =
        with_after moment number place (with_version begun rows) tables old at regimes.order (subst (λ (m : ℕ). Becomes moment old (with_version m rows old)) (sym good.0) (version_past moment rows old regimes.order))
    by (NewRegime number begun days) good =
        with_after moment number place (λ (t : PlainTable). record t { regimes = with_regime t.regimes begun days }) tables old at regimes.order
        (subst (λ (m : ℕ). Becomes moment old (record old { regimes = with_regime old.regimes m days })) (sym good.0) (regime_past moment days old regimes time good.1))
    by (NewKey number key) good = with_after moment number place (λ (t : PlainTable). record t { key = key }) tables old at regimes.order (same_past moment old (record old { key = key }) regimes.order refl refl)
    by (Suspended number suspended) good = with_after moment number place (λ (t : PlainTable). record t { suspended = suspended }) tables old at regimes.order (same_past moment old (record old { suspended = suspended }) regimes.order refl refl)

changes_after : (moment : ℕ) (tables : List PlainTable) (changes : List TableChange) (place : ℕ) (old : PlainTable) → moment < 2 ^ 62 → Stand moment tables → AreSoundTableChanges moment tables changes
    → slice_get tables place ≡ Some old → After moment (fold changed_table tables changes) place old
changes_after moment tables [] place old time stand ok at =
    (old, at, same_past moment old old (table_at moment (length tables) 1 place tables old stand.0 at).regimes.order refl refl)
changes_after moment tables (change ∷ changes) place old time stand ok at =
    let one = change_after moment (length tables) tables change place old time stand.0 ok.0 at in
    let rest = changes_after moment (changed_table tables change) changes place one.0 time (change_keeps moment tables change time stand ok.0) ok.1 one.1 in
    (rest.0, rest.1, becomes_on moment old one.0 rest.0 one.2 rest.2)

-- ---- layouts

abbrev view : ℕ → List (ℕ × List ℕ) → Option (List ℕ)
view at layouts = chain.layout_at layouts at

set_view : (at : ℕ) (xs : List (List (ℕ × List ℕ))) (place : ℕ) (y : List (ℕ × List ℕ)) (k : ℕ) → view at y ≡ view at (unwrap_or (slice_get xs place) [])
    → view at (unwrap_or (slice_get (slice_set xs place y) k) []) ≡ view at (unwrap_or (slice_get xs k) [])
set_view at [] place y k e = refl
set_view at (x ∷ xs) zero y zero e = e
set_view at (x ∷ xs) zero y (suc k) e = refl
set_view at (x ∷ xs) (suc place) y zero e = refl
set_view at (x ∷ xs) (suc place) y (suc k) e = set_view at xs place y k e

push_view : {A : Type 0} (xs : List A) (y : A) (k : ℕ) → k < length xs → slice_get (xs ++ y ∷ []) k ≡ slice_get xs k
push_view [] y k h = absurd (omega (arith, h))
push_view (x ∷ xs) y zero h = refl
push_view (x ∷ xs) y (suc k) h = push_view xs y k (omega (arith, h))

later_unseen : (at moment : ℕ) (layouts : List (ℕ × List ℕ)) (parts : List ℕ) → at < moment → view at (layouts ++ (moment, parts) ∷ []) ≡ view at layouts
later_unseen at moment layouts parts before =
    ap (λ (ls : List (ℕ × List ℕ)). option_map (λ (l : ℕ × List ℕ). l.1) (chain.last_of ls)) (filter_last (λ (l : ℕ × List ℕ). nat_le l.0 at) layouts (moment, parts) (lt-leb moment at before))

abbrev Unseen : ℕ → ℕ → Tally → Tally → Type 0
Unseen at k old new = (view at (unwrap_or (slice_get new.layouts k) []) ≡ view at (unwrap_or (slice_get old.layouts k) [])) × (length old.layouts ≤ length new.layouts)

tally_unseen : (moment at k : ℕ) (tally : Tally) (change : TallyChange) → at < moment → k < length tally.layouts → IsSoundTallyChange moment tally change → Unseen at k tally (changed_tally tally change)
tally_unseen moment at k tally (AddsParts origin parts) before within ok = (refl, omega arith)
tally_unseen moment at k tally (MakesTable begun parts) before within ok =
    (ap (λ (o : Option (List (ℕ × List ℕ))). view at (unwrap_or o [])) (push_view tally.layouts ((begun, parts) ∷ []) k within), omega (arith, length_push tally.layouts ((begun, parts) ∷ [])))
tally_unseen moment at k tally (BeginsLayout table begun parts) before within ok = (
  set_view at tally.layouts (table - 1) (unwrap_or (slice_get tally.layouts (table - 1)) [] ++ (begun, parts) ∷ []) k
      (later_unseen at begun (unwrap_or (slice_get tally.layouts (table - 1)) []) parts (omega (arith, before, ok.0))),
  omega (arith, length-set tally.layouts (table - 1) (unwrap_or (slice_get tally.layouts (table - 1)) [] ++ (begun, parts) ∷ [])),
)
tally_unseen moment at k tally (Keeps lists) before within ok = (refl, omega arith)
tally_unseen moment at k tally (EndsPending session) before within ok = (refl, omega arith)
tally_unseen moment at k tally (Pins session pins) before within ok = (refl, omega arith)
tally_unseen moment at k tally (Unpins session) before within ok = (refl, omega arith)
tally_unseen moment at k tally (StartsRound round) before within ok = (refl, omega arith)
tally_unseen moment at k tally EndsRound before within ok = (refl, omega arith)
tally_unseen moment at k tally (TakesAway parts) before within ok = (refl, omega arith)

tallies_unseen : (moment at k : ℕ) (tally : Tally) (changes : List TallyChange) → at < moment → k < length tally.layouts → AreSoundTallyChanges moment tally changes → Unseen at k tally (fold changed_tally tally changes)
tallies_unseen moment at k tally [] before within ok = (refl, omega arith)
tallies_unseen moment at k tally (change ∷ changes) before within ok =
    let one = tally_unseen moment at k tally change before within ok.0 in
    let rest = tallies_unseen moment at k (changed_tally tally change) changes before (omega (arith, within, one.1)) ok.1 in
    (rest.0 ∙ one.0, omega (arith, one.1, rest.1))

-- ---- the store

module _ (carried : Carried) (program : Script) (store : Plain) (effect : Effect) (sound : IsSound carried program store) (ok : IsSoundEffect carried program store effect) where
  stand_now : Stand effect.moment store.tables
  stand_now = (tables_later store.moment effect.moment (length store.tables) (length store.tables) 1 store.tables (omega (arith, ok.later)) (omega arith) sound.tables, sound.names)

  table_becomes : (number : ℕ) (old new : PlainTable) → table_numbered store number ≡ Some old → table_numbered (applied store effect) number ≡ Some new → Becomes effect.moment old new
  unfolding applied
  table_becomes number old new at there =
      let found = changes_after effect.moment store.tables effect.tables (number - 1) old ok.time stand_now ok.tables at in
      subst (Becomes effect.moment old) (same_Some found.0 new (sym found.1 ∙ there)) found.2

  table_stays : (number : ℕ) (old : PlainTable) → table_numbered store number ≡ Some old → (new : PlainTable) × (table_numbered (applied store effect) number ≡ Some new)
  unfolding applied
  table_stays number old at =
      let found = changes_after effect.moment store.tables effect.tables (number - 1) old ok.time stand_now ok.tables at in (found.0, found.1)

  parts_stay : (number at : ℕ) → at ≤ store.moment → number ≤ length store.tables → 1 ≤ number → parts_at (applied store effect).tally number at ≡ parts_at store.tally number at
  unfolding applied
  parts_stay number at before within first =
      ap (λ (o : Option (List ℕ)). unwrap_or o []) (tallies_unseen effect.moment at (number - 1) store.tally effect.tally (omega (arith, before, ok.later)) (omega (arith, within, first, sound.layouts)) ok.tally).0

  pub effect_past : KeepsPast store (applied store effect)
  effect_past = record {
    tables = table_stays;
    rows = λ number at old new before there now. (table_becomes number old new there now).rows at (omega (arith, before, ok.later));
    parts = parts_stay;
  }

  moment_kept : (applied store effect).moment ≡ effect.moment
  unfolding applied
  moment_kept = refl

  pub effect_horizons : KeepsHorizons store (applied store effect)
  effect_horizons number old new there now =
      subst (λ (m : ℕ). horizon_of old.regimes (pos store.moment) ≤ℤ horizon_of new.regimes (pos m)) (sym moment_kept)
      ((table_becomes number old new there now).horizon (pos store.moment) (le_pos store.moment effect.moment (omega (arith, ok.later))))

pub keeps_past : SoundEffectsKeepPast
keeps_past carried program store effect sound ok = effect_past carried program store effect sound ok

pub keeps_horizons : SoundEffectsKeepHorizons
keeps_horizons carried program store effect sound ok = effect_horizons carried program store effect sound ok
