-- When a change keeps the store sound: a small condition for each, which each entry's effect has to meet.
use Rattle.std.specs.Prelude.{List, Some, [], filter, length, map, true, ℕ, ⊤, ◌+◌, ◌<◌, ◌^◌, ◌∷◌, ◌≡◌, ◌≢◌, ◌≤◌}
use Rattle.tt_history.specs.declared.history.Entry.{Entry}
use Rattle.tt_layout.specs.Numbers.{IsAscending}
use Rattle.tt_plain.specs.asked.Carried.{Carried}
use Rattle.tt_plain.specs.declared.store.Plain.{Plain}
use Rattle.tt_plain.specs.declared.store.PlainTable.{PlainTable}
use Rattle.tt_plain.specs.declared.tally.Tally.{Tally}
use Rattle.tt_plain.specs.declared.tally.TallyPin.{TallyPin}
use Rattle.tt_plain.specs.effect.Apply.{applied, changed_table, renamed}
use Rattle.tt_plain.specs.effect.Effect.{Dropped, Effect, Made, NewKey, NewRegime, NewVersion, Renamed, Suspended, TableChange, Undropped}
use Rattle.tt_plain.specs.history.Step.{effect_of}
use Rattle.tt_plain.specs.law.Lists.{Every}
use Rattle.tt_plain.specs.law.Sound.{AreSoundLists, AreSoundSessions, HaveOneHolder, HaveOwnNames, IsKeyOf, IsSound, IsSoundTable, IsThere}
use Rattle.tt_plain.specs.stored.Tables.{is_live}
use Rattle.tt_plain.specs.tally.Changes.{AddsParts, BeginsLayout, EndsPending, EndsRound, Keeps, MakesTable, Pins, StartsRound, TakesAway, TallyChange, Unpins, changed_tally}
use Rattle.tt_plain.specs.tally.Parts.{are_next_parts}
use Rattle.tt_script.specs.declared.script.Script.{Script}
use Rattle.tt_value.specs.values.Bags.{IsBag}

-- no live table has the name
abbrev pub IsFreeName : List PlainTable → List ℕ → Type 0
IsFreeName tables name = Every (λ (table : PlainTable). table.name ≢ name) (filter is_live tables)

-- A table that is dropped needs no condition of its own here: that none of its marks is left is said of the sessions.
abbrev pub IsSoundTableChange : ℕ → List PlainTable → TableChange → Type 0
IsSoundTableChange moment tables (Made table) =
    IsSoundTable moment (length tables + 1) (length tables + 1) table × IsFreeName tables table.name
IsSoundTableChange moment tables (Dropped number dropped) = dropped ≡ moment
IsSoundTableChange moment tables (Undropped number) = IsThere tables number (λ table. IsFreeName tables table.name)
IsSoundTableChange moment tables (Renamed names) = HaveOwnNames (map (renamed names) tables)
IsSoundTableChange moment tables (NewVersion number begun rows) = (begun ≡ moment) × IsBag rows
IsSoundTableChange moment tables (NewRegime number begun days) = (begun ≡ moment) × (days ≤ 90)
IsSoundTableChange moment tables (NewKey number key) = IsThere tables number (λ table. IsKeyOf table.schema key)
IsSoundTableChange moment tables (Suspended number suspended) = ⊤

-- each change after those before it
abbrev pub AreSoundTableChanges : ℕ → List PlainTable → List TableChange → Type 0
AreSoundTableChanges moment tables [] = ⊤
AreSoundTableChanges moment tables (change ∷ changes) =
    IsSoundTableChange moment tables change × AreSoundTableChanges moment (changed_table tables change) changes

abbrev pub IsSoundTallyChange : ℕ → Tally → TallyChange → Type 0
IsSoundTallyChange moment tally (AddsParts origin parts) = are_next_parts tally parts ≡ true
IsSoundTallyChange moment tally (MakesTable begun parts) = (begun ≡ moment) × IsAscending parts
IsSoundTallyChange moment tally (BeginsLayout table begun parts) = (begun ≡ moment) × IsAscending parts
IsSoundTallyChange moment tally (Keeps lists) = AreSoundLists lists
IsSoundTallyChange moment tally (EndsPending session) = ⊤
IsSoundTallyChange moment tally (Pins session pins) = Every (λ (pin : TallyPin). (pin.session ≡ session) × IsAscending pin.parts) pins
IsSoundTallyChange moment tally (Unpins session) = ⊤
IsSoundTallyChange moment tally (StartsRound round) = IsAscending round.parts
IsSoundTallyChange moment tally EndsRound = ⊤
IsSoundTallyChange moment tally (TakesAway parts) = IsAscending parts

abbrev pub AreSoundTallyChanges : ℕ → Tally → List TallyChange → Type 0
AreSoundTallyChanges moment tally [] = ⊤
AreSoundTallyChanges moment tally (change ∷ changes) =
    IsSoundTallyChange moment tally change × AreSoundTallyChanges moment (changed_tally tally change) changes

-- An effect whose changes are sound one after the other: each table that is made has layouts, and the sessions are sound in
-- the tables that there are then.
pub record IsSoundEffect (carried : Carried) (program : Script) (store : Plain) (effect : Effect) : Type 0 where
  pub later : store.moment < effect.moment
  pub time : effect.moment < 2 ^ 62
  pub tables : AreSoundTableChanges effect.moment store.tables effect.tables
  pub tally : AreSoundTallyChanges effect.moment store.tally effect.tally
  pub paired : length (applied store effect).tally.layouts ≡ length (applied store effect).tables
  pub each : AreSoundSessions carried program (applied store effect).tables (applied store effect).sessions
  pub holders : (table : ℕ) → HaveOneHolder (applied store effect).sessions table

-- the laws: such an effect keeps the store sound, and each entry that is allowed has such an effect
abbrev pub SoundEffectsKeepSound : Type 0
SoundEffectsKeepSound = (carried : Carried) (program : Script) (store : Plain) (effect : Effect) → IsSound carried program store →
    IsSoundEffect carried program store effect → IsSound carried program (applied store effect)

-- within the moments that regimes have
abbrev pub EntriesAreSound : Type 0
EntriesAreSound = (carried : Carried) (program : Script) (store : Plain) (entry : Entry) (effect : Effect) → IsSound carried program store →
    entry.moment < 2 ^ 62 → effect_of carried program store entry ≡ Some effect → IsSoundEffect carried program store effect
