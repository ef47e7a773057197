-- What is past stays as it was, and what is beyond the horizon stays there.
use Rattle.std.specs.Prelude.{List, Some, [], length, pos, ℕ, ◌++◌, ◌∷◌, ◌≡◌, ◌≤ℤ◌, ◌≤◌}
use Rattle.tt_history.specs.declared.history.Entry.{Entry}
use Rattle.tt_plain.specs.asked.Carried.{Carried}
use Rattle.tt_plain.specs.declared.store.Plain.{Plain}
use Rattle.tt_plain.specs.declared.store.PlainTable.{PlainTable}
use Rattle.tt_plain.specs.effect.Apply.{applied}
use Rattle.tt_plain.specs.effect.Effect.{Effect}
use Rattle.tt_plain.specs.history.Replay.{IsLegal, store_after}
use Rattle.tt_plain.specs.law.Changes.{IsSoundEffect}
use Rattle.tt_plain.specs.law.Sound.{IsInTime, IsSound}
use Rattle.tt_plain.specs.stored.Tables.{rows_at, table_numbered}
use Rattle.tt_plain.specs.tally.Layouts.{parts_at}
use Rattle.tt_retain.specs.Horizon.{horizon_of}
use Rattle.tt_script.specs.declared.script.Script.{Script}

-- an entry takes no table away, and changes no row and no layout of a moment that is past
pub record KeepsPast (before after : Plain) : Type 0 where
  pub tables : (number : ℕ) (old : PlainTable) → table_numbered before number ≡ Some old → (new : PlainTable) × (table_numbered after number ≡ Some new)
  pub rows : (number moment : ℕ) (old new : PlainTable) → moment ≤ before.moment →
      table_numbered before number ≡ Some old → table_numbered after number ≡ Some new → rows_at new moment ≡ rows_at old moment
  pub parts : (number moment : ℕ) → moment ≤ before.moment → number ≤ length before.tables → 1 ≤ number →
      parts_at after.tally number moment ≡ parts_at before.tally number moment

abbrev pub SoundEffectsKeepPast : Type 0
SoundEffectsKeepPast = (carried : Carried) (program : Script) (store : Plain) (effect : Effect) → IsSound carried program store →
    IsSoundEffect carried program store effect → KeepsPast store (applied store effect)

abbrev pub PastStays : Type 0
PastStays = (carried : Carried) (program : Script) (history : List Entry) (entry : Entry) →
    IsInTime program (history ++ entry ∷ []) → IsLegal carried program (history ++ entry ∷ []) →
    KeepsPast (store_after carried program history) (store_after carried program (history ++ entry ∷ []))

-- the horizon never falls, whatever the retention is set to
abbrev pub KeepsHorizons : Plain → Plain → Type 0
KeepsHorizons before after = (number : ℕ) (old new : PlainTable) →
    table_numbered before number ≡ Some old → table_numbered after number ≡ Some new →
    horizon_of old.regimes (pos before.moment) ≤ℤ horizon_of new.regimes (pos after.moment)

abbrev pub SoundEffectsKeepHorizons : Type 0
SoundEffectsKeepHorizons = (carried : Carried) (program : Script) (store : Plain) (effect : Effect) → IsSound carried program store →
    IsSoundEffect carried program store effect → KeepsHorizons store (applied store effect)

abbrev pub HorizonStays : Type 0
HorizonStays = (carried : Carried) (program : Script) (history : List Entry) (entry : Entry) →
    IsInTime program (history ++ entry ∷ []) → IsLegal carried program (history ++ entry ∷ []) →
    KeepsHorizons (store_after carried program history) (store_after carried program (history ++ entry ∷ []))
