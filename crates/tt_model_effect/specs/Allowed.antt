-- What a change asks of what it changes, so that it can be carried out within the numbers that there are.
use Rattle.std.specs.Prelude.{List, [], ◌∷◌, false, ℕ, ◌+◌, ◌<◌, ◌≤◌, ◌≡◌, ◌^◌, ⊤}
use Rattle.tt_retain.specs.Retention.{last_begun}
use Rattle.tt_plain.specs.declared.store.Plain.{Plain}
use Rattle.tt_plain.specs.declared.store.PlainTable.{PlainTable}
use Rattle.tt_plain.specs.declared.tally.Tally.{Tally}
use Rattle.tt_plain.specs.effect.Apply.{changed_table}
use Rattle.tt_plain.specs.effect.Effect.{Dropped, Effect, Made, NewKey, NewRegime, NewVersion, Renamed, Suspended, TableChange, Undropped}
use Rattle.tt_plain.specs.tally.Changes.{TallyChange, changed_tally}

-- A regime goes on from a moment, where the last one has begun by then and is no end.
pub record TakesRegime (number moment days : ℕ) (table : PlainTable) : Type 0 where
  pub later : table.number ≡ number → last_begun table.regimes ≤ moment
  pub goes_on : table.number ≡ number → table.regimes.ended ≡ false
  pub few : days ≤ 90
  pub in_time : moment < 2 ^ 62

abbrev pub Takes : TableChange → PlainTable → Type 0
Takes (Made made) table = ⊤
Takes (Dropped number moment) table = ⊤
Takes (Undropped number) table = ⊤
Takes (Renamed names) table = ⊤
Takes (NewVersion number moment rows) table = ⊤
Takes (NewRegime number moment days) table = TakesRegime number moment days table
Takes (NewKey number key) table = ⊤
Takes (Suspended number suspended) table = ⊤

abbrev pub EachTakes : TableChange → List PlainTable → Type 0
EachTakes change [] = ⊤
EachTakes change (table ∷ tables) = Takes change table × EachTakes change tables

-- each change finds tables that take it, after those before it
abbrev pub TakeAll : List TableChange → List PlainTable → Type 0
TakeAll [] tables = ⊤
TakeAll (change ∷ changes) tables = EachTakes change tables × TakeAll changes (changed_table tables change)

-- rounds and purges are counted in 64 bits
pub record HasRoom (tally : Tally) : Type 0 where
  pub rounds : tally.rounds + 1 < 2 ^ 64
  pub purges : tally.purges + 1 < 2 ^ 64

abbrev pub HasRoomForAll : List TallyChange → Tally → Type 0
HasRoomForAll [] tally = ⊤
HasRoomForAll (change ∷ changes) tally = HasRoom tally × HasRoomForAll changes (changed_tally tally change)

-- what an effect asks of the store
pub record IsApplicable (store : Plain) (effect : Effect) : Type 0 where
  pub tables : TakeAll effect.tables store.tables
  pub tally : HasRoomForAll effect.tally store.tally
