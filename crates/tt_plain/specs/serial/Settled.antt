-- A store with nothing left to do: what is stored is named, and no table that may be reclustered has parts that overlap.
use Rattle.std.specs.Prelude.{All, AllPairs, List, None, [], false, true, ◌≡◌}
use Rattle.tt_value.specs.declared.value.Row.{Row}
use Rattle.tt_script.specs.declared.script.Script.{Script}
use Rattle.tt_history.specs.declared.history.Entry.{Entry}
use Rattle.tt_plain.specs.declared.ranges.KeyRange.{KeyRange}
use Rattle.tt_plain.specs.declared.store.Plain.{Plain}
use Rattle.tt_plain.specs.declared.store.PlainTable.{PlainTable}
use Rattle.tt_plain.specs.asked.Carried.{Carried}
use Rattle.tt_plain.specs.cluster.Ranges.{overlap}
use Rattle.tt_plain.specs.cluster.Wanted.{table_ranges}
use Rattle.tt_plain.specs.effect.Round.{may_be_reclustered}
use Rattle.tt_plain.specs.history.Contents.{contents_of}
use Rattle.tt_plain.specs.history.Replay.{store_after}
use Rattle.tt_plain.specs.tally.Facts.{doomed_at}

abbrev pub AreApart : List KeyRange → Type 0
AreApart ranges = AllPairs (λ (a b : KeyRange). overlap a b ≡ false) ranges

abbrev pub IsClustered : List (List Row) → Plain → PlainTable → Type 0
IsClustered contents store table = may_be_reclustered store table ≡ true → AreApart (table_ranges contents store.tally table)

-- what holds of a store and the contents of its parts, as far as purges and rounds are carried out
pub record IsSettledStore (carried : Carried) (contents : List (List Row)) (store : Plain) : Type 0 where
  pub named : carried.purges ≡ true → doomed_at store store.moment ≡ []
  pub closed : carried.rounds ≡ true → store.tally.round ≡ None
  pub clustered : carried.rounds ≡ true → All (IsClustered contents store) store.tables

-- at the moment of the last entry
abbrev pub IsSettled : Carried → Script → List Entry → Type 0
IsSettled carried program history =
    IsSettledStore carried (contents_of carried program history) (store_after carried program history)
