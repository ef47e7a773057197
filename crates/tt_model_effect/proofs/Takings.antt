-- Changes that are taken one after the other.
use Rattle.std.proofs.Common.{ℕ, zero, suc, ◌<◌, List, [], ◌∷◌, ◌++◌, length, get_or, arith}
use Rattle.std.specs.Prelude.{fold}
use Rattle.tt_plain.specs.declared.store.PlainTable.{PlainTable}
use Rattle.tt_plain.specs.declared.tally.Tally.{Tally}
use Rattle.tt_plain.specs.effect.Apply.{changed_table}
use Rattle.tt_plain.specs.effect.Effect.{TableChange}
use Rattle.tt_plain.specs.tally.Changes.{TallyChange, changed_tally}
use Rattle.tt_model_effect.specs.Allowed.{Takes, EachTakes, TakeAll, HasRoom, HasRoomForAll}

pub takes_at : (change : TableChange) (tables : List PlainTable) (i : ℕ) (d : PlainTable) → i < length tables → EachTakes change tables → Takes change (get_or tables i d)
takes_at change [] i d below each = absurd (omega arith)
takes_at change (table ∷ tables) zero d below each = each.0
takes_at change (table ∷ tables) (suc i) d below each = takes_at change tables i d (omega arith) each.1

pub takes_next : (changes : List TableChange) (change : TableChange) (others : List TableChange) (tables : List PlainTable) → TakeAll (changes ++ change ∷ others) tables → EachTakes change (fold changed_table tables changes)
takes_next [] change others tables all = all.0
takes_next (first ∷ changes) change others tables all = takes_next changes change others (changed_table tables first) all.1

pub room_next : (changes : List TallyChange) (change : TallyChange) (others : List TallyChange) (tally : Tally) → HasRoomForAll (changes ++ change ∷ others) tally → HasRoom (fold changed_tally tally changes)
room_next [] change others tally all = all.0
room_next (first ∷ changes) change others tally all = room_next changes change others (changed_tally tally first) all.1
