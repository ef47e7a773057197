-- What an entry does to the store, as a value.
use Rattle.std.specs.Prelude.{Bool, List, Option, ℕ}
use Rattle.tt_value.specs.declared.value.Row.{Row}
use Rattle.tt_history.specs.declared.reply.Reply.{Reply}
use Rattle.tt_plain.specs.declared.store.PlainSession.{PlainSession}
use Rattle.tt_plain.specs.declared.store.PlainTable.{PlainTable}
use Rattle.tt_plain.specs.tally.Changes.{TallyChange}

-- how tables change, which are given by their numbers unless they are made; several names may change at once
pub data TableChange : Type 0 where
  Made : PlainTable → TableChange
  Dropped : (table moment : ℕ) → TableChange
  Undropped : (table : ℕ) → TableChange
  Renamed : (names : List (ℕ × List ℕ)) → TableChange
  NewVersion : (table moment : ℕ) (rows : List Row) → TableChange
  NewRegime : (table moment days : ℕ) → TableChange
  NewKey : (table : ℕ) (key : Option ℕ) → TableChange
  Suspended : (table : ℕ) (suspended : Bool) → TableChange

-- The session that makes the entry and what it is afterwards, none where a worker makes it; the changes of tables; the places
-- of points with what stands there; the changes of the tally; the moment of the entry; and its reply, if it has one.
pub record Effect : Type 0 where
  pub session : Option (ℕ × PlainSession)
  pub tables : List TableChange
  pub points : List (ℕ × ℕ)
  pub tally : List TallyChange
  pub moment : ℕ
  pub reply : Option Reply
