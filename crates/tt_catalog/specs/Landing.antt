-- When parts may come to be kept, and what is told of those that are.
use Rattle.std.specs.Prelude.{List, Some, length, ℕ, ◌+◌, ◌<◌, ◌^◌, ◌≡◌, ◌≤◌}
use Rattle.tt_history.specs.declared.history.Added.{Added}
use Rattle.tt_layout.specs.Chain.{current_of, last_begun}
use Rattle.tt_layout.specs.Numbers.{HasAll, HasNone, IsAscending}
use Rattle.tt_state.specs.Keeps.{ArePartNumbers}
use Rattle.tt_state.specs.Kept.{Kept, table_kept}
use Rattle.tt_state.specs.declared.part.StoredPart.{StoredPart}
use Rattle.tt_state.specs.declared.state.TableState.{TableState}

-- what an entry tells of a part that is kept
abbrev pub added_as : StoredPart → Added
added_as part = record { number = part.facts.number; rows = part.facts.rows; bytes = part.facts.bytes }

abbrev pub number_as : StoredPart → ℕ
number_as part = part.facts.number

-- The table is there, and one more layout of it may begin at a moment, without some of its parts and with others.
pub record MayBegin (tables : List TableState) (table moment : ℕ) (gone added : List ℕ) : Type 0 where
  pub changed : TableState
  pub is : table_kept tables table ≡ Some changed
  pub later : last_begun changed.facts.layouts ≤ moment
  pub gone_ascends : IsAscending gone
  pub added_ascends : IsAscending added
  pub among : HasAll (current_of changed.facts.layouts) gone
  pub apart : HasNone (current_of changed.facts.layouts) added

-- The table is there, its parts are kept, and those that go are among them.
pub record MayLand (kept : Kept) (table : ℕ) (gone : List ℕ) : Type 0 where
  pub changed : TableState
  pub is : table_kept kept.tables table ≡ Some changed
  pub moment : kept.moment + 1 < 2 ^ 64
  pub later : last_begun changed.facts.layouts ≤ kept.moment + 1
  pub ascends : IsAscending gone
  pub among : HasAll (current_of changed.facts.layouts) gone
  pub known : ArePartNumbers (length kept.parts) (current_of changed.facts.layouts)
