-- What contracts see of a history: its entries, and for how many more it has room.
use Rattle.std.specs.Prelude.{ℕ, List}
use Rattle.tt_history.specs.declared.history.Entry.{Entry}

pub record Entries : Type 0 where
  pub list : List Entry
  pub room : ℕ
