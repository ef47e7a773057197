-- What is carried out so far, which the definitions of the store take as it is given.
use Rattle.std.specs.Prelude.{Bool, true}
use Rattle.tt_sql.specs.declared.statement.Statement.{Statement}

-- the statements that are carried out, and whether partitions are purged and reclustered
pub record Carried : Type 0 where
  pub statements : Statement → Bool
  pub purges : Bool
  pub rounds : Bool

-- the whole of it
abbrev pub all_carried : Carried
all_carried = record { statements = λ _. true; purges = true; rounds = true }
