-- What is asked, as a value of the definitions.
use Rattle.std.specs.Prelude.{Err, Ok, Result, ℕ, ◌<◌, ◌≡◌, length, ◌^◌}
use Rattle.tt_sql.specs.declared.statement.Statement.{Statement}
use Rattle.tt_plain.specs.Tables.{IsOverOneTable}
use Rattle.tt_plain.specs.asked.Asked.{Asked}
use Rattle.tt_model_asked.specs.declared.asked.Asked.{Asked as AskedValue}
use Rattle.tt_model_asked.specs.declared.asked.Read.{Read}
use Rattle.tt_model_asked.specs.declared.asked.Read.TheVariants as given

abbrev pub read_in : Read → Result Statement ℕ
read_in (given.Fault place) = Err place
read_in (given.Tree tree) = Ok tree.now

abbrev pub asked_in : AskedValue → Asked
asked_in asked = record {
  program = asked.program.now;
  store = asked.store.now;
  session = asked.session;
  index = asked.index;
  moment = asked.moment;
  read = read_in asked.read;
}

-- the statement is what was read
abbrev pub IsAskedOf : AskedValue → Statement → Type 0
IsAskedOf asked s = read_in asked.read ≡ Ok s

-- The moment is within the time of the store, and so many sessions are numbered.
pub record IsInBounds (asked : AskedValue) : Type 0 where
  pub moment : asked.moment < 2 ^ 62
  pub sessions : length asked.store.now.sessions < 2 ^ 32

-- a statement is over one table each
abbrev pub IsAlone : AskedValue → Type 0
IsAlone asked = (s : Statement) → read_in asked.read ≡ Ok s → IsOverOneTable s
