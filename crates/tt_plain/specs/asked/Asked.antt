-- What is asked of the store: a session's statement at a moment. All that a statement does is said of this.
use Rattle.std.specs.Prelude.{Err, List, Ok, Option, Result, [], filter_map, option_map, ℕ}
use Rattle.tt_value.specs.declared.name.TableName.{TableName}
use Rattle.tt_value.specs.declared.value.Schema.{Schema}
use Rattle.tt_script.specs.declared.script.Script.{Script}
use Rattle.tt_sql.specs.declared.statement.Statement.{Statement}
use Rattle.tt_plain.specs.declared.store.Plain.{Plain}
use Rattle.tt_plain.specs.declared.store.PlainSession.{PlainSession}
use Rattle.tt_plain.specs.declared.store.PlainTable.{PlainTable}
use Rattle.tt_plain.specs.asked.Request.{Request, request_of}
use Rattle.tt_plain.specs.stored.Names.{table_named}
use Rattle.tt_plain.specs.stored.Points.{point_place}
use Rattle.tt_plain.specs.stored.Sessions.{session_at}
use Rattle.tt_plain.specs.Tables.{tables_of}

-- The moment is that of the statement's next event, before what a wait adds. The statement is what was read of its text: its
-- tree, or the place of a fault.
pub record Asked : Type 0 where
  pub program : Script
  pub store : Plain
  pub session : ℕ
  pub index : ℕ
  pub moment : ℕ
  pub read : Result Statement ℕ

abbrev pub request_asked : Asked → Request
request_asked asked = request_of asked.read

-- the session as it is
abbrev pub state_asked : Asked → PlainSession
state_asked asked = session_at asked.store asked.session

-- what a list of places or the like is, of a statement; of a text that is none it is empty
abbrev pub in_statement : {A : Type 0} → (Statement → List A) → Result Statement ℕ → List A
in_statement f (Err place) = []
in_statement f (Ok s) = f s

-- the table that a name means
abbrev pub table_asked : Asked → TableName → Option PlainTable
table_asked asked name = table_named asked.store asked.session name

-- the schemas of the tables that the statement names, in order
abbrev pub schemas_asked : Asked → Statement → List Schema
schemas_asked asked s = filter_map (λ name. option_map (λ (table : PlainTable). table.schema) (table_asked asked name)) (tables_of s)

-- the place of the statement's own point
abbrev pub own_point : Asked → ℕ
own_point asked = point_place asked.program asked.session asked.index
