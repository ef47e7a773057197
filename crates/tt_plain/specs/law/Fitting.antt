-- The rows of each table fit its schema. The law is to be proved where the kinds of expressions are known.
use Rattle.std.specs.Prelude.{List, Some, ◌≡◌}
use Rattle.tt_history.specs.declared.history.Entry.{Entry}
use Rattle.tt_plain.specs.ValueKinds.{IsRowOf}
use Rattle.tt_plain.specs.asked.Carried.{Carried}
use Rattle.tt_plain.specs.declared.store.Plain.{Plain}
use Rattle.tt_plain.specs.declared.store.PlainPending.{PlainPending}
use Rattle.tt_plain.specs.declared.store.PlainSession.{PlainSession}
use Rattle.tt_plain.specs.declared.store.PlainTable.{PlainTable}
use Rattle.tt_plain.specs.declared.store.Version.{Version}
use Rattle.tt_plain.specs.history.Replay.{Run, replay_of}
use Rattle.tt_plain.specs.law.Lists.{Every}
use Rattle.tt_plain.specs.law.Sound.{IsInTime, IsThere}
use Rattle.tt_script.specs.declared.script.Script.{Script}

pub record HasFittingRows (table : PlainTable) : Type 0 where
  pub fit : Every (λ (version : Version). Every (IsRowOf table.schema) version.rows) table.versions

-- what is added in a transaction fits too
abbrev pub FitsTable : List PlainTable → PlainPending → Type 0
FitsTable tables pending = IsThere tables pending.table (λ table. Every (IsRowOf table.schema) pending.added)

pub record AreFitting (store : Plain) : Type 0 where
  pub tables : Every HasFittingRows store.tables
  pub pending : Every (λ (state : PlainSession). Every (FitsTable store.tables) state.pending) store.sessions

abbrev pub LegalIsFitting : Type 0
LegalIsFitting = (carried : Carried) (program : Script) (history : List Entry) (run : Run) → IsInTime program history →
    replay_of carried program history ≡ Some run → AreFitting run.0
