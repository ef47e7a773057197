-- What stays of the target of an open UPDATE or DELETE, whatever other sessions and the workers do.
use Rattle.std.specs.Prelude.{List, Some, slice_get, true, ℕ, ◌≡◌}
use Rattle.std.specs.Option.{option_map}
use Rattle.tt_history.specs.declared.history.Entry.{Entry}
use Rattle.tt_layout.specs.Numbers.{has}
use Rattle.tt_plain.specs.asked.Carried.{Carried}
use Rattle.tt_plain.specs.asked.Request.{Writes, request_of}
use Rattle.tt_plain.specs.asked.Turns.{statement_read}
use Rattle.tt_plain.specs.declared.store.Plain.{Plain}
use Rattle.tt_plain.specs.declared.store.PlainOpen.{PlainOpen}
use Rattle.tt_plain.specs.declared.store.PlainSession.{PlainSession}
use Rattle.tt_plain.specs.declared.tally.Tally.{Tally}
use Rattle.tt_plain.specs.history.Replay.{Run, replay_of}
use Rattle.tt_plain.specs.history.TrueFacts.{parts_pinned}
use Rattle.tt_plain.specs.law.Sound.{IsInTime}
use Rattle.tt_plain.specs.opening.Marks.{marks_exclusively}
use Rattle.tt_plain.specs.stored.Sessions.{has_exclusive_mark}
use Rattle.tt_plain.specs.tally.Layouts.{parts_seen}
use Rattle.tt_script.specs.declared.script.Script.{Script}
use Rattle.tt_sql.specs.declared.change.Dml.{Dml}
use Rattle.tt_value.specs.declared.value.Row.{Row}

-- the parts that a session has pinned of a table are among those that it sees of it now
abbrev pub SeesPinned : Tally → (session table : ℕ) → Type 0
SeesPinned tally session table =
    (part : ℕ) → has (parts_pinned tally session table) part ≡ true → has (parts_seen tally session table) part ≡ true

-- the session has the table for itself, and sees what it has pinned of it
pub record KeepsTarget (store : Plain) (session : ℕ) (state : PlainSession) (table : ℕ) : Type 0 where
  pub held : has_exclusive_mark table state ≡ true
  pub inside : SeesPinned store.tally session table

-- of each open UPDATE and DELETE
abbrev pub KeepsTargets : Carried → Script → Plain → Type 0
KeepsTargets carried program store =
    (session : ℕ) (state : PlainSession) (seen : PlainOpen) (d : Dml) (target : ℕ × List Row) →
    slice_get store.sessions session ≡ Some state → state.running ≡ Some seen →
    option_map request_of (statement_read carried program session seen.index) ≡ Some (Writes d) → marks_exclusively d ≡ true →
    seen.target ≡ Some target → KeepsTarget store session state target.0

-- the law
abbrev pub LegalKeepsTargets : Type 0
LegalKeepsTargets = (carried : Carried) (program : Script) (history : List Entry) (run : Run) → IsInTime program history →
    replay_of carried program history ≡ Some run → KeepsTargets carried program run.0
