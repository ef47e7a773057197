-- A history session by session: the entries of each session stand behind those of the earlier ones, and lead it to its end.
use Rattle.std.specs.Prelude.{List, None, Some, [], false, length, slice_get, suc, true, zero, ℕ, ⊤, ◌++◌, ◌≡◌}
use Rattle.tt_script.specs.declared.script.Script.{Script}
use Rattle.tt_history.specs.declared.history.Entry.{Entry}
use Rattle.tt_history.specs.declared.history.EntryKind.{EntryKind}
use Rattle.tt_plain.specs.declared.store.Plain.{Plain}
use Rattle.tt_plain.specs.declared.store.PlainSession.{PlainSession}
use Rattle.tt_plain.specs.history.Complete.{is_finished}
use Rattle.tt_plain.specs.history.Replay.{store_after}
use Rattle.tt_plain.specs.law.Lists.{Every}
use Rattle.tt_plain.specs.stored.Sessions.{session_at}
use Rattle.tt_built.specs.Built.{built}
use Rattle.tt_history.specs.declared.history.Actor.TheVariants as actor
use Rattle.tt_history.specs.declared.history.EntryKind.TheVariants as kind

-- entries of one session
abbrev pub AreOf : ℕ → List Entry → Type 0
AreOf session entries = Every (λ (entry : Entry). entry.actor ≡ actor.Session session) entries

-- after the history the session has no further event
abbrev pub HasFinished : Script → ℕ → List Entry → Type 0
HasFinished program session history = is_finished program session (session_at (store_after built program history) session) ≡ true

-- entries of a session behind a history of some kind
pub record Behind (IsBefore : List Entry → Type 0) (session : ℕ) (history : List Entry) : Type 0 where
  pub before : List Entry
  pub own : List Entry
  pub parts : history ≡ before ++ own
  pub first : IsBefore before
  pub of : AreOf session own

-- the entries of the first sessions, of which there are so many, each to its end
abbrev pub AreInOrder : Script → ℕ → List Entry → Type 0
AreInOrder program zero history = history ≡ []
AreInOrder program (suc session) history = Behind (AreInOrder program session) session history × HasFinished program session history

-- entries of statements outside a transaction; each is begun by its start, and ended by another, or begun and ended by one
abbrev pub IsSingle : EntryKind → Type 0
IsSingle (kind.Begin told) = ⊥
IsSingle (kind.Commit told) = ⊥
IsSingle kind.Rollback = ⊥
IsSingle (kind.Wait told) = ⊥
IsSingle (kind.Report told numbers) = ⊥
IsSingle _ = ⊤

-- A session that has so many statements done, and none open, outside a transaction.
pub record IsIdle (store : Plain) (session done : ℕ) : Type 0 where
  pub state : PlainSession
  pub there : slice_get store.sessions session ≡ Some state
  pub counted : state.done ≡ done
  pub running : state.running ≡ None
  pub transaction : state.transaction ≡ false
