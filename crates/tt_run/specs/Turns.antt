-- What a session's events do to a catalog: its replies are those of the run, its statements are done one by one, and nothing else moves.
use Rattle.std.specs.Prelude.{List, Some, [], false, length, slice_get, ℕ, ◌++◌, ◌<◌, ◌∷◌, ◌≡◌, ◌≢◌, ◌≤◌}
use Rattle.tt_script.specs.declared.script.Script.{Script}
use Rattle.tt_script.specs.declared.script.SessionText.{SessionText}
use Rattle.tt_history.specs.declared.reply.Reply.{Reply}
use Rattle.tt_plain.specs.declared.store.Plain.{Plain}
use Rattle.tt_plain.specs.history.Replay.{Run, replay_of}
use Rattle.tt_plain.specs.stored.Sessions.{session_at}
use Rattle.tt_plain.specs.text.Transcript.{given_replies}
use Rattle.tt_built.specs.Built.{built}
use Rattle.tt_state.specs.Chronicle.{Chronicle, store_of}
use Rattle.tt_run.specs.Sessions.{AreInOrder, Behind, IsIdle}

-- the catalog's history is legal, and these are the replies that the statements got in it
pub record HasReplies (chronicle : Chronicle) (replies : List Reply) : Type 0 where
  pub run : Run
  pub replayed : replay_of built chronicle.program chronicle.history ≡ Some run
  pub given : given_replies run.1 ≡ replies

-- a session makes its entries, and those before it have made theirs
abbrev pub InTurn : Chronicle → ℕ → Type 0
InTurn chronicle session = Behind (AreInOrder chronicle.program session) session chronicle.history

-- the session has no transaction
abbrev pub IsAlone : Chronicle → ℕ → Type 0
IsAlone chronicle session = (session_at (store_of chronicle) session).transaction ≡ false

-- no other session has moved
abbrev pub KeepsOthers : Plain → Plain → ℕ → Type 0
KeepsOthers old new session = (other : ℕ) → other ≢ session → slice_get new.sessions other ≡ slice_get old.sessions other

-- a session's entries, and nothing else
pub record Moves (old new : Chronicle) (session : ℕ) : Type 0 where
  pub same_program : new.program ≡ old.program
  pub same_cap : new.cap ≡ old.cap
  pub others : KeepsOthers (store_of old) (store_of new) session
  pub turn : InTurn old session → InTurn new session

-- an entry or two by which no statement ends
pub record GoesOn (old new : Chronicle) (session : ℕ) : Type 0 where
  pub moves : Moves old new session
  pub keeps : (replies : List Reply) → HasReplies old replies → HasReplies new replies
  pub alone : IsAlone old session → IsAlone new session

-- the entries by which a session's statement got its answer
pub record IsAnswered (old new : Chronicle) (session index : ℕ) (answer : Reply) : Type 0 where
  pub moves : Moves old new session
  pub adds : (replies : List Reply) → HasReplies old replies → HasReplies new (replies ++ answer ∷ [])
  pub idle : IsAlone old session → IsIdle (store_of new) session index

-- the first sessions, of which there are so many, have done all their statements
abbrev pub AreDone : Script → Plain → ℕ → Type 0
AreDone program store count = (session : ℕ) (lines : SessionText) → session < count → slice_get program.sessions session ≡ Some lines → IsIdle store session (length lines.statements)

abbrev pub AreAllDone : Script → Plain → Type 0
AreAllDone program store = AreDone program store (length program.sessions)

-- the others have done none
abbrev pub AreNew : Script → Plain → ℕ → Type 0
AreNew program store count = (session : ℕ) → count ≤ session → session < length program.sessions → IsIdle store session 0
