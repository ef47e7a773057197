-- A history as a run of entries from the empty store.
use Rattle.std.specs.Prelude.{List, None, Option, Some, [], fold, ◌++◌, ◌∷◌, ◌≡◌}
use Rattle.tt_script.specs.declared.script.Script.{Script}
use Rattle.tt_history.specs.declared.history.Entry.{Entry}
use Rattle.tt_history.specs.declared.reply.Reply.{Reply}
use Rattle.tt_plain.specs.declared.store.Plain.{Plain}
use Rattle.tt_plain.specs.Answers.{◌>>=◌}
use Rattle.tt_plain.specs.asked.Carried.{Carried}
use Rattle.tt_plain.specs.history.Step.{step_of}
use Rattle.tt_plain.specs.stored.Empty.{empty_store}

-- the store after some entries, and what each of them answered
abbrev pub Run : Type 0
Run = Plain × List (Option Reply)

-- a run that goes on by one entry
abbrev pub after : Carried → Script → Option Run → Entry → Option Run
after carried program run entry = do
  before ← run
  next ← step_of carried program before.0 entry
  Some (next.0, before.1 ++ next.1 ∷ [])

unfoldable pub replay_from : Carried → Script → Option Run → List Entry → Option Run
replay_from carried program run [] = run
replay_from carried program run (entry ∷ entries) = replay_from carried program (after carried program run entry) entries

-- the run of a history from the empty store, or none where some entry is not allowed
unfoldable pub replay_of : Carried → Script → List Entry → Option Run
replay_of carried program history = replay_from carried program (Some (empty_store program, [])) history

-- each entry is allowed after those before it
pub record IsLegal (carried : Carried) (program : Script) (history : List Entry) : Type 0 where
  pub run : Run
  pub replayed : replay_of carried program history ≡ Some run

-- ---- the store before each entry

abbrev pub store_or : Plain → Option (Plain × Option Reply) → Plain
store_or store None = store
store_or store (Some next) = next.0

-- the store after an entry; where that is not allowed, as before
unfoldable pub next_store : Carried → Script → Plain → Entry → Plain
next_store carried program store entry = store_or store (step_of carried program store entry)

-- the store after a history
unfoldable pub store_after : Carried → Script → List Entry → Plain
store_after carried program history = fold (next_store carried program) (empty_store program) history

abbrev pub pairs_from : Carried → Script → Plain → List Entry → List (Plain × Entry)
pairs_from carried program store [] = []
pairs_from carried program store (entry ∷ entries) = (store, entry) ∷ pairs_from carried program (next_store carried program store entry) entries

-- each entry of a history with the store before it
unfoldable pub pairs_of : Carried → Script → List Entry → List (Plain × Entry)
pairs_of carried program history = pairs_from carried program (empty_store program) history
