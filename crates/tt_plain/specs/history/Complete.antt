-- A history that leaves nothing to do for any session.
use Rattle.std.specs.List.{enumerate_from, list_all}
use Rattle.std.specs.Prelude.{Bool, List, not, true, ℕ, ◌&&◌, ◌≡◌}
use Rattle.tt_script.specs.declared.script.Script.{Script}
use Rattle.tt_history.specs.declared.history.Entry.{Entry}
use Rattle.tt_plain.specs.declared.store.Plain.{Plain}
use Rattle.tt_plain.specs.declared.store.PlainSession.{PlainSession}
use Rattle.tt_plain.specs.asked.Carried.{Carried}
use Rattle.tt_plain.specs.effect.Rollback.{has_ended_statements}
use Rattle.tt_plain.specs.history.Replay.{IsLegal, store_after}

-- whether a session has no further event: its statements have their last entries, and no transaction is open
abbrev pub is_finished : Script → ℕ → PlainSession → Bool
is_finished program session state = has_ended_statements program session state && not state.transaction

-- An open round is no matter of any session.
abbrev pub all_finished : Script → Plain → Bool
all_finished program store = list_all (λ found. is_finished program found.0 found.1) (enumerate_from 0 store.sessions)

pub record IsComplete (carried : Carried) (program : Script) (history : List Entry) : Type 0 where
  pub legal : IsLegal carried program history
  pub finished : all_finished program (store_after carried program history) ≡ true
