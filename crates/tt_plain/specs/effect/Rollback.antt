-- ROLLBACK drops what is pending. So does the end of a session whose transaction is open.
use Rattle.std.specs.Prelude.{Bool, Err, List, None, Option, Some, [], is_none, slice_get, ℕ, ◌&&◌, ◌++◌, ◌+◌, ◌==◌, ◌∷◌}
use Rattle.tt_script.specs.declared.script.Script.{Script}
use Rattle.tt_history.specs.declared.reply.Reply.{Reply}
use Rattle.tt_plain.specs.declared.store.Plain.{Plain}
use Rattle.tt_plain.specs.declared.store.PlainSession.{PlainSession}
use Rattle.tt_script.specs.Lines.{only_if}
use Rattle.tt_plain.specs.Answers.{◌>>=◌}
use Rattle.tt_plain.specs.asked.Asked.{Asked}
use Rattle.tt_plain.specs.asked.Turns.{asked_with}
use Rattle.tt_plain.specs.effect.Commit.{points_settled, session_committed}
use Rattle.tt_plain.specs.effect.Effect.{Effect}
use Rattle.tt_plain.specs.effect.Ending.{own_point_now, session_done, session_effect, where_due}
use Rattle.tt_plain.specs.stored.Points.{count_in}
use Rattle.tt_plain.specs.tally.Changes.{EndsPending}
use Rattle.tt_plain.specs.asked.Event as event
use Rattle.tt_history.specs.declared.reply.Reply.TheVariants as reply

-- the transaction and the session's marks end, and nothing of it is left but its parts
unfoldable pub rolled_back : Asked → PlainSession → List (ℕ × ℕ) → Option Reply → Effect
rolled_back asked state points reply =
    record (session_effect asked (session_committed state) (points_settled asked ++ points) reply) { tally = EndsPending asked.session ∷ [] }

-- the statement ROLLBACK
unfoldable pub rollback_effect : Asked → Option Effect
rollback_effect asked = do
  due ← where_due event.Rollback asked
  Some (rolled_back due (session_done due) (own_point_now due) (Some reply.Ok))

-- a session has no statement left, and none is open
abbrev pub has_ended_statements : Script → ℕ → PlainSession → Bool
has_ended_statements program session state = is_none state.running && state.done == count_in (slice_get program.sessions session)

-- After a session's last statement an open transaction is rolled back, by an entry with the index behind the last and no reply.
unfoldable pub closing_effect : Script → Plain → ℕ → ℕ → Option Effect
closing_effect program store session index = do
  state ← slice_get store.sessions session
  last ← only_if (has_ended_statements program session state && index == state.done + 1) state
  left ← only_if last.transaction last
  Some (rolled_back (asked_with program store session index (Err 0)) left [] None)
