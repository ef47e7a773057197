-- One entry on the store: it is allowed, and its effect is applied.
use Rattle.std.specs.Option.{option_or}
use Rattle.std.specs.Prelude.{None, Option, option_map, ℕ, ◌==◌}
use Rattle.tt_script.specs.declared.script.Script.{Script}
use Rattle.tt_history.specs.declared.history.Actor.{Actor}
use Rattle.tt_history.specs.declared.history.Entry.{Entry}
use Rattle.tt_history.specs.declared.history.EntryKind.{EntryKind}
use Rattle.tt_history.specs.declared.reply.Reply.{Reply}
use Rattle.tt_plain.specs.declared.store.Plain.{Plain}
use Rattle.tt_plain.specs.declared.store.PlainOpen.{PlainOpen}
use Rattle.tt_script.specs.Lines.{only_if}
use Rattle.tt_plain.specs.Answers.{◌>>=◌}
use Rattle.tt_plain.specs.asked.Asked.{Asked}
use Rattle.tt_plain.specs.asked.Carried.{Carried}
use Rattle.tt_plain.specs.asked.Turns.{next_asked, open_asked}
use Rattle.tt_plain.specs.effect.Abandon.{abandon_effect}
use Rattle.tt_plain.specs.effect.Apply.{applied}
use Rattle.tt_plain.specs.effect.Begin.{begin_effect}
use Rattle.tt_plain.specs.effect.Commit.{commit_effect}
use Rattle.tt_plain.specs.effect.Define.{define_effect}
use Rattle.tt_plain.specs.effect.Effect.{Effect}
use Rattle.tt_plain.specs.effect.End.{end_effect}
use Rattle.tt_plain.specs.effect.Landing.{round_end_effect}
use Rattle.tt_plain.specs.effect.Miss.{round_miss_effect}
use Rattle.tt_plain.specs.effect.Purge.{purge_effect}
use Rattle.tt_plain.specs.effect.Report.{report_effect}
use Rattle.tt_plain.specs.effect.Rollback.{closing_effect, rollback_effect}
use Rattle.tt_plain.specs.effect.RoundStart.{round_start_effect}
use Rattle.tt_plain.specs.effect.Start.{start_effect}
use Rattle.tt_plain.specs.effect.Wait.{wait_effect}
use Rattle.tt_history.specs.declared.history.Actor.TheVariants as actor
use Rattle.tt_history.specs.declared.history.EntryKind.TheVariants as kind

module _ (carried : Carried) (program : Script) (store : Plain) (session index : ℕ) where
  -- an entry of the session's next statement, and one of its open statement
  abbrev pub of_next : (Asked → Option Effect) → Option Effect
  of_next effect = next_asked carried program store session index >>= effect

  abbrev pub of_open : (Asked × PlainOpen → Option Effect) → Option Effect
  of_open effect = open_asked carried program store session index >>= effect

  -- an entry of a session, by its kind; the workers' kinds are no session's, and Close comes with temporary tables
  unfoldable pub session_entry : EntryKind → Option Effect
  session_entry (kind.Begin told) = of_next (λ asked. begin_effect asked told)
  session_entry (kind.Start told) = of_next (λ asked. start_effect asked told)
  session_entry (kind.End gone added) = of_open (λ found. end_effect found gone added)
  session_entry (kind.Abandon told) = of_open (λ found. abandon_effect found told)
  session_entry (kind.Commit told) = of_next (λ asked. commit_effect asked told)
  session_entry kind.Rollback = option_or (of_next rollback_effect) (closing_effect program store session index)
  session_entry (kind.Define told) = of_next (λ asked. define_effect asked told)
  session_entry (kind.Wait told) = of_next (λ asked. wait_effect asked told)
  session_entry (kind.Report told numbers) = of_next (λ asked. report_effect asked told numbers)
  session_entry (kind.RecluStart table parts) = None
  session_entry (kind.RecluEnd table gone added) = None
  session_entry (kind.RecluMiss table why) = None
  session_entry (kind.Purge parts) = None
  session_entry kind.Close = None

-- an entry of the worker that makes rounds
unfoldable pub round_entry : Plain → ℕ → EntryKind → Option Effect
round_entry store index (kind.RecluStart table parts) = round_start_effect store index table parts
round_entry store index (kind.RecluEnd table gone added) = round_end_effect store index table gone added
round_entry store index (kind.RecluMiss table why) = round_miss_effect store index table why
round_entry store index _ = None

-- an entry of the worker that purges
unfoldable pub purge_entry : Plain → ℕ → EntryKind → Option Effect
purge_entry store index (kind.Purge parts) = purge_effect store index parts
purge_entry store index _ = None

abbrev pub actor_entry : Carried → Script → Plain → Actor → ℕ → EntryKind → Option Effect
actor_entry carried program store (actor.Session session) index k = session_entry carried program store session index k
actor_entry carried program store actor.Recluster index k = round_entry store index k
actor_entry carried program store actor.Purge index k = purge_entry store index k

-- The effect of an entry, where it is allowed. Its moment is the one after the last, for a wait with its length on top.
unfoldable pub effect_of : Carried → Script → Plain → Entry → Option Effect
effect_of carried program store entry = do
  effect ← actor_entry carried program store entry.actor entry.index entry.kind
  only_if (effect.moment == entry.moment) effect

-- the next store and the reply
unfoldable pub step_of : Carried → Script → Plain → Entry → Option (Plain × Option Reply)
step_of carried program store entry = option_map (λ (effect : Effect). (applied store effect, effect.reply)) (effect_of carried program store entry)
