-- A commit keeps the store sound.
use Rattle.std.specs.Prelude.{List, None, Option, Some, [], flat_map, fold, length, refl, ℕ, ◌++◌, ◌==◌, ◌∷◌, ◌≡◌}
use Rattle.std.proofs.Common.{append_assoc, arith, subst, sym}
use Rattle.std.proofs.lemmas.Bool.{false≢true}
use Rattle.tt_history.specs.declared.history.Told.{Told}
use Rattle.tt_history.specs.declared.reply.Reply.{Reply}
use Rattle.tt_plain.proofs.law.session.Alone.{IsDue, no_more_marks}
use Rattle.tt_plain.proofs.law.Gives.{Gives}
use Rattle.tt_plain.proofs.law.Lists.{every-filter}
use Rattle.tt_plain.proofs.law.entry.SessionAlone.{SoundIn, memory_sound, no_transaction}
use Rattle.tt_plain.proofs.law.entry.Rounds.{begun_sound, same_many}
use Rattle.tt_plain.proofs.law.change.TallyChanges.{tally_later}
use Rattle.tt_plain.proofs.law.Turns.{due_gives}
use Rattle.tt_plain.proofs.law.session.Versions.{committed_versions, versions_effect}
use Rattle.tt_plain.specs.asked.Asked.{Asked, own_point, request_asked, state_asked}
use Rattle.tt_plain.specs.asked.Carried.{Carried}
use Rattle.tt_plain.specs.asked.Request.{Commits, Defines, Request}
use Rattle.tt_plain.specs.declared.store.PlainSession.{PlainSession}
use Rattle.tt_plain.specs.declared.tally.Tally.{Tally}
use Rattle.tt_plain.specs.declared.tally.TallyPending.{TallyPending}
use Rattle.tt_plain.specs.effect.Commit.{commit_effect, commit_told, committed, committed_by, points_settled, session_committed, version_committed}
use Rattle.tt_plain.specs.effect.Effect.{Effect}
use Rattle.tt_plain.specs.effect.Ending.{own_point_now, session_done}
use Rattle.tt_plain.specs.law.Changes.{AreSoundTallyChanges}
use Rattle.tt_plain.specs.law.Lists.{Every}
use Rattle.tt_plain.specs.law.Sound.{AreSoundLists, IsSoundTally}
use Rattle.tt_plain.specs.stored.Points.{no_point_yet}
use Rattle.tt_plain.specs.tally.Changes.{EndsPending, TallyChange, changed_tally}
use Rattle.tt_plain.specs.tally.Pending.{layout_begun, layouts_committed, lists_of_session}
use Rattle.tt_plain.specs.asked.Event as event
use Rattle.tt_history.specs.declared.reply.Reply.TheVariants as reply
use Rattle.tt_history.specs.declared.history.Told.TheVariants as told

layouts_sound : (moment : ℕ) (tally after : Tally) (all : List TallyPending) (later : List TallyChange) → IsSoundTally moment tally → Every AreSoundLists all → ((t : Tally) → AreSoundTallyChanges moment t later)
    → AreSoundTallyChanges moment after (flat_map (λ (lists : TallyPending). layout_begun tally moment lists.table lists.gone lists.added) all ++ later)
layouts_sound moment tally after [] later sound all rest = rest after
layouts_sound moment tally after (lists ∷ others) later sound all rest =
    let here : List TallyChange = layout_begun tally moment lists.table lists.gone lists.added in
    let behind : List TallyChange = flat_map (λ (l : TallyPending). layout_begun tally moment l.table l.gone l.added) others in
    subst (AreSoundTallyChanges moment after) (sym (append_assoc here behind later))
    (begun_sound moment tally after lists.table lists.gone lists.added (behind ++ later) sound all.0.1 (λ t. layouts_sound moment tally t others later sound all.1 rest))

layouts_many : (moment : ℕ) (tally after : Tally) (all : List TallyPending) (later : List TallyChange) → ((t : Tally) → length (fold changed_tally t later).layouts ≡ length t.layouts)
    → length (fold changed_tally after (flat_map (λ (lists : TallyPending). layout_begun tally moment lists.table lists.gone lists.added) all ++ later)).layouts ≡ length after.layouts
layouts_many moment tally after [] later rest = rest after
layouts_many moment tally after (lists ∷ others) later rest =
    let here : List TallyChange = layout_begun tally moment lists.table lists.gone lists.added in
    let behind : List TallyChange = flat_map (λ (l : TallyPending). layout_begun tally moment l.table l.gone l.added) others in
    subst (λ (cs : List TallyChange). length (fold changed_tally after cs).layouts ≡ length after.layouts) (sym (append_assoc here behind later))
    (same_many moment tally after lists.table lists.gone lists.added (behind ++ later) (λ t. layouts_many moment tally t others later rest))

module _ (carried : Carried) (asked : Asked) (due : IsDue carried asked) where
  abbrev Sound : Effect → Type 0
  Sound effect = SoundIn carried asked.program asked.store effect

  now : IsSoundTally asked.moment asked.store.tally
  now = tally_later asked.store.moment asked.moment asked.store.tally (omega (arith, due.next)) due.sound.tally

  committed_sound : (state : PlainSession) (points : List (ℕ × ℕ)) (reply : Option Reply) → state.running ≡ None
      → Sound (record (committed asked) { session = Some (asked.session, session_committed state); points = points; reply = reply })
  unfolding committed
  committed_sound state points reply idle time =
      versions_effect carried asked due (session_committed state) (flat_map (version_committed asked.store asked.moment) (state_asked asked).pending) points
      (layouts_committed asked.store.tally asked.moment asked.session ++ EndsPending asked.session ∷ []) reply time (no_transaction carried asked due state idle)
      (no_more_marks carried asked due (session_committed state) (λ table e. absurd (false≢true e)))
      (committed_versions asked.store asked.moment (state_asked asked).pending)
      (layouts_sound asked.moment asked.store.tally asked.store.tally (lists_of_session asked.store.tally asked.session) (EndsPending asked.session ∷ []) now
      (every-filter AreSoundLists (λ (lists : TallyPending). lists.session == asked.session) asked.store.tally.pending due.sound.tally.lists) (λ t. (tt, tt)))
      (layouts_many asked.moment asked.store.tally asked.store.tally (lists_of_session asked.store.tally asked.session) (EndsPending asked.session ∷ []) (λ t. refl))

  request_committed : (request : Request) → (state_asked asked).running ≡ None → Gives Sound (committed_by asked request)
  unfolding committed
  request_committed Commits idle = committed_sound (session_done asked) (points_settled asked ++ own_point_now asked) (Some reply.Ok) refl
  request_committed (Defines d) idle = committed_sound (state_asked asked) (points_settled asked ++ (own_point asked, no_point_yet) ∷ []) None idle
  request_committed _ idle = tt

  told_committed : (t : Told) → (state_asked asked).running ≡ None → Gives Sound (commit_told asked t)
  told_committed told.Done idle = request_committed (request_asked asked) idle
  told_committed (told.Refused number) idle = tt
  told_committed told.Memory idle = memory_sound carried asked due idle

  pub commit_sound : (t : Told) → (state_asked asked).running ≡ None → Gives Sound (commit_effect asked t)
  unfolding commit_effect
  commit_sound t idle = due_gives Sound event.Commit asked _ (λ test. told_committed t idle)
