-- A walk over a history: turn by turn, each takes the next entry or none.
use Rattle.std.specs.Prelude.{Bool, List, None, Option, Some, [], bytes_eq, false, filter, if◌then◌else◌, is_some, true, ℕ, ◌&&◌, ◌+◌, ◌==◌, ◌∷◌}
use Rattle.tt_value.specs.declared.value.Row.{Row}
use Rattle.tt_script.specs.declared.script.Script.{Script}
use Rattle.tt_script.specs.declared.script.Turn.{Turn}
use Rattle.tt_history.specs.declared.history.Actor.{Actor}
use Rattle.tt_history.specs.declared.history.Entry.{Entry}
use Rattle.tt_history.specs.declared.history.EntryKind.{EntryKind}
use Rattle.tt_history.specs.Projection.{is_session}
use Rattle.tt_plain.specs.declared.store.Plain.{Plain}
use Rattle.tt_script.specs.Lines.{only_if}
use Rattle.tt_plain.specs.asked.Carried.{Carried}
use Rattle.tt_plain.specs.cluster.Wanted.{round_wanted}
use Rattle.tt_plain.specs.effect.End.{kept}
use Rattle.tt_plain.specs.history.Complete.{is_finished}
use Rattle.tt_plain.specs.history.Contents.{contents_with}
use Rattle.tt_plain.specs.history.Replay.{next_store}
use Rattle.tt_plain.specs.stored.Sessions.{session_at}
use Rattle.tt_plain.specs.tally.Facts.{doomed_at}
use Rattle.tt_plain.specs.tally.Parts.{is_stored}
use Rattle.tt_history.specs.declared.history.Actor.TheVariants as actor
use Rattle.tt_history.specs.declared.history.EntryKind.TheVariants as kind
use Rattle.tt_script.specs.declared.script.Turn.TheVariants as turn

-- the store and the contents so far, the entries that are still to come, and the list that the last sweep kept
pub record Walk : Type 0 where
  pub store : Plain
  pub contents : List (List Row)
  pub entries : List Entry
  pub kept : Option (List ℕ)

-- the next entry is taken, where a test holds of it
abbrev pub taken_where : Carried → Script → (Entry → Bool) → Walk → List Entry → Option Walk
taken_where carried program test walk [] = None
taken_where carried program test walk (entry ∷ entries) =
    only_if (test entry) (record walk {
      store = next_store carried program walk.store entry;
      contents = contents_with carried program walk.contents (walk.store, entry);
      entries = entries;
    })

abbrev pub takes_where : Carried → Script → (Entry → Bool) → Walk → Option Walk
takes_where carried program test walk = taken_where carried program test walk walk.entries

-- ---- a session's turn

-- a session that has finished takes none
unfoldable pub session_turn : Carried → Script → ℕ → Walk → Option Walk
session_turn carried program session walk =
    if is_finished program session (session_at walk.store session) then Some walk
    else takes_where carried program (λ (entry : Entry). is_session session entry.actor) walk

-- ---- the turns of the store's own work

abbrev pub is_recluster : Actor → Bool
is_recluster (actor.Session session) = false
is_recluster actor.Recluster = true
is_recluster actor.Purge = false

abbrev pub is_start_of : ℕ × List ℕ → EntryKind → Bool
is_start_of wanted (kind.RecluStart table parts) = table == wanted.0 && bytes_eq parts wanted.1
is_start_of wanted _ = false

abbrev pub round_started : Carried → Script → Walk → Option (ℕ × List ℕ) → Option Walk
round_started carried program walk None = Some walk
round_started carried program walk (Some wanted) = takes_where carried program (λ (entry : Entry). is_start_of wanted entry.kind) walk

-- an open round is ended, and else one is started, where a table has a pick
unfoldable pub round_turn : Carried → Script → Walk → Option Walk
round_turn carried program walk =
    if is_some walk.store.tally.round then takes_where carried program (λ (entry : Entry). is_recluster entry.actor) walk
    else round_started carried program walk (round_wanted walk.contents walk.store)

-- a sweep keeps what is not named now, and takes no entry
unfoldable pub sweep_turn : Walk → Option Walk
sweep_turn walk = Some (record walk { kept = Some (doomed_at walk.store (walk.store.moment + 1)) })

-- what a purge removes: what is still stored of the kept list, or else what is not named now
abbrev pub to_purge : Plain → Option (List ℕ) → List ℕ
to_purge store None = doomed_at store (store.moment + 1)
to_purge store (Some kept) = filter (is_stored store.tally) kept

abbrev pub is_purge_of : List ℕ → EntryKind → Bool
is_purge_of wanted (kind.Purge parts) = bytes_eq parts wanted
is_purge_of wanted _ = false

abbrev pub purged : Carried → Script → Walk → List ℕ → Option Walk
purged carried program walk [] = Some walk
purged carried program walk (number ∷ numbers) =
    takes_where carried program (λ (entry : Entry). is_purge_of (number ∷ numbers) entry.kind) walk

-- the kept list is spent
unfoldable pub purge_turn : Carried → Script → Walk → Option Walk
purge_turn carried program walk = purged carried program (record walk { kept = None }) (to_purge walk.store walk.kept)

abbrev pub turn_taken : Carried → Script → Walk → Turn → Option Walk
turn_taken carried program walk (turn.Session session) = session_turn carried program session walk
turn_taken carried program walk turn.Recluster = round_turn carried program walk
turn_taken carried program walk turn.Sweep = sweep_turn walk
turn_taken carried program walk turn.Purge = purge_turn carried program walk
