-- After each legal history open changes keep their targets.
use Rattle.std.specs.Prelude.{List, None, Some, length, map, slice_get, ℕ, ◌++◌, ◌∷◌, ◌≡◌, []}
use Rattle.std.proofs.Common.{ap, arith, length-append, suc, sym, zero}
use Rattle.std.proofs.lemmas.Option.{none-some, same_Some}
use Rattle.tt_history.specs.declared.history.Entry.{Entry}
use Rattle.tt_plain.specs.asked.Carried.{Carried}
use Rattle.tt_plain.specs.declared.store.PlainSession.{PlainSession}
use Rattle.tt_plain.specs.law.Sound.{IsInTime}
use Rattle.tt_plain.specs.stored.Empty.{empty_store}
use Rattle.tt_plain.specs.stored.Sessions.{new_session}
use Rattle.tt_plain_laws.proofs.Inductions.{by_entries}
use Rattle.tt_script.specs.declared.script.Script.{Script}
use Rattle.tt_script.specs.declared.script.SessionText.{SessionText}
use Rattle.tt_stock_laws.proofs.Entries.{legal_stocks}
use Rattle.tt_target_laws.proofs.Entries.{entry_sees}
use Rattle.tt_target_laws.proofs.Targets.{SeeTargets, idle_sees}
use Rattle.tt_target_laws.specs.Targets.{LegalKeepsTargets}

empty_sees : (carried : Carried) (program : Script) → SeeTargets carried program (empty_store program)
unfolding empty_store
empty_sees carried program session state at = idle_sees carried program (empty_store program).tally session state (each_new program.sessions session state at)
  where
    each_new : (lines : List SessionText) (session : ℕ) (state : PlainSession) → slice_get (map (λ (_ : SessionText). new_session) lines) session ≡ Some state → state.running ≡ None
    each_new [] session state at = absurd (none-some state at)
    each_new (first ∷ lines) zero state at = ap (λ (s : PlainSession). s.running) (sym (same_Some new_session state at))
    each_new (first ∷ lines) (suc session) state at = each_new lines session state at

before_in_time : (program : Script) (history before later : List Entry) (entry : Entry) → history ≡ before ++ entry ∷ later → IsInTime program history → IsInTime program before
before_in_time program history before later entry is time = (time.0, omega (arith, time.1, ap (λ (h : List Entry). length h) is, length-append before (entry ∷ later)))

-- an open UPDATE or DELETE sees what it has pinned, and has its table for itself
pub legal_targets : LegalKeepsTargets
legal_targets carried program history run time replayed session state seen d target at running said exclusive is =
    let sees : SeeTargets carried program run.0 =
    by_entries carried program history time (λ before store. SeeTargets carried program store)
    (λ before store entry effect there sees.
    let kept = legal_stocks carried program before (store, there.replies) (before_in_time program history before there.later entry there.whole time) there.replayed in
    entry_sees carried program store there.sound kept.0 kept.1 entry effect there.effected sees) run (empty_sees carried program) replayed in
    record {
      held = (legal_stocks carried program history run time replayed).1.held session state at seen d target running said is exclusive;
      inside = sees session state at seen d target running said exclusive is;
    }
