-- A text that is no statement is refused at its start.
use Rattle.std.specs.Prelude.{Err, Some, refl, ℕ, ◌≡◌}
use Rattle.std.proofs.Common.{subst, sym}
use Rattle.tt_script.specs.declared.script.Script.{Script}
use Rattle.tt_plain.specs.asked.Asked.{Asked}
use Rattle.tt_plain.specs.asked.Turns.{asked_with}
use Rattle.tt_plain.specs.declared.store.Plain.{Plain}
use Rattle.tt_plain.specs.effect.Apply.{applied}
use Rattle.tt_plain.specs.effect.Ending.{ended_with}
use Rattle.tt_plain.specs.refusal.First.{refusal_of}
use Rattle.tt_built.specs.Built.{built}
use Rattle.tt_state.proofs.Ended.{ended_goes}
use Rattle.tt_state.proofs.Goes.{GoesOn}
use Rattle.tt_state.proofs.Steps.{start_refused, start_step}
use Rattle.tt_state.proofs.TrueFacts.{adds_no_part}
use Rattle.tt_state.proofs.Turns.{is_next}
use Rattle.tt_state.specs.Chronicle.{Chronicle, IsNextRead, entry_at, rows_of, store_of}
use Rattle.tt_state.specs.Keeps.{StandsFor}
use Rattle.tt_state.specs.Kept.{Kept}
use Rattle.tt_state.specs.Moves.{IsReady, with_ended}
use Rattle.tt_history.specs.declared.history.EntryKind.TheVariants as kind
use Rattle.tt_history.specs.declared.history.Told.TheVariants as told
use Rattle.tt_history.specs.declared.reply.Refusal.TheVariants as refusal
use Rattle.tt_history.specs.declared.reply.Reply.TheVariants as reply
use Rattle.tt_catalog.specs.Ends.{with_released, with_unpinned}

module _ (chronicle : Chronicle) (kept : Kept) (room session index place : ℕ) (stands : StandsFor chronicle kept room) (read : IsNextRead chronicle session index (Err place)) where
  abbrev store : Plain
  store = store_of chronicle

  abbrev asked : Asked
  asked = asked_with chronicle.program store session index (Err place)

  refused_as : refusal_of asked ≡ Some (refusal.Syntax place)
  unfolding refusal_of
  refused_as = refl

  pub text_refused : (after : Plain) × GoesOn chronicle kept (with_ended chronicle.program kept session index) (entry_at store.moment session index (kind.Start (told.Refused 1))) after (Some (reply.Refused (refusal.Syntax place)))
  unfolding ended_with
  text_refused = (
    applied store (ended_with asked (reply.Refused (refusal.Syntax place))),
    ended_goes chronicle kept room session index (Err place) stands (is_next chronicle.program store session index asked read) (kind.Start (told.Refused 1)) (reply.Refused (refusal.Syntax place))
        (start_step built chronicle.program store session index asked (told.Refused 1) (ended_with asked (reply.Refused (refusal.Syntax place))) read
        (start_refused asked refl (refusal.Syntax place) refused_as) refl) refl
        (adds_no_part built chronicle.program chronicle.cap (rows_of chronicle) store (entry_at store.moment session index (kind.Start (told.Refused 1))) refl tt tt),
  )

-- what is taken from pins and marks leaves the statement ready to end
pub unpinned_ready : (program : Script) (old new : Kept) (session index : ℕ) → new ≡ with_unpinned old session → IsReady program old session index → IsReady program new session index
unpinned_ready program old new session index is ready =
    subst (λ k. IsReady program k session index) (sym is)
    (record { first = ready.first; known = ready.known; present = ready.present; point = ready.point; moment = ready.moment })

pub released_ready : (program : Script) (old new : Kept) (session index : ℕ) → new ≡ with_released old session → IsReady program old session index → IsReady program new session index
released_ready program old new session index is ready =
    subst (λ k. IsReady program k session index) (sym is)
    (record { first = ready.first; known = ready.known; present = ready.present; point = ready.point; moment = ready.moment })
