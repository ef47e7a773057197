-- A run that came to its end leaves all that is said of it.
use Rattle.std.specs.Prelude.{List, Some, [], length, map, refl, true, ℕ, ◌++◌, ◌≡◌}
use Rattle.std.proofs.Common.{ap, subst, sym, ◌∙◌}
use Rattle.tt_value.specs.declared.value.Row.{Row}
use Rattle.tt_script.specs.declared.script.Script.{Script}
use Rattle.tt_history.specs.declared.history.Entry.{Entry}
use Rattle.tt_history.specs.declared.reply.Reply.{Reply}
use Rattle.tt_plain.specs.declared.store.Plain.{Plain}
use Rattle.tt_plain.specs.history.Complete.{IsComplete, all_finished}
use Rattle.tt_plain.specs.history.Contents.{contents_of}
use Rattle.tt_plain.specs.history.Replay.{IsLegal}
use Rattle.tt_plain.specs.law.Bag.{BagsAreFormed}
use Rattle.tt_plain.specs.serial.Order.{IsSerialOrder}
use Rattle.tt_plain_laws.proofs.entry.Histories.{legal_bags}
use Rattle.tt_built.specs.Built.{built}
use Rattle.tt_state.proofs.Histories.{in_time, stands_sound, store_is}
use Rattle.tt_state.specs.Chronicle.{Chronicle, rows_of, store_of}
use Rattle.tt_plain.specs.text.Transcript.{transcript_of}
use Rattle.tt_journal.specs.Transcript.{AreReplies, IsTranscript as HasText}
use Rattle.tt_run.proofs.Kept.{rows_stay}
use Rattle.tt_run.proofs.Stored.{kept_rows}
use Rattle.tt_run.proofs.RunLaws.{all_are_finished}
use Rattle.tt_run.proofs.Walked.{walked_in_order}
use Rattle.tt_run.specs.Outcomes.{HasCompleteHistory, IsFinished, IsTranscript, KeepsRows, Stands, rows_after}
use Rattle.tt_run.specs.Sessions.{AreInOrder}
use Rattle.tt_run.specs.Turns.{AreAllDone, HasReplies}

module _ (program : Script) (chronicle : Chronicle) (stands : Stands chronicle) (same : chronicle.program ≡ program) where
  pub completed : AreAllDone program (store_of chronicle) → HasCompleteHistory chronicle
  completed done =
      let counts = (stands_sound chronicle chronicle.kept stands.0 stands.1).sessions in
      record {
        legal = stands.1.legal;
        finished = subst (λ (p : Script). all_finished p (store_of chronicle) ≡ true) (sym same)
            (all_are_finished program (store_of chronicle) (counts ∙ ap (λ (p : Script). length p.sessions) same) done);
      }

  bags : BagsAreFormed built chronicle.program (rows_of chronicle) (store_of chronicle)
  bags =
      let run = stands.1.legal.run in
      subst (BagsAreFormed built chronicle.program (rows_of chronicle)) (sym (store_is built chronicle.program chronicle.history run stands.1.legal.replayed))
      (legal_bags built chronicle.program chronicle.history run (in_time chronicle chronicle.kept stands.0 stands.1) stands.1.legal.replayed stands.1.true_facts.removed)

  rows : KeepsRows chronicle
  rows before later number part parts first within at =
      let grown = rows_stay chronicle.program before later in
      kept_rows (store_of chronicle).tables (rows_of chronicle) (rows_after chronicle before) grown.0 number chronicle.kept.parts part stands.1.tables.parts
      (ap (λ (h : List Entry). contents_of built chronicle.program h) parts ∙ grown.1) first within at

  pub is_finished : AreAllDone program (store_of chronicle) → IsFinished program chronicle
  is_finished done = record {
    same_program = same;
    legal = stands.1.legal;
    complete = completed done;
    stands = stands;
    true_facts = stands.1.true_facts;
    true_parts = record { facts = stands.1.tables.facts; images = stands.1.tables.parts };
    bags = bags;
    rows = rows;
  }

  pub is_in_order : program.turns ≡ [] → AreInOrder program (length program.sessions) chronicle.history → IsSerialOrder built chronicle.program chronicle.history
  is_in_order none order =
      subst (λ (p : Script). IsSerialOrder built p chronicle.history) (sym same)
      (walked_in_order program chronicle.history (subst (λ (p : Script). IsLegal built p chronicle.history) same stands.1.legal) none order)

  pub are_replies : (replies : List Reply) → AreAllDone program (store_of chronicle) → HasReplies chronicle replies → AreReplies built chronicle.program chronicle.history replies
  are_replies replies done has = record { run = has.run; replayed = has.replayed; given = has.given; complete = completed done }

-- what is written down for these replies is the transcript
pub has_text : (chronicle : Chronicle) (script : Script) (entries : List Entry) (given replies : List Reply) (text : List ℕ) → script ≡ chronicle.program → entries ≡ chronicle.history → given ≡ replies → AreReplies built chronicle.program chronicle.history replies → HasText script entries given text → IsTranscript chronicle text
has_text chronicle script entries given replies text scripts histories all are has =
    let of_entries = subst (λ (h : List Entry). AreReplies built chronicle.program h given) (sym histories) (subst (AreReplies built chronicle.program chronicle.history) (sym all) are) in
    has built (subst (λ (p : Script). AreReplies built p entries given) (sym scripts) of_entries)
    ∙ (ap (λ (p : Script). transcript_of built p entries) scripts ∙ ap (λ (h : List Entry). transcript_of built chronicle.program h) histories)
