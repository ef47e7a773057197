-- Each part that is named is stored, and so is each that an open transaction removes. The law is to be proved.
use Rattle.std.specs.Prelude.{List, Some, true, ℕ, ◌≡◌}
use Rattle.tt_history.specs.declared.history.Entry.{Entry}
use Rattle.tt_plain.specs.asked.Carried.{Carried}
use Rattle.tt_plain.specs.declared.store.Plain.{Plain}
use Rattle.tt_plain.specs.declared.tally.Tally.{Tally}
use Rattle.tt_plain.specs.declared.tally.TallyPending.{TallyPending}
use Rattle.tt_plain.specs.history.Replay.{Run, replay_of}
use Rattle.tt_plain.specs.law.Lists.{Every}
use Rattle.tt_plain.specs.law.Sound.{IsInTime}
use Rattle.tt_plain.specs.tally.Facts.{is_named_at}
use Rattle.tt_plain.specs.tally.Parts.{is_stored}
use Rattle.tt_script.specs.declared.script.Script.{Script}

abbrev pub AreStored : Tally → List ℕ → Type 0
AreStored tally numbers = Every (λ number. is_stored tally number ≡ true) numbers

-- pins, the parts of the open round and the added ones are named
pub record IsStocked (store : Plain) : Type 0 where
  pub named : (number : ℕ) → is_named_at store store.moment number ≡ true → is_stored store.tally number ≡ true
  pub gone : Every (λ (lists : TallyPending). AreStored store.tally lists.gone) store.tally.pending

abbrev pub LegalIsStocked : Type 0
LegalIsStocked = (carried : Carried) (program : Script) (history : List Entry) (run : Run) → IsInTime program history →
    replay_of carried program history ≡ Some run → IsStocked run.0
