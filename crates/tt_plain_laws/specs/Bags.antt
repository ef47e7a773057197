-- The bag law, within the moments that regimes have.
use Rattle.std.specs.Prelude.{List, Some, ◌≡◌}
use Rattle.tt_script.specs.declared.script.Script.{Script}
use Rattle.tt_history.specs.declared.history.Entry.{Entry}
use Rattle.tt_plain.specs.asked.Carried.{Carried}
use Rattle.tt_plain.specs.history.Contents.{contents_of}
use Rattle.tt_plain.specs.history.Replay.{Run, replay_of}
use Rattle.tt_plain.specs.history.TrueFacts.{EachRemovesTouched}
use Rattle.tt_plain.specs.law.Bag.{BagsAreFormed}
use Rattle.tt_plain.specs.law.Sound.{IsInTime}

-- the contents of the parts form the bags of the store: at each moment, for each session, and for each open statement
abbrev pub LegalFormsBags : Type 0
LegalFormsBags = (carried : Carried) (program : Script) (history : List Entry) (run : Run) → IsInTime program history →
    replay_of carried program history ≡ Some run → EachRemovesTouched carried program history →
    BagsAreFormed carried program (contents_of carried program history) run.0
