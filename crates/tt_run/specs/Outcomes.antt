-- What a run leaves: a catalog that stands for a legal and complete history of its program, and the transcript of it.
use Rattle.std.specs.Prelude.{List, Some, length, map, ℕ, ◌++◌, ◌≡◌, ◌≤◌}
use Rattle.tt_value.specs.declared.value.Row.{Row}
use Rattle.tt_script.specs.declared.script.Script.{Script}
use Rattle.tt_history.specs.declared.history.Entry.{Entry}
use Rattle.tt_plain.specs.history.Complete.{IsComplete}
use Rattle.tt_plain.specs.history.Contents.{contents_of, rows_numbered}
use Rattle.tt_plain.specs.history.Replay.{IsLegal}
use Rattle.tt_plain.specs.history.TrueFacts.{HasTrueFacts}
use Rattle.tt_plain.specs.law.Bag.{BagsAreFormed}
use Rattle.tt_plain.specs.serial.Order.{IsSerialOrder}
use Rattle.tt_plain.specs.tally.Facts.{facts_of_part, stored_parts}
use Rattle.tt_plain.specs.text.Transcript.{transcript_of}
use Rattle.tt_built.specs.Built.{built}
use Rattle.tt_state.specs.Chronicle.{Chronicle, rows_of, store_of}
use Rattle.tt_state.specs.Keeps.{AreTrueParts, StandsFor}
use Rattle.tt_state.specs.Kept.{stored_at}
use Rattle.tt_state.specs.declared.part.StoredPart.{StoredPart}

-- each entry is allowed after those before it
abbrev pub HasLegalHistory : Chronicle → Type 0
HasLegalHistory chronicle = IsLegal built chronicle.program chronicle.history

-- and none is left to make
abbrev pub HasCompleteHistory : Chronicle → Type 0
HasCompleteHistory chronicle = IsComplete built chronicle.program chronicle.history

-- each session's entries stand together, session after session
abbrev pub IsInOrder : Chronicle → Type 0
IsInOrder chronicle = IsSerialOrder built chronicle.program chronicle.history

-- what the catalog keeps stands for its program and its history
abbrev pub Stands : Chronicle → Type 0
Stands chronicle = (room : ℕ) × StandsFor chronicle chronicle.kept room

-- Parts are cut at the catalog's length, and each end of a change removes just the parts that it touches.
abbrev pub TellsTrueFacts : Chronicle → Type 0
TellsTrueFacts chronicle = HasTrueFacts built chronicle.program chronicle.cap chronicle.history

-- The facts of the parts that are stored are those of the history. Each part is that of its contents, for the kinds of its table:
-- its rows are counted, and its bytes are those of its image.
pub record StoresTrueParts (chronicle : Chronicle) : Type 0 where
  pub facts : map (λ (part : StoredPart). part.facts) chronicle.kept.parts ≡ map facts_of_part (stored_parts (store_of chronicle).tally)
  pub images : AreTrueParts (store_of chronicle).tables (rows_of chronicle) 1 chronicle.kept.parts

-- the contents of the parts form the rows of each version, at each moment, and what each session sees
abbrev pub FormsBags : Chronicle → Type 0
FormsBags chronicle = BagsAreFormed built chronicle.program (rows_of chronicle) (store_of chronicle)

-- the rows of each part that some of its first entries have added
abbrev pub rows_after : Chronicle → List Entry → List (List Row)
rows_after chronicle before = contents_of built chronicle.program before

-- A part that is stored has the rows that it was added with, however the history has gone on.
abbrev pub KeepsRows : Chronicle → Type 0
KeepsRows chronicle = (before later : List Entry) (number : ℕ) (part : StoredPart) → chronicle.history ≡ before ++ later →
    1 ≤ number → number ≤ length (rows_after chronicle before) → stored_at chronicle.kept.parts number ≡ Some part →
    part.part.rows ≡ rows_numbered (rows_after chronicle before) number

-- the catalog of a program whose statements have all had their last entry
pub record IsFinished (program : Script) (chronicle : Chronicle) : Type 0 where
  pub same_program : chronicle.program ≡ program
  pub legal : HasLegalHistory chronicle
  pub complete : HasCompleteHistory chronicle
  pub stands : Stands chronicle
  pub true_facts : TellsTrueFacts chronicle
  pub true_parts : StoresTrueParts chronicle
  pub bags : FormsBags chronicle
  pub rows : KeepsRows chronicle

-- the text of its history
abbrev pub text_of : Chronicle → List ℕ
text_of chronicle = transcript_of built chronicle.program chronicle.history

-- the bytes are its transcript
abbrev pub IsTranscript : Chronicle → List ℕ → Type 0
IsTranscript chronicle bytes = bytes ≡ text_of chronicle
