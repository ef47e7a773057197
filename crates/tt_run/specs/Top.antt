-- The statuses of the top call and their causes.
use Rattle.std.specs.Prelude.{◌≡◌, ◌<◌, ◌↔◌, IsSome, ◌⊎◌, ◌+◌, ◌-◌, ℕ, Bool, List, length, map, take, string_bytes, String, Option, IfSome, Result, Ok, Err, nat_lt, if◌then◌else◌, ⊤}
use Rattle.tt_edge.specs.Outside.{LosesFront, RoseByMore}
use Rattle.tt_script.specs.declared.script.Script.{Script}
use Rattle.tt_script.specs.Script.{answer_of}
use Rattle.tt_state.specs.Chronicle.{Chronicle}
use Rattle.tt_run.specs.Words.{are_replay_words, partition_rows_of}
use Rattle.tt_run.specs.declared.top.Outcome.{Outcome}
use Rattle.tt_run.specs.declared.top.Status.{Status}
use Rattle.tt_run.specs.declared.top.Status.TheVariants as status

-- the number with which the program ends
abbrev pub number_of : Status → ℕ
number_of status.Ok = 0
number_of status.BadWords = 2
number_of (status.BadInput place) = 3
number_of status.ReadFault = 4
number_of status.WriteFault = 5
number_of status.OutOfMemory = 6
number_of status.TooLong = 7

-- the most bytes of an input
abbrev pub longest_input : ℕ
longest_input = 67108864

-- the status that a script asks for, or the place of its first faulty line
abbrev pub answer_status : Result Script ℕ → Status
answer_status (Ok script) = status.Ok
answer_status (Err place) = status.BadInput place

-- the status that the bytes of an input ask for
abbrev pub input_status : List ℕ → Status
input_status input = if nat_lt longest_input (length input) then status.TooLong else answer_status (answer_of input)

-- the status that is due where memory is found and no read or write fails
abbrev pub due_status : List (List ℕ) → List ℕ → Status
due_status words input = if are_replay_words words then input_status input else status.BadWords

-- a status is the one that is due, or what may come before it: want of memory, a failed read, or a failed write where Ok is due
abbrev pub IsDue : Status → Status → Type 0
IsDue due status.ReadFault = ⊤
IsDue due status.OutOfMemory = ⊤
IsDue due status.WriteFault = due ≡ status.Ok
IsDue due given = given ≡ due

-- a status is the one that is due, or want of memory
abbrev pub IsDueOrMemory : Status → Status → Type 0
IsDueOrMemory due given = (given ≡ due) ⊎ (given ≡ status.OutOfMemory)

-- the bytes that a source has left are the text of this script, or of none, with the first faulty line at this place
abbrev pub IsScriptOf : Option (List ℕ) → Script → Type 0
IsScriptOf left program = IfSome left (λ bytes. answer_of bytes ≡ Ok program)

abbrev pub IsFaultOf : Option (List ℕ) → ℕ → Type 0
IsFaultOf left place = IfSome left (λ bytes. answer_of bytes ≡ Err place)

-- at want of memory there is a store exactly where the sink's count of bytes rose
abbrev pub HasStoreWhereWritten : Outcome → ℕ → ℕ → Type 0
HasStoreWhereWritten outcome before now = outcome.status ≡ status.OutOfMemory → (IsSome outcome.store ↔ (before < now))

-- the bytes that a source gave: as many as its count rose by, and where it told what it had left, those that it lost from the front
pub record WasGiven (left : Option (List ℕ)) (before now : ℕ) (input : List ℕ) : Type 0 where
  pub counted : now ≡ before + length input
  pub lost : IfSome left (λ bytes. input ≡ take (length input) bytes)

-- the status that was due is one for which the whole input is read: a fact of it
abbrev pub IfWholeInput : Status → (Status → Type 0) → Type 0
IfWholeInput status.Ok P = P status.Ok
IfWholeInput status.WriteFault P = P status.Ok
IfWholeInput (status.BadInput place) P = P (status.BadInput place)
IfWholeInput other P = ⊤

-- the bytes that a source gave ask for this status
abbrev pub GaveFor : Option (List ℕ) → ℕ → ℕ → Status → Type 0
GaveFor left before now due = (input : List ℕ) × WasGiven left before now input × (input_status input ≡ due)

-- a fact of the place of a bad input
abbrev pub IfBadInput : Status → (ℕ → Type 0) → Type 0
IfBadInput (status.BadInput place) P = P place
IfBadInput other P = ⊤

-- what may end the call before its run is done
abbrev pub IsEarly : Status → Type 0
IsEarly status.Ok = ⊥
IsEarly status.BadWords = ⊥
IsEarly (status.BadInput place) = ⊤
IsEarly status.ReadFault = ⊤
IsEarly status.WriteFault = ⊥
IsEarly status.OutOfMemory = ⊤
IsEarly status.TooLong = ⊤

-- what may come once the run is done
abbrev pub IsLate : Status → Type 0
IsLate status.Ok = ⊤
IsLate status.BadWords = ⊥
IsLate (status.BadInput place) = ⊥
IsLate status.ReadFault = ⊥
IsLate status.WriteFault = ⊤
IsLate status.OutOfMemory = ⊤
IsLate status.TooLong = ⊥

-- ---- the same of the program's words

abbrev pub rows_wanted : {A : Type 0} → List (String A) → Option ℕ
rows_wanted words = partition_rows_of (map string_bytes words)

abbrev pub are_right : {A : Type 0} → List (String A) → Bool
are_right words = are_replay_words (map string_bytes words)

abbrev pub status_for : {A : Type 0} → List (String A) → List ℕ → Status
status_for words input = due_status (map string_bytes words) input

-- ---- the same of what a source is read to: what it has left and what it gave, before and after

abbrev pub IsRightInput : List ℕ → Type 0
IsRightInput input = input_status input ≡ status.Ok

abbrev pub OnBadInput : Type 0 → Status → Type 0
OnBadInput fact given = IfBadInput given (λ _. fact)

abbrev pub GaveTooMuch : {S : Type 0} → (S → ℕ) → S → S → Type 0
GaveTooMuch given old new = RoseByMore given old new longest_input

abbrev pub GaveText : {S : Type 0} → (S → Option (List ℕ)) → (S → ℕ) → S → S → List ℕ → Type 0
GaveText left given old new text = WasGiven (left old) (given old) (given new) text

abbrev pub HasGivenText : {S : Type 0} → (S → Option (List ℕ)) → (S → ℕ) → S → S → Chronicle → Type 0
HasGivenText left given old new store = GaveText left given old new store.program.text

abbrev pub GaveWhole : {S : Type 0} → (S → Option (List ℕ)) → (S → ℕ) → S → S → Status → Type 0
GaveWhole left given old new due = GaveFor (left old) (given old) (given new) due

abbrev pub IsDueToWhole : {S : Type 0} → (S → Option (List ℕ)) → (S → ℕ) → S → S → Status → Type 0
IsDueToWhole left given old new status = IfWholeInput status (GaveWhole left given old new)

abbrev pub LosesWhatItGave : {S : Type 0} → (S → Option (List ℕ)) → (S → ℕ) → S → S → Type 0
LosesWhatItGave left given old new = LosesFront (left old) (left new) (given new - given old)
