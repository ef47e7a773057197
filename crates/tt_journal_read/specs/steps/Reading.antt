-- No public clause cites these definitions. They say of each private function what it reads of its part of a line;
-- what is read of whole lines is said by `IsLineOf`.
use Rattle.std.specs.Cmp.Lexicographic.{pointwise}
use Rattle.std.specs.List.{list_all, slice_split}
use Rattle.std.specs.Option.{option_or}
use Rattle.std.specs.Prelude.{Bool, Err, List, None, Ok, Option, Result, Some, [], codes, if◌then◌else◌, length, map, nat_eq, nat_le, nat_lt, not, option_map, slice_index, true, ℕ, ⊤, ◌&&◌, ◌+◌, ◌==◌, ◌∷◌, ◌≡◌}
use Rattle.tt_script.specs.Bytes.{is_digit}
use Rattle.tt_script.specs.Lines.{decimal_value}
use Rattle.tt_script.specs.declared.script.Script.{Script}
use Rattle.tt_script.specs.declared.script.SessionText.{SessionText}
use Rattle.tt_history.specs.declared.history.Actor.{Actor}
use Rattle.tt_history.specs.declared.history.Added.{Added}
use Rattle.tt_history.specs.declared.history.Entry.{Entry}
use Rattle.tt_history.specs.declared.history.EntryKind.{EntryKind}
use Rattle.tt_history.specs.declared.history.Miss.{Miss}
use Rattle.tt_history.specs.declared.history.Told.{Told}
use Rattle.tt_script.specs.Lines.{only_if}
use Rattle.tt_plain.specs.Answers.{◌>>=◌}
use Rattle.tt_journal_read.specs.declared.JournalError.{JournalError}
use Rattle.tt_journal_read.specs.declared.reading.Front.{Front}
use Rattle.tt_history.specs.declared.history.Actor.TheVariants as actor
use Rattle.tt_journal_read.specs.declared.JournalError.TheVariants as error
use Rattle.tt_history.specs.declared.history.EntryKind.TheVariants as kind
use Rattle.tt_history.specs.declared.history.Miss.TheVariants as miss
use Rattle.tt_history.specs.declared.history.Told.TheVariants as told

-- what is found, or that nothing is; want of memory says nothing
abbrev pub Finds : {A : Type 0} → Option A → Result A JournalError → Type 0
Finds found (Ok x) = found ≡ Some x
Finds found (Err error.BadJournal) = found ≡ None
Finds found (Err error.Memory) = ⊤

-- ---- parts of a text

-- what stands in front of the first mark, and behind it, if there is one
unfoldable pub cut_of : ℕ → List ℕ → List ℕ × Option (List ℕ)
cut_of mark [] = ([], None)
cut_of mark (byte ∷ bytes) = if byte == mark then ([], Some bytes) else (byte ∷ (cut_of mark bytes).0, (cut_of mark bytes).1)

abbrev pub both_of : List ℕ × Option (List ℕ) → Option (List ℕ × List ℕ)
both_of parts = option_map (λ behind. (parts.0, behind)) parts.1

-- both sides of the first mark
abbrev pub parted : ℕ → List ℕ → Option (List ℕ × List ℕ)
parted mark bytes = both_of (cut_of mark bytes)

-- the fields of what stands behind a blank
abbrev pub fields_in : Option (List ℕ) → List (List ℕ)
fields_in None = []
fields_in (Some bytes) = slice_split (λ byte. byte == 32) bytes

-- what stands behind a sign in front
abbrev pub behind_of : ℕ → List ℕ → Option (List ℕ)
behind_of sign [] = None
behind_of sign (byte ∷ bytes) = if byte == sign then Some bytes else None

abbrev pub is_word : List ℕ → List ℕ → Bool
is_word word wanted = pointwise nat_eq word wanted

-- ---- numbers

abbrev pub widest : ℕ
widest = 18446744073709551615

-- the value of digits, if it is at most this
abbrev pub value_up_to : ℕ → List ℕ → Option ℕ
value_up_to most digits = only_if (list_all is_digit digits && nat_le (decimal_value digits) most) (decimal_value digits)

-- there is a digit, and a zero stands in front of no other
abbrev pub begins_number : List ℕ → Bool
begins_number digits = not (length digits == 0) && not (slice_index digits 0 == 48 && nat_lt 1 (length digits))

unfoldable pub number_up_to : ℕ → List ℕ → Option ℕ
number_up_to most digits = if begins_number digits then value_up_to most digits else None

-- a number behind a sign
abbrev pub signed_number : ℕ → List ℕ → Option ℕ
signed_number sign bytes = behind_of sign bytes >>= λ digits. number_up_to widest digits

-- ---- sessions

-- the first session of this name, where they are counted from here on
abbrev pub named_from : ℕ → List SessionText → List ℕ → Option ℕ
named_from place [] name = None
named_from place (lines ∷ sessions) name = if is_word lines.name name then Some place else named_from (place + 1) sessions name

unfoldable pub session_named : Script → List ℕ → Option ℕ
session_named program name = named_from 0 program.sessions name

unfoldable pub actor_of : Script → List ℕ → Option Actor
actor_of program name =
    if is_word name (codes "@recluster") then Some actor.Recluster else if is_word name (codes "@purge") then Some actor.Purge
    else option_map actor.Session (session_named program name)

-- ---- facts

-- a word, and what stands behind it
abbrev pub told_by : List ℕ × Option (List ℕ) → Option Told
told_by (word, None) = only_if (is_word word (codes "memory")) told.Memory
told_by (word, Some digits) = if is_word word (codes "refused") then option_map told.Refused (number_up_to 255 digits) else None

abbrev pub told_in : Option (List ℕ) → Option Told
told_in None = Some told.Done
told_in (Some facts) = told_by (cut_of 32 facts)

abbrev pub ascends_above : ℕ → List ℕ → Bool
ascends_above last [] = true
ascends_above last (n ∷ ns) = nat_lt last n && ascends_above n ns

unfoldable pub ascends : List ℕ → Bool
ascends [] = true
ascends (n ∷ ns) = ascends_above n ns

-- the numbers behind a minus in front of the other fields, and those fields
abbrev pub onto_gone : Option ℕ → List (List ℕ) → List ℕ × List (List ℕ) → List ℕ × List (List ℕ)
onto_gone None all later = ([], all)
onto_gone (Some number) all later = (number ∷ later.0, later.1)

unfoldable pub gone_of : List (List ℕ) → List ℕ × List (List ℕ)
gone_of [] = ([], [])
gone_of (field ∷ fields) = onto_gone (signed_number 45 field) (field ∷ fields) (gone_of fields)

abbrev pub IsGone : Option (List ℕ) → List ℕ → Option (List ℕ) → Type 0
IsGone facts numbers left = (numbers, fields_in left) ≡ gone_of (fields_in facts)

-- the part that a field adds
unfoldable pub added_by : List ℕ → Option Added
added_by field = do
  facts ← behind_of 43 field
  first ← parted 58 facts
  second ← parted 58 first.1
  number ← number_up_to widest first.0
  rows ← number_up_to 4294967295 second.0
  bytes ← number_up_to widest second.1
  Some (record { number = number; rows = rows; bytes = bytes })

unfoldable pub added_of : List (List ℕ) → Option (List Added)
added_of [] = Some []
added_of (field ∷ fields) = do
  part ← added_by field
  parts ← added_of fields
  Some (part ∷ parts)

abbrev pub numbers_ascend : List Added → Bool
numbers_ascend parts = ascends (map (λ (part : Added). part.number) parts)

-- the parts that are taken away, where nothing stands behind them
abbrev pub parts_by : List ℕ × List (List ℕ) → Option (List ℕ)
parts_by (parts, []) = only_if (ascends parts) parts
parts_by (parts, field ∷ fields) = None

abbrev pub parts_in : Option (List ℕ) → Option (List ℕ)
parts_in facts = parts_by (gone_of (fields_in facts))

-- the parts that are taken away, and behind them those that are added
abbrev pub change_by : List ℕ × List (List ℕ) → Option (List ℕ × List Added)
change_by read = do
  added ← added_of read.1
  only_if (ascends read.0 && numbers_ascend added) (read.0, added)

abbrev pub change_in : Option (List ℕ) → Option (List ℕ × List Added)
change_in facts = change_by (gone_of (fields_in facts))

abbrev pub numbers_by : List ℕ × Option (List ℕ) → Option (List ℕ)
numbers_by (first, None) = option_map (λ a. a ∷ []) (number_up_to widest first)
numbers_by (first, Some second) = do
  a ← number_up_to widest first
  b ← number_up_to widest second
  Some (a ∷ b ∷ [])

abbrev pub reported_by : List ℕ × Option (List ℕ) → Option (Told × List ℕ)
reported_by facts = option_or (option_map (λ how. (how, [])) (told_by facts)) (option_map (λ numbers. (told.Done, numbers)) (numbers_by facts))

abbrev pub report_in : Option (List ℕ) → Option (Told × List ℕ)
report_in None = Some (told.Done, [])
report_in (Some facts) = reported_by (cut_of 32 facts)

-- why a round changed nothing
abbrev pub cause_of : List ℕ → Option Miss
cause_of word =
    if is_word word (codes "dropped") then Some miss.Dropped else if is_word word (codes "suspended") then Some miss.Suspended
    else only_if (is_word word (codes "memory")) miss.Memory

abbrev pub cause_by : Script → List ℕ × Option (List ℕ) → Option Miss
cause_by program (word, None) = cause_of word
cause_by program (word, Some fact) =
    if is_word word (codes "held") then option_map miss.Held (session_named program fact)
    else if is_word word (codes "gone") then option_map miss.Gone (number_up_to widest fact) else None

-- ---- kinds

abbrev pub failure_in : Told → Option Told
failure_in told.Done = None
failure_in (told.Refused number) = Some (told.Refused number)
failure_in told.Memory = Some told.Memory

abbrev pub unrefused_in : Told → Option Told
unrefused_in told.Done = Some told.Done
unrefused_in (told.Refused number) = None
unrefused_in told.Memory = Some told.Memory

-- a kind of which only the call is told, or nothing
unfoldable pub told_kind : List ℕ → Told → Option EntryKind
told_kind word how =
    if is_word word (codes "begin") then Some (kind.Begin how) else if is_word word (codes "start") then Some (kind.Start how)
    else if is_word word (codes "commit") then option_map kind.Commit (unrefused_in how)
    else if is_word word (codes "define") then Some (kind.Define how) else if is_word word (codes "wait") then Some (kind.Wait how)
    else if is_word word (codes "abandon") then option_map kind.Abandon (failure_in how) else None

unfoldable pub bare_kind : List ℕ → Option EntryKind
bare_kind word = if is_word word (codes "rollback") then Some kind.Rollback else only_if (is_word word (codes "close")) kind.Close

-- the number of a table, and what stands behind it
abbrev pub table_of : List ℕ → Option ℕ
table_of field = number_up_to 4294967295 field

abbrev pub round_by : List ℕ × Option (List ℕ) → Option EntryKind
round_by facts = do
  table ← table_of facts.0
  parts ← parts_in facts.1
  Some (kind.RecluStart table parts)

abbrev pub landing_by : List ℕ × Option (List ℕ) → Option EntryKind
landing_by facts = do
  table ← table_of facts.0
  change ← change_in facts.1
  Some (kind.RecluEnd table change.0 change.1)

abbrev pub miss_by : Script → List ℕ × Option (List ℕ) → Option EntryKind
miss_by program facts = do
  table ← table_of facts.0
  text ← facts.1
  why ← cause_by program (cut_of 32 text)
  Some (kind.RecluMiss table why)

-- a kind of which more is told
unfoldable pub fact_kind : Script → List ℕ → List ℕ → Option EntryKind
fact_kind program word facts =
    if is_word word (codes "recluster") then round_by (cut_of 32 facts) else if is_word word (codes "landed") then landing_by (cut_of 32 facts)
    else if is_word word (codes "missed") then miss_by program (cut_of 32 facts) else None

abbrev pub facts_kind : Script → List ℕ → Option (List ℕ) → Option EntryKind
facts_kind program word None = bare_kind word
facts_kind program word (Some facts) = fact_kind program word facts

abbrev pub told_kind_in : List ℕ → Option (List ℕ) → Option EntryKind
told_kind_in word facts = told_in facts >>= told_kind word

abbrev pub end_in : Option (List ℕ) → Option EntryKind
end_in facts = option_map (λ change. kind.End change.0 change.1) (change_in facts)

abbrev pub purge_in : Option (List ℕ) → Option EntryKind
purge_in facts = option_map kind.Purge (parts_in facts)

abbrev pub report_kind : Option (List ℕ) → Option EntryKind
report_kind facts = option_map (λ report. kind.Report report.0 report.1) (report_in facts)

unfoldable pub kind_by : Script → List ℕ × Option (List ℕ) → Option EntryKind
kind_by program text =
    if is_word text.0 (codes "end") then end_in text.1 else if is_word text.0 (codes "purge") then purge_in text.1
    else if is_word text.0 (codes "report") then report_kind text.1
    else option_or (told_kind_in text.0 text.1) (facts_kind program text.0 text.1)

-- ---- lines

-- moment, actor and index, and the text from the word on
unfoldable pub head_of : Script → List ℕ → Option (ℕ × Actor × ℕ × List ℕ)
head_of program body = do
  first ← parted 32 body
  second ← parted 32 first.1
  third ← parted 32 second.1
  moment ← signed_number 64 first.0
  actor ← actor_of program second.0
  index ← number_up_to widest third.0
  Some (moment, actor, index, third.1)

abbrev pub front_parts : Front → ℕ × Actor × ℕ × List ℕ
front_parts front = (front.moment, front.actor, front.index, front.text.now)

unfoldable pub entry_in : Script → List ℕ → Option Entry
entry_in program body = do
  head ← head_of program body
  kind ← kind_by program (cut_of 32 head.3)
  Some (record { moment = head.0; actor = head.1; index = head.2; kind = kind })

-- what stands in front of the line feed at the end
unfoldable pub body_of : List ℕ → Option (List ℕ)
body_of [] = None
body_of (byte ∷ []) = if byte == 10 then Some [] else None
body_of (byte ∷ next ∷ bytes) = option_map (λ body. byte ∷ body) (body_of (next ∷ bytes))

unfoldable pub entry_on : Script → List ℕ → Option Entry
entry_on program line = body_of line >>= entry_in program
