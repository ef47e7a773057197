-- What keeps a session isolated from entry to entry: its marks guard what is pending, also those that are left where its open
-- statement is given up.
use Rattle.std.specs.List.{list_any}
use Rattle.std.specs.Prelude.{List, None, Option, Some, [], true, ◌==◌, ◌≡◌, ◌≢◌}
use Rattle.tt_script.specs.declared.script.Script.{Script}
use Rattle.tt_history.specs.declared.history.Entry.{Entry}
use Rattle.tt_plain.specs.asked.Carried.{Carried}
use Rattle.tt_plain.specs.declared.store.Plain.{Plain}
use Rattle.tt_plain.specs.declared.store.PlainMark.{PlainMark}
use Rattle.tt_plain.specs.declared.store.PlainOpen.{PlainOpen}
use Rattle.tt_plain.specs.declared.store.PlainPending.{PlainPending}
use Rattle.tt_plain.specs.declared.store.PlainSession.{PlainSession}
use Rattle.tt_plain.specs.effect.Apply.{applied}
use Rattle.tt_plain.specs.effect.Effect.{Effect}
use Rattle.tt_plain.specs.history.Step.{effect_of}
use Rattle.tt_plain.specs.law.Isolated.{IsIsolated}
use Rattle.tt_plain.specs.law.Lists.{Every}
use Rattle.tt_plain.specs.law.Sound.{IsSound}
use Rattle.tt_plain.specs.opening.Marks.{is_exclusive_on}

-- the marks that stay where the open statement is given up: those before it began
abbrev pub marks_lasting : List PlainMark → Option PlainOpen → List PlainMark
marks_lasting marks None = marks
marks_lasting marks (Some seen) = seen.marks_before

abbrev pub lasting_marks : PlainSession → List PlainMark
lasting_marks state = marks_lasting state.marks state.running

-- a mark on the table of what is pending, and an exclusive one where anything is gone
abbrev pub IsGuardedBy : List PlainMark → PlainPending → Type 0
IsGuardedBy marks pending =
    (list_any (λ (mark : PlainMark). mark.table == pending.table) marks ≡ true)
    × (pending.gone ≢ [] → list_any (is_exclusive_on pending.table) marks ≡ true)

pub record IsGuarded (store : Plain) (state : PlainSession) : Type 0 where
  pub isolated : IsIsolated store state
  pub lasting : Every (IsGuardedBy (lasting_marks state)) state.pending

abbrev pub AreGuarded : Plain → Type 0
AreGuarded store = Every (IsGuarded store) store.sessions

-- the law: each entry keeps the guards
abbrev pub EntriesKeepGuards : Type 0
EntriesKeepGuards = (carried : Carried) (program : Script) (store : Plain) (entry : Entry) (effect : Effect) → IsSound carried program store →
    effect_of carried program store entry ≡ Some effect → AreGuarded store → AreGuarded (applied store effect)
