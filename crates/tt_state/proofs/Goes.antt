-- A catalog goes on by an entry.
use Rattle.std.specs.Prelude.{Bool, List, None, Option, Some, [], filter, if◌then◌else◌, is_some, length, map, refl, slice_get, slice_set, unwrap_or, ℕ, ◌++◌, ◌+◌, ◌<◌, ◌==◌, ◌∷◌, ◌≡◌, ◌≢◌, true, false, ◌≤◌}
use Rattle.std.proofs.Common.{ap, arith, subst, sym, ◌∙◌}
use Rattle.std.proofs.lemmas.Bool.{false≢true}
use Rattle.std.proofs.lemmas.List.{length_push}
use Rattle.std.proofs.lemmas.Option.{none-some, same_Some}
use Rattle.tt_value.specs.declared.value.Row.{Row}
use Rattle.tt_script.specs.declared.script.Script.{Script}
use Rattle.tt_script.specs.declared.script.SessionText.{SessionText}
use Rattle.tt_history.specs.declared.history.Entry.{Entry}
use Rattle.tt_history.specs.declared.reply.Reply.{Reply}
use Rattle.tt_plain.specs.declared.store.Plain.{Plain}
use Rattle.tt_plain.specs.declared.store.PlainSession.{PlainSession}
use Rattle.tt_plain.specs.declared.store.PlainTable.{PlainTable}
use Rattle.tt_plain.specs.declared.tally.Tally.{Tally}
use Rattle.tt_plain.specs.history.Contents.{contents_with}
use Rattle.tt_plain.specs.history.Step.{step_of}
use Rattle.tt_plain.specs.law.Bag.{pins_of}
use Rattle.tt_plain.specs.law.Lists.{Every}
use Rattle.tt_plain.proofs.Tests.{same_number, same_test}
use Rattle.tt_plain.specs.declared.tally.TallyPart.{TallyPart}
use Rattle.tt_plain.specs.tally.Facts.{facts_of_part}
use Rattle.tt_marks.specs.Marks.{marks_of}
use Rattle.tt_marks.specs.declared.mark.Mark.{Mark}
use Rattle.tt_state.specs.declared.part.StoredPart.{StoredPart}
use Rattle.tt_state.specs.declared.state.SessionState.{SessionState}
use Rattle.tt_state.specs.declared.state.TableState.{TableState}
use Rattle.tt_plain.specs.stored.Sessions.{new_session, session_at}
use Rattle.tt_plain.proofs.law.Lists.{every-set}
use Rattle.tt_built.specs.Built.{built}
use Rattle.tt_state.proofs.Histories.{contents_longer, replay_longer, store_is, store_longer}
use Rattle.tt_state.proofs.Lists.{map_set, set_other, set_same}
use Rattle.tt_state.proofs.Owed.{fewer_owed, one_less_owed, owed-set}
use Rattle.tt_state.proofs.TrueFacts.{IsTrueEntry, facts_longer}
use Rattle.tt_state.proofs.Turns.{IsTurn}
use Rattle.tt_state.specs.Chronicle.{Chronicle, KeepsParts, MadeEntry, rows_of, store_of}
use Rattle.tt_state.specs.Keeps.{AreMarks, AreNames, AreTrueParts, HasKeptParts, IdlePinNothing, KeepsSessions, KeepsTables, StandsFor, mark_of, session_of, table_of}
use Rattle.tt_state.specs.Kept.{Kept, stored_at}
use Rattle.tt_state.specs.Owed.{owed, owed_by}

-- fewer entries are owed after one of a session, and what it says of parts is true
pub record GoesOn (chronicle : Chronicle) (kept now : Kept) (entry : Entry) (next : Plain) (told : Option Reply) : Type 0 where
  pub step : step_of built chronicle.program (store_of chronicle) entry ≡ Some (next, told)
  pub less : owed chronicle.program.sessions next.sessions < owed chronicle.program.sessions (store_of chronicle).sessions
  pub few : length next.tables ≤ length (store_of chronicle).tables + 1
  pub true_entry : IsTrueEntry built chronicle.program chronicle.cap (rows_of chronicle) (store_of chronicle) entry
  pub tables : KeepsTables next.tables next.tally (contents_with built chronicle.program (rows_of chronicle) (store_of chronicle, entry)) now
  pub sessions : KeepsSessions next now
  pub parts : KeepsParts kept.parts now.parts

abbrev pub with_history : Chronicle → List Entry → Kept → Chronicle
with_history chronicle history now = record { program = chronicle.program; cap = chronicle.cap; history = history; kept = now }

longer_stands : (chronicle : Chronicle) (kept now : Kept) (room left : ℕ) (entry : Entry) (next : Plain) (told : Option Reply) → StandsFor chronicle kept room → GoesOn chronicle kept now entry next told → left + 1 ≡ room
    → StandsFor (with_history chronicle (chronicle.history ++ entry ∷ []) now) now left
longer_stands chronicle kept now room left entry next told stands goes room_is =
    let run = stands.legal.run in
    let store = store_is built chronicle.program chronicle.history run stands.legal.replayed in
    let here : step_of built chronicle.program run.0 entry ≡ Some (next, told) = ap (λ s. step_of built chronicle.program s entry) (sym store) ∙ goes.step in
    let after = store_longer built chronicle.program chronicle.history entry (next, told) goes.step in
    let rows = contents_longer built chronicle.program chronicle.history entry in
    record {
      legal = record { run = (next, run.1 ++ told ∷ []); replayed = replay_longer built chronicle.program chronicle.history entry run (next, told) stands.legal.replayed here };
      true_facts = facts_longer built chronicle.program chronicle.cap chronicle.history entry stands.true_facts goes.true_entry;
      tables = subst (λ (contents : List (List Row)). KeepsTables (store_of (with_history chronicle (chronicle.history ++ entry ∷ []) now)).tables (store_of (with_history chronicle (chronicle.history ++ entry ∷ []) now)).tally contents now) (sym rows)
          (subst (λ (s : Plain). KeepsTables s.tables s.tally (contents_with built chronicle.program (rows_of chronicle) (store_of chronicle, entry)) now) (sym after) goes.tables);
      sessions = subst (λ (s : Plain). KeepsSessions s now) (sym after) goes.sessions;
      limits = stands.limits;
      capped = stands.capped;
      few = omega (arith, stands.few, goes.few, length_push chronicle.history entry, ap (λ (s : Plain). length s.tables) after);
      counted = omega (arith, stands.counted, goes.less, length_push chronicle.history entry, ap (λ (s : Plain). owed chronicle.program.sessions s.sessions) after);
      roomy = omega (arith, stands.roomy, goes.less, room_is, ap (λ (s : Plain). owed chronicle.program.sessions s.sessions) after);
    }

pub goes_on : (chronicle : Chronicle) (kept now : Kept) (room left : ℕ) (entry : Entry) (next : Plain) (told : Option Reply) (history : List Entry) → StandsFor chronicle kept room → GoesOn chronicle kept now entry next told
    → history ≡ chronicle.history ++ entry ∷ [] → left + 1 ≡ room → StandsFor (with_history chronicle history now) now left
goes_on chronicle kept now room left entry next told history stands goes longer room_is =
    subst (λ (h : List Entry). StandsFor (with_history chronicle h now) now left) (sym longer) (longer_stands chronicle kept now room left entry next told stands goes room_is)

pub made : (chronicle : Chronicle) (now : Kept) (entry : Entry) (next : Plain) (told : Option Reply) (history : List Entry) → GoesOn chronicle chronicle.kept now entry next told
    → history ≡ chronicle.history ++ entry ∷ [] → MadeEntry chronicle (with_history chronicle history now) entry told
made chronicle now entry next told history goes longer = record {
  same_program = refl;
  same_cap = refl;
  longer = longer;
  parts = goes.parts;
  step = goes.step ∙ ap (λ (s : Plain). Some (s, told)) (sym (ap (λ (h : List Entry). store_of (with_history chronicle h now)) longer ∙ store_longer built chronicle.program chronicle.history entry (next, told) goes.step));
}

-- there is room for an entry that is made
pub has_room : (chronicle : Chronicle) (kept now : Kept) (room : ℕ) (entry : Entry) (next : Plain) (told : Option Reply) → StandsFor chronicle kept room → GoesOn chronicle kept now entry next told → 0 < room
has_room chronicle kept now room entry next told stands goes = omega (arith, goes.less, stands.roomy)

-- ---- a session changed

module _ (program : Script) (store next : Plain) (session index : ℕ) (lines : SessionText) (state new : PlainSession) (turn : IsTurn program store session index lines state) (set : next.sessions ≡ slice_set store.sessions session new) where
  less_by : owed_by lines new < owed_by lines state → owed program.sessions next.sessions < owed program.sessions store.sessions
  less_by fewer =
      omega (arith, fewer, ap (owed program.sessions) set, owed-set program.sessions store.sessions session lines state new turn.lines_are turn.state_is)

  pub ended_less : new.running ≡ None → new.done ≡ index → owed program.sessions next.sessions < owed program.sessions store.sessions
  ended_less idle done = less_by (fewer_owed lines state new idle (done ∙ turn.counted) turn.within)

  pub begun_less : state.running ≡ None → is_some new.running ≡ true → new.done ≡ state.done → owed program.sessions next.sessions < owed program.sessions store.sessions
  begun_less idle opened done = less_by (one_less_owed lines state new idle opened done)

  -- each session has its own state
  at_own : session_at next session ≡ new
  at_own = ap (λ (ss : List PlainSession). unwrap_or (slice_get ss session) new_session) set ∙ ap (λ (o : Option PlainSession). unwrap_or o new_session) (set_same store.sessions session new state turn.state_is)

  at_other : (other : ℕ) → other ≢ session → session_at next other ≡ session_at store other
  at_other other ne = ap (λ (ss : List PlainSession). unwrap_or (slice_get ss other) new_session) set ∙ ap (λ (o : Option PlainSession). unwrap_or o new_session) (set_other store.sessions session other new ne)

  at_before : session_at store session ≡ state
  at_before = ap (λ (o : Option PlainSession). unwrap_or o new_session) turn.state_is

  -- marks by sessions: the session's own are given, and those of the others stay
  pub marks_now : (old marks : List Mark) → AreMarks store old → marks_of session marks ≡ map (mark_of session) new.marks → ((other : ℕ) → other ≢ session → marks_of other marks ≡ marks_of other old) → AreMarks next marks
  marks_now old marks are own others other = by (other == session) refl
    where
      by : (b : Bool) → (other == session) ≡ b → marks_of other marks ≡ map (mark_of other) (session_at next other).marks
      by true e =
          let is : other ≡ session = same_number other session e in
          subst (λ (s : ℕ). marks_of s marks ≡ map (mark_of s) (session_at next s).marks) (sym is) (own ∙ ap (λ (s : PlainSession). map (mark_of session) s.marks) (sym at_own))
      by false e =
          let ne : other ≢ session = λ is. false≢true (sym e ∙ ap (λ (s : ℕ). s == session) is ∙ same_test session) in
          others other ne ∙ are other ∙ ap (λ (s : PlainSession). map (mark_of other) s.marks) (sym (at_other other ne))

  pub same_marks : (marks : List Mark) → AreMarks store marks → new.marks ≡ state.marks → AreMarks next marks
  same_marks marks are same =
      marks_now marks marks are (are session ∙ ap (λ (s : PlainSession). map (mark_of session) s.marks) at_before ∙ ap (map (mark_of session)) (sym same)) (λ other ne. refl)

  -- what is pinned stays so, where nobody else's pins change and the session's go if it has no open statement
  pub idle_now : IdlePinNothing store → (new.running ≡ None → pins_of next.tally session ≡ []) → ((other : ℕ) → other ≢ session → pins_of next.tally other ≡ pins_of store.tally other) → IdlePinNothing next
  idle_now idle own others other found at none = by (other == session) refl
    where
      by : (b : Bool) → (other == session) ≡ b → pins_of next.tally other ≡ []
      by true e =
          let is : other ≡ session = same_number other session e in
          let here : slice_get next.sessions session ≡ Some new = ap (λ (ss : List PlainSession). slice_get ss session) set ∙ set_same store.sessions session new state turn.state_is in
          let same : new ≡ found = same_Some new found (sym here ∙ ap (λ s. slice_get next.sessions s) (sym is) ∙ at) in
          ap (pins_of next.tally) is ∙ own (ap (λ (s : PlainSession). s.running) same ∙ none)
      by false e =
          let ne : other ≢ session = λ is. false≢true (sym e ∙ ap (λ (s : ℕ). s == session) is ∙ same_test session) in
          others other ne ∙ idle other found (sym (ap (λ (ss : List PlainSession). slice_get ss other) set ∙ set_other store.sessions session other new ne) ∙ at) none

  pub sessions_now : (sessions : List SessionState) → sessions ≡ map session_of store.sessions → slice_set sessions session (session_of new) ≡ map session_of next.sessions
  sessions_now sessions are = ap (λ ss. slice_set ss session (session_of new)) are ∙ sym (map_set session_of store.sessions session new) ∙ ap (map session_of) (sym set)

  pub alone_now : Every (λ (s : PlainSession). s.transaction ≡ false) store.sessions → new.transaction ≡ false → Every (λ (s : PlainSession). s.transaction ≡ false) next.sessions
  alone_now all here = subst (Every (λ (s : PlainSession). s.transaction ≡ false)) (sym set) (every-set (λ (s : PlainSession). s.transaction ≡ false) store.sessions session new all here)

-- ---- tables as they were

pub tables_stay : (tables : List PlainTable) (old new : Tally) (contents now_contents : List (List Row)) (kept now : Kept) → KeepsTables tables old contents kept → new.layouts ≡ old.layouts → new.parts ≡ old.parts → now_contents ≡ contents
    → now.tables ≡ kept.tables → now.names ≡ kept.names → now.parts ≡ kept.parts → KeepsTables tables new now_contents now
tables_stay tables old new contents now_contents kept now keeps layouts parts same t n p = record {
  tables = t ∙ keeps.tables ∙ ap (λ ls. map (table_of (record old { layouts = ls })) tables) (sym layouts);
  names = subst (AreNames tables) (sym n) keeps.names;
  facts = ap (map (λ (part : StoredPart). part.facts)) p ∙ keeps.facts ∙ ap (λ ps. map facts_of_part (filter (λ (part : TallyPart). part.stored) ps)) (sym parts);
  whole = ap (filter (λ (part : TallyPart). part.stored)) parts ∙ keeps.whole ∙ sym parts;
  parts = subst (AreTrueParts tables now_contents 1) (sym p) (subst (λ cs. AreTrueParts tables cs 1 kept.parts) (sym same) keeps.parts);
  contents = ap (λ (cs : List (List Row)). length cs) same ∙ keeps.contents ∙ ap (λ (ps : List StoredPart). length ps) (sym p);
  layouts = subst (λ (ts : List TableState). Every (HasKeptParts now.parts) ts) (sym t) (subst (λ (ps : List StoredPart). Every (HasKeptParts ps) kept.tables) (sym p) keeps.layouts);
}

-- ---- stored parts

-- where parts are added behind, those before are the same
pub added_behind : (old added : List StoredPart) → KeepsParts old (old ++ added)
added_behind [] added number part now is later = absurd (none-some part is)
added_behind (first ∷ old) added number part now is later = by (first.facts.number == number) (added_behind old added number part now) is later
  where
    by : (b : Bool) → (stored_at old number ≡ Some part → stored_at (old ++ added) number ≡ Some now → now ≡ part) → (if b then Some first else stored_at old number) ≡ Some part → (if b then Some first else stored_at (old ++ added) number) ≡ Some now → now ≡ part
    by true behind here there = same_Some now part (sym there ∙ here)
    by false behind here there = behind here there

pub parts_stay : (old new : List StoredPart) → new ≡ old → KeepsParts old new
parts_stay old new same number part now is later = same_Some now part (sym later ∙ ap (λ (parts : List StoredPart). stored_at parts number) same ∙ is)
