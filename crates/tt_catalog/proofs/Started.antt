-- A start goes on from what is kept before it, however it goes.
use Rattle.std.specs.Prelude.{List, None, Ok, Option, Result, Some, [], false, filter, map, option_map, refl, slice_get, slice_set, true, ℕ, ◌++◌, ◌+◌, ◌-◌, ◌==◌, ◌∷◌, ◌≡◌, ◌≢◌}
use Rattle.std.proofs.Common.{ap, arith, sym, ◌∙◌}
use Rattle.std.proofs.lemmas.Bool.{ne_eqb}
use Rattle.std.proofs.lemmas.List.Elements.{filter-append}
use Rattle.std.proofs.lemmas.Option.{none-some, same_Some}
use Rattle.tt_value.specs.declared.name.TableName.{TableName}
use Rattle.tt_sql.specs.declared.statement.Statement.{Statement}
use Rattle.tt_history.specs.Refusals.{refusal_number}
use Rattle.tt_history.specs.declared.history.Told.{Told}
use Rattle.tt_history.specs.declared.reply.Refusal.{Refusal}
use Rattle.tt_marks.specs.Marks.{marks_of}
use Rattle.tt_marks.specs.declared.mark.Mark.{Mark}
use Rattle.tt_plain.proofs.Tests.{same_test}
use Rattle.tt_plain.proofs.law.session.Views.{IsTable, is_table}
use Rattle.tt_script.specs.Lines.{only_if}
use Rattle.tt_plain.specs.Answers.{◌>>=◌}
use Rattle.tt_plain.specs.asked.Asked.{Asked, request_asked, state_asked, table_asked}
use Rattle.tt_plain.specs.asked.Event.{first_event, is_same_event}
use Rattle.tt_plain.specs.asked.Turns.{asked_with, open_asked, statement_read}
use Rattle.tt_plain.specs.declared.store.Plain.{Plain}
use Rattle.tt_plain.specs.declared.store.PlainMark.{PlainMark}
use Rattle.tt_plain.specs.declared.store.PlainOpen.{PlainOpen}
use Rattle.tt_plain.specs.declared.store.PlainSession.{PlainSession}
use Rattle.tt_plain.specs.declared.store.PlainTable.{PlainTable}
use Rattle.tt_plain.specs.declared.tally.Tally.{Tally}
use Rattle.tt_plain.specs.declared.tally.TallyPin.{TallyPin}
use Rattle.tt_plain.specs.effect.Apply.{applied}
use Rattle.tt_plain.specs.effect.Effect.{Effect}
use Rattle.tt_plain.specs.effect.Ending.{ended_with}
use Rattle.tt_plain.specs.effect.Start.{begun, begun_by}
use Rattle.tt_plain.specs.history.Contents.{contents_with}
use Rattle.tt_plain.specs.law.Bag.{pins_of}
use Rattle.tt_plain.specs.law.Lists.{Every}
use Rattle.tt_plain.specs.law.Sound.{IsSound}
use Rattle.tt_plain.specs.TypingRefusal.{typing_refusal}
use Rattle.tt_plain.specs.refusal.{first_some}
use Rattle.tt_plain.specs.refusal.First.{refusal_of}
use Rattle.tt_plain.specs.stored.Names.{table_named}
use Rattle.tt_plain.specs.stored.Points.{no_point_yet, point_place}
use Rattle.tt_plain.specs.stored.Sessions.{session_at}
use Rattle.tt_plain.specs.tally.Changes.{with_pins}
use Rattle.tt_script.specs.declared.script.Script.{Script}
use Rattle.tt_built.specs.Built.{built}
use Rattle.tt_state.proofs.Ended.{closed_at, ended_goes, state_is}
use Rattle.tt_state.proofs.Filters.{filter_all, filter_out}
use Rattle.tt_state.proofs.Goes.{GoesOn, alone_now, begun_less, idle_now, marks_now, parts_stay, sessions_now, tables_stay}
use Rattle.tt_state.proofs.Histories.{contents_same, stands_sound}
use Rattle.tt_state.proofs.Lists.{all_behind, set_same}
use Rattle.tt_state.proofs.Lookups.{found_at, live_tied}
use Rattle.tt_state.proofs.Pins.{other_pins, own_pins, pins_now}
use Rattle.tt_state.proofs.Steps.{start_done, start_refused, start_starved, start_step}
use Rattle.tt_state.proofs.TrueFacts.{IsTrueEntry, adds_no_part}
use Rattle.tt_state.proofs.Turns.{IsNext, is_next}
use Rattle.tt_state.specs.Chronicle.{Chronicle, IsNextRead, entry_at, rows_of, store_of}
use Rattle.tt_state.specs.Keeps.{ArePins, StandsFor, is_live_as, mark_of, table_of}
use Rattle.tt_state.specs.Kept.{Kept, live_kept}
use Rattle.tt_state.specs.Moves.{with_begun, with_ended}
use Rattle.tt_state.specs.declared.state.SessionState.{SessionState}
use Rattle.tt_state.specs.declared.state.TableState.{TableState}
use Rattle.tt_history.specs.declared.history.EntryKind.TheVariants as kind
use Rattle.tt_history.specs.declared.history.Told.TheVariants as told
use Rattle.tt_history.specs.declared.reply.Refusal.TheVariants as refusal
use Rattle.tt_history.specs.declared.reply.Reply.TheVariants as reply
use Rattle.tt_plain.specs.asked.Event as event
use Rattle.tt_catalog.proofs.Locks.{holder_tied}
use Rattle.tt_catalog.proofs.OneTable.{lock_over, table_over, tables_over, taken_over}
use Rattle.tt_catalog.specs.Starts.{IsLiveTable, lock_on, refusal_alone, refusal_both, refusal_kept, refusal_over, refusal_over_both}

-- the refusal over what is kept of a table is that over the table
over_tied : (f : PlainTable → TableState) → ((table : PlainTable) → (f table).schema ≡ table.schema) → (name : TableName) (s : Statement) (found : Option PlainTable) → refusal_over (option_map f found) name s ≡ table_over name s found
over_tied f same name s None = refl
over_tied f same name s (Some table) = ap (λ schema. refusal_over (Some (record (f table) { schema = schema })) name s) (same table)

abbrev pub IsPinOf : ℕ → TallyPin → Type 0
IsPinOf session pin = pin.session ≡ session

-- one more pin of a session that had none
pub one_pin : (session : ℕ) (tally : Tally) (kept : List TallyPin) (pin : TallyPin) → pin.session ≡ session → ArePins tally kept → pins_of tally session ≡ []
    → ArePins (record tally { pins = with_pins session (pin ∷ []) tally.pins }) (kept ++ pin ∷ [])
one_pin session tally kept pin own are none =
    pins_now session tally (pin ∷ []) kept (kept ++ pin ∷ []) (own, tt) are
    (filter-append (λ (p : TallyPin). p.session == session) kept (pin ∷ [])
    ∙ ap (λ xs. xs ++ filter (λ (p : TallyPin). p.session == session) (pin ∷ [])) (are session ∙ none)
    ∙ filter_all (λ (p : TallyPin). p.session == session) (pin ∷ []) (ap (λ n. n == session) own ∙ same_test session, tt))
    (λ other ne. filter-append (λ (p : TallyPin). p.session == other) kept (pin ∷ [])
    ∙ ap (λ xs. filter (λ (p : TallyPin). p.session == other) kept ++ xs) (filter_out (λ (p : TallyPin). p.session == other) (pin ∷ []) (ne_eqb pin.session other (λ e. ne (sym e ∙ own)), tt))
    ∙ all_behind (filter (λ (p : TallyPin). p.session == other) kept))

-- a statement that has begun is the open one
pub opened_after : (program : Script) (store : Plain) (session index : ℕ) (read : Result Statement ℕ) (state : PlainSession) (seen : PlainOpen) → slice_get store.sessions session ≡ Some state → state.running ≡ Some seen → seen.index ≡ index
    → statement_read built program session index ≡ Some read → open_asked built program store session index ≡ Some (asked_with program store session index read, seen)
unfolding open_asked
opened_after program store session index read state seen at running numbered said =
    ap (λ (o : Option PlainSession). o >>= λ s. s.running >>= λ open_one. only_if (open_one.index == index) open_one >>= λ same. statement_read built program session index >>= λ r. Some (asked_with program store session index r, same)) at
    ∙ ap (λ (o : Option PlainOpen). o >>= λ open_one. only_if (open_one.index == index) open_one >>= λ same. statement_read built program session index >>= λ r. Some (asked_with program store session index r, same)) running
    ∙ ap (λ b. only_if b seen >>= λ same. statement_read built program session index >>= λ r. Some (asked_with program store session index r, same)) (ap (λ n. n == index) numbered ∙ same_test index)
    ∙ ap (λ (o : Option (Result Statement ℕ)). o >>= λ r. Some (asked_with program store session index r, seen)) said

-- the session as it is then, and the store
abbrev pub begun_state : Plain → ℕ → PlainOpen → List PlainMark → PlainSession
begun_state store session seen marks = record (session_at store session) { running = Some seen; marks = marks }

abbrev pub begun_effect : Chronicle → ℕ → ℕ → Statement → PlainOpen → List PlainMark → List TallyPin → Effect
begun_effect chronicle session index s seen marks pins =
    begun (asked_with chronicle.program (store_of chronicle) session index (Ok s)) (begun_state (store_of chronicle) session seen marks) pins

abbrev pub begun_store : Chronicle → ℕ → ℕ → Statement → PlainOpen → List PlainMark → List TallyPin → Plain
begun_store chronicle session index s seen marks pins = applied (store_of chronicle) (begun_effect chronicle session index s seen marks pins)

-- the same of two tables
both_tied_by : (f : PlainTable → TableState) → ((table : PlainTable) → (f table).schema ≡ table.schema) → (target from : TableName) (s : Statement) (a b : Option PlainTable)
    → refusal_over_both (option_map f a) (option_map f b) target from s ≡ tables_over target from s a b
both_tied_by f same target from s None None = refl
both_tied_by f same target from s None (Some read) = refl
both_tied_by f same target from s (Some table) None = refl
both_tied_by f same target from s (Some table) (Some read) =
    ap (λ schema. typing_refusal (schema ∷ (f read).schema ∷ []) s) (same table) ∙ ap (λ schema. typing_refusal (table.schema ∷ schema ∷ []) s) (same read)

module _ (chronicle : Chronicle) (kept : Kept) (room session index : ℕ) (s : Statement) (stands : StandsFor chronicle kept room) (read : IsNextRead chronicle session index (Ok s)) where
  abbrev store : Plain
  store = store_of chronicle

  abbrev asked : Asked
  asked = asked_with chronicle.program store session index (Ok s)

  next : IsNext chronicle.program store session index asked
  next = is_next chronicle.program store session index asked read

  sound : IsSound built chronicle.program store
  sound = stands_sound chronicle kept room stands

  at : session_at store session ≡ next.state
  at = state_is store session next.state next.turn.state_is

  closed : (session_at store session).transaction ≡ false
  closed = ap (λ (state : PlainSession). state.transaction) at ∙ closed_at store kept session next.state stands.sessions next.turn.state_is

  -- no part is pinned for a session that has no open statement, and no table is marked
  pub unpinned : pins_of store.tally session ≡ []
  unpinned = stands.sessions.idle session next.state next.turn.state_is next.idle

  pub unmarked : (session_at store session).marks ≡ []
  unmarked =
      ap (λ (state : PlainSession). state.marks) at
      ∙ (sound.each session next.state next.turn.state_is).unmarked (closed_at store kept session next.state stands.sessions next.turn.state_is) next.idle

  pub unmarked_kept : marks_of session kept.marks ≡ []
  unmarked_kept = stands.sessions.marks session ∙ ap (map (mark_of session)) unmarked

  moves_none : (t : Told) → IsTrueEntry built chronicle.program chronicle.cap (rows_of chronicle) store (entry_at store.moment session index (kind.Start t))
  moves_none t = adds_no_part built chronicle.program chronicle.cap (rows_of chronicle) store (entry_at store.moment session index (kind.Start t)) refl tt tt

  -- ---- what is kept of a table, and why the statement is refused over it

  tied : (name : TableName) → live_kept kept name.name.text ≡ option_map (table_of store.tally) (table_asked asked name)
  tied name = live_tied chronicle.program store (rows_of chronicle) kept sound stands.tables session name

  pub one_tied : (name : TableName) → refusal_kept kept name s ≡ table_over name s (table_asked asked name)
  one_tied name = ap (λ found. refusal_over found name s) (tied name) ∙ over_tied (table_of store.tally) (λ table. refl) name s (table_asked asked name)

  pub both_tied : (target from : TableName) → refusal_both kept target from s ≡ tables_over target from s (table_asked asked target) (table_asked asked from)
  both_tied target from =
      ap (λ found. refusal_over_both found (live_kept kept from.name.text) target from s) (tied target)
      ∙ ap (λ found. refusal_over_both (option_map (table_of store.tally) (table_asked asked target)) found target from s) (tied from)
      ∙ both_tied_by (table_of store.tally) (λ table. refl) target from s (table_asked asked target) (table_asked asked from)

  lock_by : (found : Option PlainTable) → lock_on kept session (option_map (table_of store.tally) found) ≡ lock_over store session found
  lock_by None = refl
  lock_by (Some table) = ap (option_map refusal.LockHeld) (sym (holder_tied store kept.marks session table.number stands.sessions.marks (sound.holders table.number)))

  pub alone_tied : (name : TableName) → refusal_alone kept session name s ≡ taken_over store session name s (table_asked asked name)
  alone_tied name =
      ap (λ o. first_some (o ∷ lock_on kept session (live_kept kept name.name.text) ∷ [])) (one_tied name)
      ∙ ap (λ o. first_some (table_over name s (table_asked asked name) ∷ o ∷ [])) (ap (lock_on kept session) (tied name) ∙ lock_by (table_asked asked name))

  -- the table of a name
  pub table_is : (name : TableName) (table : TableState) → IsLiveTable kept name table → (plain : PlainTable) × (table_asked asked name ≡ Some plain) × (table ≡ table_of store.tally plain) × IsTable store plain
  unfolding table_named
  table_is name table live = by (table_asked asked name) refl
    where
      by : (found : Option PlainTable) → table_asked asked name ≡ found → (plain : PlainTable) × (table_asked asked name ≡ Some plain) × (table ≡ table_of store.tally plain) × IsTable store plain
      by None e = absurd (none-some table (sym (ap (option_map (table_of store.tally)) e) ∙ sym (tied name) ∙ live))
      by (Some plain) e =
          let place = found_at (is_live_as name.name.text) store.tables plain e in
          (plain, e, same_Some table (table_of store.tally plain) (sym live ∙ tied name ∙ ap (option_map (table_of store.tally)) e), is_table built chronicle.program store place.0 plain sound place.1)

  -- ---- the statement starts

  module _ (given : Option Refusal) (refused_as : given ≡ refusal_of asked) where
    module _ (due : is_same_event event.Start (first_event (state_asked asked).transaction (request_asked asked)) ≡ true) where
      -- refused, or without memory
      pub refused_goes : (why : Refusal) → given ≡ Some why
          → (after : Plain) × GoesOn chronicle kept (with_ended chronicle.program kept session index) (entry_at store.moment session index (kind.Start (told.Refused (refusal_number why)))) after (Some (reply.Refused why))
      unfolding ended_with
      refused_goes why e = (
        applied store (ended_with asked (reply.Refused why)),
        ended_goes chronicle kept room session index (Ok s) stands next (kind.Start (told.Refused (refusal_number why))) (reply.Refused why)
            (start_step built chronicle.program store session index asked (told.Refused (refusal_number why)) (ended_with asked (reply.Refused why)) read
            (start_refused asked due why (sym refused_as ∙ e)) refl) refl (moves_none (told.Refused (refusal_number why))),
      )

      pub starved_goes : (after : Plain) × GoesOn chronicle kept (with_ended chronicle.program kept session index) (entry_at store.moment session index (kind.Start told.Memory)) after (Some reply.Memory)
      unfolding ended_with
      starved_goes = (
        applied store (ended_with asked reply.Memory),
        ended_goes chronicle kept room session index (Ok s) stands next (kind.Start told.Memory) reply.Memory
            (start_step built chronicle.program store session index asked told.Memory (ended_with asked reply.Memory) read
            (start_starved asked due) refl) refl (moves_none told.Memory),
      )

      -- ---- begun, with its marks and its pins

      module _ (seen : PlainOpen) (marks : List PlainMark) (pins : List TallyPin) (now_marks : List Mark) (now_pins : List TallyPin) where
        abbrev state_then : PlainSession
        state_then = begun_state store session seen marks

        abbrev store_then : Plain
        store_then = begun_store chronicle session index s seen marks pins

        abbrev now : Kept
        now = with_begun chronicle.program (record kept { marks = now_marks; pins = now_pins }) session index

        abbrev session_with : ℕ → ℕ → SessionState
        session_with done running = record { done = done; running = Some running }

        counted : index - 1 ≡ (session_at store session).done
        counted = omega (arith, next.turn.counted, ap (λ (state : PlainSession). state.done) at)

        pub begun_goes : seen.index ≡ index → given ≡ None → begun_by asked (request_asked asked) ≡ Some (begun_effect chronicle session index s seen marks pins)
            → Every (IsPinOf session) pins → ArePins (record store.tally { pins = with_pins session pins store.tally.pins }) now_pins
            → marks_of session now_marks ≡ map (mark_of session) marks → ((other : ℕ) → other ≢ session → marks_of other now_marks ≡ marks_of other kept.marks)
            → GoesOn chronicle kept now (entry_at store.moment session index (kind.Start told.Done)) store_then None
        unfolding applied
        begun_goes numbered free effect own pinned marked others =
            let entry = entry_at store.moment session index (kind.Start told.Done) in
            record {
              step = start_step built chronicle.program store session index asked told.Done (begun_effect chronicle session index s seen marks pins) read (start_done asked due (begun_effect chronicle session index s seen marks pins) (sym refused_as ∙ free) effect) refl;
              less = begun_less chronicle.program store store_then session index next.lines next.state state_then next.turn refl next.idle refl (ap (λ (state : PlainSession). state.done) at);
              few = omega arith;
              true_entry = moves_none told.Done;
              parts = parts_stay kept.parts kept.parts refl;
              tables = tables_stay store.tables store.tally (record store.tally { pins = with_pins session pins store.tally.pins }) (rows_of chronicle) (contents_with built chronicle.program (rows_of chronicle) (store, entry)) kept now
                  stands.tables refl refl (contents_same built chronicle.program (rows_of chronicle) (store, entry) refl) refl refl refl;
              sessions = record {
                moment = ap (λ m. m + 1) stands.sessions.moment;
                sessions = ap (λ n. slice_set kept.sessions session (session_with n index)) counted ∙ ap (λ n. slice_set kept.sessions session (session_with (session_at store session).done n)) (sym numbered)
                    ∙ sessions_now chronicle.program store store_then session index next.lines next.state state_then next.turn refl kept.sessions stands.sessions.sessions;
                marks = marks_now chronicle.program store store_then session index next.lines next.state state_then next.turn refl kept.marks now_marks stands.sessions.marks marked others;
                pins = pinned;
                idle = idle_now chronicle.program store store_then session index next.lines next.state state_then next.turn refl stands.sessions.idle (λ none. absurd (none-some seen (sym none))) (λ other ne. other_pins session store.tally.pins pins other own ne);
                points = ap (λ ps. slice_set ps (point_place chronicle.program session index) (Some no_point_yet)) stands.sessions.points;
                alone = alone_now chronicle.program store store_then session index next.lines next.state state_then next.turn refl stands.sessions.alone closed;
                settled = stands.sessions.settled;
              };
            }

        -- it is the session's open statement, and these are its pins
        pub begun_open : seen.index ≡ index → open_asked built chronicle.program store_then session index ≡ Some (asked_with chronicle.program store_then session index (Ok s), seen)
        unfolding applied
        begun_open numbered = opened_after chronicle.program store_then session index (Ok s) state_then seen (set_same store.sessions session state_then next.state next.turn.state_is) refl numbered next.said

        pub begun_pins : Every (IsPinOf session) pins → pins_of store_then.tally session ≡ pins
        unfolding applied
        begun_pins own = own_pins session store.tally.pins pins own

        pub begun_tables : store_then.tables ≡ store.tables
        unfolding applied
        begun_tables = refl
