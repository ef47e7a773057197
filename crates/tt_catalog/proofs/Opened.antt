-- A query or a change that begins: its entry, and its ticket.
use Rattle.std.specs.List.{AllZip}
use Rattle.std.specs.Prelude.{List, None, Ok, Option, Some, [], false, length, map, option_map, refl, slice_get, true, ℕ, ◌++◌, ◌+◌, ◌-◌, ◌<◌, ◌^◌, ◌∷◌, ◌≡◌, ◌≢◌}
use Rattle.std.proofs.Common.{ap, subst, sym, ◌∙◌}
use Rattle.std.proofs.lemmas.Bool.{false≢true}
use Rattle.tt_value.specs.declared.name.TableName.{TableName}
use Rattle.tt_sql.specs.declared.change.Delete.{Delete}
use Rattle.tt_sql.specs.declared.change.Dml.{Dml}
use Rattle.tt_sql.specs.declared.change.Insert.{Insert}
use Rattle.tt_sql.specs.declared.change.InsertSource.{InsertSource}
use Rattle.tt_sql.specs.declared.change.Tuple.{Tuple}
use Rattle.tt_sql.specs.declared.change.Update.{Update}
use Rattle.tt_sql.specs.declared.query.Query.{Query}
use Rattle.tt_sql.specs.declared.statement.Statement.{Statement}
use Rattle.tt_script.specs.declared.script.Script.{Script}
use Rattle.tt_history.specs.declared.history.Entry.{Entry}
use Rattle.tt_history.specs.declared.reply.Refusal.{Refusal}
use Rattle.tt_history.specs.declared.reply.Reply.{Reply}
use Rattle.tt_marks.specs.Changes.{marked, shared}
use Rattle.tt_marks.specs.Marks.{marks_of}
use Rattle.tt_marks.specs.declared.mark.Mark.{Mark}
use Rattle.tt_plain.proofs.law.session.Views.{IsTable}
use Rattle.tt_plain.specs.Statements.{insertion}
use Rattle.tt_plain.specs.Tables.{TakesFromOneTable}
use Rattle.tt_plain.specs.TypingRefusal.{typing_refusal}
use Rattle.tt_plain.specs.asked.Asked.{Asked, request_asked, state_asked, table_asked}
use Rattle.tt_plain.specs.asked.Event.{first_event, is_same_event}
use Rattle.tt_plain.specs.asked.Turns.{asked_with, open_asked}
use Rattle.tt_plain.specs.declared.store.Plain.{Plain}
use Rattle.tt_plain.specs.declared.store.PlainMark.{PlainMark}
use Rattle.tt_plain.specs.declared.store.PlainOpen.{PlainOpen}
use Rattle.tt_plain.specs.declared.store.PlainTable.{PlainTable}
use Rattle.tt_plain.specs.declared.tally.TallyPin.{TallyPin}
use Rattle.tt_plain.specs.effect.Start.{begun_by}
use Rattle.tt_plain.specs.law.Bag.{pins_of}
use Rattle.tt_plain.specs.law.Lists.{Every}
use Rattle.tt_plain.specs.meaning.Outcome.{schema_numbered}
use Rattle.tt_plain.specs.opening.Marks.{with_mark}
use Rattle.tt_plain.specs.opening.Opened.{change_opened, opened, query_opened}
use Rattle.tt_plain.specs.opening.Seen.{rows_seen, visible_rows}
use Rattle.tt_plain.specs.refusal.First.{refusal_of}
use Rattle.tt_plain.specs.refusal.{first_some}
use Rattle.tt_plain.specs.stored.Points.{point_place}
use Rattle.tt_plain.specs.stored.Sessions.{session_at}
use Rattle.tt_plain.specs.tally.Changes.{with_pins}
use Rattle.tt_built.specs.Built.{built}
use Rattle.tt_state.proofs.Goes.{GoesOn, with_history}
use Rattle.tt_state.proofs.Histories.{store_longer}
use Rattle.tt_state.proofs.Pins.{pins_now}
use Rattle.tt_state.proofs.Turns.{is_next, said_built}
use Rattle.tt_state.specs.Chronicle.{Chronicle, IsNextRead, IsOpenRead, entry_at, rows_of, store_of}
use Rattle.tt_state.specs.Keeps.{ArePins, KeepsTables, StandsFor, mark_of, table_of}
use Rattle.tt_state.specs.Kept.{Kept, live_kept}
use Rattle.tt_state.specs.Moves.{IsReady, with_begun}
use Rattle.tt_state.specs.declared.state.TableState.{TableState}
use Rattle.tt_state.specs.declared.ticket.Seen.{Seen}
use Rattle.tt_state.specs.declared.ticket.Started.{Started}
use Rattle.tt_state.specs.declared.ticket.Ticket.{Ticket}
use Rattle.tt_history.specs.declared.history.EntryKind.TheVariants as kind
use Rattle.tt_plain.specs.asked.Event as event
use Rattle.tt_sql.specs.declared.change.Dml.TheVariants as dml
use Rattle.tt_sql.specs.declared.change.InsertSource.TheVariants as source
use Rattle.tt_sql.specs.declared.statement.Statement.TheVariants as tree
use Rattle.tt_state.specs.declared.ticket.Started.TheVariants as started
use Rattle.tt_catalog.proofs.Carried.{query_now, source_now}
use Rattle.tt_catalog.proofs.Held.{bags_held, parts_tied}
use Rattle.tt_catalog.proofs.Marked.{others_marked, others_shared, own_marked, own_shared}
use Rattle.tt_catalog.proofs.OneTable.{delete_refusal, filled_refusal, plain_query, query_is, query_refusal, update_refusal, values_refusal}
use Rattle.tt_catalog.proofs.Started.{IsPinOf, alone_tied, begun_effect, begun_goes, begun_open, begun_pins, begun_store, begun_tables, both_tied, one_pin, one_tied, refused_goes, starved_goes, table_is, unmarked, unmarked_kept, unpinned}
use Rattle.tt_catalog.specs.Starts.{AreAccepted, CanChange, CanStart, IsAccepted, IsLiveTable, Opens, OpensChange, OpensFilled, OpensInsert, OpensRead, OpensShared, OpensTaken, Starts, held_empty, held_whole, lock_on, pin_whole, refusal_alone, refusal_over, refusal_over_both, start_refusal, told_by, with_own_pin, with_pin, with_shared, with_shared_pin, with_started}
use Rattle.tt_catalog.specs.Tickets.{BeginsTyped, GivesTicket, HasTarget, HoldsFor, HoldsTables, IsHeld, IsTicketOf, reply_to_start, schemas_of, tables_read}

-- a start with its entry, the ticket that it gives once that is made, its typing, and the tables that it holds
pub record IsBegun (chronicle : Chronicle) (kept middle : Kept) (session index : ℕ) (s : Statement) (begun : Started) : Type 0 where
  pub after : Plain
  pub goes : GoesOn chronicle kept (with_started chronicle.program middle session index begun) (entry_at (store_of chronicle).moment session index (kind.Start (told_by begun))) after (reply_to_start begun)
  pub gives : (history : List Entry) (left : ℕ) (now : Kept) → StandsFor (with_history chronicle history now) (with_started chronicle.program middle session index begun) left → store_of (with_history chronicle history now) ≡ after
      → GivesTicket (with_history chronicle history now) session index s begun
  pub typed : BeginsTyped s begun
  pub tables : HoldsTables s begun

-- the store once the entry is made
pub store_then : (chronicle : Chronicle) (kept now : Kept) (entry : Entry) (after : Plain) (told : Option Reply) (history : List Entry) → GoesOn chronicle kept now entry after told
    → history ≡ chronicle.history ++ entry ∷ [] → store_of (with_history chronicle history now) ≡ after
store_then chronicle kept now entry after told history goes longer =
    ap (λ (h : List Entry). store_of (with_history chronicle h now)) longer ∙ store_longer built chronicle.program chronicle.history entry (after, told) goes.step

-- the schema of a table that is there stays
schema_there : (new : Chronicle) (store : Plain) (plain : PlainTable) → (store_of new).tables ≡ store.tables → IsTable store plain → schema_numbered (store_of new) plain.number ≡ Some plain.schema
schema_there new store plain same there =
    ap (λ (tables : List PlainTable). option_map (λ (table : PlainTable). table.schema) (slice_get tables (plain.number - 1))) same
    ∙ ap (option_map (λ (table : PlainTable). table.schema)) there.there

-- what was accepted is typed over the table that is held
typed_over : (kept : Kept) (name : TableName) (s : Statement) (table : TableState) → IsAccepted kept name s table → typing_refusal (table.schema ∷ []) s ≡ None
typed_over kept name s table accepted = sym (ap (λ o. refusal_over o name s) accepted.live) ∙ accepted.free

typed_over_both : (kept : Kept) (target from : TableName) (s : Statement) (table read : TableState) → AreAccepted kept target from s table read → typing_refusal (table.schema ∷ read.schema ∷ []) s ≡ None
typed_over_both kept target from s table read accepted =
    sym (ap (λ o. refusal_over_both o (Some read) target from s) accepted.target_live)
    ∙ sym (ap (λ o. refusal_over_both (live_kept kept target.name.text) o target from s) accepted.source_live) ∙ accepted.free

-- ---- a statement that begins, whatever it holds

module _ (chronicle : Chronicle) (kept : Kept) (room session index : ℕ) (s : Statement) (stands : StandsFor chronicle kept room) (read : IsNextRead chronicle session index (Ok s)) where
  abbrev store : Plain
  store = store_of chronicle

  abbrev asked : Asked
  asked = asked_with chronicle.program store session index (Ok s)

  abbrev middle : List Mark → List TallyPin → Kept
  middle marks pins = record kept { marks = marks; pins = pins }

  abbrev ticket : List Seen → Option Seen → Ticket
  ticket sources target = record { session = session; index = index; sources = sources; target = target }

  -- what is so of what it sees, puts and holds
  record IsOpening (given : Option Refusal) (seen : PlainOpen) (marks : List PlainMark) (pins : List TallyPin) (now_marks : List Mark) (now_pins : List TallyPin) (sources : List Seen) (target : Option Seen) : Type 0 where
    refused_as : given ≡ refusal_of asked
    due : is_same_event event.Start (first_event (state_asked asked).transaction (request_asked asked)) ≡ true
    numbered : seen.index ≡ index
    free : given ≡ None
    effect : begun_by asked (request_asked asked) ≡ Some (begun_effect chronicle session index s seen marks pins)
    own : Every (IsPinOf session) pins
    pinned : ArePins (record store.tally { pins = with_pins session pins store.tally.pins }) now_pins
    own_marks : marks_of session now_marks ≡ map (mark_of session) marks
    others : (other : ℕ) → other ≢ session → marks_of other now_marks ≡ marks_of other kept.marks
    held : (new : Chronicle) → KeepsTables (store_of new).tables (store_of new).tally (rows_of new) (with_begun chronicle.program (middle now_marks now_pins) session index) → (store_of new).tables ≡ store.tables
        → AllZip (IsHeld new) pins (tables_read s (ticket sources target))
    has_target : (new : Chronicle) → (store_of new).tables ≡ store.tables → HasTarget new s seen.target target
    typed : typing_refusal (schemas_of (ticket sources target)) s ≡ None
    tables : HoldsFor s sources target

  module _ (given : Option Refusal) (seen : PlainOpen) (marks : List PlainMark) (pins : List TallyPin) (now_marks : List Mark) (now_pins : List TallyPin) (sources : List Seen) (target : Option Seen)
      (is : IsOpening given seen marks pins now_marks now_pins sources target) where
    abbrev then : Kept
    then = with_begun chronicle.program (middle now_marks now_pins) session index

    gives_ticket : (history : List Entry) (left : ℕ) (now : Kept) → StandsFor (with_history chronicle history now) then left → store_of (with_history chronicle history now) ≡ begun_store chronicle session index s seen marks pins
        → IsTicketOf (with_history chronicle history now) (ticket sources target) s
    gives_ticket history left now now_stands is_then =
        let new = with_history chronicle history now in
        let open_now : IsOpenRead new session index (Ok s) seen =
        subst (λ (store : Plain). open_asked built chronicle.program store session index ≡ Some (asked_with chronicle.program store session index (Ok s), seen)) (sym is_then)
        (begun_open chronicle kept room session index s stands read given is.refused_as is.due seen marks pins now_marks now_pins is.numbered) in
        let pins_are : pins_of (store_of new).tally session ≡ pins =
        ap (λ (store : Plain). pins_of store.tally session) is_then
        ∙ begun_pins chronicle kept room session index s stands read given is.refused_as is.due seen marks pins now_marks now_pins is.own in
        let tables_are : (store_of new).tables ≡ store.tables =
        ap (λ (store : Plain). store.tables) is_then
        ∙ begun_tables chronicle kept room session index s stands read given is.refused_as is.due seen marks pins now_marks now_pins in
        let held : AllZip (IsHeld new) (pins_of (store_of new).tally session) (tables_read s (ticket sources target)) =
        subst (λ ps. AllZip (IsHeld new) ps (tables_read s (ticket sources target))) (sym pins_are) (is.held new now_stands.tables tables_are) in
        record {
          seen = seen;
          is_open = open_now;
          pinned = held;
          bags = bags_held new then left session index s seen (tables_read s (ticket sources target)) now_stands open_now held;
          target = is.has_target new tables_are;
        }

    opening_begins : IsBegun chronicle kept (middle now_marks now_pins) session index s (started.Ticket (ticket sources target))
    opening_begins = record {
      after = begun_store chronicle session index s seen marks pins;
      goes = begun_goes chronicle kept room session index s stands read given is.refused_as is.due seen marks pins now_marks now_pins is.numbered is.free is.effect is.own is.pinned is.own_marks is.others;
      gives = λ history left now now_stands is_then. (refl, refl, gives_ticket history left now now_stands is_then);
      typed = is.typed;
      tables = is.tables;
    }

  -- ---- one that does not begin

  pub refused_begins : (given : Option Refusal) → given ≡ refusal_of asked → is_same_event event.Start (first_event (state_asked asked).transaction (request_asked asked)) ≡ true
      → (why : Refusal) → given ≡ Some why → IsBegun chronicle kept kept session index s (started.Refused why)
  refused_begins given refused_as due why e =
      let goes = refused_goes chronicle kept room session index s stands read given refused_as due why e in
      record { after = goes.0; goes = goes.1; gives = λ history left now now_stands is. tt; typed = tt; tables = tt }

  pub starved_begins : (given : Option Refusal) → given ≡ refusal_of asked → is_same_event event.Start (first_event (state_asked asked).transaction (request_asked asked)) ≡ true
      → IsBegun chronicle kept kept session index s started.Memory
  starved_begins given refused_as due =
      let goes = starved_goes chronicle kept room session index s stands read given refused_as due in
      record { after = goes.0; goes = goes.1; gives = λ history left now now_stands is. tt; typed = tt; tables = tt }

  -- ---- tables that are held

  abbrev table_then : PlainTable → TableState
  table_then plain = table_of store.tally plain

  held_now : (new : Chronicle) (marks : List Mark) (pins : List TallyPin) (name : TableName) (plain : PlainTable) → IsLiveTable kept name (table_then plain) → IsTable store plain
      → KeepsTables (store_of new).tables (store_of new).tally (rows_of new) (with_begun chronicle.program (middle marks pins) session index) → (store_of new).tables ≡ store.tables
      → IsHeld new (pin_whole session (table_then plain)) (held_whole kept.parts (table_then plain))
  held_now new marks pins name plain live there keeps same = record {
    table = refl;
    schema = schema_there new store plain same there;
    parts = parts_tied new (with_begun chronicle.program (middle marks pins) session index) name.name.text (table_then plain) keeps live;
  }

  -- a pin of a session that had none
  pinned_now : (plain : PlainTable) → ArePins (record store.tally { pins = with_pins session (pin_whole session (table_then plain) ∷ []) store.tally.pins }) (kept.pins ++ pin_whole session (table_then plain) ∷ [])
  pinned_now plain =
      one_pin session store.tally kept.pins (pin_whole session (table_then plain)) refl stands.sessions.pins (unpinned chronicle kept room session index s stands read)

  none_pinned : ArePins (record store.tally { pins = with_pins session [] store.tally.pins }) kept.pins
  none_pinned =
      pins_now session store.tally [] kept.pins kept.pins tt stands.sessions.pins (stands.sessions.pins session ∙ unpinned chronicle kept room session index s stands read) (λ other ne. refl)

  -- marks of a session that had none
  abbrev marks_before : List PlainMark
  marks_before = (session_at store session).marks

  shared_marks : (number : ℕ) → marks_of session (shared session number kept.marks) ≡ map (mark_of session) (with_mark number false marks_before)
  shared_marks number =
      own_shared session number kept.marks (unmarked_kept chronicle kept room session index s stands read)
      ∙ ap (λ marks. map (mark_of session) (with_mark number false marks)) (sym (unmarked chronicle kept room session index s stands read))

  exclusive_marks : (number : ℕ) → marks_of session (marked session number true kept.marks) ≡ map (mark_of session) (with_mark number true marks_before)
  exclusive_marks number =
      own_marked session number true kept.marks (unmarked_kept chronicle kept room session index s stands read)
      ∙ ap (λ marks. map (mark_of session) (with_mark number true marks)) (sym (unmarked chronicle kept room session index s stands read))

  shared_others : (number other : ℕ) → other ≢ session → marks_of other (shared session number kept.marks) ≡ marks_of other kept.marks
  shared_others number other ne = others_shared session number other kept.marks (unmarked_kept chronicle kept room session index s stands read) ne

  exclusive_others : (number other : ℕ) → other ≢ session → marks_of other (marked session number true kept.marks) ≡ marks_of other kept.marks
  exclusive_others number other ne = others_marked session number other true kept.marks ne

-- ---- a query

module _ (chronicle : Chronicle) (kept : Kept) (room session index : ℕ) (q : Query) (stands : StandsFor chronicle kept room) (read : IsNextRead chronicle session index (Ok (tree.Query (plain_query q)))) where
  abbrev q_statement : Statement
  q_statement = tree.Query (plain_query q)

  abbrev q_asked : Asked
  q_asked = asked_with chronicle.program (store_of chronicle) session index (Ok q_statement)

  pub query_tied : start_refusal kept session q_statement ≡ refusal_of q_asked
  query_tied = one_tied chronicle kept room session index q_statement stands read q.first.table ∙ sym (query_refusal chronicle.program (store_of chronicle) session index q)

  query_opening : (plain : PlainTable) → table_asked q_asked q.first.table ≡ Some plain → IsTable (store_of chronicle) plain → IsAccepted kept q.first.table q_statement (table_of (store_of chronicle).tally plain)
      → IsOpening chronicle kept room session index q_statement stands read (start_refusal kept session q_statement) (opened q_asked ((plain.number, visible_rows (state_asked q_asked) plain) ∷ []) None) (session_at (store_of chronicle) session).marks
      (pin_whole session (table_of (store_of chronicle).tally plain) ∷ []) kept.marks (kept.pins ++ pin_whole session (table_of (store_of chronicle).tally plain) ∷ []) (held_whole kept.parts (table_of (store_of chronicle).tally plain) ∷ []) None
  unfolding query_opened rows_seen
  query_opening plain found there accepted = record {
    refused_as = query_tied;
    due = refl;
    numbered = refl;
    free = accepted.free;
    effect = rw (found, stands.sessions.settled) refl;
    own = (refl, tt);
    pinned = pinned_now chronicle kept room session index q_statement stands read plain;
    own_marks = stands.sessions.marks session;
    others = λ other ne. refl;
    held = λ new keeps same.
        (held_now chronicle kept room session index q_statement stands read new kept.marks (kept.pins ++ pin_whole session (table_of (store_of chronicle).tally plain) ∷ []) q.first.table plain accepted.live there keeps same, tt);
    has_target = λ new same. tt;
    typed = typed_over kept q.first.table q_statement (table_of (store_of chronicle).tally plain) accepted;
    tables = (held_whole kept.parts (table_of (store_of chronicle).tally plain), refl, refl);
  }

  query_opens : (new : Kept) (sources : List Seen) → OpensRead kept new session q.first.table q_statement sources
      → IsBegun chronicle kept new session index q_statement (started.Ticket (record { session = session; index = index; sources = sources; target = None }))
  query_opens new sources opens =
      let table = table_is chronicle kept room session index q_statement stands read q.first.table opens.table opens.accepted.live in
      let accepted = subst (IsAccepted kept q.first.table q_statement) table.2 opens.accepted in
      subst (λ (k : Kept). IsBegun chronicle kept k session index q_statement (started.Ticket (record { session = session; index = index; sources = sources; target = None }))) (ap (with_pin kept session) (sym table.2) ∙ sym opens.kept_is)
      (subst (λ (held : List Seen). IsBegun chronicle kept (with_pin kept session (table_of (store_of chronicle).tally table.0)) session index q_statement (started.Ticket (record { session = session; index = index; sources = held; target = None })))
      (ap (λ t. held_whole kept.parts t ∷ []) (sym table.2) ∙ sym opens.holds)
      (opening_begins chronicle kept room session index q_statement stands read _ _ _ _ _ _ _ _ (query_opening table.0 table.1 table.3 accepted)))

-- ---- an INSERT of written rows

module _ (chronicle : Chronicle) (kept : Kept) (room session index : ℕ) (i : Insert) (tuples : List Tuple) (stands : StandsFor chronicle kept room)
    (read : IsNextRead chronicle session index (Ok (insertion (record i { source = source.Values tuples })))) where
  abbrev v_statement : Statement
  v_statement = insertion (record i { source = source.Values tuples })

  abbrev v_asked : Asked
  v_asked = asked_with chronicle.program (store_of chronicle) session index (Ok v_statement)

  pub values_tied : start_refusal kept session v_statement ≡ refusal_of v_asked
  values_tied = one_tied chronicle kept room session index v_statement stands read i.table ∙ sym (values_refusal chronicle.program (store_of chronicle) session index i tuples)

  values_opening : (plain : PlainTable) → table_asked v_asked i.table ≡ Some plain → IsTable (store_of chronicle) plain → IsAccepted kept i.table v_statement (table_of (store_of chronicle).tally plain)
      → IsOpening chronicle kept room session index v_statement stands read (start_refusal kept session v_statement) (opened v_asked [] (Some (plain.number, []))) (with_mark plain.number false (session_at (store_of chronicle) session).marks)
      [] (shared session plain.number kept.marks) kept.pins [] (Some (held_empty (table_of (store_of chronicle).tally plain)))
  unfolding change_opened
  values_opening plain found there accepted = record {
    refused_as = values_tied;
    due = refl;
    numbered = refl;
    free = accepted.free;
    effect = rw found refl;
    own = tt;
    pinned = none_pinned chronicle kept room session index v_statement stands read;
    own_marks = shared_marks chronicle kept room session index v_statement stands read plain.number;
    others = shared_others chronicle kept room session index v_statement stands read plain.number;
    held = λ new keeps same. tt;
    has_target = λ new same. record { table = refl; schema = schema_there new (store_of chronicle) plain same there; parts = λ none. refl };
    typed = typed_over kept i.table v_statement (table_of (store_of chronicle).tally plain) accepted;
    tables = (held_empty (table_of (store_of chronicle).tally plain), refl, refl);
  }

  values_opens : (new : Kept) (target : Seen) → OpensShared kept new session i.table v_statement target
      → IsBegun chronicle kept new session index v_statement (started.Ticket (record { session = session; index = index; sources = []; target = Some target }))
  values_opens new target opens =
      let table = table_is chronicle kept room session index v_statement stands read i.table opens.table opens.accepted.live in
      let accepted = subst (IsAccepted kept i.table v_statement) table.2 opens.accepted in
      subst (λ (k : Kept). IsBegun chronicle kept k session index v_statement (started.Ticket (record { session = session; index = index; sources = []; target = Some target }))) (ap (with_shared kept session) (sym table.2) ∙ sym opens.kept_is)
      (subst (λ (held : Seen). IsBegun chronicle kept (with_shared kept session (table_of (store_of chronicle).tally table.0)) session index v_statement (started.Ticket (record { session = session; index = index; sources = []; target = Some held })))
      (ap held_empty (sym table.2) ∙ sym opens.holds)
      (opening_begins chronicle kept room session index v_statement stands read _ _ _ _ _ _ _ _ (values_opening table.0 table.1 table.3 accepted)))

-- ---- an INSERT with a query

module _ (chronicle : Chronicle) (kept : Kept) (room session index : ℕ) (i : Insert) (q : Query) (stands : StandsFor chronicle kept room)
    (read : IsNextRead chronicle session index (Ok (insertion (record i { source = source.Query (plain_query q) })))) where
  abbrev f_statement : Statement
  f_statement = insertion (record i { source = source.Query (plain_query q) })

  abbrev f_asked : Asked
  f_asked = asked_with chronicle.program (store_of chronicle) session index (Ok f_statement)

  pub filled_tied : start_refusal kept session f_statement ≡ refusal_of f_asked
  filled_tied = both_tied chronicle kept room session index f_statement stands read i.table q.first.table ∙ sym (filled_refusal chronicle.program (store_of chronicle) session index i q)

  filled_opening : (plain from : PlainTable) → table_asked f_asked i.table ≡ Some plain → table_asked f_asked q.first.table ≡ Some from → IsTable (store_of chronicle) plain → IsTable (store_of chronicle) from
      → AreAccepted kept i.table q.first.table f_statement (table_of (store_of chronicle).tally plain) (table_of (store_of chronicle).tally from)
      → IsOpening chronicle kept room session index f_statement stands read (start_refusal kept session f_statement)
      (opened f_asked ((from.number, visible_rows (state_asked f_asked) from) ∷ []) (Some (plain.number, []))) (with_mark plain.number false (session_at (store_of chronicle) session).marks)
      (pin_whole session (table_of (store_of chronicle).tally from) ∷ []) (shared session plain.number kept.marks) (kept.pins ++ pin_whole session (table_of (store_of chronicle).tally from) ∷ [])
      (held_whole kept.parts (table_of (store_of chronicle).tally from) ∷ []) (Some (held_empty (table_of (store_of chronicle).tally plain)))
  unfolding change_opened rows_seen
  filled_opening plain from found read_found there from_there accepted = record {
    refused_as = filled_tied;
    due = refl;
    numbered = refl;
    free = accepted.free;
    effect = rw (found, read_found, stands.sessions.settled) refl;
    own = (refl, tt);
    pinned = pinned_now chronicle kept room session index f_statement stands read from;
    own_marks = shared_marks chronicle kept room session index f_statement stands read plain.number;
    others = shared_others chronicle kept room session index f_statement stands read plain.number;
    held = λ new keeps same.
        (held_now chronicle kept room session index f_statement stands read new (shared session plain.number kept.marks) (kept.pins ++ pin_whole session (table_of (store_of chronicle).tally from) ∷ []) q.first.table from accepted.source_live from_there keeps same, tt);
    has_target = λ new same. record { table = refl; schema = schema_there new (store_of chronicle) plain same there; parts = λ none. refl };
    typed = typed_over_both kept i.table q.first.table f_statement (table_of (store_of chronicle).tally plain) (table_of (store_of chronicle).tally from) accepted;
    tables = (held_empty (table_of (store_of chronicle).tally plain), refl, refl);
  }

  filled_opens : (new : Kept) (sources : List Seen) (target : Seen) → OpensFilled kept new session i.table q.first.table f_statement sources target
      → IsBegun chronicle kept new session index f_statement (started.Ticket (record { session = session; index = index; sources = sources; target = Some target }))
  filled_opens new sources target opens =
      let table = table_is chronicle kept room session index f_statement stands read i.table opens.table opens.accepted.target_live in
      let from = table_is chronicle kept room session index f_statement stands read q.first.table opens.read opens.accepted.source_live in
      let accepted = subst (λ t. AreAccepted kept i.table q.first.table f_statement t (table_of (store_of chronicle).tally from.0)) table.2
      (subst (AreAccepted kept i.table q.first.table f_statement opens.table) from.2 opens.accepted) in
      let there = (table_of (store_of chronicle).tally table.0) in
      let read_there = (table_of (store_of chronicle).tally from.0) in
      subst (λ (k : Kept). IsBegun chronicle kept k session index f_statement (started.Ticket (record { session = session; index = index; sources = sources; target = Some target })))
      (ap (λ t. with_shared_pin kept session t.facts.number (pin_whole session read_there)) (sym table.2) ∙ ap (λ t. with_shared_pin kept session opens.table.facts.number (pin_whole session t)) (sym from.2) ∙ sym opens.kept_is)
      (subst (λ (held : List Seen). IsBegun chronicle kept (with_shared_pin kept session there.facts.number (pin_whole session read_there)) session index f_statement (started.Ticket (record { session = session; index = index; sources = held; target = Some target })))
      (ap (λ t. held_whole kept.parts t ∷ []) (sym from.2) ∙ sym opens.holds.0)
      (subst (λ (held : Seen). IsBegun chronicle kept (with_shared_pin kept session there.facts.number (pin_whole session read_there)) session index f_statement (started.Ticket (record { session = session; index = index; sources = held_whole kept.parts read_there ∷ []; target = Some held })))
      (ap held_empty (sym table.2) ∙ sym opens.holds.1)
      (opening_begins chronicle kept room session index f_statement stands read _ _ _ _ _ _ _ _ (filled_opening table.0 from.0 table.1 from.1 table.3 from.3 accepted))))

-- ---- an UPDATE and a DELETE

-- nothing is refused of a table that is accepted and that nobody else has for itself
free_alone : (kept : Kept) (session : ℕ) (name : TableName) (s : Statement) (table : TableState) → IsAccepted kept name s table → lock_on kept session (Some table) ≡ None → refusal_alone kept session name s ≡ None
free_alone kept session name s table accepted alone =
    ap (λ o. first_some (o ∷ lock_on kept session (live_kept kept name.name.text) ∷ [])) accepted.free
    ∙ ap (λ o. first_some (None ∷ lock_on kept session o ∷ [])) accepted.live ∙ ap (λ o. first_some (None ∷ o ∷ [])) alone

module _ (chronicle : Chronicle) (kept : Kept) (room session index : ℕ) (u : Update) (stands : StandsFor chronicle kept room) (read : IsNextRead chronicle session index (Ok (tree.Dml (dml.Update u)))) where
  abbrev u_statement : Statement
  u_statement = tree.Dml (dml.Update u)

  abbrev u_asked : Asked
  u_asked = asked_with chronicle.program (store_of chronicle) session index (Ok u_statement)

  pub update_tied : start_refusal kept session u_statement ≡ refusal_of u_asked
  update_tied = alone_tied chronicle kept room session index u_statement stands read u.table ∙ sym (update_refusal chronicle.program (store_of chronicle) session index u)

  update_opening : (plain : PlainTable) → table_asked u_asked u.table ≡ Some plain → IsTable (store_of chronicle) plain → IsAccepted kept u.table u_statement (table_of (store_of chronicle).tally plain)
      → lock_on kept session (Some (table_of (store_of chronicle).tally plain)) ≡ None
      → IsOpening chronicle kept room session index u_statement stands read (start_refusal kept session u_statement) (opened u_asked [] (Some (plain.number, visible_rows (state_asked u_asked) plain))) (with_mark plain.number true (session_at (store_of chronicle) session).marks)
      (pin_whole session (table_of (store_of chronicle).tally plain) ∷ []) (marked session plain.number true kept.marks) (kept.pins ++ pin_whole session (table_of (store_of chronicle).tally plain) ∷ []) [] (Some (held_whole kept.parts (table_of (store_of chronicle).tally plain)))
  unfolding change_opened
  update_opening plain found there accepted alone = record {
    refused_as = update_tied;
    due = refl;
    numbered = refl;
    free = free_alone kept session u.table u_statement (table_of (store_of chronicle).tally plain) accepted alone;
    effect = rw (found, stands.sessions.settled) refl;
    own = (refl, tt);
    pinned = pinned_now chronicle kept room session index u_statement stands read plain;
    own_marks = exclusive_marks chronicle kept room session index u_statement stands read plain.number;
    others = exclusive_others chronicle kept room session index u_statement stands read plain.number;
    held = λ new keeps same.
        (held_now chronicle kept room session index u_statement stands read new (marked session plain.number true kept.marks) (kept.pins ++ pin_whole session (table_of (store_of chronicle).tally plain) ∷ []) u.table plain accepted.live there keeps same, tt);
    has_target = λ new same. record { table = refl; schema = schema_there new (store_of chronicle) plain same there; parts = λ none. absurd (false≢true (sym none)) };
    typed = typed_over kept u.table u_statement (table_of (store_of chronicle).tally plain) accepted;
    tables = (held_whole kept.parts (table_of (store_of chronicle).tally plain), refl, refl);
  }

  update_opens : (new : Kept) (target : Seen) → OpensTaken kept new session u.table u_statement target
      → IsBegun chronicle kept new session index u_statement (started.Ticket (record { session = session; index = index; sources = []; target = Some target }))
  update_opens new target opens =
      let table = table_is chronicle kept room session index u_statement stands read u.table opens.table opens.accepted.live in
      let accepted = subst (IsAccepted kept u.table u_statement) table.2 opens.accepted in
      let alone = subst (λ t. lock_on kept session (Some t) ≡ None) table.2 opens.alone in
      subst (λ (k : Kept). IsBegun chronicle kept k session index u_statement (started.Ticket (record { session = session; index = index; sources = []; target = Some target }))) (ap (λ t. with_own_pin kept session (pin_whole session t)) (sym table.2) ∙ sym opens.kept_is)
      (subst (λ (held : Seen). IsBegun chronicle kept (with_own_pin kept session (pin_whole session (table_of (store_of chronicle).tally table.0))) session index u_statement (started.Ticket (record { session = session; index = index; sources = []; target = Some held })))
      (ap (held_whole kept.parts) (sym table.2) ∙ sym opens.holds)
      (opening_begins chronicle kept room session index u_statement stands read _ _ _ _ _ _ _ _ (update_opening table.0 table.1 table.3 accepted alone)))

module _ (chronicle : Chronicle) (kept : Kept) (room session index : ℕ) (d : Delete) (stands : StandsFor chronicle kept room) (read : IsNextRead chronicle session index (Ok (tree.Dml (dml.Delete d)))) where
  abbrev d_statement : Statement
  d_statement = tree.Dml (dml.Delete d)

  abbrev d_asked : Asked
  d_asked = asked_with chronicle.program (store_of chronicle) session index (Ok d_statement)

  pub delete_tied : start_refusal kept session d_statement ≡ refusal_of d_asked
  delete_tied = alone_tied chronicle kept room session index d_statement stands read d.table ∙ sym (delete_refusal chronicle.program (store_of chronicle) session index d)

  delete_opening : (plain : PlainTable) → table_asked d_asked d.table ≡ Some plain → IsTable (store_of chronicle) plain → IsAccepted kept d.table d_statement (table_of (store_of chronicle).tally plain)
      → lock_on kept session (Some (table_of (store_of chronicle).tally plain)) ≡ None
      → IsOpening chronicle kept room session index d_statement stands read (start_refusal kept session d_statement) (opened d_asked [] (Some (plain.number, visible_rows (state_asked d_asked) plain))) (with_mark plain.number true (session_at (store_of chronicle) session).marks)
      (pin_whole session (table_of (store_of chronicle).tally plain) ∷ []) (marked session plain.number true kept.marks) (kept.pins ++ pin_whole session (table_of (store_of chronicle).tally plain) ∷ []) [] (Some (held_whole kept.parts (table_of (store_of chronicle).tally plain)))
  unfolding change_opened
  delete_opening plain found there accepted alone = record {
    refused_as = delete_tied;
    due = refl;
    numbered = refl;
    free = free_alone kept session d.table d_statement (table_of (store_of chronicle).tally plain) accepted alone;
    effect = rw (found, stands.sessions.settled) refl;
    own = (refl, tt);
    pinned = pinned_now chronicle kept room session index d_statement stands read plain;
    own_marks = exclusive_marks chronicle kept room session index d_statement stands read plain.number;
    others = exclusive_others chronicle kept room session index d_statement stands read plain.number;
    held = λ new keeps same.
        (held_now chronicle kept room session index d_statement stands read new (marked session plain.number true kept.marks) (kept.pins ++ pin_whole session (table_of (store_of chronicle).tally plain) ∷ []) d.table plain accepted.live there keeps same, tt);
    has_target = λ new same. record { table = refl; schema = schema_there new (store_of chronicle) plain same there; parts = λ none. absurd (false≢true (sym none)) };
    typed = typed_over kept d.table d_statement (table_of (store_of chronicle).tally plain) accepted;
    tables = (held_whole kept.parts (table_of (store_of chronicle).tally plain), refl, refl);
  }

  delete_opens : (new : Kept) (target : Seen) → OpensTaken kept new session d.table d_statement target
      → IsBegun chronicle kept new session index d_statement (started.Ticket (record { session = session; index = index; sources = []; target = Some target }))
  delete_opens new target opens =
      let table = table_is chronicle kept room session index d_statement stands read d.table opens.table opens.accepted.live in
      let accepted = subst (IsAccepted kept d.table d_statement) table.2 opens.accepted in
      let alone = subst (λ t. lock_on kept session (Some t) ≡ None) table.2 opens.alone in
      subst (λ (k : Kept). IsBegun chronicle kept k session index d_statement (started.Ticket (record { session = session; index = index; sources = []; target = Some target }))) (ap (λ t. with_own_pin kept session (pin_whole session t)) (sym table.2) ∙ sym opens.kept_is)
      (subst (λ (held : Seen). IsBegun chronicle kept (with_own_pin kept session (pin_whole session (table_of (store_of chronicle).tally table.0))) session index d_statement (started.Ticket (record { session = session; index = index; sources = []; target = Some held })))
      (ap (held_whole kept.parts) (sym table.2) ∙ sym opens.holds)
      (opening_begins chronicle kept room session index d_statement stands read _ _ _ _ _ _ _ _ (delete_opening table.0 table.1 table.3 accepted alone)))

-- ---- any statement

abbrev Due : Chronicle → ℕ → ℕ → Statement → Type 0
Due chronicle session index s =
    is_same_event event.Start (first_event (state_asked (asked_with chronicle.program (store_of chronicle) session index (Ok s))).transaction (request_asked (asked_with chronicle.program (store_of chronicle) session index (Ok s)))) ≡ true

-- by the way in which it begins, over what its refusal is
by_start : (chronicle : Chronicle) (kept new : Kept) (room session index : ℕ) (s : Statement) (begun : Started) → StandsFor chronicle kept room → IsNextRead chronicle session index (Ok s)
    → start_refusal kept session s ≡ refusal_of (asked_with chronicle.program (store_of chronicle) session index (Ok s)) → Due chronicle session index s
    → ((sources : List Seen) (target : Option Seen) → Opens kept new session s sources target → IsBegun chronicle kept new session index s (started.Ticket (record { session = session; index = index; sources = sources; target = target })))
    → Starts kept new session index s begun → IsBegun chronicle kept new session index s begun
by_start chronicle kept new room session index s (started.Ticket ticket) stands read same due opens out =
    subst (λ (n : ℕ). IsBegun chronicle kept new session index s (started.Ticket (record ticket { session = n }))) (sym out.0)
    (subst (λ (n : ℕ). IsBegun chronicle kept new session index s (started.Ticket (record ticket { session = session; index = n }))) (sym out.1)
    (opens ticket.sources ticket.target out.2))
by_start chronicle kept new room session index s (started.Refused why) stands read same due opens out =
    subst (λ (k : Kept). IsBegun chronicle kept k session index s (started.Refused why)) (sym out.1)
    (refused_begins chronicle kept room session index s stands read (start_refusal kept session s) same due why out.0)
by_start chronicle kept new room session index s started.Memory stands read same due opens out =
    subst (λ (k : Kept). IsBegun chronicle kept k session index s started.Memory) (sym out)
    (starved_begins chronicle kept room session index s stands read (start_refusal kept session s) same due)

module _ (chronicle : Chronicle) (kept new : Kept) (room session index : ℕ) (begun : Started) (stands : StandsFor chronicle kept room) where
  abbrev Begins : Statement → Type 0
  Begins s = IsNextRead chronicle session index (Ok s) → Starts kept new session index s begun → IsBegun chronicle kept new session index s begun

  plain_query_begins : (q : Query) → Begins (tree.Query (plain_query q))
  plain_query_begins q read out =
      by_start chronicle kept new room session index (tree.Query (plain_query q)) begun stands read (query_tied chronicle kept room session index q stands read) refl
      (λ sources target opens. of_target sources target opens) out
    where
      of_target : (sources : List Seen) (target : Option Seen) → Opens kept new session (tree.Query (plain_query q)) sources target
          → IsBegun chronicle kept new session index (tree.Query (plain_query q)) (started.Ticket (record { session = session; index = index; sources = sources; target = target }))
      of_target sources None opens = query_opens chronicle kept room session index q stands read new sources opens
      of_target sources (Some target) opens = absurd opens

  values_begins : (i : Insert) (tuples : List Tuple) → Begins (insertion (record i { source = source.Values tuples }))
  values_begins i tuples read out =
      by_start chronicle kept new room session index (insertion (record i { source = source.Values tuples })) begun stands read (values_tied chronicle kept room session index i tuples stands read) refl
      (λ sources target opens. of_target sources target opens) out
    where
      of_target : (sources : List Seen) (target : Option Seen) → Opens kept new session (insertion (record i { source = source.Values tuples })) sources target
          → IsBegun chronicle kept new session index (insertion (record i { source = source.Values tuples })) (started.Ticket (record { session = session; index = index; sources = sources; target = target }))
      of_target sources None opens = absurd opens
      of_target sources (Some target) opens =
          subst (λ (held : List Seen). IsBegun chronicle kept new session index (insertion (record i { source = source.Values tuples })) (started.Ticket (record { session = session; index = index; sources = held; target = Some target }))) (sym opens.0)
          (values_opens chronicle kept room session index i tuples stands read new target opens.1)

  filled_begins : (i : Insert) (q : Query) → Begins (insertion (record i { source = source.Query (plain_query q) }))
  filled_begins i q read out =
      by_start chronicle kept new room session index (insertion (record i { source = source.Query (plain_query q) })) begun stands read (filled_tied chronicle kept room session index i q stands read) refl
      (λ sources target opens. of_target sources target opens) out
    where
      of_target : (sources : List Seen) (target : Option Seen) → Opens kept new session (insertion (record i { source = source.Query (plain_query q) })) sources target
          → IsBegun chronicle kept new session index (insertion (record i { source = source.Query (plain_query q) })) (started.Ticket (record { session = session; index = index; sources = sources; target = target }))
      of_target sources None opens = absurd opens
      of_target sources (Some target) opens = filled_opens chronicle kept room session index i q stands read new sources target opens

  update_begins : (u : Update) → Begins (tree.Dml (dml.Update u))
  update_begins u read out =
      by_start chronicle kept new room session index (tree.Dml (dml.Update u)) begun stands read (update_tied chronicle kept room session index u stands read) refl (λ sources target opens. of_target sources target opens) out
    where
      of_target : (sources : List Seen) (target : Option Seen) → Opens kept new session (tree.Dml (dml.Update u)) sources target
          → IsBegun chronicle kept new session index (tree.Dml (dml.Update u)) (started.Ticket (record { session = session; index = index; sources = sources; target = target }))
      of_target sources None opens = absurd opens
      of_target sources (Some target) opens =
          subst (λ (held : List Seen). IsBegun chronicle kept new session index (tree.Dml (dml.Update u)) (started.Ticket (record { session = session; index = index; sources = held; target = Some target }))) (sym opens.0)
          (update_opens chronicle kept room session index u stands read new target opens.1)

  delete_begins : (d : Delete) → Begins (tree.Dml (dml.Delete d))
  delete_begins d read out =
      by_start chronicle kept new room session index (tree.Dml (dml.Delete d)) begun stands read (delete_tied chronicle kept room session index d stands read) refl (λ sources target opens. of_target sources target opens) out
    where
      of_target : (sources : List Seen) (target : Option Seen) → Opens kept new session (tree.Dml (dml.Delete d)) sources target
          → IsBegun chronicle kept new session index (tree.Dml (dml.Delete d)) (started.Ticket (record { session = session; index = index; sources = sources; target = target }))
      of_target sources None opens = absurd opens
      of_target sources (Some target) opens =
          subst (λ (held : List Seen). IsBegun chronicle kept new session index (tree.Dml (dml.Delete d)) (started.Ticket (record { session = session; index = index; sources = held; target = Some target }))) (sym opens.0)
          (delete_opens chronicle kept room session index d stands read new target opens.1)

  -- what is read of an INSERT's source
  insert_begins : (i : Insert) (s : InsertSource) → i.source ≡ s → IsNextRead chronicle session index (Ok (insertion i)) → CanChange (dml.Insert i) → Begins (insertion i)
  insert_begins i (source.Values tuples) is said can =
      subst (λ (x : Insert). Begins (insertion x)) (sym (ap (λ (s : InsertSource). record i { source = s }) is)) (values_begins i tuples)
  insert_begins i (source.Query q) is said can =
      let next = is_next chronicle.program (store_of chronicle) session index _ said in
      let now = source_now i q (said_built chronicle.program session index (insertion i) next.said) is in
      let none : q.joins ≡ [] = subst TakesFromOneTable is can in
      subst (λ (x : Insert). Begins (insertion x)) (sym (ap (λ (s : InsertSource). record i { source = s }) (is ∙ ap source.Query (query_is q none now)))) (filled_begins i q)

  change_begins : (d : Dml) → IsNextRead chronicle session index (Ok (tree.Dml d)) → CanChange d → Begins (tree.Dml d)
  change_begins (dml.Insert i) said can = insert_begins i i.source refl said can
  change_begins (dml.Update u) said can = update_begins u
  change_begins (dml.Delete d) said can = delete_begins d
  change_begins (dml.Copy c) said can = absurd can

  statement_begins : (s : Statement) → IsNextRead chronicle session index (Ok s) → CanStart s → Begins s
  statement_begins (tree.Query q) said can =
      let next = is_next chronicle.program (store_of chronicle) session index _ said in
      let now = query_now q (said_built chronicle.program session index (tree.Query q) next.said) in
      subst (λ (x : Query). Begins (tree.Query x)) (sym (query_is q can now)) (plain_query_begins q)
  statement_begins (tree.Dml d) said can = change_begins d said can
  statement_begins _ said can = absurd can

pub statement_starts : (chronicle : Chronicle) (kept new : Kept) (room session index : ℕ) (s : Statement) (begun : Started) → StandsFor chronicle kept room → IsNextRead chronicle session index (Ok s) → CanStart s
    → Starts kept new session index s begun → IsBegun chronicle kept new session index s begun
statement_starts chronicle kept new room session index s begun stands read can out = statement_begins chronicle kept new room session index begun stands s read can read out

-- ---- a statement that is ready still is, once its start is made but for its entry

abbrev IsSameClock : Kept → Kept → Type 0
IsSameClock old new = (new.moment ≡ old.moment) × (new.sessions ≡ old.sessions) × (new.points ≡ old.points)

still_ready : (program : Script) (old new : Kept) (session index : ℕ) → IsSameClock old new → IsReady program old session index → IsReady program new session index
still_ready program old new session index same ready = record {
  first = ready.first;
  known = ready.known;
  present = subst (λ ss. session < length ss) (sym same.1) ready.present;
  point = subst (λ ps. point_place program session index < length ps) (sym same.2) ready.point;
  moment = subst (λ m. m + 1 < 2 ^ 64) (sym same.0) ready.moment;
}

same_clock : (old new : Kept) → new ≡ old → IsSameClock old new
same_clock old new is = (ap (λ (k : Kept). k.moment) is, ap (λ (k : Kept). k.sessions) is, ap (λ (k : Kept). k.points) is)

abbrev shared_clock : (old new : Kept) (session number : ℕ) (pin : TallyPin) → new ≡ with_shared_pin old session number pin → IsSameClock old new
shared_clock old new session number pin is = (ap (λ (k : Kept). k.moment) is, ap (λ (k : Kept). k.sessions) is, ap (λ (k : Kept). k.points) is)

abbrev taken_clock : (old new : Kept) (session : ℕ) (pin : TallyPin) → new ≡ with_own_pin old session pin → IsSameClock old new
taken_clock old new session pin is = (ap (λ (k : Kept). k.moment) is, ap (λ (k : Kept). k.sessions) is, ap (λ (k : Kept). k.points) is)

insert_clock : (old new : Kept) (session : ℕ) (i : Insert) (s : InsertSource) (sources : List Seen) (target : Seen) → OpensInsert old new session i s sources target → IsSameClock old new
insert_clock old new session i (source.Values tuples) sources target opens =
    let is = opens.1.kept_is in
    (ap (λ (k : Kept). k.moment) is, ap (λ (k : Kept). k.sessions) is, ap (λ (k : Kept). k.points) is)
insert_clock old new session i (source.Query q) sources target opens = shared_clock old new session opens.table.facts.number (pin_whole session opens.read) opens.kept_is

change_clock : (old new : Kept) (session : ℕ) (d : Dml) (sources : List Seen) (target : Seen) → OpensChange old new session d sources target → IsSameClock old new
change_clock old new session (dml.Insert i) sources target opens = insert_clock old new session i i.source sources target opens
change_clock old new session (dml.Update u) sources target opens = taken_clock old new session (pin_whole session opens.1.table) opens.1.kept_is
change_clock old new session (dml.Delete d) sources target opens = taken_clock old new session (pin_whole session opens.1.table) opens.1.kept_is
change_clock old new session (dml.Copy c) sources target opens = absurd opens

opens_clock : (old new : Kept) (session : ℕ) (s : Statement) (sources : List Seen) (target : Option Seen) → CanStart s → Opens old new session s sources target → IsSameClock old new
opens_clock old new session (tree.Query q) sources None can opens =
    let is = opens.kept_is in
    (ap (λ (k : Kept). k.moment) is, ap (λ (k : Kept). k.sessions) is, ap (λ (k : Kept). k.points) is)
opens_clock old new session (tree.Query q) sources (Some target) can opens = absurd opens
opens_clock old new session (tree.Dml d) sources None can opens = absurd opens
opens_clock old new session (tree.Dml d) sources (Some target) can opens = change_clock old new session d sources target opens
opens_clock old new session _ sources target can opens = absurd can

pub started_ready : (program : Script) (old new : Kept) (session index : ℕ) (s : Statement) (begun : Started) → CanStart s → Starts old new session index s begun → IsReady program old session index → IsReady program new session index
started_ready program old new session index s (started.Ticket ticket) can out ready = still_ready program old new session index (opens_clock old new session s ticket.sources ticket.target can out.2) ready
started_ready program old new session index s (started.Refused why) can out ready = still_ready program old new session index (same_clock old new out.1) ready
started_ready program old new session index s started.Memory can out ready = still_ready program old new session index (same_clock old new out) ready
