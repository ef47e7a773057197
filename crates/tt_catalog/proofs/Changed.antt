-- What is kept where a change has ended: its parts are added, and its table has a further version and layout.
use Rattle.std.specs.Prelude.{List, None, Ok, Option, Some, [], filter, if◌then◌else◌, length, map, option_map, option_to_list, refl, true, unwrap_or, ℕ, ◌++◌, ◌+◌, ◌==◌, ◌≡◌, ◌≤◌}
use Rattle.std.proofs.Common.{ap, arith, subst, sym, ◌∙◌}
use Rattle.std.proofs.lemmas.Bool.{eq-eqb}
use Rattle.std.proofs.lemmas.List.{length-map}
use Rattle.std.proofs.lemmas.Option.{none-some, same_Some}
use Rattle.tt_value.specs.declared.value.Row.{Row}
use Rattle.tt_value.specs.declared.value.Schema.{Schema}
use Rattle.tt_history.specs.declared.history.Added.{Added}
use Rattle.tt_history.specs.declared.history.Entry.{Entry}
use Rattle.tt_layout.specs.Numbers.{has}
use Rattle.tt_layout.specs.declared.facts.PartFacts.{PartFacts}
use Rattle.tt_marks.specs.Changes.{released}
use Rattle.tt_partition.specs.Cuts.{cut, kinds_of}
use Rattle.tt_partition.specs.Table.{IsPart, Table}
use Rattle.tt_plain.proofs.Answers.{map_some}
use Rattle.tt_script.specs.Lines.{only_if}
use Rattle.tt_plain.specs.Answers.{◌>>=◌}
use Rattle.tt_plain.specs.asked.Asked.{Asked, request_asked, state_asked}
use Rattle.tt_plain.specs.asked.Request.{Writes, request_of}
use Rattle.tt_plain.specs.asked.Turns.{statement_read}
use Rattle.tt_plain.specs.declared.store.Plain.{Plain}
use Rattle.tt_plain.specs.declared.store.PlainOpen.{PlainOpen}
use Rattle.tt_plain.specs.declared.store.PlainPending.{PlainPending}
use Rattle.tt_plain.specs.declared.store.PlainSession.{PlainSession}
use Rattle.tt_plain.specs.declared.store.PlainTable.{PlainTable}
use Rattle.tt_plain.specs.declared.tally.Tally.{Tally}
use Rattle.tt_plain.specs.declared.tally.TallyPart.{TallyPart}
use Rattle.tt_plain.specs.declared.tally.TallyPin.{TallyPin}
use Rattle.tt_plain.specs.effect.Apply.{applied}
use Rattle.tt_plain.specs.effect.Effect.{Effect}
use Rattle.tt_plain.specs.effect.End.{are_facts_of, changed_by, committed_alone, count_reply, ended_as, kept as kept_pending, pending_after}
use Rattle.tt_plain.specs.history.Contents.{contents_with, pieces_of_lengths, rows_by_actor, rows_of_change, rows_of_end}
use Rattle.tt_plain.specs.history.Step.{step_of}
use Rattle.tt_plain.specs.history.TrueFacts.{RemovesTouched, is_cut_at, parts_pinned, parts_to_replace, replaced_by}
use Rattle.tt_plain.specs.law.Lists.{Every}
use Rattle.tt_plain.specs.law.Sound.{AreRowsOf, IsSound}
use Rattle.tt_plain.specs.meaning.Outcome.{Does, schema_numbered}
use Rattle.tt_plain.specs.stored.Sessions.{session_at}
use Rattle.tt_plain.specs.stored.Tables.{table_numbered}
use Rattle.tt_plain.specs.tally.Facts.{facts_of_part}
use Rattle.tt_plain.specs.opening.Marks.{marks_exclusively}
use Rattle.tt_plain.specs.tally.Layouts.{current_parts}
use Rattle.tt_plain.specs.tally.Parts.{numbers_added, rows_in_added, rows_in_parts}
use Rattle.tt_plain_laws.proofs.parts.Contents.{Known}
use Rattle.tt_plain_laws.proofs.parts.Numbers.{Within}
use Rattle.tt_target_laws.proofs.Histories.{legal_targets}
use Rattle.tt_target_laws.specs.Targets.{KeepsTargets}
use Rattle.tt_built.specs.Built.{built, is_built}
use Rattle.tt_state.proofs.Goes.{GoesOn, added_behind, alone_now, ended_less, idle_now, marks_now, sessions_now}
use Rattle.tt_state.proofs.Histories.{early, in_time, store_is}
use Rattle.tt_state.proofs.Pins.{other_pins, own_pins, pins_left}
use Rattle.tt_state.proofs.Steps.{end_is, end_step}
use Rattle.tt_state.proofs.TrueFacts.{IsTrueEntry}
use Rattle.tt_state.proofs.Turns.{IsOpen, ready, said_built}
use Rattle.tt_state.specs.Chronicle.{Chronicle, IsOpenRead, entry_at, rows_of, store_of}
use Rattle.tt_state.specs.Keeps.{AreKeptParts, KeepsTables, StandsFor, schema_at, schema_of}
use Rattle.tt_state.specs.Kept.{Kept}
use Rattle.tt_state.specs.Moves.{IsReady}
use Rattle.tt_state.specs.declared.part.StoredPart.{StoredPart}
use Rattle.tt_state.specs.declared.ticket.Built.{Built}
use Rattle.tt_state.specs.declared.ticket.Seen.{Seen}
use Rattle.tt_state.specs.declared.ticket.Ticket.{Ticket}
use Rattle.tt_history.specs.declared.history.Actor.TheVariants as actor
use Rattle.tt_history.specs.declared.history.EntryKind.TheVariants as kind
use Rattle.tt_sql.specs.declared.change.Dml.{Dml}
use Rattle.tt_sql.specs.declared.statement.Statement.{Statement}
use Rattle.tt_sql.specs.declared.statement.Statement.TheVariants as tree
use Rattle.tt_catalog.proofs.Cuts.{all_counted, are_cut, have_kinds, pieces_are_parts, size_of, sizes_told}
use Rattle.tt_catalog.proofs.Ended.{closed, opened, others_stay, own_released, points_at, sound}
use Rattle.tt_catalog.proofs.Held.{formed}
use Rattle.tt_catalog.proofs.Landed.{landed_tables}
use Rattle.tt_catalog.proofs.MayLand.{current_numbers, may_land}
use Rattle.tt_catalog.proofs.Numbered.{are_next, both_true, numbers_told}
use Rattle.tt_catalog.proofs.Replaced.{measured_kept}
use Rattle.tt_catalog.proofs.Replacing.{IsReplaced, change_replaces, current_seen, may_go}
use Rattle.tt_catalog.proofs.Tallied.{IsTallied, tallied, tally_after}
use Rattle.tt_catalog.proofs.Versions.{committed_versions, same_length}
use Rattle.tt_catalog.specs.Changes.{IsBuiltFor, change_asked, change_entry, facts_from, next_part, numbers_behind, stored_from, with_changed, with_landed}
use Rattle.tt_catalog.specs.Ends.{with_given_up}
use Rattle.tt_catalog.specs.Landing.{MayLand}
use Rattle.tt_catalog.specs.Tickets.{HasTarget, IsTargetOf}

-- ---- the target of a ticket

pub record IsTarget (chronicle : Chronicle) (statement : Statement) (seen : Option (ℕ × List Row)) (held : Seen) : Type 0 where
  pub target : ℕ × List Row
  pub is : seen ≡ Some target
  pub tied : IsTargetOf chronicle statement target held

target_tied : (chronicle : Chronicle) (statement : Statement) (seen : Option (ℕ × List Row)) (held : Seen) → HasTarget chronicle statement seen (Some held) → IsTarget chronicle statement seen held
target_tied chronicle statement None held has = absurd has
target_tied chronicle statement (Some target) held has = record { target = target; is = refl; tied = has }

-- a table that has a schema is there, and its schema is this one
schema_is : (store : Plain) (table : ℕ) (schema : Schema) → schema_numbered store table ≡ Some schema → schema_at store.tables table ≡ schema
schema_is store table schema e = by (table_numbered store table) e
  where
    by : (found : Option PlainTable) → option_map (λ (t : PlainTable). t.schema) found ≡ Some schema → schema_of found ≡ schema
    by None f = absurd (none-some schema f)
    by (Some t) f = same_Some t.schema schema f

-- as many parts are kept as the tally has
pub as_many : (tables : List PlainTable) (tally : Tally) (contents : List (List Row)) (kept : Kept) → KeepsTables tables tally contents kept → length kept.parts ≡ length tally.parts
as_many tables tally contents kept keeps =
    sym (length-map kept.parts (λ (part : StoredPart). part.facts)) ∙ ap (λ (fs : List PartFacts). length fs) keeps.facts
    ∙ length-map (filter (λ (part : TallyPart). part.stored) tally.parts) facts_of_part ∙ ap (λ (ps : List TallyPart). length ps) keeps.whole

-- ---- a change that was built

module _ (chronicle : Chronicle) (kept : Kept) (room : ℕ) (ticket : Ticket) (change : Dml) (what : Built) (stands : StandsFor chronicle kept room) (is : IsBuiltFor chronicle ticket change what) where
  abbrev store : Plain
  store = store_of chronicle

  abbrev session : ℕ
  session = ticket.session

  abbrev index : ℕ
  index = ticket.index

  abbrev table : ℕ
  table = is.held.table

  abbrev seen : PlainOpen
  seen = is.is_ticket.seen

  abbrev asked : Asked
  asked = change_asked chronicle ticket change

  abbrev found : IsOpenRead chronicle session index (Ok (tree.Dml change)) seen
  found = is.is_ticket.is_open

  abbrev is_opened : IsOpen chronicle.program store session index asked seen
  is_opened = opened chronicle kept room session index (Ok (tree.Dml change)) seen stands found

  carried : is_built (tree.Dml change) ≡ true
  carried = said_built chronicle.program session index (tree.Dml change) is_opened.said

  -- the rows that it gives
  abbrev given : List Row
  given = rows_of_change (rows_of chronicle) asked seen is.held.schema what.gone change

  is_sound : IsSound built chronicle.program store
  is_sound = sound chronicle kept room session index (Ok (tree.Dml change)) seen stands found

  -- ---- its target

  held_target : IsTarget chronicle (tree.Dml change) seen.target is.held
  held_target = target_tied chronicle (tree.Dml change) seen.target is.held (subst (HasTarget chronicle (tree.Dml change) seen.target) is.target is.is_ticket.target)

  schema_there : schema_at store.tables table ≡ is.held.schema
  schema_there = ap (schema_at store.tables) held_target.tied.table ∙ schema_is store held_target.target.0 is.held.schema held_target.tied.schema

  in_tables : (1 ≤ table) × (table ≤ length store.tables)
  in_tables =
      let open_sound = ((sound chronicle kept room session index (Ok (tree.Dml change)) seen stands found).each session is_opened.state is_opened.turn.state_is).running seen is_opened.running in
      let target = subst (λ (o : Option (ℕ × List Row)). Every (AreRowsOf (length store.tables)) (option_to_list o)) held_target.is open_sound.target in
      (omega (arith, target.0.0, held_target.tied.table), omega (arith, target.0.1, held_target.tied.table))

  pub first_table : 1 ≤ table
  first_table = in_tables.0

  pub known_table : table ≤ length store.tables
  known_table = in_tables.1

  table_there : (here : PlainTable) × (table_numbered store table ≡ Some here)
  table_there =
      let here = map_some (λ (t : PlainTable). t.schema) (table_numbered store held_target.target.0) is.held.schema held_target.tied.schema in
      (here.0, ap (table_numbered store) held_target.tied.table ∙ here.1)

  numbers_known : AreKeptParts kept.parts (kinds_of table_there.0.schema) (current_parts store.tally table)
  numbers_known = current_numbers chronicle.program store (rows_of chronicle) kept table table_there.0 is_sound stands.tables in_tables.0 table_there.1

  known : Known (length (rows_of chronicle)) (current_parts store.tally held_target.target.0)
  known k e =
      let here = numbers_known k (ap (λ n. has (current_parts store.tally n) k) held_target.tied.table ∙ e) in
      (here.0, omega (arith, here.1, stands.tables.contents))

  -- ---- what it replaces

  -- where it replaces rows, the parts that it has pinned are in its table still
  stays : marks_exclusively change ≡ true → Within (parts_pinned store.tally session table) (current_parts store.tally table)
  stays exclusive number e =
      let run = stands.legal.run in
      let said : option_map request_of (statement_read built chronicle.program session seen.index) ≡ Some (Writes change) =
      ap (λ n. option_map request_of (statement_read built chronicle.program session n)) is_opened.numbered ∙ ap (option_map request_of) is_opened.said in
      let held = subst (KeepsTargets built chronicle.program) (sym (store_is built chronicle.program chronicle.history run stands.legal.replayed))
      (legal_targets built chronicle.program chronicle.history run (in_time chronicle kept room stands) stands.legal.replayed)
      session is_opened.state seen change held_target.target is_opened.turn.state_is is_opened.running said exclusive held_target.is in
      let there = held_target.tied.table in
      ap (λ n. has (current_parts store.tally n) number) there ∙ ap (λ (ns : List ℕ). has ns number) (sym (current_seen store.tally session held_target.target.0 stands.sessions.settled))
      ∙ held.inside number (ap (λ n. has (parts_pinned store.tally session n) number) (sym there) ∙ e)

  replaced : IsReplaced (rows_of chronicle) asked table change is.removed is.added what.gone given
  replaced =
      let there = held_target.tied.table in
      subst (λ (n : ℕ). IsReplaced (rows_of chronicle) asked n change is.removed is.added what.gone given) (sym there)
      (change_replaces (rows_of chronicle) asked seen held_target.target is.held.schema is.removed is.added what.count what.gone held_target.is held_target.tied.schema
      (measured_kept store.tables store.tally (rows_of chronicle) kept stands.tables) known is_sound.tally.pins ((formed chronicle kept room stands).pinned session index asked seen found) change carried refl
      (is.outcome ∙ ap (λ n. Some (Does n is.removed is.added what.count)) there) (is.gone ∙ ap (λ n. parts_to_replace (rows_of chronicle) asked n is.held.schema change) there)
      (λ e. subst (λ (n : ℕ). Within (parts_pinned store.tally session n) (current_parts store.tally n)) there (stays e)))

  -- ---- its entry

  abbrev added : List Added
  added = facts_from (next_part chronicle) what.added

  abbrev pub entry : Entry
  entry = change_entry chronicle ticket what

  abbrev pending : PlainPending
  pending = pending_after (state_asked asked) table is.removed is.added

  abbrev effect : Effect
  effect = committed_alone asked pending table (what.gone, added) (count_reply change what.count)

  module _ (parts : Every IsPart what.added) where
    are_facts : are_facts_of asked table change is.removed is.added (what.gone, added) ≡ true
    unfolding are_facts_of
    are_facts =
        let counted : rows_in_added added ≡ length given = ap (λ ps. rows_in_added (facts_from (next_part chronicle) ps)) is.parts ∙ all_counted (kinds_of is.held.schema) chronicle.cap stands.capped.0 (next_part chronicle) given in
        both_true _ _
        (both_true _ _ (may_go (rows_of chronicle) asked table change is.removed is.added what.gone given stands.sessions.settled replaced) (are_next store.tally what.added parts))
        (eq-eqb (rows_in_added added + length is.removed) (rows_in_parts store.tally what.gone + length is.added) (omega (arith, counted, replaced.counts)))

    ends_so : ended_as asked (request_asked asked) (Does table is.removed is.added what.count) (what.gone, added) ≡ Some effect
    ends_so =
        ap (λ b. only_if b (changed_by asked change table is.removed is.added what.count (what.gone, added))) are_facts
        ∙ ap (λ b. Some (if b then kept_pending asked pending table (what.gone, added) (count_reply change what.count) else effect)) (closed chronicle kept room session index (Ok (tree.Dml change)) seen stands found)

    stepped : step_of built chronicle.program store entry ≡ Some (applied store effect, Some (count_reply change what.count))
    unfolding committed_alone
    stepped = end_step built chronicle.program store session index asked seen what.gone added effect found (end_is asked seen (Does table is.removed is.added what.count) effect what.gone added is.outcome ends_so) refl

  -- ---- the rows of its parts, and what it removes

  abbrev of_schema : Schema → Option (List Row)
  of_schema schema = Some (rows_of_change (rows_of chronicle) asked seen schema what.gone change)

  rows_are : rows_by_actor built chronicle.program (rows_of chronicle) store entry (actor.Session session) ≡ given
  rows_are =
      ap (λ (o : Option (Asked × PlainOpen)). unwrap_or (o >>= λ f. rows_of_end (rows_of chronicle) f.0 f.1 what.gone (request_asked f.0)) []) found
      ∙ ap (λ (o : Option (ℕ × List Row)). unwrap_or (o >>= λ target. schema_numbered store target.0 >>= of_schema) []) held_target.is
      ∙ ap (λ (o : Option Schema). unwrap_or (o >>= of_schema) []) held_target.tied.schema

  abbrev rows_in : Table → List Row
  rows_in part = part.rows

  contents_are : contents_with built chronicle.program (rows_of chronicle) (store, entry) ≡ rows_of chronicle ++ map rows_in what.added
  unfolding contents_with
  contents_are =
      ap (λ (rows : List Row). rows_of chronicle ++ pieces_of_lengths (map (λ (part : Added). part.rows) added) rows) rows_are
      ∙ ap (λ (sizes : List ℕ). rows_of chronicle ++ pieces_of_lengths sizes given) (sizes_told (next_part chronicle) what.added ∙ ap (map size_of) is.parts)
      ∙ ap (λ (pieces : List (List Row)). rows_of chronicle ++ pieces) (pieces_are_parts (kinds_of is.held.schema) chronicle.cap stands.capped.0 given ∙ ap (map rows_in) (sym is.parts))

  abbrev replaced_in : Schema → Option (List ℕ)
  replaced_in schema = Some (parts_to_replace (rows_of chronicle) asked held_target.target.0 schema change)

  removes : RemovesTouched built chronicle.program (rows_of chronicle) store entry entry.kind
  removes =
      is.gone ∙ ap (λ n. parts_to_replace (rows_of chronicle) asked n is.held.schema change) held_target.tied.table
      ∙ sym
      (ap (λ (o : Option (Asked × PlainOpen)). unwrap_or (o >>= λ f. replaced_by (rows_of chronicle) f.0 f.1 (request_asked f.0)) []) found
      ∙ ap (λ (o : Option (ℕ × List Row)). unwrap_or (o >>= λ target. schema_numbered store target.0 >>= λ schema. Some (parts_to_replace (rows_of chronicle) asked target.0 schema change)) []) held_target.is
      ∙ ap (λ (o : Option Schema). unwrap_or (o >>= replaced_in) []) held_target.tied.schema)

  is_true_entry : IsTrueEntry built chronicle.program chronicle.cap (rows_of chronicle) store entry
  is_true_entry = record {
    cut =
        ap (is_cut_at chronicle.cap) (sizes_told (next_part chronicle) what.added ∙ ap (map size_of) is.parts)
        ∙ are_cut (kinds_of is.held.schema) chronicle.cap stands.capped.0 given;
    removed = removes;
    picked = tt;
  }

  -- ---- what is kept

  pub parts_kept : length kept.parts ≡ length store.tally.parts
  parts_kept = as_many store.tables store.tally (rows_of chronicle) kept stands.tables

  abbrev after : Tally
  after = tally_after store.tally session table (store.moment + 1) what.gone (numbers_added added) added

  is_tallied : IsTallied store.tally after session table (kept.moment + 1) what.gone (numbers_behind (length kept.parts) what.added) (facts_from (length kept.parts + 1) what.added)
  is_tallied =
      subst (λ (m : ℕ). IsTallied store.tally after session table (m + 1) what.gone (numbers_behind (length kept.parts) what.added) (facts_from (length kept.parts + 1) what.added)) (sym stands.sessions.moment)
      (subst (λ (n : ℕ). IsTallied store.tally after session table (store.moment + 1) what.gone (numbers_behind n what.added) (facts_from (n + 1) what.added)) (sym parts_kept)
      (subst (λ (ns : List ℕ). IsTallied store.tally after session table (store.moment + 1) what.gone ns added) (numbers_told (next_part chronicle) what.added)
      (tallied store.tally session table (store.moment + 1) added in_tables.0 (omega (arith, in_tables.1, is_sound.layouts)) what.gone (numbers_added added))))

  of_kinds : Every (λ (part : Table). part.kinds ≡ kinds_of (schema_at store.tables table)) what.added
  of_kinds =
      subst (λ (ps : List Table). Every (λ (part : Table). part.kinds ≡ kinds_of (schema_at store.tables table)) ps) (sym is.parts)
      (subst (λ (s : Schema). Every (λ (part : Table). part.kinds ≡ kinds_of s) (cut (kinds_of is.held.schema) chronicle.cap given)) (sym schema_there)
      (have_kinds (kinds_of is.held.schema) chronicle.cap stands.capped.0 given))

  pub lands : MayLand kept table what.gone
  lands =
      may_land chronicle.program store (rows_of chronicle) kept table table_there.0 what.gone is_sound stands.tables stands.sessions.moment (omega (arith, early chronicle kept room stands, stands.sessions.moment)) in_tables.0
      table_there.1 replaced.ascends replaced.inside

  pub is_ready : (number : ℕ) (numbers : List ℕ) → IsReady chronicle.program (with_landed kept number numbers what.added) session index
  is_ready number numbers =
      let before = ready chronicle kept room session index is_opened.lines is_opened.state stands is_opened.turn in
      record { first = before.first; known = before.known; present = before.present; point = before.point; moment = before.moment }

  -- the ticket's target is that which was built for
  pub same_target : (target : Seen) → ticket.target ≡ Some target → target.table ≡ table
  same_target target at = ap (λ (h : Seen). h.table) (same_Some target is.held (sym at ∙ is.target))

  pub now_is : (target : Seen) → ticket.target ≡ Some target → (numbers : List ℕ) → numbers ≡ what.gone → (landed later : Kept)
      → landed ≡ with_landed kept target.table numbers what.added → later ≡ with_given_up chronicle.program landed session index → later ≡ with_changed chronicle.program kept session index table what.gone what.added
  now_is target at numbers same landed later come ended =
      ended ∙ ap (λ (k : Kept). with_given_up chronicle.program k session index) come
      ∙ ap (λ (n : ℕ). with_changed chronicle.program kept session index n numbers what.added) (same_target target at)
      ∙ ap (λ (ns : List ℕ). with_changed chronicle.program kept session index table ns what.added) same

  pub entry_is : (moment : ℕ) (facts : List Added) → moment ≡ kept.moment → facts ≡ facts_from (length kept.parts + 1) what.added → entry_at moment session index (kind.End what.gone facts) ≡ entry
  entry_is moment facts same told =
      ap (λ (m : ℕ). entry_at m session index (kind.End what.gone facts)) (same ∙ stands.sessions.moment)
      ∙ ap (λ (fs : List Added). entry_at store.moment session index (kind.End what.gone fs)) (told ∙ ap (λ (n : ℕ). facts_from (n + 1) what.added) parts_kept)

  abbrev rested : PlainSession
  rested = record (session_at store session) { done = index; running = None; marks = [] }

  abbrev next : Plain
  next = applied store effect

  abbrev now : Kept
  now = with_changed chronicle.program kept session index table what.gone what.added

  pub changed_goes : Every IsPart what.added → (later : Plain) × GoesOn chronicle kept now entry later (Some (count_reply change what.count))
  unfolding applied committed_alone
  changed_goes parts =
      let versioned = committed_versions store asked.moment pending in (
        next,
        record {
          step = stepped parts;
          less = ended_less chronicle.program store next session index is_opened.lines is_opened.state rested is_opened.turn refl refl refl;
          few = omega (arith, same_length store.tables next.tables versioned);
          true_entry = is_true_entry;
          parts = added_behind kept.parts (stored_from table (length kept.parts + 1) what.added);
          tables = subst (λ (contents : List (List Row)). KeepsTables next.tables after contents now) (sym contents_are)
              (landed_tables store.moment (length store.tables) store.tables next.tables store.tally after (rows_of chronicle) kept session table what.gone what.added stands.tables
              is_sound.tables versioned is_tallied in_tables.0 in_tables.1 of_kinds chronicle.program index);
          sessions = record {
            moment = ap (λ m. m + 1) stands.sessions.moment;
            sessions = sessions_now chronicle.program store next session index is_opened.lines is_opened.state rested is_opened.turn refl kept.sessions stands.sessions.sessions;
            marks = marks_now chronicle.program store next session index is_opened.lines is_opened.state rested is_opened.turn refl kept.marks (released session kept.marks) stands.sessions.marks
                (own_released session kept.marks) (λ other ne. others_stay session other kept.marks ne);
            pins = λ other. pins_left session store.tally kept.pins stands.sessions.pins other ∙ ap (filter (λ (pin : TallyPin). pin.session == other)) (sym is_tallied.pins);
            idle = idle_now chronicle.program store next session index is_opened.lines is_opened.state rested is_opened.turn refl stands.sessions.idle
                (λ none. ap (filter (λ (pin : TallyPin). pin.session == session)) is_tallied.pins ∙ own_pins session store.tally.pins [] tt)
                (λ other ne. ap (filter (λ (pin : TallyPin). pin.session == other)) is_tallied.pins ∙ other_pins session store.tally.pins [] other tt ne);
            points = points_at chronicle kept room session index (Ok (tree.Dml change)) seen stands found stands.sessions.points;
            alone = alone_now chronicle.program store next session index is_opened.lines is_opened.state rested is_opened.turn refl stands.sessions.alone (closed chronicle kept room session index (Ok (tree.Dml change)) seen stands found);
            settled = is_tallied.pending ∙ stands.sessions.settled;
          };
        },
      )
