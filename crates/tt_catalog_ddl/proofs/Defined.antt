-- A definition goes on from what is kept before it, however it goes.
use Rattle.std.specs.Prelude.{List, None, Ok, Option, Some, [], false, find, length, option_map, refl, slice_set, unwrap_or, ℕ, ◌++◌, ◌+◌, ◌-◌, ◌∷◌, ◌≡◌}
use Rattle.std.proofs.Common.{ap, arith, subst, sym, ◌∙◌}
use Rattle.std.proofs.lemmas.List.{length-map, length_push}
use Rattle.std.proofs.lemmas.Option.{none-some}
use Rattle.tt_value.specs.declared.value.Row.{Row}
use Rattle.tt_sql.specs.declared.statement.Statement.{Statement}
use Rattle.tt_sql.specs.declared.table.CreatedTable.{CreatedTable}
use Rattle.tt_history.specs.Refusals.{refusal_number}
use Rattle.tt_history.specs.declared.history.Told.{Told}
use Rattle.tt_history.specs.declared.reply.Refusal.{Refusal}
use Rattle.tt_history.specs.declared.reply.Reply.{Reply}
use Rattle.tt_plain.specs.asked.Asked.{Asked, state_asked, table_asked}
use Rattle.tt_plain.specs.asked.Request.{Creates as CreatesTable}
use Rattle.tt_plain.specs.declared.store.Plain.{Plain}
use Rattle.tt_plain.specs.declared.store.PlainSession.{PlainSession}
use Rattle.tt_plain.specs.declared.store.PlainTable.{PlainTable}
use Rattle.tt_plain.specs.definition.Changes.{definition_changes}
use Rattle.tt_plain.specs.definition.Create.{create_changes, table_created}
use Rattle.tt_plain.specs.effect.Apply.{applied}
use Rattle.tt_plain.specs.effect.Define.{defined}
use Rattle.tt_plain.specs.effect.Effect.{Made, TableChange}
use Rattle.tt_plain.specs.effect.Ending.{ended_with}
use Rattle.tt_plain.specs.law.Sound.{IsSound}
use Rattle.tt_plain.specs.refusal.First.{refusal_of}
use Rattle.tt_plain.specs.stored.Names.{table_named}
use Rattle.tt_plain.specs.stored.Points.{point_place}
use Rattle.tt_plain.specs.stored.Sessions.{session_at}
use Rattle.tt_plain.specs.tally.Changes.{MakesTable, TallyChange}
use Rattle.tt_names.specs.Changes.{bound}
use Rattle.tt_built.specs.Built.{built}
use Rattle.tt_state.proofs.Ended.{closed_at, ended_goes, state_is}
use Rattle.tt_state.proofs.Goes.{GoesOn, alone_now, ended_less, idle_now, parts_stay, same_marks, sessions_now}
use Rattle.tt_state.proofs.Histories.{contents_same, stands_sound}
use Rattle.tt_state.proofs.Lookups.{live_tied}
use Rattle.tt_state.proofs.Refusals.{create_asked, create_is, create_over, create_refusal, plain_create}
use Rattle.tt_state.proofs.Steps.{define_done, define_refused, define_starved, define_step}
use Rattle.tt_state.proofs.TrueFacts.{IsTrueEntry, adds_no_part}
use Rattle.tt_state.proofs.Turns.{IsNext, is_next, said_built}
use Rattle.tt_state.specs.Chronicle.{Chronicle, IsNextRead, entry_at, rows_of, store_of}
use Rattle.tt_state.specs.Keeps.{KeepsTables, StandsFor, is_live_as, table_of}
use Rattle.tt_state.specs.Kept.{Kept}
use Rattle.tt_state.specs.Moves.{with_ended}
use Rattle.tt_state.specs.declared.state.TableState.{TableState}
use Rattle.tt_history.specs.declared.history.EntryKind.TheVariants as kind
use Rattle.tt_history.specs.declared.history.Told.TheVariants as told
use Rattle.tt_history.specs.declared.reply.Reply.TheVariants as reply
use Rattle.tt_sql.specs.declared.statement.Statement.TheVariants as tree
use Rattle.tt_catalog_ddl.proofs.Created.{get_last, more, tables_made}
use Rattle.tt_catalog_ddl.specs.Creates.{CarriesOut, Creates, facts_made, refusal_beside, refusal_kept, table_made, with_made}

beside_over : (f : PlainTable → TableState) (c : CreatedTable) (found : Option PlainTable) → refusal_beside (option_map f found) c (tree.Create c) ≡ create_over found c
beside_over f c None = refl
beside_over f c (Some table) = refl

none_over : (c : CreatedTable) (found : Option PlainTable) → create_over found c ≡ None → found ≡ None
none_over c None e = refl
none_over c (Some table) e = absurd (none-some _ (sym e))

module _ (chronicle : Chronicle) (kept : Kept) (room session index : ℕ) (c : CreatedTable) (stands : StandsFor chronicle kept room) (read : IsNextRead chronicle session index (Ok (tree.Create (plain_create c)))) where
  abbrev store : Plain
  store = store_of chronicle

  abbrev create : CreatedTable
  create = plain_create c

  abbrev asked : Asked
  asked = create_asked chronicle.program store session index c

  next : IsNext chronicle.program store session index asked
  next = is_next chronicle.program store session index asked read

  sound : IsSound built chronicle.program store
  sound = stands_sound chronicle kept room stands

  closed : (state_asked asked).transaction ≡ false
  closed = ap (λ (s : PlainSession). s.transaction) (state_is store session next.state next.turn.state_is) ∙ closed_at store kept session next.state stands.sessions next.turn.state_is

  -- the refusal is the store's
  refused_as : refusal_kept kept create (tree.Create create) ≡ refusal_of asked
  refused_as =
      ap (λ found. refusal_beside found create (tree.Create create)) (live_tied chronicle.program store (rows_of chronicle) kept sound stands.tables session create.table)
      ∙ beside_over (table_of store.tally) create (table_asked asked create.table)
      ∙ sym (create_refusal chronicle.program store session index c)

  -- a definition adds and takes away no part
  moves_none : (t : Told) → IsTrueEntry built chronicle.program chronicle.cap (rows_of chronicle) store (entry_at store.moment session index (kind.Define t))
  moves_none t = adds_no_part built chronicle.program chronicle.cap (rows_of chronicle) store (entry_at store.moment session index (kind.Define t)) refl tt tt

  -- ---- refused, or without memory

  pub refused_goes : (why : Refusal) → refusal_kept kept create (tree.Create create) ≡ Some why
      → (after : Plain) × GoesOn chronicle kept (with_ended chronicle.program kept session index) (entry_at store.moment session index (kind.Define (told.Refused (refusal_number why)))) after (Some (reply.Refused why))
  unfolding ended_with
  refused_goes why e = (
    applied store (ended_with asked (reply.Refused why)),
    ended_goes chronicle kept room session index (Ok (tree.Create create)) stands next (kind.Define (told.Refused (refusal_number why))) (reply.Refused why)
        (define_step built chronicle.program store session index asked (told.Refused (refusal_number why)) (ended_with asked (reply.Refused why)) read
        (define_refused asked (CreatesTable create) closed refl why (sym refused_as ∙ e)) refl) refl (moves_none (told.Refused (refusal_number why))),
  )

  pub starved_goes : (after : Plain) × GoesOn chronicle kept (with_ended chronicle.program kept session index) (entry_at store.moment session index (kind.Define told.Memory)) after (Some reply.Memory)
  unfolding ended_with
  starved_goes = (
    applied store (ended_with asked reply.Memory),
    ended_goes chronicle kept room session index (Ok (tree.Create create)) stands next (kind.Define told.Memory) reply.Memory
        (define_step built chronicle.program store session index asked told.Memory (ended_with asked reply.Memory) read
        (define_starved asked (CreatesTable create) closed refl) refl) refl (moves_none told.Memory),
  )

  -- ---- made

  abbrev made : PlainTable
  made = table_created asked create

  abbrev changes : List TableChange × List TallyChange
  changes = (Made made ∷ [], MakesTable (store.moment + 1) [] ∷ [])

  changes_are : definition_changes asked (CreatesTable create) ≡ Some changes
  unfolding definition_changes create_changes
  changes_are = refl

  many : length kept.tables ≡ length store.tables
  many = ap (λ (ts : List TableState). length ts) stands.tables.tables ∙ length-map store.tables (table_of store.tally)

  abbrev made_as : ℕ → ℕ → List (ℕ × List ℕ) → TableState
  made_as number moment layouts = record (table_made number moment create) { facts = record (facts_made number moment create) { layouts = layouts } }

  table_is : table_made (length kept.tables + 1) (kept.moment + 1) create ≡ table_of (more store.tally (store.moment + 1)) made
  table_is =
      ap (λ n. table_made (n + 1) (kept.moment + 1) create) many ∙ ap (λ m. table_made (length store.tables + 1) (m + 1) create) stands.sessions.moment
      ∙ ap (made_as (length store.tables + 1) (store.moment + 1))
      (sym (ap (λ o. unwrap_or o []) (get_last store.tally.layouts ((store.moment + 1, []) ∷ []) (length store.tables + 1 - 1) (omega (arith, sound.layouts)))))

  abbrev now : Kept
  now = with_ended chronicle.program (with_made kept create) session index

  free_name : refusal_kept kept create (tree.Create create) ≡ None → find (is_live_as create.table.name.text) store.tables ≡ None
  unfolding table_named
  free_name e = none_over create (table_asked asked create.table) (sym (create_refusal chronicle.program store session index c) ∙ sym refused_as ∙ e)

  abbrev done : PlainSession
  done = record (session_at store session) { done = index; running = None }

  abbrev defined_store : Plain
  defined_store = applied store (defined asked changes)

  made_tables : refusal_kept kept create (tree.Create create) ≡ None → KeepsTables (store.tables ++ made ∷ []) (more store.tally (store.moment + 1)) (rows_of chronicle) now
  made_tables e =
      tables_made chronicle.program store (rows_of chronicle) kept now made (store.moment + 1) sound stands.tables refl refl (free_name e)
      (ap (λ t. kept.tables ++ t ∷ []) table_is) (ap (λ n. bound create.table.name.text (n + 1) kept.names) many) refl

  pub made_goes : refusal_kept kept create (tree.Create create) ≡ None → (after : Plain) × GoesOn chronicle kept now (entry_at store.moment session index (kind.Define told.Done)) after (Some reply.Ok)
  unfolding applied ended_with
  made_goes e =
      let at : session_at store session ≡ next.state = state_is store session next.state next.turn.state_is in
      let entry = entry_at store.moment session index (kind.Define told.Done) in (
        defined_store,
        record {
          step = define_step built chronicle.program store session index asked told.Done (defined asked changes) read (define_done asked (CreatesTable create) closed refl changes (sym refused_as ∙ e) changes_are) refl;
          less = ended_less chronicle.program store defined_store session index next.lines next.state done next.turn refl refl refl;
          few = omega (arith, length_push store.tables made);
          true_entry = moves_none told.Done;
          parts = parts_stay kept.parts kept.parts refl;
          tables = subst (λ (rows : List (List Row)). KeepsTables (store.tables ++ made ∷ []) (more store.tally (store.moment + 1)) rows now) (sym (contents_same built chronicle.program (rows_of chronicle) (store, entry) refl)) (made_tables e);
          sessions = record {
            moment = ap (λ m. m + 1) stands.sessions.moment;
            sessions = sessions_now chronicle.program store defined_store session index next.lines next.state done next.turn refl kept.sessions stands.sessions.sessions;
            marks = same_marks chronicle.program store defined_store session index next.lines next.state done next.turn refl kept.marks stands.sessions.marks (ap (λ (s : PlainSession). s.marks) at);
            pins = stands.sessions.pins;
            idle = idle_now chronicle.program store defined_store session index next.lines next.state done next.turn refl stands.sessions.idle (λ none. stands.sessions.idle session next.state next.turn.state_is next.idle) (λ other ne. refl);
            points = ap (λ ps. slice_set ps (point_place chronicle.program session index) (Some (kept.moment + 1))) stands.sessions.points ∙ ap (λ m. slice_set store.points (point_place chronicle.program session index) (Some (m + 1))) stands.sessions.moment;
            alone = alone_now chronicle.program store defined_store session index next.lines next.state done next.turn refl stands.sessions.alone closed;
            settled = stands.sessions.settled;
          };
        },
      )

-- ---- all ways

abbrev Goes : Chronicle → (kept middle : Kept) → ℕ → ℕ → Told → Reply → Type 0
Goes chronicle kept middle session index t answer =
    (after : Plain) × GoesOn chronicle kept (with_ended chronicle.program middle session index) (entry_at (store_of chronicle).moment session index (kind.Define t)) after (Some answer)

by_told : (chronicle : Chronicle) (kept middle : Kept) (room session index : ℕ) (c : CreatedTable) (t : Told) (answer : Reply) → StandsFor chronicle kept room
    → IsNextRead chronicle session index (Ok (tree.Create (plain_create c))) → Creates kept (plain_create c) middle t answer → Goes chronicle kept middle session index t answer
by_told chronicle kept middle room session index c told.Done answer stands read out =
    rw (out.1, out.2) (made_goes chronicle kept room session index c stands read out.0)
by_told chronicle kept middle room session index c (told.Refused number) answer stands read out =
    rw (out.2, out.3, out.4) (refused_goes chronicle kept room session index c stands read out.0 out.1)
by_told chronicle kept middle room session index c told.Memory answer stands read out =
    rw (out.0, out.1) (starved_goes chronicle kept room session index c stands read)

pub defined_goes : (chronicle : Chronicle) (kept middle : Kept) (room session index : ℕ) (statement : Statement) (t : Told) (answer : Reply) → StandsFor chronicle kept room
    → IsNextRead chronicle session index (Ok statement) → CarriesOut kept statement middle t answer → Goes chronicle kept middle session index t answer
defined_goes chronicle kept middle room session index statement t answer stands read out =
    let c = out.0 in
    let here : IsNextRead chronicle session index (Ok (tree.Create c)) = subst (λ (s : Statement). IsNextRead chronicle session index (Ok s)) out.1 read in
    let next = is_next chronicle.program (store_of chronicle) session index _ here in
    let plain : c ≡ plain_create c = create_is c (said_built chronicle.program session index (tree.Create c) next.said) in
    subst (λ (x : CreatedTable). IsNextRead chronicle session index (Ok (tree.Create x)) → Creates kept x middle t answer → Goes chronicle kept middle session index t answer) (sym plain)
    (λ there made. by_told chronicle kept middle room session index c t answer stands there made) here out.2
