-- What was built for an INSERT is what it means over what its statement sees.
use Rattle.std.specs.Option.{option_map}
use Rattle.std.specs.Prelude.{List, None, Option, Some, [], length, map, option_to_list, refl, true, ℕ, ◌++◌, ◌+◌, ◌-◌, ◌<◌, ◌^◌, ◌∷◌, ◌≡◌, ◌≤◌}
use Rattle.std.proofs.Common.{ap, arith, subst, sym, ◌∙◌}
use Rattle.std.proofs.lemmas.Option.{none-some, same_Some}
use Rattle.tt_value.specs.declared.value.Row.{Row}
use Rattle.tt_value.specs.declared.value.Schema.{Schema}
use Rattle.tt_script.specs.declared.script.Script.{Script}
use Rattle.tt_sql.specs.declared.change.Insert.{Insert}
use Rattle.tt_sql.specs.declared.change.InsertSource.{InsertSource}
use Rattle.tt_sql.specs.declared.change.Tuple.{Tuple}
use Rattle.tt_sql.specs.declared.statement.Statement.{Statement}
use Rattle.tt_sql.specs.meaning.Changes.{Changed, Changes, insert_change}
use Rattle.tt_history.specs.declared.reply.Refusal.{Refusal}
use Rattle.tt_partition.specs.Cuts.{cut, kinds_of}
use Rattle.tt_plain.proofs.Answers.{bind_some, map_some}
use Rattle.tt_plain.proofs.law.Lists.{every_at}
use Rattle.tt_plain.proofs.law.session.Views.{is_table}
use Rattle.tt_plain.specs.Answers.{◌>>=◌}
use Rattle.tt_plain.specs.Statements.{InsertsTuples, insertion}
use Rattle.tt_plain.specs.TypingRefusal.{typing_refusal}
use Rattle.tt_plain.specs.ValueKinds.{IsFoundByName}
use Rattle.tt_plain.specs.asked.Asked.{Asked}
use Rattle.tt_plain.specs.asked.Turns.{asked_with, open_asked}
use Rattle.tt_plain.specs.declared.store.Plain.{Plain}
use Rattle.tt_plain.specs.declared.store.PlainOpen.{PlainOpen}
use Rattle.tt_plain.specs.declared.store.PlainTable.{PlainTable}
use Rattle.tt_plain.specs.history.Contents.{added_by_outcome, rows_of_change}
use Rattle.tt_plain.specs.law.Sound.{IsSound}
use Rattle.tt_plain.specs.meaning.Outcome.{Does, Outcome, change_outcome, change_seen, outcome_of, rows_read, schema_numbered, schemas_read}
use Rattle.tt_plain.specs.opening.Point.{inserted_sources}
use Rattle.tt_plain.specs.stored.Tables.{table_numbered}
use Rattle.tt_built.specs.Built.{built}
use Rattle.tt_state.proofs.Histories.{in_time, stands_sound, store_is}
use Rattle.tt_state.proofs.Turns.{is_open}
use Rattle.tt_state.specs.Chronicle.{Chronicle, IsOpenRead, rows_of, store_of}
use Rattle.tt_state.specs.declared.ticket.Built.{Built}
use Rattle.tt_state.specs.declared.ticket.Seen.{Seen}
use Rattle.tt_state.specs.declared.ticket.Ticket.{Ticket}
use Rattle.tt_catalog.proofs.Carried.{read_written}
use Rattle.tt_catalog.specs.Changes.{IsBuiltFor, change_asked}
use Rattle.tt_catalog.specs.Tickets.{HasTarget, IsTargetOf, IsTicketOf, schemas_of}
use Rattle.tt_change.specs.Accepted.{IsAccepted}
use Rattle.tt_change.specs.Builds.{PutsIn}
use Rattle.tt_schema_laws.proofs.Columns.{legal_columns}
use Rattle.tt_schema_laws.specs.Columns.{HasColumns}
use Rattle.tt_sql.specs.declared.change.Dml.TheVariants as dml
use Rattle.tt_sql.specs.declared.change.InsertSource.TheVariants as source
use Rattle.tt_sql.specs.declared.statement.Statement.TheVariants as tree
use Rattle.tt_run.specs.Outcomes.{Stands}
use Rattle.tt_run.specs.Started.{IsWriting}

-- ---- the table of a target

target_is : (chronicle : Chronicle) (statement : Statement) (seen : Option (ℕ × List Row)) (target : Option Seen) (held : Seen) → target ≡ Some held → HasTarget chronicle statement seen target → (s : ℕ × List Row) × (seen ≡ Some s) × IsTargetOf chronicle statement s held
target_is chronicle statement seen None held is has = absurd (none-some held is)
target_is chronicle statement None (Some other) held is has = absurd has
target_is chronicle statement (Some s) (Some other) held is has = (s, refl, subst (IsTargetOf chronicle statement s) (same_Some other held is) has)

-- the ticket of an INSERT that has begun holds its target alone
pub is_writing : (ticket : Ticket) (insert : Insert) (held : Seen) → ticket.sources ≡ [] → ticket.target ≡ Some held → typing_refusal (schemas_of ticket) (insertion insert) ≡ None → IsWriting ticket insert
is_writing ticket insert held none is typed = record {
  held = held;
  target = is;
  typed =
      subst (λ (t : Option Seen). typing_refusal (map (λ (h : Seen). h.schema) (option_to_list t ++ [])) (insertion insert) ≡ None) is
      (subst (λ (s : List Seen). typing_refusal (map (λ (h : Seen). h.schema) (option_to_list ticket.target ++ s)) (insertion insert) ≡ None) none typed);
}

-- an INSERT of written rows reads no table
pub no_sources : (insert : Insert) (tuples : List Tuple) (sources : List Seen) → InsertsTuples insert tuples → length sources ≡ length (inserted_sources insert.source) → sources ≡ []
no_sources insert tuples sources are long = none sources (long ∙ ap (λ (s : InsertSource). length (inserted_sources s)) are)
  where
    none : (seen : List Seen) → length seen ≡ 0 → seen ≡ []
    none [] e = refl
    none (s ∷ seen) e = absurd (omega (arith, e))

-- the same for the target that is found
abbrev pub of_held : (ticket : Ticket) (insert : Insert) (held : Seen) → IsWriting ticket insert → ticket.target ≡ Some held → IsWriting ticket insert
of_held ticket insert held writes is = record {
  held = held;
  target = is;
  typed = subst (λ (h : Seen). typing_refusal (h.schema ∷ []) (insertion insert) ≡ None) (same_Some writes.held held (sym writes.target ∙ is)) writes.typed;
}

module _ (chronicle : Chronicle) (ticket : Ticket) (insert : Insert) (stands : Stands chronicle) (is : IsTicketOf chronicle ticket (insertion insert)) (writes : IsWriting ticket insert) where
  abbrev store : Plain
  store = store_of chronicle

  sound : IsSound built chronicle.program store
  sound = stands_sound chronicle chronicle.kept stands.0 stands.1

  target : (s : ℕ × List Row) × (is.seen.target ≡ Some s) × IsTargetOf chronicle (insertion insert) s writes.held
  target = target_is chronicle (insertion insert) is.seen.target ticket.target writes.held writes.target is.target

  table : (table : PlainTable) × (table_numbered store target.0.0 ≡ Some table) × (table.schema ≡ writes.held.schema)
  table = map_some (λ (table : PlainTable). table.schema) (table_numbered store target.0.0) writes.held.schema target.2.schema

  named : IsFoundByName writes.held.schema
  named = subst IsFoundByName table.2 (is_table built chronicle.program store (target.0.0 - 1) table.0 sound table.1).sound.columns

  columns : (1 ≤ length writes.held.schema.columns) × (length writes.held.schema.columns ≤ 32)
  columns =
      let run = stands.1.legal.run in
      let same = store_is built chronicle.program chronicle.history run stands.1.legal.replayed in
      let all = legal_columns built chronicle.program chronicle.history run (in_time chronicle chronicle.kept stands.0 stands.1) stands.1.legal.replayed in
      let here : HasColumns table.0 = every_at HasColumns run.0.tables (target.0.0 - 1) table.0 all (ap (λ (s : Plain). table_numbered s target.0.0) (sym same) ∙ table.1) in
      subst (λ (schema : Schema). (1 ≤ length schema.columns) × (length schema.columns ≤ 32)) table.2 here

  pub accepted : IsAccepted writes.held.schema insert
  accepted = record {
    written = (read_written chronicle.program ticket.session ticket.index (insertion insert) (is_open chronicle.program store ticket.session ticket.index _ is.seen sound is.is_open).said).2;
    columns = columns;
    named = named;
    typed = writes.typed;
  }

  -- ---- what is built

  module _ (tuples : List Tuple) (are : InsertsTuples insert tuples) (b : Built) (puts : PutsIn (insert_change writes.held.schema [] [] insert) (kinds_of writes.held.schema) chronicle.cap b) where
    abbrev asked : Asked
    asked = change_asked chronicle ticket (dml.Insert insert)

    -- written rows read no table
    whatever_read : (sources : List Schema) (rows : List Row) → insert_change writes.held.schema sources rows insert ≡ insert_change writes.held.schema [] [] insert
    whatever_read sources rows = rw are refl

    outcome : outcome_of asked is.seen ≡ Some (Does writes.held.table [] puts.rows b.count)
    unfolding outcome_of change_seen
    outcome =
        let t = target in
        ap (λ (o : Option (ℕ × List Row)). o >>= λ target. schema_numbered store target.0 >>= λ schema. Some (change_outcome target.0 (insert_change schema (schemas_read store is.seen.sources) (rows_read is.seen.sources) insert))) t.1
        ∙ ap (λ (o : Option Schema). o >>= λ schema. Some (change_outcome t.0.0 (insert_change schema (schemas_read store is.seen.sources) (rows_read is.seen.sources) insert))) t.2.schema
        ∙ ap (λ (c : Changed). Some (change_outcome t.0.0 c)) (whatever_read (schemas_read store is.seen.sources) (rows_read is.seen.sources) ∙ puts.change)
        ∙ ap (λ n. Some (Does n [] puts.rows b.count)) (sym t.2.table)

    pub is_built : IsBuiltFor chronicle ticket (dml.Insert insert) b
    is_built = record {
      is_ticket = is;
      held = writes.held;
      target = writes.target;
      removed = [];
      added = puts.rows;
      outcome = outcome;
      gone = puts.gone;
      parts = puts.added ∙ ap (cut (kinds_of writes.held.schema) chronicle.cap) (ap added_by_outcome (sym outcome));
    }
