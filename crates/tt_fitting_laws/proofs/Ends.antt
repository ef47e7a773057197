-- The end of a query or a change keeps rows fitting, and so does a commit.
use Rattle.std.specs.Prelude.{Bool, List, None, Option, Some, [], false, filter, flat_map, if◌then◌else◌, length, nat_lt, option_map, refl, slice_get, true, unwrap_or, ℕ, ◌&&◌, ◌++◌, ◌-◌, ◌==◌, ◌∷◌, ◌≡◌}
use Rattle.std.proofs.Common.{ap, subst, sym, ◌∙◌}
use Rattle.std.proofs.lemmas.Option.{none-some, same_Some}
use Rattle.tt_fitting_laws.proofs.Kept.{BringsFitting, Fits, KeepsFit, RowsFit}
use Rattle.tt_fitting_laws.proofs.Meaning.{change_fits, schema_is, schemas_are}
use Rattle.tt_fitting_laws.proofs.Rows.{every-plus, every-with}
use Rattle.tt_fitting_laws.proofs.Seen.{current_fits, of_table}
use Rattle.tt_fitting_laws.proofs.Sessions.{PendingFits, alone_keeps, done_keeps, memory_keeps, new_fits, own_fits, rested}
use Rattle.tt_history.specs.declared.history.Added.{Added}
use Rattle.tt_history.specs.declared.history.Told.{Told}
use Rattle.tt_history.specs.declared.reply.Reply.{Reply}
use Rattle.tt_plain.proofs.Answers.{bind_some}
use Rattle.tt_plain.proofs.Tests.{same_number}
use Rattle.tt_plain.proofs.law.Gives.{Gives, gives_bind, gives_when}
use Rattle.tt_plain.proofs.law.Lists.{every-append, every-filter}
use Rattle.tt_plain.proofs.law.Turns.{due_gives}
use Rattle.tt_plain.proofs.law.session.Alone.{IsDue, IsSaid}
use Rattle.tt_plain.proofs.law.session.Views.{every_found, is_table}
use Rattle.tt_plain.specs.Answers.{◌>>=◌}
use Rattle.tt_plain.specs.ValueKinds.{IsFoundByName, IsRowOf}
use Rattle.tt_plain.specs.asked.Asked.{Asked, own_point, request_asked, state_asked}
use Rattle.tt_plain.specs.asked.Carried.{Carried}
use Rattle.tt_plain.specs.asked.Request.{Commits, Defines, Reads, Request, Writes, request_of}
use Rattle.tt_plain.specs.asked.Turns.{statement_read}
use Rattle.tt_plain.specs.declared.store.PlainOpen.{PlainOpen}
use Rattle.tt_plain.specs.declared.store.PlainPending.{PlainPending}
use Rattle.tt_plain.specs.declared.store.PlainSession.{PlainSession}
use Rattle.tt_plain.specs.declared.store.PlainTable.{PlainTable}
use Rattle.tt_plain.specs.effect.Commit.{commit_effect, commit_told, committed, committed_by, points_settled, session_committed, version_begun, version_committed}
use Rattle.tt_plain.specs.effect.Effect.{Effect, TableChange}
use Rattle.tt_plain.specs.effect.End.{EntryFacts, answered, are_facts_of, changed_by, committed_alone, count_reply, end_effect, ended_as, kept, nothing_pending, pending_after, point_of_end, with_pending}
use Rattle.tt_plain.specs.effect.Ending.{own_point_now, session_done}
use Rattle.tt_plain.specs.law.Lists.{Every}
use Rattle.tt_plain.specs.meaning.Outcome.{Answers, Does, Outcome, change_outcome, change_seen, outcome_in, outcome_of, outcome_of_change, schema_numbered}
use Rattle.tt_plain.specs.opening.Seen.{pending_of}
use Rattle.tt_plain.specs.stored.Points.{no_point_yet}
use Rattle.tt_plain.specs.stored.Tables.{current_rows, table_numbered}
use Rattle.tt_plain.specs.tally.Changes.{AddsParts, Keeps, Unpins}
use Rattle.tt_plain.specs.tally.Parts.{numbers_added}
use Rattle.tt_plain.specs.tally.Pending.{lists_after}
use Rattle.tt_plain_laws.proofs.guard.Ends.{found_passes}
use Rattle.tt_sql.specs.declared.change.Dml.{Dml}
use Rattle.tt_sql.specs.meaning.Changes.{BadData, Changed, Changes, NullInRow, OutOfRange}
use Rattle.tt_value.specs.declared.value.Row.{Row}
use Rattle.tt_value.specs.declared.value.Schema.{Schema}
use Rattle.tt_value.specs.values.Bags.{bag_plus}
use Rattle.tt_plain.specs.asked.Event as event
use Rattle.tt_history.specs.declared.reply.Reply.TheVariants as reply
use Rattle.tt_history.specs.declared.history.Told.TheVariants as told

pending_with : (P : PlainPending → Type 0) (pending : PlainPending) (all : List PlainPending) → P pending → Every P all → Every P (with_pending pending all)
pending_with P pending all here each =
    every-append P (filter (λ (other : PlainPending). nat_lt other.table pending.table) all) (pending ∷ filter (λ (other : PlainPending). nat_lt pending.table other.table) all)
    (every-filter P (λ (other : PlainPending). nat_lt other.table pending.table) all each)
    (here, every-filter P (λ (other : PlainPending). nat_lt pending.table other.table) all each)

-- what an outcome says of the change
does_from : (number : ℕ) (changed : Changed) (table : ℕ) (removed added : List Row) (count : ℕ) → change_outcome number changed ≡ Does table removed added count → (number ≡ table) × (changed ≡ Changes removed added count)
does_from number (Changes r a c) table removed added count e = (cc, cc)
does_from number (BadData r c) table removed added count e = absurd cc
does_from number OutOfRange table removed added count e = absurd cc
does_from number (NullInRow c) table removed added count e = absurd cc

module _ (carried : Carried) (asked : Asked) (due : IsDue carried asked) (fits : Fits carried asked.program asked.store) where
  abbrev KeepsAll : Effect → Type 0
  KeepsAll effect = KeepsFit carried asked.program asked.store effect

  abbrev state : PlainSession
  state = state_asked asked

  -- ---- versions that begin

  abbrev Brings : TableChange → Type 0
  Brings change = BringsFitting asked.store.tables change

  begun_fits : (pending : PlainPending) (table : Option PlainTable) → table_numbered asked.store pending.table ≡ table → RowsFit asked.store.tables pending.table pending.added → Every Brings (version_begun asked.moment pending table)
  begun_fits pending None e there = tt
  begun_fits pending (Some table) e there =
      let is = is_table carried asked.program asked.store (pending.table - 1) table due.sound e in (
        record {
          table = table;
          from_one = is.from_one;
          table_is = is.there;
          so = every-with (IsRowOf table.schema) (current_rows table) pending (current_fits carried asked due fits (pending.table - 1) table e) (of_table carried asked due fits pending.table pending.added table there e);
        },
        tt,
      )

  unless_fits : (test : Bool) (changes : List TableChange) → Every Brings changes → Every Brings (if test then [] else changes)
  unless_fits true changes all = tt
  unless_fits false changes all = all

  version_fits : (pending : PlainPending) → RowsFit asked.store.tables pending.table pending.added → Every Brings (version_committed asked.store asked.moment pending)
  version_fits pending there =
      unless_fits (length pending.gone == 0 && length pending.added == 0) (version_begun asked.moment pending (table_numbered asked.store pending.table))
      (begun_fits pending (table_numbered asked.store pending.table) refl there)

  versions_fit : (all : List PlainPending) → Every (PendingFits carried asked due fits) all → Every Brings (flat_map (version_committed asked.store asked.moment) all)
  versions_fit [] there = tt
  versions_fit (pending ∷ all) there =
      every-append Brings (version_committed asked.store asked.moment pending) (flat_map (version_committed asked.store asked.moment) all) (version_fits pending there.0) (versions_fit all there.1)

  -- ---- commits

  committed_keeps : (left : PlainSession) (points : List (ℕ × ℕ)) (reply : Option Reply) → left.running ≡ None → KeepsAll (record (committed asked) { session = Some (asked.session, session_committed left); points = points; reply = reply })
  unfolding committed
  committed_keeps left points reply idle = record {
    tables = versions_fit state.pending (own_fits carried asked due fits).pending;
    own = λ session new e. new_fits carried asked due fits (session_committed left) (rested carried asked due fits (session_committed left) idle tt) session new e;
  }

  request_committed : (request : Request) → state.running ≡ None → Gives KeepsAll (committed_by asked request)
  unfolding committed
  request_committed Commits idle = committed_keeps (session_done asked) (points_settled asked ++ own_point_now asked) (Some reply.Ok) refl
  request_committed (Defines d) idle = committed_keeps state (points_settled asked ++ (own_point asked, no_point_yet) ∷ []) None idle
  request_committed _ idle = tt

  told_committed : (t : Told) → state.running ≡ None → Gives KeepsAll (commit_told asked t)
  told_committed told.Done idle = request_committed (request_asked asked) idle
  told_committed (told.Refused number) idle = tt
  told_committed told.Memory idle = memory_keeps carried asked due fits

  pub commit_keeps : (t : Told) → state.running ≡ None → Gives KeepsAll (commit_effect asked t)
  unfolding commit_effect
  commit_keeps t idle = due_gives KeepsAll event.Commit asked _ (λ test. told_committed t idle)

  -- ---- what an open change adds

  module _ (seen : PlainOpen) (running : state.running ≡ Some seen) (d : Dml) (says : (n : ℕ) → n ≡ seen.index → statement_read carried asked.program asked.session n ≡ Some asked.read) (asks : request_asked asked ≡ Writes d) where
    added_by : (target : ℕ × List Row) → seen.target ≡ Some target → (schema : Schema) → schema_numbered asked.store target.0 ≡ Some schema → (removed added : List Row) (count : ℕ)
        → change_seen asked.program asked.store seen schema target.1 d ≡ Changes removed added count → RowsFit asked.store.tables target.0 added
    added_by target aimed schema is removed added count e =
        let ready = (own_fits carried asked due fits).ready seen d target running (ap (λ o. option_map request_of o) (says seen.index refl) ∙ ap (λ (r : Request). Some r) asks) aimed in
        let same : ready.schema ≡ schema = same_Some ready.schema schema (sym (schema_is asked.store target.0 ready.schema ready.target_is) ∙ is) in
        let sound = is_table carried asked.program asked.store (target.0 - 1) ready.target_is.table due.sound ready.target_is.table_is in
        let found : IsFoundByName ready.schema = subst IsFoundByName ready.target_is.so sound.sound.columns in
        record {
          table = ready.target_is.table;
          from_one = ready.target_is.from_one;
          table_is = ready.target_is.table_is;
          so = subst (λ (s : Schema). Every (IsRowOf s) added) (sym ready.target_is.so)
              (change_fits asked.program asked.store seen ready.schema target.1 d ready.schemas found ready.typed (schemas_are asked.store seen.sources ready.schemas ready.sources_are) ready.read ready.rows removed added count
              (ap (λ (s : Schema). change_seen asked.program asked.store seen s target.1 d) same ∙ e));
        }

    does_fit : (table : ℕ) (removed added : List Row) (count : ℕ) → outcome_of_change asked seen d ≡ Some (Does table removed added count) → RowsFit asked.store.tables table added
    does_fit table removed added count e = by seen.target refl e
      where
        by : (target : Option (ℕ × List Row)) → seen.target ≡ target
            → (target >>= λ target. schema_numbered asked.store target.0 >>= λ schema. Some (change_outcome target.0 (change_seen asked.program asked.store seen schema target.1 d))) ≡ Some (Does table removed added count)
            → RowsFit asked.store.tables table added
        by None aimed f = absurd (none-some (Does table removed added count) f)
        by (Some target) aimed f =
            let found = bind_some (schema_numbered asked.store target.0) _ (Does table removed added count) f in
            let does = does_from target.0 (change_seen asked.program asked.store seen found.0 target.1 d) table removed added count (same_Some _ (Does table removed added count) found.2) in
            subst (λ (n : ℕ). RowsFit asked.store.tables n added) does.0 (added_by target aimed found.0 found.1 removed added count does.1)

  -- ---- changes

  module _ (table : ℕ) (removed added : List Row) (there : RowsFit asked.store.tables table added) where
    abbrev after : Option PlainPending → PlainPending
    after found = record { table = table; gone = bag_plus (unwrap_or found (nothing_pending table)).gone removed; added = bag_plus (unwrap_or found (nothing_pending table)).added added }

    after_fits : (found : Option PlainPending) → pending_of state table ≡ found → RowsFit asked.store.tables table (after found).added
    after_fits None e = record { table = there.table; from_one = there.from_one; table_is = there.table_is; so = every-plus (IsRowOf there.table.schema) [] added tt there.so }
    after_fits (Some pending) e =
        let same : pending.table ≡ table = same_number pending.table table (found_passes (λ (p : PlainPending). p.table == table) state.pending pending e) in
        let before : RowsFit asked.store.tables pending.table pending.added =
        every_found (PendingFits carried asked due fits) (λ (p : PlainPending). p.table == table) state.pending pending (own_fits carried asked due fits).pending e in
        record {
          table = there.table;
          from_one = there.from_one;
          table_is = there.table_is;
          so = every-plus (IsRowOf there.table.schema) pending.added added
              (of_table carried asked due fits pending.table pending.added there.table before (ap (λ (n : ℕ). slice_get asked.store.tables (n - 1)) same ∙ there.table_is)) there.so;
        }

    abbrev pending : PlainPending
    pending = pending_after state table removed added

    pending_fits : RowsFit asked.store.tables table pending.added
    pending_fits = after_fits (pending_of state table) refl

    kept_keeps : (facts : EntryFacts) (reply : Reply) → KeepsAll (kept asked pending table facts reply)
    unfolding kept
    kept_keeps facts reply =
        let new : PlainSession = record (session_done asked) { pending = with_pending pending state.pending } in
        alone_keeps carried asked due fits new [] (AddsParts table facts.1 ∷ Keeps (lists_after asked.store.tally asked.session table facts.0 (numbers_added facts.1)) ∷ Unpins asked.session ∷ []) asked.moment (Some reply)
        (rested carried asked due fits new refl (pending_with (PendingFits carried asked due fits) pending state.pending pending_fits (own_fits carried asked due fits).pending))

    alone_committed : (facts : EntryFacts) (reply : Reply) → KeepsAll (committed_alone asked pending table facts reply)
    unfolding committed_alone
    alone_committed facts reply =
        let left : PlainSession = record (session_done asked) { marks = [] } in
        record {
          tables = version_fits pending pending_fits;
          own = λ session new e. new_fits carried asked due fits left (rested carried asked due fits left refl (own_fits carried asked due fits).pending) session new e;
        }

    changed_keeps : (d : Dml) (count : ℕ) (facts : EntryFacts) → KeepsAll (changed_by asked d table removed added count facts)
    changed_keeps d count facts = by state.transaction
      where
        by : (b : Bool) → KeepsAll (if b then kept asked pending table facts (count_reply d count) else committed_alone asked pending table facts (count_reply d count))
        by true = kept_keeps facts (count_reply d count)
        by false = alone_committed facts (count_reply d count)

  -- ---- the end

  answered_keeps : (rows : List Row) → KeepsAll (answered asked rows)
  answered_keeps rows = done_keeps carried asked due fits (point_of_end asked) (Unpins asked.session ∷ []) asked.moment (Some (reply.Rows rows))

  outcome_keeps : (seen : PlainOpen) → state.running ≡ Some seen → ((n : ℕ) → n ≡ seen.index → statement_read carried asked.program asked.session n ≡ Some asked.read)
      → (request : Request) → request_asked asked ≡ request → (outcome : Outcome) (facts : EntryFacts) → outcome_in asked seen request ≡ Some outcome → Gives KeepsAll (ended_as asked request outcome facts)
  outcome_keeps seen running says (Reads q) asks (Answers rows) facts f = gives_when KeepsAll (length facts.0 == 0 && length facts.1 == 0) (answered asked rows) (λ test. answered_keeps rows)
  outcome_keeps seen running says (Writes d) asks (Does table removed added count) facts f =
      gives_when KeepsAll (are_facts_of asked table d removed added facts) (changed_by asked d table removed added count facts)
      (λ test. changed_keeps table removed added (does_fit seen running d says asks table removed added count f) d count facts)
  outcome_keeps seen running says _ asks _ facts f = tt

  pub end_keeps : (seen : PlainOpen) (gone : List ℕ) (added : List Added) → state.running ≡ Some seen → seen.index ≡ asked.index → IsSaid carried asked → Gives KeepsAll (end_effect (asked, seen) gone added)
  unfolding end_effect outcome_of
  end_keeps seen gone added running counted said =
      gives_bind KeepsAll (outcome_of asked seen) _ (λ outcome e.
      outcome_keeps seen running (λ n is. ap (statement_read carried asked.program asked.session) (is ∙ counted) ∙ said.said) (request_asked asked) refl outcome (gone, added) e)
