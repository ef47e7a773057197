-- A change that begins is ready, and a start changes no row.
use Rattle.std.specs.List.{All, cons_option, filter_map}
use Rattle.std.specs.Prelude.{List, None, Option, Some, [], length, map, option_map, refl, ℕ, ◌∷◌, ◌≡◌}
use Rattle.std.proofs.Common.{ap, ap₂, subst, sym, ◌∙◌}
use Rattle.std.proofs.lemmas.Option.{none-some, same_Some}
use Rattle.tt_fitting_laws.proofs.Kept.{AreSchemasOf, Fits, IsReady, KeepsFit}
use Rattle.tt_fitting_laws.proofs.Meaning.{all_of}
use Rattle.tt_fitting_laws.proofs.Seen.{named_there, seen_known, visible_fits}
use Rattle.tt_fitting_laws.proofs.Sessions.{FitsHere, alone_keeps, memory_keeps, own_fits, told_keeps}
use Rattle.tt_fitting_laws.proofs.Typed.{change_alone, change_read, is_typed, same_change}
use Rattle.tt_history.specs.declared.history.Told.{Told}
use Rattle.tt_plain.proofs.Answers.{and_then_some}
use Rattle.tt_plain.proofs.law.Gives.{Gives}
use Rattle.tt_plain.proofs.law.Lists.{every_on}
use Rattle.tt_plain.proofs.law.Turns.{due_gives}
use Rattle.tt_plain.proofs.law.session.Alone.{IsDue, IsSaid}
use Rattle.tt_plain.proofs.law.session.Views.{named}
use Rattle.tt_plain.specs.Answers.{◌>>=◌}
use Rattle.tt_plain.specs.ChangeKinds.{ReadHasKinds, SourceHasKinds}
use Rattle.tt_plain.specs.Tables.{ReadsOneTable, TakesFromOneTable, dml_tables, source_tables}
use Rattle.tt_plain.specs.TypingRefusal.{IsWellTyped}
use Rattle.tt_plain.specs.ValueKinds.{HasKinds, IsRowOf, column_kinds}
use Rattle.tt_plain.specs.asked.Asked.{Asked, own_point, request_asked, schemas_asked, state_asked, table_asked}
use Rattle.tt_plain.specs.asked.Carried.{Carried}
use Rattle.tt_plain.specs.asked.Request.{Reads, Request, Writes, request_of}
use Rattle.tt_plain.specs.asked.Turns.{statement_read}
use Rattle.tt_plain.specs.declared.store.PlainOpen.{PlainOpen}
use Rattle.tt_plain.specs.declared.store.PlainSession.{PlainSession}
use Rattle.tt_plain.specs.declared.store.PlainTable.{PlainTable}
use Rattle.tt_plain.specs.declared.tally.TallyPin.{TallyPin}
use Rattle.tt_plain.specs.effect.Effect.{Effect}
use Rattle.tt_plain.specs.effect.Ending.{memory_effect}
use Rattle.tt_plain.specs.effect.Start.{begun, begun_by, start_effect}
use Rattle.tt_plain.specs.law.Lists.{Every}
use Rattle.tt_plain.specs.meaning.Outcome.{rows_read}
use Rattle.tt_plain.specs.opening.Marks.{marks_exclusively, with_mark}
use Rattle.tt_plain.specs.opening.Opened.{change_opened, opened, query_opened, sources_seen, target_of, target_rows}
use Rattle.tt_plain.specs.opening.Point.{change_sources, inserted_sources, query_sources}
use Rattle.tt_plain.specs.opening.Seen.{rows_seen}
use Rattle.tt_plain.specs.refusal.First.{refusal_of}
use Rattle.tt_plain.specs.stored.Points.{no_point_yet}
use Rattle.tt_plain.specs.tally.Changes.{Pins}
use Rattle.tt_plain.specs.tally.Pins.{change_pins, source_pins}
use Rattle.tt_sql.specs.declared.change.Dml.{Dml}
use Rattle.tt_sql.specs.declared.change.InsertSource.{InsertSource}
use Rattle.tt_sql.specs.declared.query.Join.{Join}
use Rattle.tt_sql.specs.declared.query.Query.{Query}
use Rattle.tt_sql.specs.meaning.Scopes.{query_scope, target_scope}
use Rattle.tt_typer.proofs.ChangedRows.{in_scope}
use Rattle.tt_typer.proofs.OneTable.{one_scope}
use Rattle.tt_value.specs.declared.name.TableName.{TableName}
use Rattle.tt_value.specs.declared.value.Row.{Row}
use Rattle.tt_value.specs.declared.value.Schema.{Schema}
use Rattle.tt_value.specs.trees.Scope.{Scope}
use Rattle.tt_plain.specs.asked.Event as event
use Rattle.tt_sql.specs.declared.change.Dml.TheVariants as dml
use Rattle.tt_sql.specs.declared.change.InsertSource.TheVariants as source
use Rattle.tt_sql.specs.declared.statement.Statement.TheVariants as statement

module _ (carried : Carried) (asked : Asked) (due : IsDue carried asked) (fits : Fits carried asked.program asked.store) where
  abbrev KeepsAll : Effect → Type 0
  KeepsAll effect = KeepsFit carried asked.program asked.store effect

  abbrev state : PlainSession
  state = state_asked asked

  begun_keeps : (new : PlainSession) (pins : List TallyPin) → FitsHere carried asked due fits new → KeepsAll (begun asked new pins)
  begun_keeps new pins good =
      alone_keeps carried asked due fits new ((own_point asked, no_point_yet) ∷ []) (Pins asked.session pins ∷ []) asked.moment None good

  -- ---- queries

  query_fits : (sources : List (ℕ × List Row)) → FitsHere carried asked due fits (record (state_asked asked) { running = Some (opened asked sources None) })
  query_fits sources = record {
    pending = (own_fits carried asked due fits).pending;
    ready = λ seen d target running said aimed. absurd (none-some target (ap (λ (s : PlainOpen). s.target) (same_Some (opened asked sources None) seen running) ∙ aimed));
  }

  query_begun : (q : Query) → Gives KeepsAll (option_map (λ new. begun asked new (source_pins asked (query_sources q))) (query_opened asked q))
  unfolding query_opened
  query_begun q = seen (sources_seen asked (query_sources q))
    where
      seen : (sources : Option (List (ℕ × List Row)))
          → Gives KeepsAll (option_map (λ new. begun asked new (source_pins asked (query_sources q))) (sources >>= λ sources. Some (record (state_asked asked) { running = Some (opened asked sources None) })))
      seen None = tt
      seen (Some sources) = begun_keeps (record (state_asked asked) { running = Some (opened asked sources None) }) (source_pins asked (query_sources q)) (query_fits sources)

  -- ---- what a change reads

  abbrev schema_named : TableName → Option Schema
  schema_named name = option_map (λ (table : PlainTable). table.schema) (table_asked asked name)

  named_before : (name : TableName) (names : List TableName) (table : PlainTable) (schemas : List Schema) → table_asked asked name ≡ Some table → filter_map schema_named names ≡ schemas → filter_map schema_named (name ∷ names) ≡ table.schema ∷ schemas
  named_before name names table schemas e f =
      ap₂ (λ (o : Option Schema) (xs : List Schema). cons_option o xs) (ap (option_map (λ (t : PlainTable). t.schema)) e) f

  record AreKnown (s : InsertSource) (sources : List (ℕ × List Row)) : Type 0 where
    schemas : List Schema
    are : AreSchemasOf asked.store.tables sources schemas
    named_are : filter_map schema_named (source_tables s) ≡ schemas
    read : SourceHasKinds schemas (rows_read sources) s

  module _ (q : Query) (none : q.joins ≡ []) where
    in_query : (schema : Schema) (rows : List Row) → Every (IsRowOf schema) rows → All (HasKinds (column_kinds (query_scope (schema ∷ []) q).columns)) rows
    in_query schema rows fit =
        let one : query_scope (schema ∷ []) q ≡ target_scope q.first.table schema =
        one_scope q (schema ∷ []) none (sym (ap (λ (joins : List Join). length (q.first.table ∷ map (λ (join : Join). join.source.table) joins)) none)) in
        subst (λ (scope : Scope). All (HasKinds (column_kinds scope.columns)) rows) (sym one)
        (all_of (HasKinds (column_kinds (target_scope q.first.table schema).columns)) rows
        (every_on (IsRowOf schema) (HasKinds (column_kinds (target_scope q.first.table schema).columns)) rows (λ row is. in_scope q.first.table schema row is.kinds) fit))

    query_known : (sources : List (ℕ × List Row)) → sources_seen asked (query_sources q) ≡ Some sources → AreKnown (source.Query q) sources
    query_known sources e =
        let alone : sources_seen asked (q.first ∷ []) ≡ Some sources = sym (ap (λ (joins : List Join). sources_seen asked (q.first ∷ map (λ (join : Join). join.source) joins)) none) ∙ e in
        let found = and_then_some (λ (first : ℕ × List Row). option_map (λ (others : List (ℕ × List Row)). first ∷ others) (Some [])) (rows_seen asked q.first) sources alone in
        let known = seen_known carried asked due fits q.first found.0 found.1 in
        subst (AreKnown (source.Query q)) (same_Some (found.0 ∷ []) sources found.2) (record {
          schemas = known.table.schema ∷ [];
          are = (known.has, tt);
          named_are = ap (λ (joins : List Join). filter_map schema_named (q.first.table ∷ map (λ (join : Join). join.source.table) joins)) none ∙ named_before q.first.table [] known.table [] known.is refl;
          read = in_query known.table.schema found.0.1 known.rows;
        })

  source_known : (s : InsertSource) (sources : List (ℕ × List Row)) → TakesFromOneTable s → sources_seen asked (inserted_sources s) ≡ Some sources → AreKnown s sources
  source_known (source.Values tuples) sources alone e =
      subst (AreKnown (source.Values tuples)) (same_Some [] sources e) (record { schemas = []; are = tt; named_are = refl; read = tt })
  source_known (source.Query q) sources alone e = query_known q alone sources e

  -- ---- a change is ready

  target_fits : (table : PlainTable) (d : Dml) → table_asked asked (target_of d) ≡ Some table → Every (IsRowOf table.schema) (target_rows state table d)
  target_fits table (dml.Insert i) e = tt
  target_fits table (dml.Update u) e = visible_fits carried asked due fits table (named carried asked due u.table table e).is.there
  target_fits table (dml.Delete d) e = visible_fits carried asked due fits table (named carried asked due d.table table e).is.there
  target_fits table (dml.Copy c) e = tt

  module _ (d : Dml) (table : PlainTable) (sources : List (ℕ × List Row)) (there : table_asked asked (target_of d) ≡ Some table) (typed : IsWellTyped (schemas_asked asked (statement.Dml d)) (statement.Dml d)) where
    abbrev seen : PlainOpen
    seen = opened asked sources (Some (table.number, target_rows state table d))

    ready_with : (schemas : List Schema) → AreSchemasOf asked.store.tables sources schemas → filter_map schema_named (dml_tables d) ≡ table.schema ∷ schemas → ReadHasKinds schemas (rows_read sources) d
        → IsReady asked.store.tables seen d (table.number, target_rows state table d)
    ready_with schemas are named_are read = record {
      schema = table.schema;
      schemas = schemas;
      target_is = named_there carried asked due fits (target_of d) table there;
      sources_are = are;
      typed = subst (λ (all : List Schema). IsWellTyped all (statement.Dml d)) named_are typed;
      read = read;
      rows = target_fits table d there;
    }

  change_ready : (d : Dml) (table : PlainTable) (sources : List (ℕ × List Row)) → table_asked asked (target_of d) ≡ Some table → IsWellTyped (schemas_asked asked (statement.Dml d)) (statement.Dml d)
      → ReadsOneTable d → sources_seen asked (change_sources d) ≡ Some sources
      → IsReady asked.store.tables (opened asked sources (Some (table.number, target_rows state table d))) d (table.number, target_rows state table d)
  change_ready (dml.Insert i) table sources there typed alone e =
      let known = source_known i.source sources alone e in
      ready_with (dml.Insert i) table sources there typed known.schemas known.are (named_before i.table (source_tables i.source) table known.schemas there known.named_are) known.read
  change_ready (dml.Update u) table sources there typed alone e =
      ready_with (dml.Update u) table sources there typed [] (subst (λ (ss : List (ℕ × List Row)). AreSchemasOf asked.store.tables ss []) (same_Some [] sources e) tt) (named_before u.table [] table [] there refl) tt
  change_ready (dml.Delete d) table sources there typed alone e =
      ready_with (dml.Delete d) table sources there typed [] (subst (λ (ss : List (ℕ × List Row)). AreSchemasOf asked.store.tables ss []) (same_Some [] sources e) tt) (named_before d.table [] table [] there refl) tt
  change_ready (dml.Copy c) table sources there typed alone e =
      ready_with (dml.Copy c) table sources there typed [] (subst (λ (ss : List (ℕ × List Row)). AreSchemasOf asked.store.tables ss []) (same_Some [] sources e) tt) (named_before c.table [] table [] there refl) tt

  module _ (said : IsSaid carried asked) (free : refusal_of asked ≡ None) where
    abbrev changing : PlainTable → Dml → List (ℕ × List Row) → PlainSession
    changing table d sources = record (state_asked asked) {
      running = Some (opened asked sources (Some (table.number, target_rows (state_asked asked) table d)));
      marks = with_mark table.number (marks_exclusively d) (state_asked asked).marks;
    }

    change_fits : (d : Dml) (table : PlainTable) (sources : List (ℕ × List Row)) → request_asked asked ≡ Writes d → table_asked asked (target_of d) ≡ Some table → sources_seen asked (change_sources d) ≡ Some sources
        → FitsHere carried asked due fits (changing table d sources)
    change_fits d table sources asks there e =
        let read = change_read asked.read d asks in
        let alone = change_alone carried asked.program asked.session asked.index d (said.said ∙ ap (λ r. Some r) read) in
        let ready = change_ready d table sources there (is_typed asked (statement.Dml d) read free) alone e in
        record {
          pending = (own_fits carried asked due fits).pending;
          ready = λ seen other target running told aimed.
              let is : opened asked sources (Some (table.number, target_rows state table d)) ≡ seen = same_Some _ seen running in
              let index : seen.index ≡ asked.index = sym (ap (λ (s : PlainOpen). s.index) is) in
              let same : d ≡ other =
              same_change d other
              (sym asks ∙ same_Some (request_of asked.read) (Writes other) (sym (ap (option_map request_of) said.said) ∙ ap (λ (n : ℕ). option_map request_of (statement_read carried asked.program asked.session n)) (sym index) ∙ told)) in
              let aim : (table.number, target_rows state table d) ≡ target = same_Some _ target (ap (λ (s : PlainOpen). s.target) is ∙ aimed) in
              subst (λ (t : ℕ × List Row). IsReady asked.store.tables seen other t) aim
              (subst (λ (c : Dml). IsReady asked.store.tables seen c (table.number, target_rows state table d)) same
              (subst (λ (s : PlainOpen). IsReady asked.store.tables s d (table.number, target_rows state table d)) is ready));
        }

    change_begun : (d : Dml) → request_asked asked ≡ Writes d → Gives KeepsAll (option_map (λ new. begun asked new (change_pins asked d)) (change_opened asked d))
    unfolding change_opened
    change_begun d asks = found (table_asked asked (target_of d)) refl
      where
        seen : (table : PlainTable) → table_asked asked (target_of d) ≡ Some table → (sources : Option (List (ℕ × List Row))) → sources_seen asked (change_sources d) ≡ sources
            → Gives KeepsAll (option_map (λ new. begun asked new (change_pins asked d)) (sources >>= λ sources. Some (changing table d sources)))
        seen table e None f = tt
        seen table e (Some sources) f = begun_keeps (changing table d sources) (change_pins asked d) (change_fits d table sources asks e f)

        found : (table : Option PlainTable) → table_asked asked (target_of d) ≡ table
            → Gives KeepsAll (option_map (λ new. begun asked new (change_pins asked d)) (table >>= λ table. sources_seen asked (change_sources d) >>= λ sources. Some (changing table d sources)))
        found None e = tt
        found (Some table) e = seen table e (sources_seen asked (change_sources d)) refl

    request_begun : (request : Request) → request_asked asked ≡ request → Gives KeepsAll (begun_by asked request)
    request_begun (Reads q) asks = query_begun q
    request_begun (Writes d) asks = change_begun d asks
    request_begun _ asks = tt

  pub start_keeps : (t : Told) → IsSaid carried asked → Gives KeepsAll (start_effect asked t)
  unfolding start_effect
  start_keeps t said =
      due_gives KeepsAll event.Start asked _ (λ test.
      told_keeps carried asked due fits (begun_by asked (request_asked asked)) (memory_effect asked) t (λ free. request_begun said free (request_asked asked) refl) (memory_keeps carried asked due fits))
