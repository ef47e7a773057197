-- What carries from entry to entry: rows fit, also those that a transaction has added, and each open change is ready, so that what it
-- will add fits.
use Rattle.std.specs.Prelude.{Bool, List, None, Option, Some, [], false, fold, if◌then◌else◌, length, map, option_map, refl, slice_get, true, ℕ, ⊤, ◌++◌, ◌+◌, ◌-◌, ◌==◌, ◌∷◌, ◌≡◌}
use Rattle.std.proofs.Common.{ap, arith, inl, inr, subst, suc, sym, zero, ◌∙◌, ◌⊎◌}
use Rattle.std.proofs.lemmas.Option.{none-some, same_Some}
use Rattle.tt_plain.proofs.Tests.{same_number}
use Rattle.tt_plain.proofs.law.Lists.{every-append, every_at, every_from, every_on}
use Rattle.tt_plain.proofs.law.change.Apart.{get_unmap}
use Rattle.tt_plain.proofs.law.session.Alone.{set_at}
use Rattle.tt_plain.specs.ChangeKinds.{ReadHasKinds}
use Rattle.tt_plain.specs.TypingRefusal.{IsWellTyped}
use Rattle.tt_plain.specs.ValueKinds.{IsRowOf}
use Rattle.tt_plain.specs.asked.Carried.{Carried}
use Rattle.tt_plain.specs.asked.Request.{Writes, request_of}
use Rattle.tt_plain.specs.asked.Turns.{statement_read}
use Rattle.tt_plain.specs.declared.store.Plain.{Plain}
use Rattle.tt_plain.specs.declared.store.PlainOpen.{PlainOpen}
use Rattle.tt_plain.specs.declared.store.PlainPending.{PlainPending}
use Rattle.tt_plain.specs.declared.store.PlainSession.{PlainSession}
use Rattle.tt_plain.specs.declared.store.PlainTable.{PlainTable}
use Rattle.tt_plain.specs.declared.store.Version.{Version}
use Rattle.tt_plain.specs.effect.Apply.{applied, changed_session, changed_table, renamed, with_version}
use Rattle.tt_plain.specs.effect.Effect.{Dropped, Effect, Made, NewKey, NewRegime, NewVersion, Renamed, Suspended, TableChange, Undropped}
use Rattle.tt_plain.specs.law.Changes.{AreSoundTableChanges, IsSoundEffect, IsSoundTableChange}
use Rattle.tt_plain.specs.law.Fitting.{HasFittingRows}
use Rattle.tt_plain.specs.law.Lists.{Every}
use Rattle.tt_plain.specs.law.Sound.{IsSound, IsThere}
use Rattle.tt_plain.specs.meaning.Outcome.{rows_read}
use Rattle.tt_plain_laws.proofs.guard.Grown.{AreNumbered}
use Rattle.tt_plain_laws.proofs.guard.Kept.{are_numbered}
use Rattle.tt_retain.specs.Retention.{with_regime}
use Rattle.tt_script.specs.declared.script.Script.{Script}
use Rattle.tt_sql.specs.declared.change.Dml.{Dml}
use Rattle.tt_value.specs.declared.value.Row.{Row}
use Rattle.tt_value.specs.declared.value.Schema.{Schema}
use Rattle.tt_sql.specs.declared.statement.Statement.TheVariants as statement

-- ---- what is said of the tables

-- rows fit the table of a number
abbrev pub RowsFit : List PlainTable → ℕ → List Row → Type 0
RowsFit tables number rows = IsThere tables number (λ (table : PlainTable). Every (IsRowOf table.schema) rows)

abbrev pub HasSchema : List PlainTable → ℕ → Schema → Type 0
HasSchema tables number schema = IsThere tables number (λ (table : PlainTable). table.schema ≡ schema)

-- the schemas of the tables that are seen, in order
abbrev pub AreSchemasOf : List PlainTable → List (ℕ × List Row) → List Schema → Type 0
AreSchemasOf tables [] [] = ⊤
AreSchemasOf tables [] (schema ∷ schemas) = ⊥
AreSchemasOf tables (seen ∷ others) [] = ⊥
AreSchemasOf tables (seen ∷ others) (schema ∷ schemas) = HasSchema tables seen.0 schema × AreSchemasOf tables others schemas

-- A change that is open: nothing in it is refused over the schemas of its tables, its query reads rows of them, and the rows that it
-- sees of its target fit.
pub record IsReady (tables : List PlainTable) (seen : PlainOpen) (d : Dml) (target : ℕ × List Row) : Type 0 where
  pub schema : Schema
  pub schemas : List Schema
  pub target_is : HasSchema tables target.0 schema
  pub sources_are : AreSchemasOf tables seen.sources schemas
  pub typed : IsWellTyped (schema ∷ schemas) (statement.Dml d)
  pub read : ReadHasKinds schemas (rows_read seen.sources) d
  pub rows : Every (IsRowOf schema) target.1

pub record FitsSession (carried : Carried) (program : Script) (tables : List PlainTable) (session : ℕ) (state : PlainSession) : Type 0 where
  pub pending : Every (λ (pending : PlainPending). RowsFit tables pending.table pending.added) state.pending
  pub ready : (seen : PlainOpen) (d : Dml) (target : ℕ × List Row) → state.running ≡ Some seen →
      option_map request_of (statement_read carried program session seen.index) ≡ Some (Writes d) → seen.target ≡ Some target → IsReady tables seen d target

pub record Fits (carried : Carried) (program : Script) (store : Plain) : Type 0 where
  pub tables : Every HasFittingRows store.tables
  pub sessions : (session : ℕ) (state : PlainSession) → slice_get store.sessions session ≡ Some state → FitsSession carried program store.tables session state

-- ---- tables that stay, with their schemas

abbrev pub Stay : List PlainTable → List PlainTable → Type 0
Stay tables later = (place : ℕ) (table : PlainTable) → slice_get tables place ≡ Some table → (new : PlainTable) × (slice_get later place ≡ Some new) × (new.schema ≡ table.schema)

module _ (tables later : List PlainTable) (stay : Stay tables later) where
  rows_stay : (number : ℕ) (rows : List Row) → RowsFit tables number rows → RowsFit later number rows
  rows_stay number rows there =
      let new = stay (number - 1) there.table there.table_is in
      record { table = new.0; from_one = there.from_one; table_is = new.1; so = subst (λ (schema : Schema). Every (IsRowOf schema) rows) (sym new.2) there.so }

  schema_stays : (number : ℕ) (schema : Schema) → HasSchema tables number schema → HasSchema later number schema
  schema_stays number schema there =
      let new = stay (number - 1) there.table there.table_is in
      record { table = new.0; from_one = there.from_one; table_is = new.1; so = new.2 ∙ there.so }

  schemas_stay : (seen : List (ℕ × List Row)) (schemas : List Schema) → AreSchemasOf tables seen schemas → AreSchemasOf later seen schemas
  schemas_stay [] [] all = tt
  schemas_stay [] (schema ∷ schemas) all = absurd all
  schemas_stay (seen ∷ others) [] all = absurd all
  schemas_stay (seen ∷ others) (schema ∷ schemas) all = (schema_stays seen.0 schema all.0, schemas_stay others schemas all.1)

  ready_stays : (seen : PlainOpen) (d : Dml) (target : ℕ × List Row) → IsReady tables seen d target → IsReady later seen d target
  ready_stays seen d target ready = record {
    schema = ready.schema;
    schemas = ready.schemas;
    target_is = schema_stays target.0 ready.schema ready.target_is;
    sources_are = schemas_stay seen.sources ready.schemas ready.sources_are;
    typed = ready.typed;
    read = ready.read;
    rows = ready.rows;
  }

  session_stays : (carried : Carried) (program : Script) (session : ℕ) (state : PlainSession) → FitsSession carried program tables session state → FitsSession carried program later session state
  session_stays carried program session state fits = record {
    pending = every_on (λ (pending : PlainPending). RowsFit tables pending.table pending.added) (λ (pending : PlainPending). RowsFit later pending.table pending.added) state.pending
        (λ pending there. rows_stay pending.table pending.added there) fits.pending;
    ready = λ seen d target running said aimed. ready_stays seen d target (fits.ready seen d target running said aimed);
  }

-- ---- changes of tables

-- the rows that a change brings fit
abbrev pub BringsFitting : List PlainTable → TableChange → Type 0
BringsFitting tables (Made table) = HasFittingRows table
BringsFitting tables (Dropped number moment) = ⊤
BringsFitting tables (Undropped number) = ⊤
BringsFitting tables (Renamed names) = ⊤
BringsFitting tables (NewVersion number moment rows) = RowsFit tables number rows
BringsFitting tables (NewRegime number moment days) = ⊤
BringsFitting tables (NewKey number key) = ⊤
BringsFitting tables (Suspended number suspended) = ⊤

-- tables after some changes: those that were there stay, each has the number of its place, and their rows fit
record Follow (first tables : List PlainTable) : Type 0 where
  stay : Stay first tables
  numbered : AreNumbered tables
  fit : (place : ℕ) (table : PlainTable) → slice_get tables place ≡ Some table → HasFittingRows table

-- what a change makes of a table at its place
record Turns (place : ℕ) (before after : PlainTable) : Type 0 where
  number : after.number ≡ before.number
  schema : after.schema ≡ before.schema
  fit : HasFittingRows before → HasFittingRows after

get_mapped : (f : PlainTable → PlainTable) (tables : List PlainTable) (place : ℕ) (table : PlainTable) → slice_get tables place ≡ Some table → slice_get (map f tables) place ≡ Some (f table)
get_mapped f [] place table at = absurd (none-some table at)
get_mapped f (first ∷ tables) zero table at = ap (λ (t : PlainTable). Some (f t)) (same_Some first table at)
get_mapped f (first ∷ tables) (suc place) table at = get_mapped f tables place table at

get_before : (xs : List PlainTable) (y : PlainTable) (place : ℕ) (x : PlainTable) → slice_get xs place ≡ Some x → slice_get (xs ++ y ∷ []) place ≡ Some x
get_before [] y place x at = absurd (none-some x at)
get_before (first ∷ xs) y zero x at = at
get_before (first ∷ xs) y (suc place) x at = get_before xs y place x at

get_pushed : (xs : List PlainTable) (y : PlainTable) (place : ℕ) (x : PlainTable) → slice_get (xs ++ y ∷ []) place ≡ Some x → (slice_get xs place ≡ Some x) ⊎ ((place ≡ length xs) × (y ≡ x))
get_pushed [] y zero x at = inr (refl, same_Some y x at)
get_pushed [] y (suc place) x at = absurd (none-some x at)
get_pushed (first ∷ xs) y zero x at = inl at
get_pushed (first ∷ xs) y (suc place) x at = elim (get_pushed xs y place x at) [ inl h ↦ inl h | inr h ↦ inr (ap suc h.0, h.1) ]

module _ (first tables : List PlainTable) (follow : Follow first tables) where
  follow_map : (f : PlainTable → PlainTable) → ((place : ℕ) (table : PlainTable) → slice_get tables place ≡ Some table → Turns place table (f table)) → Follow first (map f tables)
  follow_map f turns = record {
    stay = λ place table at.
        let new = follow.stay place table at in
        (f new.0, get_mapped f tables place new.0 new.1, (turns place new.0 new.1).schema ∙ new.2);
    numbered = λ place table at.
        let old = get_unmap f tables place table at in
        ap (λ (t : PlainTable). t.number) old.2 ∙ (turns place old.0 old.1).number ∙ follow.numbered place old.0 old.1;
    fit = λ place table at.
        let old = get_unmap f tables place table at in
        subst HasFittingRows (sym old.2) ((turns place old.0 old.1).fit (follow.fit place old.0 old.1));
  }

  turn_if : (b : Bool) (place : ℕ) (before after : PlainTable) → (b ≡ true → Turns place before after) → Turns place before (if b then after else before)
  turn_if true place before after turn = turn refl
  turn_if false place before after turn = record { number = refl; schema = refl; fit = λ fits. fits }

  follow_with : (number : ℕ) (f : PlainTable → PlainTable) → ((place : ℕ) (table : PlainTable) → slice_get tables place ≡ Some table → (table.number == number) ≡ true → Turns place table (f table))
      → Follow first (map (λ (table : PlainTable). if table.number == number then f table else table) tables)
  follow_with number f turns =
      follow_map (λ (table : PlainTable). if table.number == number then f table else table)
      (λ place table at. turn_if (table.number == number) place table (f table) (λ test. turns place table at test))

  -- a change that keeps all but what no row tells
  quiet : (f : PlainTable → PlainTable) (place : ℕ) (table : PlainTable) → (f table).number ≡ table.number → (f table).schema ≡ table.schema → (f table).versions ≡ table.versions → Turns place table (f table)
  quiet f place table number schema versions = record {
    number = number;
    schema = schema;
    fit = λ fits. record {
      fit = subst (λ (vs : List Version). Every (λ (version : Version). Every (IsRowOf (f table).schema) version.rows) vs) (sym versions)
          (subst (λ (s : Schema). Every (λ (version : Version). Every (IsRowOf s) version.rows) table.versions) (sym schema) fits.fit);
    };
  }

  -- the table of a number is the one at its place
  of_number : (number : ℕ) (rows : List Row) → RowsFit first number rows → (place : ℕ) (table : PlainTable) → slice_get tables place ≡ Some table → (table.number == number) ≡ true → Every (IsRowOf table.schema) rows
  of_number number rows there place table at same =
      let new = follow.stay (number - 1) there.table there.table_is in
      let one : number - 1 ≡ place = omega (arith, same_number table.number number same, follow.numbered place table at) in
      let is : new.0 ≡ table = same_Some new.0 table (sym new.1 ∙ ap (slice_get tables) one ∙ at) in
      subst (λ (schema : Schema). Every (IsRowOf schema) rows) (sym new.2 ∙ ap (λ (t : PlainTable). t.schema) is) there.so

  follow_version : (number moment : ℕ) (rows : List Row) → RowsFit first number rows → Follow first (changed_table tables (NewVersion number moment rows))
  follow_version number moment rows there =
      follow_with number (with_version moment rows) (λ place table at same. record {
        number = refl;
        schema = refl;
        fit = λ fits. record {
          fit = every-append (λ (version : Version). Every (IsRowOf table.schema) version.rows) table.versions (record { begun = moment; rows = rows } ∷ []) fits.fit
              (of_number number rows there place table at same, tt);
        };
      })

  follow_made : (table : PlainTable) → table.number ≡ length tables + 1 → HasFittingRows table → Follow first (tables ++ table ∷ [])
  follow_made table counted fits = record {
    stay = λ place old at.
        let new = follow.stay place old at in
        (new.0, get_before tables table place new.0 new.1, new.2);
    numbered = λ place new at. elim (get_pushed tables table place new at) [
      | inl h ↦ follow.numbered place new h
      | inr h ↦ omega (arith, ap (λ (t : PlainTable). t.number) h.1, counted, h.0)
    ];
    fit = λ place new at. elim (get_pushed tables table place new at) [
      | inl h ↦ follow.fit place new h
      | inr h ↦ subst HasFittingRows h.1 fits
    ];
  }

  follow_changed : (moment : ℕ) (change : TableChange) → IsSoundTableChange moment tables change → BringsFitting first change → Follow first (changed_table tables change)
  follow_changed moment (Made table) sound brings = follow_made table sound.0.numbered brings
  follow_changed moment (Dropped number dropped) sound brings =
      follow_with number (λ (t : PlainTable). record t { dropped = Some dropped }) (λ place table at same. quiet (λ (t : PlainTable). record t { dropped = Some dropped }) place table refl refl refl)
  follow_changed moment (Undropped number) sound brings =
      follow_with number (λ (t : PlainTable). record t { dropped = None }) (λ place table at same. quiet (λ (t : PlainTable). record t { dropped = None }) place table refl refl refl)
  follow_changed moment (Renamed names) sound brings = follow_map (renamed names) (λ place table at. quiet (renamed names) place table refl refl refl)
  follow_changed moment (NewVersion number begun rows) sound brings = follow_version number begun rows brings
  follow_changed moment (NewRegime number begun days) sound brings =
      follow_with number (λ (t : PlainTable). record t { regimes = with_regime t.regimes begun days })
      (λ place table at same. quiet (λ (t : PlainTable). record t { regimes = with_regime t.regimes begun days }) place table refl refl refl)
  follow_changed moment (NewKey number key) sound brings =
      follow_with number (λ (t : PlainTable). record t { key = key }) (λ place table at same. quiet (λ (t : PlainTable). record t { key = key }) place table refl refl refl)
  follow_changed moment (Suspended number suspended) sound brings =
      follow_with number (λ (t : PlainTable). record t { suspended = suspended }) (λ place table at same. quiet (λ (t : PlainTable). record t { suspended = suspended }) place table refl refl refl)

follow_all : (moment : ℕ) (first tables : List PlainTable) (changes : List TableChange) → AreSoundTableChanges moment tables changes → Every (BringsFitting first) changes → Follow first tables → Follow first (fold changed_table tables changes)
follow_all moment first tables [] sound brings follow = follow
follow_all moment first tables (change ∷ changes) sound brings follow =
    follow_all moment first (changed_table tables change) changes sound.1 brings.1 (follow_changed first tables follow moment change sound.0 brings.0)

-- ---- effects

-- what an effect has to meet so that rows fit afterwards
pub record KeepsFit (carried : Carried) (program : Script) (store : Plain) (effect : Effect) : Type 0 where
  pub tables : Every (BringsFitting store.tables) effect.tables
  pub own : (session : ℕ) (new : PlainSession) → effect.session ≡ Some (session, new) → FitsSession carried program store.tables session new

module _ (carried : Carried) (program : Script) (store : Plain) (effect : Effect) (sound : IsSound carried program store) (ok : IsSoundEffect carried program store effect) (fits : Fits carried program store) (keeps : KeepsFit carried program store effect) where
  follows : Follow store.tables (fold changed_table store.tables effect.tables)
  follows =
      follow_all effect.moment store.tables store.tables effect.tables ok.tables keeps.tables (record {
        stay = λ place table at. (table, at, refl);
        numbered = are_numbered carried program store sound;
        fit = λ place table at. every_at HasFittingRows store.tables place table fits.tables at;
      })

  session_now : (change : Option (ℕ × PlainSession)) → effect.session ≡ change → (session : ℕ) (state : PlainSession) → slice_get (changed_session store.sessions change) session ≡ Some state → FitsSession carried program store.tables session state
  session_now None e session state at = fits.sessions session state at
  session_now (Some change) e session state at = elim (set_at store.sessions change.0 change.1 session state at) [
    | inl h ↦ subst (λ (n : ℕ). FitsSession carried program store.tables n state) (sym h.0) (subst (FitsSession carried program store.tables change.0) (sym h.1) (keeps.own change.0 change.1 e))
    | inr h ↦ fits.sessions session state h
  ]

  pub effect_fits : Fits carried program (applied store effect)
  unfolding applied
  effect_fits = record {
    tables = every_from HasFittingRows (fold changed_table store.tables effect.tables) follows.fit;
    sessions = λ session state at.
        session_stays store.tables (fold changed_table store.tables effect.tables) follows.stay carried program session state (session_now effect.session refl session state at);
  }
