-- Each definition that is not refused keeps the store sound.
use Rattle.std.specs.List.{position, position_or_len, reduce}
use Rattle.std.specs.Prelude.{Bool, Err, List, None, Ok, Option, Result, Some, [], bytes_eq, false, filter, fold, if◌then◌else◌, is_none, length, nat_le, nat_lt, option_map, refl, slice_get, true, ℕ, ◌++◌, ◌+◌, ◌<◌, ◌∷◌, ◌≡◌, ◌≤◌}
use Rattle.std.proofs.Common.{ap, arith, cond, subst, sym, ◌∙◌}
use Rattle.std.proofs.lemmas.Bool.{and_parts, false≢true, leb-true, ltb-true}
use Rattle.std.proofs.lemmas.Option.{none-some, same_Some}
use Rattle.std.proofs.lemmas.Slice.Eq.{bytes_eq-Decides}
use Rattle.tt_history.specs.declared.history.Told.{Told}
use Rattle.tt_layout.specs.Numbers.{IsAscending}
use Rattle.tt_plain.proofs.NamedColumns.{found_made, named_once}
use Rattle.tt_plain.proofs.law.session.Alone.{IsDue}
use Rattle.tt_plain.proofs.law.entry.Defines.{drop_sound, key_sound, no_places, retention_sound, suspension_sound, truncate_sound}
use Rattle.tt_plain.proofs.law.Free.{IsFree, is_free}
use Rattle.tt_plain.proofs.law.Gives.{Gives, gives_at, gives_bind, gives_map}
use Rattle.tt_plain.proofs.law.Lists.{every-filter, every_from, every_kept}
use Rattle.tt_plain.proofs.law.entry.Makes.{clone_few, free_name, made_sound, new_table}
use Rattle.tt_plain.proofs.law.entry.SessionAlone.{SoundIn, memory_sound, told_sound}
use Rattle.tt_plain.proofs.law.entry.Renames.{rename_sound, swap_sound, undrop_sound}
use Rattle.tt_plain.proofs.law.Turns.{due_gives}
use Rattle.tt_plain.proofs.law.session.Views.{named, is_table, seen_rows, source_ascends}
use Rattle.tt_plain.specs.Places.{each, if_there}
use Rattle.tt_plain.specs.WrongCounts.{defined_names, miscounted_columns, wrong_counts}
use Rattle.tt_plain.specs.asked.Asked.{Asked, in_statement, request_asked, schemas_asked, state_asked, table_asked}
use Rattle.tt_plain.specs.asked.Carried.{Carried}
use Rattle.tt_plain.specs.asked.Event.{first_event, is_same_event}
use Rattle.tt_plain.specs.asked.Request.{Alters, Clones, Creates, Defines, Definition, Drops, Request, Truncates, Undrops, request_of}
use Rattle.tt_plain.specs.declared.store.PlainTable.{PlainTable}
use Rattle.tt_plain.specs.definition.Alter.{alter_changes}
use Rattle.tt_plain.specs.definition.Changes.{definition_changes, tables_alone}
use Rattle.tt_plain.specs.definition.Clone.{clone_changes, table_cloned}
use Rattle.tt_plain.specs.definition.Create.{create_changes, days_given, key_given, schema_made, table_created}
use Rattle.tt_plain.specs.definition.Drop.{drop_changes}
use Rattle.tt_plain.specs.definition.Swap.{swap_changes}
use Rattle.tt_plain.specs.definition.Truncate.{truncate_changes}
use Rattle.tt_plain.specs.definition.Undrop.{undrop_changes}
use Rattle.tt_plain.specs.effect.Define.{define_effect, defined, defined_by}
use Rattle.tt_plain.specs.effect.Effect.{TableChange}
use Rattle.tt_plain.specs.effect.Ending.{ended_with, memory_effect}
use Rattle.tt_plain.specs.law.Changes.{IsFreeName}
use Rattle.tt_plain.specs.law.Lists.{Every}
use Rattle.tt_plain.specs.law.Sound.{AreRowsOf, IsKeyOf}
use Rattle.tt_plain.specs.opening.Seen.{rows_seen}
use Rattle.tt_plain.specs.refusal.{head_of}
use Rattle.tt_plain.specs.refusal.LockHeld.{holders, definition_holders, holders_asked}
use Rattle.tt_plain.specs.refusal.NothingToUndrop.{drop_moment, is_in_time_travel, is_undroppable, later_dropped, table_to_undrop}
use Rattle.tt_plain.specs.refusal.RetentionRange.{altered_beyond, days_beyond, days_out_of_range, is_transient, most_days}
use Rattle.tt_plain.specs.refusal.TableExists.{live_names, names_given, names_in_definition, place_where_live}
use Rattle.tt_plain.specs.stored.Sessions.{has_mark, others_with}
use Rattle.tt_plain.specs.stored.Tables.{is_live}
use Rattle.tt_plain.specs.tally.Changes.{TallyChange}
use Rattle.tt_plain.specs.tally.Layouts.{source_parts}
use Rattle.tt_retain.specs.Retention.{clone_days}
use Rattle.tt_sql.specs.declared.statement.Statement.{Statement}
use Rattle.tt_sql.specs.declared.table.Change.{Change}
use Rattle.tt_sql.specs.declared.table.ClonedTable.{ClonedTable}
use Rattle.tt_sql.specs.declared.table.CreatedTable.{CreatedTable}
use Rattle.tt_value.specs.declared.name.Name.{Name}
use Rattle.tt_value.specs.declared.name.Number.{Number}
use Rattle.tt_value.specs.declared.name.TableName.{TableName}
use Rattle.tt_value.specs.declared.value.Column.{Column}
use Rattle.tt_value.specs.declared.value.Schema.{Schema}
use Rattle.tt_value.specs.trees.Scope.{column_place}
use Rattle.tt_sql.specs.declared.table.Change.TheVariants as change
use Rattle.tt_plain.specs.asked.Event as event
use Rattle.tt_history.specs.declared.reply.Refusal.TheVariants as refusal
use Rattle.tt_sql.specs.declared.statement.Statement.TheVariants as statement

-- ---- what the refusals leave

no_head : (xs : List ℕ) → option_map refusal.LockHeld (head_of xs) ≡ None → xs ≡ []
no_head [] e = refl
no_head (x ∷ xs) e = absurd (none-some (refusal.LockHeld x) (sym e))

not_live : (name : TableName) (o : Option PlainTable) → place_where_live name o ++ [] ≡ [] → o ≡ None
not_live name None e = refl
not_live name (Some table) e = absurd cc

within_kind : (b : Bool) (place : ℕ) → (if b then [] else place ∷ []) ≡ [] → b ≡ true
within_kind true place e = refl
within_kind false place e = absurd cc

most_90 : (transient : Bool) (days : ℕ) → nat_le days (most_days transient) ≡ true → days ≤ 90
most_90 true days e = omega (arith, leb-true days 1 e)
most_90 false days e = leb-true days 90 e

days_right : (transient : Bool) (o : Option Number) → if_there (days_beyond transient) o ≡ [] → days_given o ≤ 90
days_right transient None e = omega arith
days_right transient (Some days) e = most_90 transient days.value (within_kind (nat_le days.value (most_days transient)) days.place e)

counts_right : (schemas : Statement → List Schema) (c : CreatedTable) (r : Result Statement ℕ) → request_of r ≡ Defines (Creates c) → in_statement (λ s. wrong_counts (schemas s) s) r ≡ [] → miscounted_columns (defined_names c.columns) ≡ []
counts_right schemas c (Err place) e f = absurd cc
counts_right schemas c (Ok (statement.Create d)) e f =
    let same : d ≡ c = cc in subst (λ (x : CreatedTable). miscounted_columns (defined_names x.columns) ≡ []) same f
counts_right schemas c (Ok _) e f = absurd cc

key_within : {A : Type 0} (test : A → Bool) (xs : List A) (k : ℕ) → position test xs ≡ Some k → k < length xs
key_within test xs k e = by (nat_lt (position_or_len test xs) (length xs)) refl e
  where
    by : (b : Bool) → nat_lt (position_or_len test xs) (length xs) ≡ b → cond b (Some (position_or_len test xs)) None ≡ Some k → k < length xs
    by true h f = omega (arith, ltb-true (position_or_len test xs) (length xs) h, same_Some (position_or_len test xs) k f)
    by false h f = absurd (none-some k f)

key_right : (schema : Schema) (name : List ℕ) (o : Option ℕ) → column_place schema name ≡ o → IsKeyOf schema o
key_right schema name None e = tt
key_right schema name (Some k) e = key_within (λ (column : Column). bytes_eq column.name name) schema.columns k e

given_right : (schema : Schema) (o : Option Name) → IsKeyOf schema (key_given schema o)
given_right schema None = tt
given_right schema (Some name) = key_right schema name.text (column_place schema name.text) refl

-- what is chosen of two is chosen of a list
reduced : {A : Type 0} (P : A → Type 0) (f : A → A → A) → ((a b : A) → P a → P b → P (f a b)) → (x : A) (xs : List A) → P x → Every P xs → P (fold f x xs)
reduced P f on x [] here all = here
reduced P f on x (y ∷ xs) here all = reduced P f on (f x y) xs (on x y here all.0) all.1

reduce_gives : {A : Type 0} (P : A → Type 0) (f : A → A → A) (xs : List A) → ((a b : A) → P a → P b → P (f a b)) → Every P xs → Gives P (reduce f xs)
reduce_gives P f [] on all = tt
reduce_gives P f (x ∷ xs) on all = reduced P f on x xs all.0 all.1

either_of : (P : PlainTable → Type 0) (test : Bool) (a b : PlainTable) → P a → P b → P (if test then b else a)
either_of P true a b here there = there
either_of P false a b here there = here

every_both : {A : Type 0} (P Q : A → Type 0) (xs : List A) → Every P xs → Every Q xs → Every (λ (x : A). P x × Q x) xs
every_both P Q [] left right = tt
every_both P Q (x ∷ xs) left right = ((left.0, right.0), every_both P Q xs left.1 right.1)

module _ (carried : Carried) (asked : Asked) (due : IsDue carried asked) (closed : (state_asked asked).transaction ≡ false) (idle : (state_asked asked).running ≡ None) (free : IsFree asked) where
  abbrev SoundDefined : List TableChange × List TallyChange → Type 0
  SoundDefined changes = SoundIn carried asked.program asked.store (defined asked changes)

  -- names that are given are free
  new_names : (d : Definition) → request_asked asked ≡ Defines d → (name : TableName) → names_in_definition d ≡ name ∷ [] → table_asked asked name ≡ None
  new_names d e name one =
      let places : live_names asked ≡ [] = no_places refusal.TableExists (live_names asked) free.exists in
      not_live name (table_asked asked name) (sym (ap (λ (ns : List TableName). each (λ n. place_where_live n (table_asked asked n)) ns) (ap names_given e ∙ one)) ∙ places)

  nobody_holds : (d : Definition) → request_asked asked ≡ Defines d → (name : TableName) → definition_holders asked d ≡ holders asked name → (table : PlainTable) → table_asked asked name ≡ Some table
      → others_with (has_mark table.number) asked.store asked.session ≡ []
  nobody_holds d e name all table there =
      sym (ap (if_there (λ (t : PlainTable). others_with (has_mark t.number) asked.store asked.session)) there) ∙ sym all
      ∙ sym (ap (holders_asked asked) e) ∙ no_head (holders_asked asked (request_asked asked)) free.held

  days_left : (d : Definition) → request_asked asked ≡ Defines d → days_out_of_range asked (Defines d) ≡ []
  days_left d e = sym (ap (days_out_of_range asked) e) ∙ no_places refusal.RetentionRange (days_out_of_range asked (request_asked asked)) free.retention

  -- ---- CREATE TABLE and clones

  create_sound : (c : CreatedTable) → request_asked asked ≡ Defines (Creates c) → SoundDefined (create_changes asked c)
  unfolding create_changes ended_with
  create_sound c e time =
      let count : ℕ = length asked.store.tables + 1 in
      new_table carried asked due closed idle c.replaces c.table (table_created asked c) []
      (λ not_replaced. new_names (Creates c) e c.table (ap (λ (b : Bool). if b then [] else c.table ∷ []) not_replaced))
      (λ old replaced there. nobody_holds (Creates c) e c.table (ap (λ (b : Bool). if b then holders asked c.table else []) replaced) old there) refl
      (made_sound asked.moment count count (days_given c.options.retention) (is_transient c.kind) [] (table_created asked c) time
      (days_right (is_transient c.kind) c.options.retention (days_left (Creates c) e)) refl (omega arith, omega arith) refl refl refl refl tt
      (found_made c.columns (named_once (defined_names c.columns) (counts_right (schemas_asked asked) c asked.read e
      (no_places refusal.WrongCount (in_statement (λ s. wrong_counts (schemas_asked asked s) s) asked.read) free.counts))))
      (given_right (schema_made c.columns) c.options.cluster_by)) tt time

  clone_sound : (c : ClonedTable) → request_asked asked ≡ Defines (Clones c) → Gives SoundDefined (clone_changes asked c)
  unfolding clone_changes ended_with
  clone_sound c e =
      gives_bind SoundDefined (table_asked asked c.source.table) _ (λ from_table there.
      gives_bind SoundDefined (rows_seen asked c.source) _ (λ seen f.
      gives_bind SoundDefined (source_parts asked c.source) _ (λ parts g. λ time.
      let count : ℕ = length asked.store.tables + 1 in
      let is = (named carried asked due c.source.table from_table there).is in
      let bag = gives_at (AreRowsOf (length asked.store.tables)) (rows_seen asked c.source) seen (seen_rows carried asked due c.source) f in
      new_table carried asked due closed idle c.replaces c.table (table_cloned asked c from_table seen.1) parts.1
      (λ not_replaced. new_names (Clones c) e c.table (ap (λ (b : Bool). if b then [] else c.table ∷ []) not_replaced))
      (λ old replaced there. nobody_holds (Clones c) e c.table (ap (λ (b : Bool). if b then holders asked c.table else []) replaced) old there) refl
      (made_sound asked.moment count count (clone_days from_table.regimes (is_transient c.kind)) (is_transient c.kind) seen.1 (table_cloned asked c from_table seen.1) time
      (clone_few from_table.regimes (is_transient c.kind) is.sound.regimes.order) refl (is.sound.group.0, omega (arith, is.sound.group.1)) refl refl refl refl bag.2
      is.sound.columns is.sound.key)
      (gives_at (λ (s : ℕ × List ℕ). IsAscending s.1) (source_parts asked c.source) parts (source_ascends carried asked due c.source) g) time)))

  -- ---- UNDROP

  abbrev Undroppable : TableName → PlainTable → Type 0
  Undroppable name table = ((place : ℕ) × (slice_get asked.store.tables place ≡ Some table)) × (is_undroppable asked name table ≡ true)

  undropped_sound : (name : TableName) → request_asked asked ≡ Defines (Undrops name) → Gives SoundDefined (option_map undrop_changes (table_to_undrop asked name))
  undropped_sound name e =
      let all : Every (Undroppable name) (filter (is_undroppable asked name) asked.store.tables) =
      every_both (λ (t : PlainTable). (place : ℕ) × (slice_get asked.store.tables place ≡ Some t)) (λ (t : PlainTable). is_undroppable asked name t ≡ true) (filter (is_undroppable asked name) asked.store.tables)
      (every-filter (λ (t : PlainTable). (place : ℕ) × (slice_get asked.store.tables place ≡ Some t)) (is_undroppable asked name) asked.store.tables
      (every_from (λ (t : PlainTable). (place : ℕ) × (slice_get asked.store.tables place ≡ Some t)) asked.store.tables (λ place t at. (place, at))))
      (every_kept (is_undroppable asked name) asked.store.tables) in
      gives_map SoundDefined undrop_changes (table_to_undrop asked name) (λ table found.
      let good = gives_at (Undroppable name) (table_to_undrop asked name) table
      (reduce_gives (Undroppable name) later_dropped (filter (is_undroppable asked name) asked.store.tables) (λ a b here there. either_of (Undroppable name) (nat_lt (drop_moment a) (drop_moment b)) a b here there) all) found in
      let called : table.name ≡ name.name.text = (bytes_eq-Decides table.name name.name.text).0 (and_parts (bytes_eq table.name name.name.text) (is_in_time_travel asked.moment table) good.1).0 in
      undrop_sound carried asked due closed idle table (is_table carried asked.program asked.store good.0.0 table due.sound good.0.1)
      (subst (IsFreeName asked.store.tables) (sym called) (free_name carried asked due closed idle name (new_names (Undrops name) e name refl))))

  -- ---- ALTER TABLE

  live_true : (table : PlainTable) → table.dropped ≡ None → is_live table ≡ true
  live_true table e = ap (λ (d : Option ℕ). is_none d) e

  altered_sound : (name : TableName) (change : Change) (table : PlainTable) → request_asked asked ≡ Defines (Alters name change) → table_asked asked name ≡ Some table → Gives SoundDefined (option_map tables_alone (alter_changes asked table change))
  altered_sound name (change.RenameTo new) table e there =
      rename_sound carried asked due closed idle table new (free_name carried asked due closed idle new (new_names (Alters name (change.RenameTo new)) e new refl))
  altered_sound name (change.SwapWith other) table e there = by (table_asked asked other) refl
    where
      by : (o : Option PlainTable) → table_asked asked other ≡ o → Gives SoundDefined (option_map tables_alone (option_map (swap_changes table) o))
      by None f = tt
      by (Some second) f =
          let a = named carried asked due name table there in
          let b = named carried asked due other second f in
          swap_sound carried asked due closed idle table second a.is b.is (live_true table a.live) (live_true second b.live)
  altered_sound name (change.SetRetention days) table e there =
      retention_sound carried asked due closed idle table days (sym (ap (λ (o : Option PlainTable). altered_beyond o (change.SetRetention days)) there) ∙ days_left (Alters name (change.SetRetention days)) e)
  altered_sound name (change.ClusterBy column) table e there =
      key_sound carried asked due closed idle table (column_place table.schema column.text) (named carried asked due name table there).is (key_right table.schema column.text (column_place table.schema column.text) refl)
  altered_sound name change.DropClusteringKey table e there = key_sound carried asked due closed idle table None (named carried asked due name table there).is tt
  altered_sound name change.SuspendRecluster table e there = suspension_sound carried asked due closed idle table true
  altered_sound name change.ResumeRecluster table e there = suspension_sound carried asked due closed idle table false

  -- ---- each

  definition_sound : (d : Definition) → request_asked asked ≡ Defines d → Gives SoundDefined (definition_changes asked d)
  unfolding definition_changes
  definition_sound (Creates c) e = create_sound c e
  definition_sound (Clones c) e = clone_sound c e
  definition_sound (Drops name) e =
      gives_map SoundDefined (drop_changes asked) (table_asked asked name) (λ table there. drop_sound carried asked due closed idle table (nobody_holds (Drops name) e name refl table there))
  definition_sound (Undrops name) e = undropped_sound name e
  definition_sound (Truncates name) e = gives_map SoundDefined (truncate_changes asked) (table_asked asked name) (λ table there. truncate_sound carried asked due closed idle table)
  definition_sound (Alters name change) e = gives_bind SoundDefined (table_asked asked name) _ (λ table there. altered_sound name change table e there)

  pub defined_sound : (request : Request) → request_asked asked ≡ request → Gives (SoundIn carried asked.program asked.store) (defined_by asked request)
  defined_sound (Defines d) e =
      gives_map (SoundIn carried asked.program asked.store) (defined asked) (definition_changes asked d) (λ changes f.
      gives_at SoundDefined (definition_changes asked d) changes (definition_sound d e) f)
  defined_sound _ e = tt

-- ---- the entry

-- in a transaction a commit comes first
none_open : (tr : Bool) → is_same_event event.Define (if tr then event.Commit else event.Define) ≡ true → tr ≡ false
none_open true e = absurd (false≢true e)
none_open false e = refl

module _ (carried : Carried) (asked : Asked) (due : IsDue carried asked) where
  due_defined : (request : Request) → request_asked asked ≡ request → (state_asked asked).running ≡ None → is_same_event event.Define (first_event (state_asked asked).transaction request) ≡ true → IsFree asked
      → Gives (SoundIn carried asked.program asked.store) (defined_by asked request)
  due_defined (Defines d) e idle test free = defined_sound carried asked due (none_open (state_asked asked).transaction test) idle free (Defines d) e
  due_defined _ e idle test free = tt

  pub define_sound : (t : Told) → (state_asked asked).running ≡ None → Gives (SoundIn carried asked.program asked.store) (define_effect asked t)
  unfolding define_effect
  define_sound t idle =
      due_gives (SoundIn carried asked.program asked.store) event.Define asked _ (λ test.
      told_sound carried asked due (defined_by asked (request_asked asked)) (memory_effect asked) t idle
      (λ free. due_defined (request_asked asked) refl idle test (is_free asked free)) (memory_sound carried asked due idle))
