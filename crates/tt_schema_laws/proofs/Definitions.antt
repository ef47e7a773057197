-- A definition that is not refused makes a table with columns: those that a text lists, at most 32, or those of the table that is cloned.
use Rattle.std.specs.List.{find}
use Rattle.std.specs.Prelude.{Bool, Err, List, None, Ok, Option, Result, Some, [], cond, drop, false, length, map, option_map, option_to_list, refl, suc, take, true, zero, ℕ, ◌∷◌, ◌≡◌, ◌≤◌}
use Rattle.std.proofs.Common.{arith, subst}
use Rattle.std.proofs.lemmas.List.{length-map}
use Rattle.tt_sql.specs.declared.statement.Statement.{Statement}
use Rattle.tt_sql.specs.declared.statement.Statement.TheVariants as statement
use Rattle.tt_sql.specs.declared.table.Change.{Change}
use Rattle.tt_sql.specs.declared.table.Change.TheVariants as change
use Rattle.tt_sql.specs.declared.table.ColumnDefinition.{ColumnDefinition}
use Rattle.tt_sql.specs.declared.table.CreatedTable.{CreatedTable}
use Rattle.tt_sql.specs.text.StatementOf.{most_levels}
use Rattle.tt_sql.specs.trees.Lists.{IsListed}
use Rattle.tt_sql.specs.trees.Statements.{IsWrittenDefinition, IsWrittenStatement}
use Rattle.tt_value.specs.declared.name.Name.{Name}
use Rattle.tt_value.specs.declared.name.TableName.{TableName}
use Rattle.tt_value.specs.declared.value.Schema.{Schema}
use Rattle.tt_history.specs.declared.reply.Refusal.TheVariants as refusal
use Rattle.tt_plain.proofs.Lists.{nil_both}
use Rattle.tt_plain.proofs.law.Gives.{Gives, gives_at, gives_bind, gives_map}
use Rattle.tt_plain.proofs.law.Lists.{every-append}
use Rattle.tt_plain.proofs.law.entry.Defines.{no_places}
use Rattle.tt_plain.specs.WrongCounts.{defined_again, defined_names, miscounted_columns, places_of, wrong_counts}
use Rattle.tt_plain.specs.asked.Asked.{Asked, in_statement, request_asked, schemas_asked, table_asked}
use Rattle.tt_plain.specs.asked.Request.{Alters, Clones, Creates, Defines, Definition, Drops, Truncates, Undrops, request_of}
use Rattle.tt_plain.specs.declared.store.PlainTable.{PlainTable}
use Rattle.tt_plain.specs.definition.Alter.{alter_changes}
use Rattle.tt_plain.specs.definition.Changes.{definition_changes, tables_alone}
use Rattle.tt_plain.specs.definition.Clone.{clone_changes}
use Rattle.tt_plain.specs.definition.Create.{DefinitionChanges, column_made, create_changes, replaced, schema_made}
use Rattle.tt_plain.specs.definition.Drop.{drop_changes}
use Rattle.tt_plain.specs.definition.Swap.{swap_changes}
use Rattle.tt_plain.specs.definition.Truncate.{truncate_changes}
use Rattle.tt_plain.specs.definition.Undrop.{undrop_changes}
use Rattle.tt_plain.specs.effect.Effect.{Dropped}
use Rattle.tt_plain.specs.law.Lists.{Every}
use Rattle.tt_plain.specs.tally.Layouts.{source_parts}
use Rattle.tt_plain.specs.opening.Seen.{rows_seen}
use Rattle.tt_plain.specs.refusal.NothingToUndrop.{table_to_undrop}
use Rattle.tt_plain.specs.refusal.WrongCount.{wrong_count}
use Rattle.tt_plain.specs.stored.Names.{table_named}
use Rattle.tt_schema_laws.specs.Columns.{HasColumns}
use Rattle.tt_schema_laws.proofs.Changes.{Makes}

-- ---- the columns of a CREATE TABLE

none_left : (names : List Name) → places_of names ≡ [] → names ≡ []
none_left [] e = refl
none_left (name ∷ names) e = cc

few_names : (n : ℕ) (names : List Name) → drop n names ≡ [] → length names ≤ n
few_names n [] e = omega arith
few_names zero (name ∷ names) e = cc
few_names (suc n) (name ∷ names) e = let fewer = few_names n names e in omega (arith, fewer)

some_listed : (columns : List ColumnDefinition) → IsListed IsWrittenDefinition columns → 1 ≤ length columns
some_listed [] is = absurd is
some_listed (column ∷ columns) is = omega arith

made_columns : (columns : List ColumnDefinition) → IsListed IsWrittenDefinition columns → miscounted_columns (defined_names columns) ≡ [] → (1 ≤ length (schema_made columns).columns) × (length (schema_made columns).columns ≤ 32)
made_columns columns listed counted =
    let names = defined_names columns in
    let left : places_of (drop 32 names) ≡ [] = (nil_both (defined_again (take 32 names)) (places_of (drop 32 names)) counted).1 in
    let few : length names ≤ 32 = few_names 32 names (none_left (drop 32 names) left) in
    let same : length names ≡ length columns = length-map columns (λ (column : ColumnDefinition). column.name) in
    let made : length (map column_made columns) ≡ length columns = length-map columns column_made in
    let some : 1 ≤ length columns = some_listed columns listed in
    (omega (arith, some, made), omega (arith, few, same, made))

abbrev pub IsWrittenRead : Result Statement ℕ → Type 0
IsWrittenRead read = (s : Statement) → read ≡ Ok s → IsWrittenStatement most_levels s

counts_right : (schemas : Statement → List Schema) (c : CreatedTable) (r : Result Statement ℕ) → request_of r ≡ Defines (Creates c) → in_statement (λ s. wrong_counts (schemas s) s) r ≡ [] → miscounted_columns (defined_names c.columns) ≡ []
counts_right schemas c (Err place) e f = absurd cc
counts_right schemas c (Ok (statement.Create d)) e f =
    let same : d ≡ c = cc in subst (λ (x : CreatedTable). miscounted_columns (defined_names x.columns) ≡ []) same f
counts_right schemas c (Ok _) e f = absurd cc

listed_right : (c : CreatedTable) (r : Result Statement ℕ) → request_of r ≡ Defines (Creates c) → IsWrittenRead r → IsListed IsWrittenDefinition c.columns
listed_right c (Err place) e written = absurd cc
listed_right c (Ok (statement.Create d)) e written =
    let same : d ≡ c = cc in subst (λ (x : CreatedTable). IsListed IsWrittenDefinition x.columns) same (written (statement.Create d) refl).2
listed_right c (Ok _) e written = absurd cc

-- ---- a table that is found

found_if : (P : PlainTable → Type 0) (test : Bool) (first : PlainTable) (later : Option PlainTable) → P first → Gives P later → Gives P (cond test (Some first) later)
found_if P true first later here there = here
found_if P false first later here there = there

find_gives : (P : PlainTable → Type 0) (test : PlainTable → Bool) (tables : List PlainTable) → Every P tables → Gives P (find test tables)
find_gives P test [] all = tt
find_gives P test (table ∷ tables) all = found_if P (test table) table (find test tables) all.0 (find_gives P test tables all.1)

module _ (asked : Asked) (all : Every HasColumns asked.store.tables) where
  named_has : (name : TableName) → Gives HasColumns (table_asked asked name)
  unfolding table_named
  named_has name = find_gives HasColumns _ asked.store.tables all

  dropped_make : (tables : List PlainTable) → Every Makes (map (λ (table : PlainTable). Dropped table.number asked.moment) tables)
  dropped_make [] = tt
  dropped_make (table ∷ tables) = (tt, dropped_make tables)

  replaced_makes : (replaces : Bool) (name : TableName) → Every Makes (replaced asked replaces name)
  replaced_makes true name = dropped_make (option_to_list (table_asked asked name))
  replaced_makes false name = tt

  abbrev pub MakesDefined : DefinitionChanges → Type 0
  MakesDefined changes = Every Makes changes.0

  altered_makes : (table : PlainTable) (c : Change) → Gives MakesDefined (option_map tables_alone (alter_changes asked table c))
  altered_makes table (change.RenameTo name) = (tt, tt)
  altered_makes table (change.SwapWith name) = by (table_asked asked name)
    where
      by : (o : Option PlainTable) → Gives MakesDefined (option_map tables_alone (option_map (swap_changes table) o))
      by None = tt
      by (Some other) = (tt, tt)
  altered_makes table (change.SetRetention days) = (tt, tt)
  altered_makes table (change.ClusterBy name) = (tt, tt)
  altered_makes table change.DropClusteringKey = (tt, tt)
  altered_makes table change.SuspendRecluster = (tt, tt)
  altered_makes table change.ResumeRecluster = (tt, tt)

  pub definition_makes : wrong_count asked ≡ None → IsWrittenRead asked.read → (d : Definition) → request_asked asked ≡ Defines d → Gives MakesDefined (definition_changes asked d)
  unfolding definition_changes create_changes clone_changes
  definition_makes counted written (Creates c) e =
      let counts = no_places refusal.WrongCount (in_statement (λ s. wrong_counts (schemas_asked asked s) s) asked.read) counted in
      every-append Makes (replaced asked c.replaces c.table) _ (replaced_makes c.replaces c.table)
      (made_columns c.columns (listed_right c asked.read e written) (counts_right (schemas_asked asked) c asked.read e counts), tt)
  definition_makes counted written (Clones c) e =
      gives_bind MakesDefined (table_asked asked c.source.table) _ (λ from_table there.
      gives_bind MakesDefined (rows_seen asked c.source) _ (λ seen sees.
      gives_bind MakesDefined (source_parts asked c.source) _ (λ parts has.
      every-append Makes (replaced asked c.replaces c.table) _ (replaced_makes c.replaces c.table)
      (gives_at HasColumns (table_asked asked c.source.table) from_table (named_has c.source.table) there, tt))))
  definition_makes counted written (Drops name) e = gives_map MakesDefined (drop_changes asked) (table_asked asked name) (λ table there. (tt, tt))
  definition_makes counted written (Undrops name) e = gives_map MakesDefined undrop_changes (table_to_undrop asked name) (λ table there. (tt, tt))
  definition_makes counted written (Truncates name) e = gives_map MakesDefined (truncate_changes asked) (table_asked asked name) (λ table there. (tt, tt))
  definition_makes counted written (Alters name c) e = gives_bind MakesDefined (table_asked asked name) _ (λ table there. altered_makes table c)
