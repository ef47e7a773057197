-- What a change adds fits the schema of its table, where nothing in it is refused and what it reads fits.
use Rattle.std.specs.List.{All, AllByRecursion, cons_option}
use Rattle.std.specs.Prelude.{List, Option, Some, [], option_map, refl, ℕ, ◌∷◌, ◌≡◌}
use Rattle.std.proofs.Common.{ap, ap₂, sym, ◌∙◌}
use Rattle.std.proofs.lemmas.List.Elements.{All-from_recursion}
use Rattle.tt_fitting_laws.proofs.Kept.{AreSchemasOf, HasSchema}
use Rattle.tt_fitting_laws.proofs.Staged.{copy_fits}
use Rattle.tt_plain.specs.ChangeKinds.{ReadHasKinds}
use Rattle.tt_plain.specs.TypingRefusal.{IsWellTyped}
use Rattle.tt_plain.specs.ValueKinds.{IsFoundByName, IsRowOf}
use Rattle.tt_plain.specs.declared.store.Plain.{Plain}
use Rattle.tt_plain.specs.declared.store.PlainOpen.{PlainOpen}
use Rattle.tt_plain.specs.declared.store.PlainTable.{PlainTable}
use Rattle.tt_plain.specs.law.Lists.{Every}
use Rattle.tt_plain.specs.meaning.Outcome.{change_seen, file_bytes, rows_read, schema_numbered, schemas_read}
use Rattle.tt_plain.specs.refusal.UnknownFile.{file_named}
use Rattle.tt_script.specs.declared.script.Script.{Script}
use Rattle.tt_sql.specs.declared.change.Dml.{Dml}
use Rattle.tt_sql.specs.meaning.Changes.{BadRecord, Changes, change_of, insert_change}
use Rattle.tt_typer.proofs.ChangedRows.{change_adds}
use Rattle.tt_value.specs.declared.value.Row.{Row}
use Rattle.tt_value.specs.declared.value.Schema.{Schema}
use Rattle.tt_sql.specs.declared.change.Dml.TheVariants as dml
use Rattle.tt_sql.specs.declared.statement.Statement.TheVariants as statement

-- ---- lists

recursion_of : {A : Type 0} (P : A → Type 0) (xs : List A) → Every P xs → AllByRecursion P xs
recursion_of P [] all = tt
recursion_of P (x ∷ xs) all = (all.0, recursion_of P xs all.1)

every_of : {A : Type 0} (P : A → Type 0) (xs : List A) → AllByRecursion P xs → Every P xs
every_of P [] all = tt
every_of P (x ∷ xs) all = (all.0, every_of P xs all.1)

pub all_of : {A : Type 0} (P : A → Type 0) (xs : List A) → Every P xs → All P xs
all_of P xs all = All-from_recursion P xs (recursion_of P xs all)

-- ---- the schemas of what is seen

pub schema_is : (store : Plain) (number : ℕ) (schema : Schema) → HasSchema store.tables number schema → schema_numbered store number ≡ Some schema
schema_is store number schema there = ap (option_map (λ (table : PlainTable). table.schema)) there.table_is ∙ ap (λ (s : Schema). Some s) there.so

pub schemas_are : (store : Plain) (seen : List (ℕ × List Row)) (schemas : List Schema) → AreSchemasOf store.tables seen schemas → schemas_read store seen ≡ schemas
schemas_are store [] [] all = refl
schemas_are store [] (schema ∷ schemas) all = absurd all
schemas_are store (seen ∷ others) [] all = absurd all
schemas_are store (seen ∷ others) (schema ∷ schemas) all =
    ap₂ (λ (o : Option Schema) (xs : List Schema). cons_option o xs) (schema_is store seen.0 schema all.0) (schemas_are store others schemas all.1)

-- ---- what is added

pub change_fits : (program : Script) (store : Plain) (seen : PlainOpen) (schema : Schema) (rows : List Row) (d : Dml) (schemas : List Schema) → IsFoundByName schema → IsWellTyped (schema ∷ schemas) (statement.Dml d)
    → schemas_read store seen.sources ≡ schemas → ReadHasKinds schemas (rows_read seen.sources) d → Every (IsRowOf schema) rows
    → (removed added : List Row) (count : ℕ) → change_seen program store seen schema rows d ≡ Changes removed added count → Every (IsRowOf schema) added
unfolding change_seen change_of
change_fits program store seen schema rows (dml.Insert i) schemas found typed same read fit removed added count e =
    every_of (IsRowOf schema) added
    (change_adds schema schemas rows (rows_read seen.sources) (BadRecord 0 0) (dml.Insert i) found typed (all_of (IsRowOf schema) rows fit) read tt removed added count
    (sym (ap (λ (sources : List Schema). insert_change schema sources (rows_read seen.sources) i) same) ∙ e))
change_fits program store seen schema rows (dml.Update u) schemas found typed same read fit removed added count e =
    every_of (IsRowOf schema) added (change_adds schema schemas rows (rows_read seen.sources) (BadRecord 0 0) (dml.Update u) found typed (all_of (IsRowOf schema) rows fit) read tt removed added count e)
change_fits program store seen schema rows (dml.Delete d) schemas found typed same read fit removed added count e =
    every_of (IsRowOf schema) added (change_adds schema schemas rows (rows_read seen.sources) (BadRecord 0 0) (dml.Delete d) found typed (all_of (IsRowOf schema) rows fit) read tt removed added count e)
change_fits program store seen schema rows (dml.Copy c) schemas found typed same read fit removed added count e = copy_fits schema (file_bytes program (file_named program c.file.text)) removed added count e
