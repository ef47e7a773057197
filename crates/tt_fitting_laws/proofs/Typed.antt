-- A change that is not refused: nothing in it is refused over the schemas of its tables, and it reads one table at most.
use Rattle.std.specs.Prelude.{Bool, Err, List, None, Ok, Option, Result, Some, [], false, if◌then◌else◌, option_map, refl, true, ℕ, ◌-◌, ◌∷◌, ◌≡◌}
use Rattle.std.proofs.Common.{ap, sym, ◌∙◌}
use Rattle.std.proofs.lemmas.Option.{none-some}
use Rattle.tt_history.specs.declared.reply.Refusal.{Refusal}
use Rattle.tt_plain.proofs.Answers.{map_some}
use Rattle.tt_plain.specs.NullsInNotNull.{nulls_in_not_null}
use Rattle.tt_plain.specs.Places.{earlier, leftmost}
use Rattle.tt_plain.specs.Tables.{ReadsOneTable, TakesFromOneTable}
use Rattle.tt_plain.specs.TypeMismatches.{type_mismatches}
use Rattle.tt_plain.specs.TypingRefusal.{IsWellTyped}
use Rattle.tt_plain.specs.UnknownColumns.{unknown_columns}
use Rattle.tt_plain.specs.WrongCounts.{wrong_counts}
use Rattle.tt_plain.specs.asked.Asked.{Asked, in_statement, request_asked, schemas_asked}
use Rattle.tt_plain.specs.asked.Carried.{Carried}
use Rattle.tt_plain.specs.asked.Request.{Request, Writes, request_in, request_of}
use Rattle.tt_plain.specs.asked.Turns.{carried_out, statement_read}
use Rattle.tt_plain.specs.refusal.{at_leftmost, first_some}
use Rattle.tt_plain.specs.refusal.First.{refusal_of}
use Rattle.tt_plain.specs.refusal.NullInNotNull.{null_in_not_null}
use Rattle.tt_plain.specs.refusal.Syntax.{syntax}
use Rattle.tt_plain.specs.refusal.TableExists.{table_exists}
use Rattle.tt_plain.specs.refusal.TypeMismatch.{type_mismatch}
use Rattle.tt_plain.specs.refusal.UnknownColumn.{tables_without_key, unknown_column, unknown_column_places}
use Rattle.tt_plain.specs.refusal.UnknownTable.{unknown_table}
use Rattle.tt_plain.specs.refusal.WrongCount.{wrong_count}
use Rattle.tt_script.specs.Program.{span_of, text_at}
use Rattle.tt_script.specs.declared.script.Script.{Script}
use Rattle.tt_sql.proofs.text.StatementOf.{is_text_of}
use Rattle.tt_sql.specs.declared.change.Dml.{Dml}
use Rattle.tt_sql.specs.declared.change.InsertSource.{InsertSource}
use Rattle.tt_sql.specs.declared.statement.Statement.{Statement}
use Rattle.tt_sql.specs.text.StatementOf.{most_levels, statement_of}
use Rattle.tt_sql.specs.trees.Statements.{IsWrittenInsertSource, IsWrittenStatement}
use Rattle.tt_typer.proofs.KindLaws.{nil_parts}
use Rattle.tt_sql.specs.declared.change.Dml.TheVariants as dml
use Rattle.tt_sql.specs.declared.change.InsertSource.TheVariants as source
use Rattle.tt_history.specs.declared.reply.Refusal.TheVariants as refusal
use Rattle.tt_sql.specs.declared.statement.Statement.TheVariants as statement

-- ---- no place of a refusal

some_place : (place : ℕ) (o : Option ℕ) → earlier (Some place) o ≡ None → ⊥
some_place place None e = none-some place (sym e)
some_place place (Some other) e = none-some _ (sym e)

no_place : (refusal : ℕ → Refusal) (places : List ℕ) → at_leftmost refusal places ≡ None → places ≡ []
no_place refusal [] e = refl
no_place refusal (place ∷ places) e = absurd (some_place place (leftmost places) (unmapped (earlier (Some place) (leftmost places)) e))
  where
    unmapped : (o : Option ℕ) → option_map refusal o ≡ None → o ≡ None
    unmapped None f = refl
    unmapped (Some p) f = absurd (none-some (refusal p) (sym f))

none_first : {A : Type 0} (first : Option A) (others : List (Option A)) → first_some (first ∷ others) ≡ None → (first ≡ None) × (first_some others ≡ None)
none_first None others e = (refl, e)
none_first (Some x) others e = absurd (none-some x (sym e))

pub is_typed : (asked : Asked) (s : Statement) → asked.read ≡ Ok s → refusal_of asked ≡ None → IsWellTyped (schemas_asked asked s) s
unfolding refusal_of
is_typed asked s read free =
    let a1 = none_first (syntax asked) _ free in
    let a2 = none_first (unknown_table asked) _ a1.1 in
    let a3 = none_first (table_exists asked) _ a2.1 in
    let a4 = none_first (unknown_column asked) _ a3.1 in
    let a5 = none_first (wrong_count asked) _ a4.1 in
    let a6 = none_first (type_mismatch asked) _ a5.1 in
    let a7 = none_first (null_in_not_null asked) _ a6.1 in
    let unknown = λ (t : Statement). unknown_columns (schemas_asked asked t) t in
    let counts = λ (t : Statement). wrong_counts (schemas_asked asked t) t in
    let kinds = λ (t : Statement). type_mismatches (schemas_asked asked t) t in
    let nulls = λ (t : Statement). nulls_in_not_null (schemas_asked asked t) t in
    let columns = nil_parts (in_statement unknown asked.read) (tables_without_key asked (request_asked asked)) (no_place refusal.UnknownColumn (unknown_column_places asked) a4.0) in
    record {
      columns = sym (ap (in_statement unknown) read) ∙ columns.0;
      counts = sym (ap (in_statement counts) read) ∙ no_place refusal.WrongCount (in_statement counts asked.read) a5.0;
      kinds = sym (ap (in_statement kinds) read) ∙ no_place refusal.TypeMismatch (in_statement kinds asked.read) a6.0;
      nulls = sym (ap (in_statement nulls) read) ∙ no_place refusal.NullInNotNull (in_statement nulls asked.read) a7.0;
    }

-- ---- a change was read of a text

changed_in : (s : Statement) (d : Dml) → request_in s ≡ Writes d → s ≡ statement.Dml d
changed_in (statement.Query q) d e = cc
changed_in (statement.Dml other) d e = let same : other ≡ d = cc in ap statement.Dml same
changed_in (statement.Create c) d e = cc
changed_in (statement.Clone c) d e = cc
changed_in (statement.Drop name) d e = cc
changed_in (statement.Undrop name) d e = cc
changed_in (statement.Truncate name) d e = cc
changed_in (statement.Alter a) d e = cc
changed_in statement.Begin d e = cc
changed_in statement.Commit d e = cc
changed_in statement.Rollback d e = cc
changed_in (statement.Wait w) d e = cc
changed_in (statement.Explain q) d e = cc
changed_in (statement.Show history) d e = cc
changed_in statement.Metrics d e = cc
changed_in (statement.Depth name) d e = cc

pub change_read : (read : Result Statement ℕ) (d : Dml) → request_of read ≡ Writes d → read ≡ Ok (statement.Dml d)
change_read (Err place) d e = cc
change_read (Ok s) d e = ap (λ (t : Statement). Ok t) (changed_in s d e)

pub same_change : (d e : Dml) → ◌≡◌ {A = Request} (Writes d) (Writes e) → d ≡ e
same_change d e f = cc

ok_carried : (carried : Carried) (read : Result Statement ℕ) (s : Statement) → carried_out carried read ≡ Ok s → read ≡ Ok s
ok_carried carried (Err place) s e = cc
ok_carried carried (Ok other) s e = ok_if (carried.statements other) e
  where
    ok_if : (test : Bool) → if◌then◌else◌ {A = Result Statement ℕ} test (Ok other) (Err 0) ≡ Ok s → ◌≡◌ {A = Result Statement ℕ} (Ok other) (Ok s)
    ok_if true f = f
    ok_if false f = cc

read_written : (carried : Carried) (program : Script) (session index : ℕ) (s : Statement) → statement_read carried program session index ≡ Some (Ok s) → IsWrittenStatement most_levels s
unfolding statement_read
read_written carried program session index s said =
    let span = map_some (λ span. carried_out carried (statement_of (text_at program span))) (span_of program session (index - 1)) (Ok s) said in
    (is_text_of (text_at program span.0) s (ok_carried carried (statement_of (text_at program span.0)) s span.2)).written

alone_source : (levels : ℕ) (s : InsertSource) → IsWrittenInsertSource levels s → TakesFromOneTable s
alone_source levels (source.Values tuples) written = tt
alone_source levels (source.Query q) written = written.joins

alone_written : (levels : ℕ) (d : Dml) → IsWrittenStatement levels (statement.Dml d) → ReadsOneTable d
alone_written levels (dml.Insert i) written = alone_source levels i.source written.2
alone_written levels (dml.Update u) written = tt
alone_written levels (dml.Delete d) written = tt
alone_written levels (dml.Copy c) written = tt

-- a change reads one table at most, since no text has joins
pub change_alone : (carried : Carried) (program : Script) (session index : ℕ) (d : Dml) → statement_read carried program session index ≡ Some (Ok (statement.Dml d)) → ReadsOneTable d
change_alone carried program session index d said = alone_written most_levels d (read_written carried program session index (statement.Dml d) said)
