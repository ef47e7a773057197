-- What is known of a statement that is carried out: it was read of a text, and its tables are read as they are now.
use Rattle.std.specs.List.{list_all}
use Rattle.std.specs.Prelude.{Bool, Err, None, Ok, Option, Result, Some, false, if◌then◌else◌, is_some, nat_le, not, refl, true, ℕ, ◌++◌, ◌-◌, ◌≡◌}
use Rattle.std.proofs.Common.{ap, sym, ◌∙◌}
use Rattle.std.proofs.lemmas.Bool.{and_parts, false≢true}
use Rattle.tt_script.specs.declared.script.Script.{Script}
use Rattle.tt_script.specs.Program.{span_of, text_at}
use Rattle.tt_sql.proofs.text.StatementOf.{is_text_of}
use Rattle.tt_sql.specs.declared.change.Insert.{Insert}
use Rattle.tt_sql.specs.declared.change.InsertSource.{InsertSource}
use Rattle.tt_sql.specs.declared.query.Query.{Query}
use Rattle.tt_sql.specs.declared.statement.Statement.{Statement}
use Rattle.tt_sql.specs.text.StatementOf.{most_levels, statement_of}
use Rattle.tt_sql.specs.trees.Statements.{IsWrittenInsertSource, IsWrittenStatement}
use Rattle.tt_plain.proofs.Answers.{map_some}
use Rattle.tt_plain.specs.Statements.{insertion}
use Rattle.tt_plain.specs.asked.Reach.{Queries, Reach, TimeTravel, inserted_reach, is_whole_table, query_reach, reach_number, when}
use Rattle.tt_plain.specs.asked.Turns.{carried_out, statement_read}
use Rattle.tt_built.specs.Built.{built, built_reach, is_built}
use Rattle.tt_state.proofs.Turns.{said_built}
use Rattle.tt_sql.specs.declared.change.Dml.{Dml}
use Rattle.tt_sql.specs.declared.change.Dml.TheVariants as dml
use Rattle.tt_sql.specs.declared.change.InsertSource.TheVariants as source
use Rattle.tt_sql.specs.declared.statement.Statement.TheVariants as tree
use Rattle.tt_catalog.specs.Starts.{CanChange, CanStart, IsQueryOrChange}
use Rattle.tt_plain.specs.Tables.{TakesFromOneTable}

-- ---- a statement that is carried out was read of a text

ok_carried : (read : Result Statement ℕ) (s : Statement) → carried_out built read ≡ Ok s → read ≡ Ok s
ok_carried (Err place) s e = cc
ok_carried (Ok other) s e = ok_if (built.statements other) other s e
  where
    ok_if : (test : Bool) (other s : Statement) → if◌then◌else◌ {A = Result Statement ℕ} test (Ok other) (Err 0) ≡ Ok s → ◌≡◌ {A = Result Statement ℕ} (Ok other) (Ok s)
    ok_if true other s e = e
    ok_if false other s e = cc

pub read_written : (program : Script) (session index : ℕ) (s : Statement) → statement_read built program session index ≡ Some (Ok s) → IsWrittenStatement most_levels s
unfolding statement_read
read_written program session index s e =
    let span = map_some (λ span. carried_out built (statement_of (text_at program span))) (span_of program session (index - 1)) (Ok s) e in
    (is_text_of (text_at program span.0) s (ok_carried (statement_of (text_at program span.0)) s span.2)).written

-- ---- it reads its tables as they are now

abbrev within : Reach → Bool
within needed = nat_le (reach_number needed) (reach_number built_reach)

now_within : (whole : Bool) {A : Type 0} (clause : Option A) → list_all within (when (not whole) Queries ++ when (is_some clause) TimeTravel) ≡ true → clause ≡ None
now_within whole None e = refl
now_within true (Some c) e = absurd (false≢true e)
now_within false (Some c) e = absurd (false≢true e)

pub query_now : (q : Query) → is_built (tree.Query q) ≡ true → q.first.clause ≡ None
query_now q e = now_within (is_whole_table q) q.first.clause e

pub source_now : (i : Insert) (q : Query) → is_built (insertion i) ≡ true → i.source ≡ source.Query q → q.first.clause ≡ None
source_now i q e is =
    let here : list_all within (inserted_reach (source.Query q)) ≡ true = sym (ap (λ (s : InsertSource). list_all within (inserted_reach s)) is) ∙ e in
    now_within (is_whole_table q) q.first.clause (and_parts (within Queries) (list_all within (query_reach q)) here).1

-- ---- and no more than one beside its target

one_source : (s : InsertSource) → IsWrittenInsertSource most_levels s → TakesFromOneTable s
one_source (source.Values tuples) written = tt
one_source (source.Query q) written = written.joins

can_change : (d : Dml) → is_built (tree.Dml d) ≡ true → IsWrittenStatement most_levels (tree.Dml d) → CanChange d
can_change (dml.Insert i) e written = one_source i.source written.2
can_change (dml.Update u) e written = tt
can_change (dml.Delete d) e written = tt
can_change (dml.Copy c) e written = absurd (false≢true e)

pub can_start : (program : Script) (session index : ℕ) (s : Statement) → IsQueryOrChange s → statement_read built program session index ≡ Some (Ok s) → CanStart s
can_start program session index (tree.Query q) is said = (read_written program session index (tree.Query q) said).joins
can_start program session index (tree.Dml d) is said = can_change d (said_built program session index (tree.Dml d) said) (read_written program session index (tree.Dml d) said)
can_start program session index _ is said = absurd is
