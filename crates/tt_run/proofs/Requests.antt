-- A statement is known by what it asks for, and which are not carried out.
use Rattle.std.proofs.Common.{◌≡◌, ◌∙◌, ℕ, Bool, true, false, Result, Ok, Err, refl, sym}
use Rattle.std.specs.Prelude.{if◌then◌else◌}
use Rattle.tt_value.specs.declared.name.TableName.{TableName}
use Rattle.tt_sql.specs.declared.table.Change.{Change}
use Rattle.tt_sql.specs.declared.table.Change.TheVariants as changes
use Rattle.std.proofs.lemmas.Bool.{false≢true}
use Rattle.tt_sql.specs.declared.change.Dml.{Dml}
use Rattle.tt_sql.specs.declared.change.Dml.TheVariants as dml
use Rattle.tt_sql.specs.declared.change.Insert.{Insert}
use Rattle.tt_sql.specs.declared.change.InsertSource.{InsertSource}
use Rattle.tt_sql.specs.declared.change.InsertSource.TheVariants as source
use Rattle.tt_sql.specs.declared.query.Query.{Query}
use Rattle.tt_sql.specs.declared.statement.Statement.{Statement}
use Rattle.tt_sql.specs.declared.statement.Statement.TheVariants as statement
use Rattle.tt_sql.specs.declared.table.CreatedTable.{CreatedTable}
use Rattle.tt_plain.specs.asked.Turns.{carried_out}
use Rattle.tt_built.proofs.Reaches.{create_built, insert_built, query_built, statements_built}
use Rattle.tt_built.specs.Built.{built, has_values, is_built, is_plain_create, is_plain_query}

-- ---- what is carried out, and what is not

kept_if : (test : Bool) (s : Statement) → test ≡ true → (if◌then◌else◌ {A = Result Statement ℕ} test (Ok s) (Err 0)) ≡ Ok s
kept_if true s e = refl
kept_if false s e = absurd (false≢true e)

left_if : (test : Bool) (s : Statement) → test ≡ false → (if◌then◌else◌ {A = Result Statement ℕ} test (Ok s) (Err 0)) ≡ Err 0
left_if false s e = refl
left_if true s e = absurd (false≢true (sym e))

is_carried_out : (s : Statement) → is_built s ≡ true → carried_out built (Ok s) ≡ Ok s
is_carried_out s e = kept_if (built.statements s) s (statements_built s ∙ e)

is_left : (s : Statement) → is_built s ≡ false → carried_out built (Ok s) ≡ Err 0
is_left s e = left_if (built.statements s) s (statements_built s ∙ e)

-- ---- queries

pub query_runs : (q : Query) → is_plain_query q ≡ true → carried_out built (Ok (statement.Query q)) ≡ Ok (statement.Query q)
query_runs q e = is_carried_out (statement.Query q) (query_built q ∙ e)

pub query_left : (q : Query) → is_plain_query q ≡ false → carried_out built (Ok (statement.Query q)) ≡ Err 0
query_left q e = is_left (statement.Query q) (query_built q ∙ e)

-- ---- definitions

pub create_runs : (c : CreatedTable) → is_plain_create c ≡ true → carried_out built (Ok (statement.Create c)) ≡ Ok (statement.Create c)
create_runs c e = is_carried_out (statement.Create c) (create_built c ∙ e)

pub create_left : (c : CreatedTable) → is_plain_create c ≡ false → carried_out built (Ok (statement.Create c)) ≡ Err 0
create_left c e = is_left (statement.Create c) (create_built c ∙ e)

-- ---- changes

pub insert_runs : (i : Insert) → has_values i.source ≡ true → carried_out built (Ok (statement.Dml (dml.Insert i))) ≡ Ok (statement.Dml (dml.Insert i))
insert_runs i e = is_carried_out (statement.Dml (dml.Insert i)) (insert_built (dml.Insert i) ∙ e)

pub insert_left : (i : Insert) → has_values i.source ≡ false → carried_out built (Ok (statement.Dml (dml.Insert i))) ≡ Err 0
insert_left i e = is_left (statement.Dml (dml.Insert i)) (insert_built (dml.Insert i) ∙ e)

pub changes_nothing : (d : Dml) → ((i : Insert) → d ≡ dml.Insert i → ⊥) → carried_out built (Ok (statement.Dml d)) ≡ Err 0
changes_nothing (dml.Insert i) other = absurd (other i refl)
changes_nothing (dml.Update u) other = is_left (statement.Dml (dml.Update u)) refl
changes_nothing (dml.Delete d) other = is_left (statement.Dml (dml.Delete d)) refl
changes_nothing (dml.Copy c) other = is_left (statement.Dml (dml.Copy c)) refl

-- ---- statements that are not carried out yet

altered : (name : TableName) (change : Change) → is_built (statement.Alter (record { table = name; change = change })) ≡ false
altered name (changes.RenameTo other) = refl
altered name (changes.SwapWith other) = refl
altered name (changes.SetRetention days) = refl
altered name (changes.ClusterBy key) = refl
altered name changes.DropClusteringKey = refl
altered name changes.SuspendRecluster = refl
altered name changes.ResumeRecluster = refl

pub others_left : (s : Statement) → ((q : Query) → s ≡ statement.Query q → ⊥) → ((d : Dml) → s ≡ statement.Dml d → ⊥) → ((c : CreatedTable) → s ≡ statement.Create c → ⊥) → carried_out built (Ok s) ≡ Err 0
others_left (statement.Query q) query dml create = absurd (query q refl)
others_left (statement.Dml d) query dml create = absurd (dml d refl)
others_left (statement.Create c) query dml create = absurd (create c refl)
others_left (statement.Clone c) query dml create = is_left (statement.Clone c) refl
others_left (statement.Drop name) query dml create = is_left (statement.Drop name) refl
others_left (statement.Undrop name) query dml create = is_left (statement.Undrop name) refl
others_left (statement.Truncate name) query dml create = is_left (statement.Truncate name) refl
others_left (statement.Alter a) query dml create = is_left (statement.Alter a) (altered a.table a.change)
others_left statement.Begin query dml create = is_left statement.Begin refl
others_left statement.Commit query dml create = is_left statement.Commit refl
others_left statement.Rollback query dml create = is_left statement.Rollback refl
others_left (statement.Wait w) query dml create = is_left (statement.Wait w) refl
others_left (statement.Explain q) query dml create = is_left (statement.Explain q) refl
others_left (statement.Show history) query dml create = is_left (statement.Show history) refl
others_left statement.Metrics query dml create = is_left statement.Metrics refl
others_left (statement.Depth name) query dml create = is_left (statement.Depth name) refl
