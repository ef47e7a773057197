use Rattle.tt_sql.specs.declared.table.Change.TheVariants.{RenameTo, SwapWith, SetRetention, ClusterBy, DropClusteringKey, SuspendRecluster, ResumeRecluster}
use Rattle.tt_print.specs.again.Spelling.{plain}
use Rattle.tt_print.proofs.again.ShortStatements.{begun, committed, rolled_back, shown, shown_history, metrics_read, dropped, undropped, truncated, copied, altered, renamed, swapped, retained, clustered, key_dropped, suspended, resumed}
use Rattle.tt_print.proofs.laws.a_printed_statement_is_a_statement.Goals as goal

pub returns-clause-begin : goal.returns-clause-begin
returns-clause-begin c = begun

pub returns-clause-commit : goal.returns-clause-commit
returns-clause-commit c = committed

pub returns-clause-rollback : goal.returns-clause-rollback
returns-clause-rollback c = rolled_back

pub returns-clause-show : goal.returns-clause-show
returns-clause-show c = shown

pub returns-clause-show_history : goal.returns-clause-show_history
returns-clause-show_history c = shown_history

pub returns-clause-metrics : goal.returns-clause-metrics
returns-clause-metrics c = metrics_read

pub returns-clause-drop : goal.returns-clause-drop
returns-clause-drop c = λ table is levels. dropped levels table is

pub returns-clause-undrop : goal.returns-clause-undrop
returns-clause-undrop c = λ table is levels. undropped levels table is

pub returns-clause-truncate : goal.returns-clause-truncate
returns-clause-truncate c = λ table is levels. truncated levels table is

pub returns-clause-copy : goal.returns-clause-copy
returns-clause-copy c = λ file table is levels. copied levels table is file

pub returns-clause-rename : goal.returns-clause-rename
returns-clause-rename c = λ table other is new levels. altered levels table (RenameTo (plain other)) _ is (renamed _ other new)

pub returns-clause-swap : goal.returns-clause-swap
returns-clause-swap c = λ table other is new levels. altered levels table (SwapWith (plain other)) _ is (swapped _ other new)

pub returns-clause-retention : goal.returns-clause-retention
returns-clause-retention c = λ table days is less levels. altered levels table (SetRetention days) _ is (retained _ days less)

pub returns-clause-cluster : goal.returns-clause-cluster
returns-clause-cluster c = λ table column is key levels. altered levels table (ClusterBy column) _ is (clustered _ column key)

pub returns-clause-drop_key : goal.returns-clause-drop_key
returns-clause-drop_key c = λ table is levels. altered levels table DropClusteringKey _ is (key_dropped _)

pub returns-clause-suspend : goal.returns-clause-suspend
returns-clause-suspend c = λ table is levels. altered levels table SuspendRecluster _ is (suspended _)

pub returns-clause-resume : goal.returns-clause-resume
returns-clause-resume c = λ table is levels. altered levels table ResumeRecluster _ is (resumed _)
