use Rattle.tt_schema_laws.proofs.Columns.{legal_columns}
use Rattle.tt_schema_laws.proofs.laws.legal_tables_have_columns.Goals as goal

pub returns : goal.returns
returns c = legal_columns
