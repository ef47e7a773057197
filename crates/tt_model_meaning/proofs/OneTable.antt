-- What names mean over one table, without the list of tables.
use Rattle.std.proofs.Common.{◌≡◌, append-nil}
use Rattle.tt_value.specs.declared.value.Schema.{Schema}
use Rattle.tt_value.specs.declared.name.TableName.{TableName}
use Rattle.tt_sql.specs.meaning.Scopes.{target_scope}

pub columns_in_one : (table : TableName) (schema : Schema) → (target_scope table schema).columns ≡ schema.columns
columns_in_one table schema = append-nil schema.columns
