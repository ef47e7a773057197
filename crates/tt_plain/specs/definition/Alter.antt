-- ALTER TABLE: what each change of a table is.
use Rattle.std.specs.Prelude.{List, None, Option, Some, false, option_map, true}
use Rattle.tt_value.specs.trees.Scope.{column_place}
use Rattle.tt_sql.specs.declared.table.Change.{Change}
use Rattle.tt_plain.specs.declared.store.PlainTable.{PlainTable}
use Rattle.tt_plain.specs.asked.Asked.{Asked, table_asked}
use Rattle.tt_plain.specs.definition.Clustering.{key_changes, suspension_changes}
use Rattle.tt_plain.specs.definition.Rename.{rename_changes}
use Rattle.tt_plain.specs.definition.SetRetention.{retention_changes}
use Rattle.tt_plain.specs.definition.Swap.{swap_changes}
use Rattle.tt_plain.specs.effect.Effect.{TableChange}
use Rattle.tt_sql.specs.declared.table.Change.TheVariants as change

abbrev pub alter_changes : Asked → PlainTable → Change → Option (List TableChange)
alter_changes asked table (change.RenameTo name) = Some (rename_changes table name)
alter_changes asked table (change.SwapWith name) = option_map (swap_changes table) (table_asked asked name)
alter_changes asked table (change.SetRetention days) = Some (retention_changes asked table days)
alter_changes asked table (change.ClusterBy name) = Some (key_changes table (column_place table.schema name.text))
alter_changes asked table change.DropClusteringKey = Some (key_changes table None)
alter_changes asked table change.SuspendRecluster = Some (suspension_changes table true)
alter_changes asked table change.ResumeRecluster = Some (suspension_changes table false)
