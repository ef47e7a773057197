-- ALTER TABLE RENAME TO: the table has another name, and keeps all else.
use Rattle.std.specs.Prelude.{List, [], ◌∷◌}
use Rattle.tt_value.specs.declared.name.TableName.{TableName}
use Rattle.tt_plain.specs.declared.store.PlainTable.{PlainTable}
use Rattle.tt_plain.specs.effect.Effect.{Renamed, TableChange}

abbrev pub rename_changes : PlainTable → TableName → List TableChange
rename_changes table name = Renamed ((table.number, name.name.text) ∷ []) ∷ []
