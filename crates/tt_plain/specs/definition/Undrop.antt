-- UNDROP TABLE: of the tables dropped under the name and still in Time Travel the last one is live again.
use Rattle.std.specs.Prelude.{[], ◌∷◌}
use Rattle.tt_plain.specs.declared.store.PlainTable.{PlainTable}
use Rattle.tt_plain.specs.definition.Create.{DefinitionChanges}
use Rattle.tt_plain.specs.effect.Effect.{Undropped}

abbrev pub undrop_changes : PlainTable → DefinitionChanges
undrop_changes table = (Undropped table.number ∷ [], [])
