-- DROP TABLE: a dropped table keeps its name, its number and its past.
use Rattle.std.specs.Prelude.{[], ◌∷◌}
use Rattle.tt_plain.specs.declared.store.PlainTable.{PlainTable}
use Rattle.tt_plain.specs.asked.Asked.{Asked}
use Rattle.tt_plain.specs.definition.Create.{DefinitionChanges}
use Rattle.tt_plain.specs.effect.Effect.{Dropped}

abbrev pub drop_changes : Asked → PlainTable → DefinitionChanges
drop_changes asked table = (Dropped table.number asked.moment ∷ [], [])
