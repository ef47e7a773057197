-- TRUNCATE TABLE: a version without rows and a layout without parts begin, also where the table is empty.
use Rattle.std.specs.Prelude.{[], ◌∷◌}
use Rattle.tt_plain.specs.declared.store.PlainTable.{PlainTable}
use Rattle.tt_plain.specs.asked.Asked.{Asked}
use Rattle.tt_plain.specs.definition.Create.{DefinitionChanges}
use Rattle.tt_plain.specs.effect.Effect.{NewVersion}
use Rattle.tt_plain.specs.tally.Changes.{BeginsLayout}

abbrev pub truncate_changes : Asked → PlainTable → DefinitionChanges
truncate_changes asked table = (NewVersion table.number asked.moment [] ∷ [], BeginsLayout table.number asked.moment [] ∷ [])
