-- ALTER TABLE SET DATA_RETENTION_TIME_IN_DAYS: from the moment on the past is kept for so many days.
use Rattle.std.specs.Prelude.{List, [], ◌∷◌}
use Rattle.tt_value.specs.declared.name.Number.{Number}
use Rattle.tt_plain.specs.declared.store.PlainTable.{PlainTable}
use Rattle.tt_plain.specs.asked.Asked.{Asked}
use Rattle.tt_plain.specs.effect.Effect.{NewRegime, TableChange}

abbrev pub retention_changes : Asked → PlainTable → Number → List TableChange
retention_changes asked table days = NewRegime table.number asked.moment days.value ∷ []
