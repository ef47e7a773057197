-- What each definition changes.
use Rattle.std.specs.Prelude.{List, Option, Some, [], option_map}
use Rattle.tt_plain.specs.Answers.{◌>>=◌}
use Rattle.tt_plain.specs.asked.Asked.{Asked, table_asked}
use Rattle.tt_plain.specs.asked.Request.{Alters, Clones, Creates, Definition, Drops, Truncates, Undrops}
use Rattle.tt_plain.specs.definition.Alter.{alter_changes}
use Rattle.tt_plain.specs.definition.Clone.{clone_changes}
use Rattle.tt_plain.specs.definition.Create.{DefinitionChanges, create_changes}
use Rattle.tt_plain.specs.definition.Drop.{drop_changes}
use Rattle.tt_plain.specs.definition.Truncate.{truncate_changes}
use Rattle.tt_plain.specs.definition.Undrop.{undrop_changes}
use Rattle.tt_plain.specs.effect.Effect.{TableChange}
use Rattle.tt_plain.specs.refusal.NothingToUndrop.{table_to_undrop}

abbrev pub tables_alone : List TableChange → DefinitionChanges
tables_alone changes = (changes, [])

unfoldable pub definition_changes : Asked → Definition → Option DefinitionChanges
definition_changes asked (Creates c) = Some (create_changes asked c)
definition_changes asked (Clones c) = clone_changes asked c
definition_changes asked (Drops name) = option_map (drop_changes asked) (table_asked asked name)
definition_changes asked (Undrops name) = option_map undrop_changes (table_to_undrop asked name)
definition_changes asked (Truncates name) = option_map (truncate_changes asked) (table_asked asked name)
definition_changes asked (Alters name change) =
    table_asked asked name >>= λ table. option_map tables_alone (alter_changes asked table change)
