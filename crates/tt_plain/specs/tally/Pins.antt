-- The parts that an open statement may still read.
use Rattle.std.specs.Prelude.{List, None, [], filter_map, map, option_map, option_to_list, ℕ}
use Rattle.tt_value.specs.declared.name.TableName.{TableName}
use Rattle.tt_sql.specs.declared.change.Dml.{Dml}
use Rattle.tt_sql.specs.declared.query.Source.{Source}
use Rattle.tt_plain.specs.declared.tally.TallyPin.{TallyPin}
use Rattle.tt_plain.specs.asked.Asked.{Asked}
use Rattle.tt_plain.specs.opening.Point.{inserted_sources}
use Rattle.tt_plain.specs.tally.Layouts.{source_parts}
use Rattle.tt_sql.specs.declared.change.Dml.TheVariants as dml

abbrev pub pin_of : ℕ → ℕ × List ℕ → TallyPin
pin_of session seen = record { session = session; table = seen.0; parts = seen.1 }

-- a pin for each table that is read
abbrev pub source_pins : Asked → List Source → List TallyPin
source_pins asked sources = map (pin_of asked.session) (filter_map (source_parts asked) sources)

-- the visible layout of the target
abbrev pub target_pin : Asked → TableName → List TallyPin
target_pin asked name = option_to_list (option_map (pin_of asked.session) (source_parts asked (record { table = name; clause = None })))

-- INSERT and COPY pin nothing of their target.
abbrev pub change_pins : Asked → Dml → List TallyPin
change_pins asked (dml.Insert i) = source_pins asked (inserted_sources i.source)
change_pins asked (dml.Update u) = target_pin asked u.table
change_pins asked (dml.Delete d) = target_pin asked d.table
change_pins asked (dml.Copy c) = []
