-- An effect as a value of the definitions.
use Rattle.std.specs.Prelude.{map}
use Rattle.tt_plain.specs.effect.Effect.{Effect, TableChange}
use Rattle.tt_plain.specs.effect.Effect as table
use Rattle.tt_plain.specs.tally.Changes.{TallyChange}
use Rattle.tt_plain.specs.tally.Changes as tally
use Rattle.tt_model_effect.specs.declared.effect.Effect.{Effect as EffectValue}
use Rattle.tt_model_effect.specs.declared.effect.TableChange.{TableChange as TableValue}
use Rattle.tt_model_effect.specs.declared.effect.TableChange.TheVariants as kept
use Rattle.tt_model_effect.specs.declared.effect.TallyChange.{TallyChange as TallyValue}
use Rattle.tt_model_effect.specs.declared.effect.TallyChange.TheVariants as counted

abbrev pub table_change_in : TableValue → TableChange
table_change_in (kept.Made made) = table.Made made
table_change_in (kept.Dropped number moment) = table.Dropped number moment
table_change_in (kept.Undropped number) = table.Undropped number
table_change_in (kept.Renamed names) = table.Renamed names
table_change_in (kept.NewVersion number moment rows) = table.NewVersion number moment rows
table_change_in (kept.NewRegime number moment days) = table.NewRegime number moment days
table_change_in (kept.NewKey number key) = table.NewKey number key
table_change_in (kept.Suspended number suspended) = table.Suspended number suspended

abbrev pub tally_change_in : TallyValue → TallyChange
tally_change_in (counted.AddsParts origin parts) = tally.AddsParts origin parts
tally_change_in (counted.MakesTable moment parts) = tally.MakesTable moment parts
tally_change_in (counted.BeginsLayout number moment parts) = tally.BeginsLayout number moment parts
tally_change_in (counted.Keeps lists) = tally.Keeps lists
tally_change_in (counted.EndsPending session) = tally.EndsPending session
tally_change_in (counted.Pins session pins) = tally.Pins session pins
tally_change_in (counted.Unpins session) = tally.Unpins session
tally_change_in (counted.StartsRound round) = tally.StartsRound round
tally_change_in counted.EndsRound = tally.EndsRound
tally_change_in (counted.TakesAway parts) = tally.TakesAway parts

abbrev pub effect_in : EffectValue → Effect
effect_in effect = record {
  session = effect.session;
  tables = map table_change_in effect.tables;
  points = effect.points;
  tally = map tally_change_in effect.tally;
  moment = effect.moment;
  reply = effect.reply;
}
