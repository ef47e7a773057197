use Rattle.std.specs.Option.{option_copied}
use Rattle.tt_plain.specs.refusal.NothingToUndrop.{is_undroppable}
use Rattle.tt_model_asked.specs.AskedAs.{asked_in}
use Rattle.tt_model_asked.proofs.Undropped.{HasLast}
use Rattle.tt_model_asked.proofs.nothing_to_undrop.table_to_undrop.Given as goal

abbrev pub invariant-loop-table : goal.invariant-loop-table
invariant-loop-table l = HasLast (is_undroppable (asked_in l.asked) l.name) l.table-items l.table-index (option_copied l.found)
