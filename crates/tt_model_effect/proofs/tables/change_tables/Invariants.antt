use Rattle.std.proofs.Common.{◌≡◌, fold, map}
use Rattle.tt_plain.specs.effect.Apply.{changed_table}
use Rattle.tt_model_effect.specs.Allowed.{TakeAll}
use Rattle.tt_model_effect.specs.EffectAs.{table_change_in}
use Rattle.tt_model_effect.proofs.tables.change_tables.Given as goal

abbrev pub invariant-loop-one : goal.invariant-loop-one
invariant-loop-one l =
    TakeAll (map table_change_in l.one-iterator.rest.items) l.tables.items
    × (fold changed_table l.tables.items (map table_change_in l.one-iterator.rest.items) ≡ fold changed_table l.fn.tables.items (map table_change_in l.fn.changes.items))
