use Rattle.std.proofs.Common.{◌≡◌}
use Rattle.tt_model_effect.specs.EffectAs.{table_change_in}
use Rattle.tt_model_effect.specs.OneTable.{changed_one}
use Rattle.tt_model_effect.proofs.Steps.{part_mapped}
use Rattle.tt_model_effect.proofs.tables.change_each.Given as goal

abbrev pub invariant-loop-place : goal.invariant-loop-place
invariant-loop-place l = l.tables.items ≡ part_mapped (changed_one (table_change_in l.change)) l.fn.tables.items l.place
