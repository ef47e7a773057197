use Rattle.std.proofs.Common.{take}
use Rattle.tt_value.specs.declared.predicate.Predicate.{out-Predicate}
use Rattle.tt_value.specs.trees.Scope.{table_scope}
use Rattle.tt_filter.specs.Decoded.{AreDecodedOf}
use Rattle.tt_filter.specs.RowTruths.{OnRows}
use Rattle.tt_filter.proofs.Walking.{any_so_far, all_so_far}
use Rattle.tt_filter.proofs.selecting.+truths.Given as goal

abbrev pub invariant-in_predicate-loop-conjunction : goal.invariant-in_predicate-loop-conjunction
invariant-in_predicate-loop-conjunction l = OnRows (any_so_far (table_scope l.schema) (out-Predicate l.predicate).first (take l.conjunction-index l.conjunction-items)) l.partition.rows l.found × AreDecodedOf l.partition l.columns

abbrev pub invariant-in_conjunction-loop-unit : goal.invariant-in_conjunction-loop-unit
invariant-in_conjunction-loop-unit l = OnRows (all_so_far (table_scope l.schema) l.conjunction.first (take l.unit-index l.unit-items)) l.partition.rows l.found × AreDecodedOf l.partition l.columns
