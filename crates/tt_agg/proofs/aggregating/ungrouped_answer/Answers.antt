use Rattle.std.proofs.Common.{sym, ◌∙◌, true, false}
use Rattle.std.specs.Option.{option_map}
use Rattle.tt_scope.specs.Places.{scope_in}
use Rattle.tt_agg.proofs.Parts.{ok_is, ungrouped_if}
use Rattle.tt_agg.proofs.aggregating.ungrouped_answer.Goals as goal

pub returns-then-has_aggregate : goal.returns-then-has_aggregate
returns-then-has_aggregate c =
    ok_is (option_map (λ answer. answer.items)) c.whole_answer.result _ _ (ungrouped_if true (scope_in c.args.tables.now) c.args.selection.now c.args.rows.now (sym c.has_aggregate.ensures ∙ c.if-has_aggregate.true)) c.whole_answer.ensures

pub returns-else-has_aggregate : goal.returns-else-has_aggregate
returns-else-has_aggregate c =
    ok_is (option_map (λ answer. answer.items)) c.row_answers.result _ _ (ungrouped_if false (scope_in c.args.tables.now) c.args.selection.now c.args.rows.now (sym c.has_aggregate.ensures ∙ c.if-has_aggregate.false)) c.row_answers.ensures
