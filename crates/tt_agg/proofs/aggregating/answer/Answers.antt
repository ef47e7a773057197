use Rattle.std.proofs.Common.{◌∙◌, sym}
use Rattle.std.specs.Option.{option_map}
use Rattle.tt_scope.specs.Places.{scope_in}
use Rattle.tt_agg.proofs.Parts.{of_groups, of_rows, ok_is, false_true}
use Rattle.tt_agg.proofs.aggregating.answer.Goals as goal

pub returns-then-is_empty : goal.returns-then-is_empty
returns-then-is_empty c =
    ok_is (option_map (λ answer. answer.items)) c.ungrouped_answer.result _ _ (of_rows (scope_in c.args.tables.now) c.args.query.now c.args.rows.now (c.is_empty.ensures.0 c.if-is_empty.true)) c.ungrouped_answer.ensures

pub returns-else-is_empty : goal.returns-else-is_empty
returns-else-is_empty c =
    ok_is (option_map (λ answer. answer.items)) c.grouped_answer.result _ _ (of_groups (scope_in c.args.tables.now) c.args.query.now c.args.rows.now (λ none. false_true (sym c.if-is_empty.false ∙ c.is_empty.ensures.1 none))) c.grouped_answer.ensures
