use Rattle.std.proofs.Common.{◌∷◌, [], ◌∙◌, List, Some, ap, refl, sym}
use Rattle.tt_value.specs.declared.value.Row.{Row}
use Rattle.tt_sql.specs.meaning.Scopes.{query_scope}
use Rattle.tt_state.specs.Held.{rows_held}
use Rattle.tt_scan.specs.Held.{rows_taken}
use Rattle.tt_query.proofs.OneTable.{answered}
use Rattle.tt_query.proofs.RowCounts.{counts_row, counts_selected}
use Rattle.tt_query.proofs.answering.answer_of_counts.Goals as goal

pub returns-clause-rows : goal.returns-clause-rows
returns-clause-rows c =
    let taken = rows_taken c.args.seen.now.schema c.args.query.now.filter (rows_held c.args.seen.now) in
    let one : List Row = c.in_ok-selected.selected.items in
    answered c.args.seen.now c.args.query.now c.requires.over c.from_ref.result.now taken c.from_ref.ensures.value refl one c.in_ok-answer.answer.items
    (counts_selected (query_scope c.from_ref.result.now c.args.query.now) c.args.query.now c.args.items taken c.requires.counts
    ∙ ap Some (sym (c.in_ok-selected.ensures ∙ ap (λ n. counts_row c.args.items n ∷ []) c.in_ok-taken.ensures)))
    c.in_ok-answer.ensures
