use Rattle.std.proofs.Common.{◌∙◌, IfErr, Result, subst, sym}
use Rattle.std.proofs.lemmas.Result.{err_from_is_err_and}
use Rattle.tt_agg.specs.Selected.{IsOutOfRange}
use Rattle.tt_agg.specs.declared.error.AggregateError.{AggregateError}
use Rattle.tt_query.specs.Answer.{answer_from}
use Rattle.tt_query.proofs.OneTable.{answered, out_of_range}
use Rattle.tt_query.proofs.Printable.{printable}
use Rattle.tt_query.proofs.answering.answer_of_rows.Goals as goal

pub returns-in_err-selected-clause-out : goal.returns-in_err-selected-clause-out
returns-in_err-selected-clause-out c =
    let p = err_from_is_err_and c.from_residual-in_err-selected.result c.from_residual-in_err-selected.ensures.1 in
    subst (λ (r : Result _ AggregateError). IfErr r (IsOutOfRange (answer_from c.args.seen.now c.args.query.now))) (sym p.1)
    (λ is. out_of_range c.args.seen.now c.args.query.now c.requires c.from_ref-schemas.result.now c.in_ok-taken.taken.items c.from_ref-schemas.ensures.value c.in_ok-taken.ensures.rows (c.in_err-selected.ensures.out (sym p.2 ∙ is)))

pub returns-clause-rows : goal.returns-clause-rows
returns-clause-rows c =
    answered c.args.seen.now c.args.query.now c.requires c.from_ref-schemas.result.now c.in_ok-taken.taken.items c.from_ref-schemas.ensures.value c.in_ok-taken.ensures.rows c.in_ok-selected.selected.items c.in_ok-answer.answer.items c.in_ok-selected.ensures.rows c.in_ok-answer.ensures

pub returns-clause-printable : goal.returns-clause-printable
returns-clause-printable c plain =
    printable c.args.seen.now c.args.query.now c.in_ok-taken.taken.items c.in_ok-answer.answer.items c.in_ok-taken.ensures.rows c.in_ok-taken.ensures.printable
    (answered c.args.seen.now c.args.query.now c.requires c.from_ref-schemas.result.now c.in_ok-taken.taken.items c.from_ref-schemas.ensures.value c.in_ok-taken.ensures.rows c.in_ok-selected.selected.items c.in_ok-answer.answer.items c.in_ok-selected.ensures.rows c.in_ok-answer.ensures) plain
