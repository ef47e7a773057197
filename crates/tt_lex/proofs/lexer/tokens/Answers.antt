use Rattle.std.proofs.Common.{sym, ◌∙◌}
use Rattle.std.proofs.lemmas.List.{nil_from_length, append-nil}
use Rattle.std.proofs.lemmas.Bool.{eqb-true}
use Rattle.std.proofs.lemmas.Result.{err_from_is_err_and}
use Rattle.tt_lex.proofs.Characters.{HasTokens-between}
use Rattle.tt_lex.proofs.OneWay.{same_tokens, same_fault, not_both}
use Rattle.tt_lex.specs.answer.Pieces.{one_more, at_end, at_fault}
use Rattle.tt_lex.proofs.Places.{HasTokens-in_order}
use Rattle.tt_lex.proofs.Function.{tokens_law, fault_law}
use Rattle.tt_lex.proofs.lexer.tokens.Goals as goal
use Rattle.tt_lex.proofs.lexer.tokens.Goals.{in-Some+in_ok-push, in_default}

pub loop-rest-preserved : goal.loop-rest-preserved
loop-rest-preserved c =
    let more = one_more c.args.text.now c.loop-rest.rest.now c.loop-rest.at c.loop-rest.list.items c.in_ok-front.front c.loop-rest.invariant c.in_ok-front.ensures.piece in
    rw c.split_at.ensures.back (elim c.match-front.branch [
      | in-Some+in_ok-push w ↦ rw (w.list-is, w.in_ok-push.ensures.items) (rw w.in-Some.is at more)
      | in_default w ↦ rw w.list-is (rw (w.in_default.is, append-nil) at more)
    ])

pub returns-in_err-front-clause-only : goal.returns-in_err-front-clause-only
returns-in_err-front-clause-only c =
    let p = err_from_is_err_and c.from_residual.result c.from_residual.ensures.1 in
    rw (p.1, p.2) (λ xs h. not_both c.args.text.now xs c.in_err-front.field-0.0 h (at_fault _ _ _ _ _ c.loop-rest.invariant c.in_err-front.ensures.fault))

pub returns-in_err-front-clause-only_fault : goal.returns-in_err-front-clause-only_fault
returns-in_err-front-clause-only_fault c =
    let p = err_from_is_err_and c.from_residual.result c.from_residual.ensures.1 in
    rw (p.1, p.2) (λ f h. same_fault c.args.text.now c.in_err-front.field-0.0 f (at_fault _ _ _ _ _ c.loop-rest.invariant c.in_err-front.ensures.fault) h)

pub returns-clause-only : goal.returns-clause-only
returns-clause-only c =
    let found = at_end _ _ _ _ c.loop-rest.invariant (nil_from_length c.loop-rest.rest.now (eqb-true _ 0 (sym c.is_empty.ensures ∙ c.loop-rest-test.false))) in
    λ xs h. same_tokens c.args.text.now _ xs found h

pub returns-clause-only_fault : goal.returns-clause-only_fault
returns-clause-only_fault c =
    let found = at_end _ _ _ _ c.loop-rest.invariant (nil_from_length c.loop-rest.rest.now (eqb-true _ 0 (sym c.is_empty.ensures ∙ c.loop-rest-test.false))) in
    λ f h. not_both c.args.text.now _ f found h

pub returns-clause-order : goal.returns-clause-order
returns-clause-order c = HasTokens-in_order _ _ (at_end _ _ _ _ c.loop-rest.invariant (nil_from_length c.loop-rest.rest.now (eqb-true _ 0 (sym c.is_empty.ensures ∙ c.loop-rest-test.false))))

pub returns-clause-characters : goal.returns-clause-characters
returns-clause-characters c = HasTokens-between _ _ c.utf8.text (at_end _ _ _ _ c.loop-rest.invariant (nil_from_length c.loop-rest.rest.now (eqb-true _ 0 (sym c.is_empty.ensures ∙ c.loop-rest-test.false))))

pub returns-in_err-front-clause-value : goal.returns-in_err-front-clause-value
returns-in_err-front-clause-value c =
    let p = err_from_is_err_and c.from_residual.result c.from_residual.ensures.1 in
    rw (p.1, p.2) ((fault_law c.args.text.now c.in_err-front.field-0.0).1 (at_fault _ _ _ _ _ c.loop-rest.invariant c.in_err-front.ensures.fault))

pub returns-clause-value : goal.returns-clause-value
returns-clause-value c =
    (tokens_law c.args.text.now c.loop-rest.list.items).1 (at_end _ _ _ _ c.loop-rest.invariant (nil_from_length c.loop-rest.rest.now (eqb-true _ 0 (sym c.is_empty.ensures ∙ c.loop-rest-test.false))))
