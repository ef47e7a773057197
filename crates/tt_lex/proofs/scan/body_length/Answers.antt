use Rattle.std.proofs.Common.{◌≡◌, ◌+◌, ◌-◌, get_or, ap, ◌∙◌, arith}
use Rattle.tt_lex.proofs.QuotedTexts.{closed_at}
use Rattle.tt_lex.proofs.scan.body_length.Goals as goal

pub returns-then-rest-i-eq47-clause-found : goal.returns-then-rest-i-eq47-clause-found
returns-then-rest-i-eq47-clause-found c =
    let next : c.loop-i.i - 1 + 1 ≡ c.loop-i.i = omega arith in
    closed_at c.args.rest.now (c.loop-i.i - 1) (omega arith) c.if-rest-i-eq42.true (ap (λ k. get_or c.args.rest.now k 0) next ∙ c.if-rest-i-eq47.true) (λ k h. c.loop-i.invariant k (omega arith))
