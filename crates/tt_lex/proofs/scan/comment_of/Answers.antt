use Rattle.tt_lex.specs.answer.Fronts.{takes_block}
use Rattle.tt_lex.proofs.scan.comment_of.Goals as goal

pub returns-in-Some-clause-piece : goal.returns-in-Some-clause-piece
returns-in-Some-clause-piece c =
    let f = c.in-Some.ensures.found in
    takes_block _ f.0 f.1 _ f.2 f.3 f.4
