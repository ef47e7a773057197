use Rattle.std.proofs.Common.{sym, ◌∙◌}
use Rattle.tt_lex.specs.answer.Fronts.{takes_long, takes_short}
use Rattle.tt_lex.proofs.scan.sign_of.Goals as goal

pub returns-then-begins_long_sign-clause-piece : goal.returns-then-begins_long_sign-clause-piece
returns-then-begins_long_sign-clause-piece c =
    let f = c.if-begins_long_sign.ensures in
    takes_long _ f.1 _ f.0 f.2 f.3

pub returns-then-is_short_sign-clause-piece : goal.returns-then-is_short_sign-clause-piece
returns-then-is_short_sign-clause-piece c = takes_short _ _ c.if-begins_long_sign.ensures c.requires (sym c.is_short_sign.ensures ∙ c.if-is_short_sign.true)
