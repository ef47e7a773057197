use Rattle.tt_terminal.proofs.OneOf.{either_first, either_last}
use Rattle.tt_terminal.proofs.fixed.either_word.Goals as goal

pub returns-in-Some : goal.returns-in-Some
returns-in-Some c = either_first _ c.in-Some.ensures

pub returns : goal.returns
returns c = either_last _ _ _ _ c.in_default.ensures c.word-2.ensures
