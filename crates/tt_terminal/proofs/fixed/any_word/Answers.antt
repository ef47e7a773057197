use Rattle.tt_terminal.proofs.OneOf.{any_first, any_second, any_last}
use Rattle.tt_terminal.proofs.fixed.any_word.Goals as goal

pub returns-in-Some : goal.returns-in-Some
returns-in-Some c = any_first _ _ c.in-Some.ensures

pub returns-in-Some-word : goal.returns-in-Some-word
returns-in-Some-word c = any_second _ _ c.in-Some-word.ensures

pub returns : goal.returns
returns c = any_last _ _ _ _ _ c.in_default.ensures c.in_default-word.ensures c.word-3.ensures
