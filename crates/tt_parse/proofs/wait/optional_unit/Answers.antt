use Rattle.std.proofs.Common.{refl}
use Rattle.tt_terminal.proofs.Steps.{passes_right, passes_way, word_kind_is}
use Rattle.tt_terminal.proofs.Exits.{turns_left, goes_on}
use Rattle.tt_parse.proofs.wait.optional_unit.Goals as goal

pub returns-in_default : goal.returns-in_default
returns-in_default c = passes_right (rw c.in_default.ensures refl) refl (passes_way c.requires)

pub returns : goal.returns
returns c = turns_left _ _ _ _ _ _ _ _ (word_kind_is c.in-Some.ensures) refl refl (goes_on _ _ _ _ _ _ _ _ c.in-Some.ensures c.unit_text_of.ensures)
