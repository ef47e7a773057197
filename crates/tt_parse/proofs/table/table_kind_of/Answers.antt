use Rattle.std.proofs.Common.{refl}
use Rattle.tt_terminal.proofs.Steps.{passes_left, passes_right, passes_as, passes_last_word, passes_way, word_kind_is}
use Rattle.tt_parse.proofs.table.table_kind_of.Goals as goal

pub returns-in-Some : goal.returns-in-Some
returns-in-Some c = passes_left (word_kind_is c.in-Some.ensures) refl refl (passes_as (passes_last_word c.in-Some.ensures))

pub returns-in-None : goal.returns-in-None
returns-in-None c = passes_right (rw c.in-None.ensures refl) refl (passes_way c.requires)
