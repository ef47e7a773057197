use Rattle.std.proofs.Common.{refl, eq-eqb}
use Rattle.tt_terminal.specs.KindNumbers.{kind_number}
use Rattle.tt_terminal.proofs.KindEnds.{no_end}
use Rattle.tt_terminal.proofs.Steps.{word_kind_is, passes_left, passes_right, passes_last_word, passes_noted}
use Rattle.tt_terminal.proofs.fixed.past.Goals as goal

pub returns-in-Some : goal.returns-in-Some
returns-in-Some c = passes_left (word_kind_is c.in-Some.ensures) (rw (eq-eqb (kind_number c.args.kind) (kind_number c.args.kind) refl) refl) (rw (no_end c.args.kind) refl) (passes_last_word c.in-Some.ensures)

pub returns-in-None : goal.returns-in-None
returns-in-None c = passes_right (rw c.in-None.ensures refl) refl (passes_noted c.requires (λ done. refl))
