use Rattle.std.proofs.Common.{refl, eq-eqb}
use Rattle.tt_terminal.specs.KindNumbers.{kind_number}
use Rattle.tt_terminal.proofs.KindEnds.{no_end}
use Rattle.tt_terminal.proofs.Steps.{word_kind_is, passes_left, passes_right, passes_as, passes_word, passes_way, stops_left, stops_first, stops_word}
use Rattle.tt_terminal.proofs.Exits.{exits, within}
use Rattle.tt_terminal.proofs.fixed.flag_of_both.Goals as goal

pub returns-in_default : goal.returns-in_default
returns-in_default c = passes_right (rw c.in_default.ensures refl) refl (passes_way c.requires)

pub returns-in_err-rest : goal.returns-in_err-rest
returns-in_err-rest c = exits _ _ _ _ _ _ c.from_residual.result c.from_residual.ensures.1 (within (λ at f. stops_left (word_kind_is c.in-Some.ensures) (rw (eq-eqb (kind_number c.args.first) (kind_number c.args.first) refl) refl) (rw (no_end c.args.first) refl) (stops_first (stops_word c.in-Some.ensures f))) _ c.in_err-rest.ensures)

pub returns : goal.returns
returns c = passes_left (word_kind_is c.in-Some.ensures) (rw (eq-eqb (kind_number c.args.first) (kind_number c.args.first) refl) refl) (rw (no_end c.args.first) refl) (passes_as (passes_word c.in-Some.ensures c.in_ok-rest.ensures))
