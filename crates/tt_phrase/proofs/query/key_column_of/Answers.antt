use Rattle.std.proofs.Common.{refl}
use Rattle.tt_terminal.proofs.Steps.{passes_left, passes_right, passes_as, stops_first, stops_right}
use Rattle.tt_terminal.proofs.Exits.{exits, within}
use Rattle.tt_terminal.proofs.Steps.{takes_kind}
use Rattle.tt_terminal.proofs.Names.{passes_name}
use Rattle.tt_phrase.proofs.query.key_column_of.Goals as goal

pub returns-in-Some : goal.returns-in-Some
returns-in-Some c = let is = rw c.in-Some.is at (c.in_ok-name.ensures) in passes_left (takes_kind is.takes) (rw is.kind refl) refl (passes_as (passes_name is))

pub returns-in_err-number : goal.returns-in_err-number
returns-in_err-number c = exits _ _ _ _ _ _ c.from_residual-in_err-number.result c.from_residual-in_err-number.ensures.1 (within (λ at f. let none = rw c.in_default.is at (c.in_ok-name.ensures) in stops_right (rw none refl) refl (stops_first f)) _ c.in_err-number.ensures)

pub returns : goal.returns
returns c = let none = rw c.in_default.is at (c.in_ok-name.ensures) in passes_right (rw none refl) refl (passes_as c.in_ok-number.ensures)
