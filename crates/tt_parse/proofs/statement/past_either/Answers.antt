use Rattle.std.proofs.Common.{refl}
use Rattle.tt_terminal.proofs.Steps.{passes_left, passes_right, passes_noted}
use Rattle.tt_terminal.proofs.KindEnds.{no_end}
use Rattle.tt_parse.proofs.statement.past_either.Goals as goal

pub returns-in-Some : goal.returns-in-Some
returns-in-Some c = passes_left refl (rw c.in-Some.ensures.0 refl) (rw (no_end c.args.first, no_end c.args.second) refl) c.in-Some.ensures.1

pub returns-in-None : goal.returns-in-None
returns-in-None c = passes_right (rw c.in-None.ensures refl) refl (passes_noted c.requires (λ done. refl))
