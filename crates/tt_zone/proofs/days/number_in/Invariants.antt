use Rattle.tt_zone.proofs.DatesByParts.{IsReadTo}
use Rattle.tt_zone.proofs.days.number_in.Given as goal

abbrev pub invariant-loop-digit : goal.invariant-loop-digit
invariant-loop-digit l = IsReadTo l.digits l.digit-index l.number
