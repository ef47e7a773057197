use Rattle.std.proofs.Common.{rules, ap, ◌∙◌}
use Rattle.tt_seatlock.proofs.Entering.{looks}
use Rattle.tt_seatlock.proofs.Meeting.{joins}
use Rattle.tt_seatlock.proofs.lock.SeatLock.join.Goals as goal

pub join_seat-requires : goal.join_seat-requires
join_seat-requires g c = let into = c.args.into.now.idle in let from = c.args.from.idle in
    (search rules, search rules, from.no_slot, search rules, joins g.B.Book.entries g.B.Book.number g.B.Book.ground_of _ _ _ _ into.live c.requires.into from.live from.no_turn c.requires.from)

pub load-requires : goal.load-requires
load-requires g c =
    (search rules, search rules, looks g.B.Book.entries g.B.Book.number g.B.Book.ground_of _ _ _ (ap (λ m. m.0.live) c.join_seat.ensures.2 ∙ c.args.into.now.idle.live))
