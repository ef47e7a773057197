use Rattle.std.proofs.Common.{rules}
use Rattle.tt_seatlock.proofs.Parting.{splits}
use Rattle.tt_seatlock.proofs.lock.SeatLock.pass.Goals as goal

pub split_seat-seat-requires : goal.split_seat-seat-requires
split_seat-seat-requires g c =
    (search rules, search rules, splits g.B.Book.entries g.B.Book.number g.B.Book.ground_of _ _ c.args.parent.now.idle.live c.requires.parent)
