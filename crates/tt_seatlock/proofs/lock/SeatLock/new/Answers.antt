use Rattle.std.proofs.Common.{rules, ◌≡◌, ◌∷◌, [], Some}
use Rattle.tt_seatlock.proofs.Opening.{opens}
use Rattle.tt_seatlock.proofs.lock.SeatLock.new.Goals as goal

pub new-requires : goal.new-requires
new-requires g c =
    let items : c.push.new.self.items ≡ Some c.args.book ∷ [] = search rules in
    let told : c.of-about.result.value ≡ c.args.book = search rules in
    let entries = g.B.Book.entries in
    let number = g.B.Book.number in
    let ground_of = g.B.Book.ground_of in
    rw (items, told) (opens entries number ground_of c.args.book c.requires.empty)
