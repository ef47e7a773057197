use Rattle.std.proofs.Common.{rules, ℕ, ◌*◌, ◌∷◌, Some, ap, sym, ◌∙◌}
use Rattle.atomic_table.specs.Table.{rest}
use Rattle.tt_seatlock.proofs.Leaving.{releases_at}
use Rattle.tt_seatlock.proofs.lock.SeatLock.leave.Goals as goal

pub store-requires : goal.store-requires
store-requires g c =
    let held = c.args.held in
    let inside = c.requires.inside in
    let now = c.exchange-taken.ensures.3 ∙ ap (λ l. (held.seat.me.0, (0, Some held.book) ∷ rest l)) inside.taken in
    let twice = ap (λ (k : ℕ). 2 * k) c.length-length.ensures.exact in
    let place = inside.place ∙ ap (λ x. Some x) (sym c.requires.same_ground) in
    (search rules, search rules, releases_at g.B.Book.entries g.B.Book.number g.B.Book.ground_of _ _ _ _ held.seat.me.0 held.book now twice inside.live inside.turn place c.requires.adds)
