use Rattle.std.proofs.Common.{rules, ◌∷◌, Some, ap, sym, ◌∙◌}
use Rattle.atomic_table.specs.Table.{rest}
use Rattle.tt_seatlock.proofs.Entering.{tries}
use Rattle.tt_seatlock.proofs.lock.SeatLock.enter.Goals as goal

pub compare_exchange-found-requires : goal.compare_exchange-found-requires
compare_exchange-found-requires g c =
    (search rules, search rules, tries g.B.Book.entries g.B.Book.number g.B.Book.ground_of _ _ _ _ (ap (λ m. m.0.live) c.loop.invariant.3 ∙ c.args.pass.idle.live) c.if-word-eq0.true)

pub exchange-requires : goal.exchange-requires
exchange-requires g c =
    let won = c.compare_exchange-found.ensures.2.0 c.if-found-word.true in
    let took = ap (λ m. m.1) won.now in
    (search rules, (_, took ∙ ap (λ cs. (0, Some won.book) ∷ rest cs) (sym took)))
