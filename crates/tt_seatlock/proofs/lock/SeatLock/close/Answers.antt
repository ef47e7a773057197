use Rattle.std.proofs.Common.{ℕ, Option, ap, sym, ◌∙◌}
use mathlib.Core.Option.{some}
use Rattle.tt_seatlock.specs.History.{made_by}
use Rattle.tt_seatlock.proofs.Closing.{closes, closes_full}
use Rattle.tt_seatlock.proofs.lock.SeatLock.close.Goals as goal

pub unreachable-requires : goal.unreachable-requires
unreachable-requires g c =
    let last = c.args.last in
    closes_full g.B.Book.entries g.B.Book.number g.B.Book.ground_of _ _ _ (last.idle.live, last.idle.no_turn, c.requires.last, c.requires.all)
    (_, c.close_with-closed.ensures.values.2) (c.take-slot.ensures.value ∙ ap (λ (x : Option g.row.B.Denot). some x) c.in_default.is)

pub returns : goal.returns
returns g c =
    let last = c.args.last in
    let e = closes g.B.Book.entries g.B.Book.number g.B.Book.ground_of _ _ _ _ (last.idle.live, last.idle.no_turn, c.requires.last, c.requires.all)
    (_, c.close_with-closed.ensures.values.2) (c.take-slot.ensures.value ∙ ap (λ (x : Option g.row.B.Denot). some x) c.in-Some.is) in
    record {
      same_ground = cc (e.same_ground, c.requires.lock.1);
      goes_on = e.goes_on;
      own = ap (λ (k : ℕ). made_by g.B.Book.number k (g.B.Book.entries c.in-Some.book)) (sym c.requires.last) ∙ e.own;
      kept = e.kept;
      no_other = e.no_other;
    }
