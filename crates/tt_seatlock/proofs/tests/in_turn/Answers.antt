use Rattle.std.proofs.Common.{rules, ◌≡◌}
use Rattle.tt_seatlock.specs.Passes.{known}
use Rattle.tt_seatlock.proofs.Keeping.{keeps_none, keeps_next, keeps_all}
use Rattle.tt_seatlock.proofs.tests.in_turn.Goals as goal

pub close-requires-clause-all : goal.close-requires-clause-all
close-requires-clause-all g c =
    let last = known c.add_note-last-2.result.0 in
    let other = known c.add_note-other-3.result.0 in
    let m = known c.join.new.into in
    let one : other.number ≡ 1 = search rules in
    let made : m.made ≡ 2 = search rules in
    keeps_all m 2 made (keeps_next last other m 1 c.join.ensures.pass one (keeps_none last))
