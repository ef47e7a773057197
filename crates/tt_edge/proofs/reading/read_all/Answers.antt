-- A read more consumes what comes after what was read so far.
use Rattle.std.proofs.Common.{◌≡◌, ◌+◌, ◌-◌, ◌≤◌, length, take, arith, length-take-le, ◌∙◌}
use Rattle.std.specs.Io.KnownBytes.{Consumes}
use Rattle.tt_edge.proofs.Bytes.{Consumes_more, LosesFront-from_Consumes}
use Rattle.tt_edge.proofs.reading.read_all.Goals as goal

pub loop-turn-preserved : goal.loop-turn-preserved
loop-turn-preserved g c =
    let read = c.in_ok-count.ensures in
    let before = c.loop-turn.invariant in
    record {
      held = read.fits;
      within = omega arith;
      turns = omega arith;
      taken = Consumes_more _ _ _ c.loop-turn.bytes.items c.read_more.new.bytes.items _ _ read.front before.taken read.consumed;
      counted = omega (arith, read.counted, before.counted);
      later = omega (arith, read.later, before.later);
    }

pub returns-then-filled-limit-clause-taken : goal.returns-then-filled-limit-clause-taken
returns-then-filled-limit-clause-taken g c =
    let read = c.in_ok-count.ensures in
    let before = c.loop-turn.invariant in
    let n = c.loop-turn.filled + c.in_ok-count.count in
    let items = c.read_more.new.bytes.items in
    let gone : Consumes (g.S.Source.left c.args.source.now) (g.S.Source.left c.read_more.new.source) (take n items) =
    Consumes_more _ _ _ c.loop-turn.bytes.items items _ _ read.front before.taken read.consumed in
    let held : n ≤ length items = search (arith, c.read_more.new.bytes.ok) in
    let moved : n ≡ g.S.Source.given c.read_more.new.source - g.S.Source.given c.args.source.now = omega (arith, read.counted, before.counted) in
    LosesFront-from_Consumes _ _ (take n items) _ gone (length-take-le n items held ∙ moved)
