use Rattle.std.proofs.Common.{◌≡◌, ◌++◌, false, drop, subst}
use Rattle.tt_sql.specs.grammar.TokenKinds.{undoubled}
use Rattle.tt_terminal.proofs.Quotes.{at_end, after_second, after_first}
use Rattle.tt_terminal.proofs.quoted.undoubled.Goals as goal
use Rattle.tt_terminal.proofs.quoted.undoubled.Goals.{then-second, else-second+in_ok-push}

pub loop-byte-preserved : goal.loop-byte-preserved
loop-byte-preserved c =
    elim c.if-second.branch [
      | then-second w ↦ rw (w.single-is, w.second-is) (after_second c.loop-byte.single.items c.args.bytes.now (undoubled false c.args.bytes.now) c.loop-byte.byte-index c.loop-byte-test.true
          (subst (λ s. c.loop-byte.single.items ++ undoubled s (drop c.loop-byte.byte-index c.args.bytes.now) ≡ undoubled false c.args.bytes.now) w.if-second.true c.loop-byte.invariant))
      | else-second+in_ok-push w ↦ rw (w.single-is, w.second-is, w.in_ok-push.ensures.items) (after_first c.loop-byte.single.items c.args.bytes.now (undoubled false c.args.bytes.now) c.loop-byte.byte-index c.loop-byte-test.true
          (subst (λ s. c.loop-byte.single.items ++ undoubled s (drop c.loop-byte.byte-index c.args.bytes.now) ≡ undoubled false c.args.bytes.now) w.if-second.false c.loop-byte.invariant))
    ]

pub returns : goal.returns
returns c = at_end c.loop-byte.single.items c.args.bytes.now (undoubled false c.args.bytes.now) c.loop-byte.second c.loop-byte.byte-index c.loop-byte-test.false c.loop-byte.invariant
