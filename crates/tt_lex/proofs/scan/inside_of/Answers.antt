use Rattle.std.proofs.Common.{arith}
use Rattle.tt_lex.proofs.QuotedTexts.{length-le-doubled, one_byte, two_quotes}
use Rattle.tt_lex.proofs.scan.inside_of.Goals as goal
use Rattle.tt_lex.proofs.scan.inside_of.Goals.{then-rest-written-eq39+else-written-rest+else-rest-written-ne39, else-rest-written-eq39}

pub overflow_add-meant : goal.overflow_add-meant
overflow_add-meant c = omega (arith, length-le-doubled c.loop-written.invariant.0, c.loop-written.invariant.2, c.loop-written.invariant.3)

pub loop-written-preserved : goal.loop-written-preserved
loop-written-preserved c =
    elim c.if-rest-written-eq39.branch [
      | then-rest-written-eq39+else-written-rest+else-rest-written-ne39 w ↦ rw w.written-is (two_quotes c.args.rest.now c.loop-written.written c.loop-written.meant c.loop-written.invariant (omega arith) w.if-rest-written-eq39.true w.if-rest-written-ne39.false)
      | else-rest-written-eq39 w ↦ rw w.written-is (one_byte c.args.rest.now c.loop-written.written c.loop-written.meant c.loop-written.invariant (omega arith) w.if-rest-written-eq39.false)
    ]
