use Rattle.std.proofs.Common.{sym, ◌∙◌, arith, ap, length, length-append}
use Rattle.tt_script.proofs.Texts.{faulty_here, faulty_later, faulty_none}
use Rattle.tt_script.proofs.lines.first_faulty.Goals as goal

pub returns-then-is_faulty-clause-place : goal.returns-then-is_faulty-clause-place
returns-then-is_faulty-clause-place c = faulty_here c.loop-line.rest.now c.in-Some.line.now c.in-Some.behind.now c.loop-line.begun c.loop-line.at _ c.in-Some.ensures.line (sym c.is_faulty.ensures ∙ c.if-is_faulty.true) c.loop-line.invariant.faulty

pub loop-line-preserved : goal.loop-line-preserved
loop-line-preserved c = record {
  faulty = rw c.has_begun-begun.ensures (faulty_later c.loop-line.rest.now c.in-Some.line.now c.in-Some.behind.now c.loop-line.begun c.loop-line.at _ c.in-Some.ensures.line (sym c.is_faulty.ensures ∙ c.if-is_faulty.false) c.loop-line.invariant.faulty);
  place = omega (arith, c.loop-line.invariant.place, ap length c.in-Some.ensures.parts, length-append c.in-Some.line.now c.in-Some.behind.now);
}

pub returns-clause-place : goal.returns-clause-place
returns-clause-place c = faulty_none c.loop-line.rest.now c.loop-line.begun c.loop-line.at _ c.in_default.ensures.none c.loop-line.invariant.faulty
