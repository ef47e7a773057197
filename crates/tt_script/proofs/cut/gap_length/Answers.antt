use Rattle.std.proofs.Common.{sym, ◌∙◌}
use Rattle.tt_script.specs.Body.{is_gap}
use Rattle.tt_script.proofs.Cuts.{goes_on}
use Rattle.tt_script.proofs.cut.gap_length.Goals as goal

pub loop-i-preserved : goal.loop-i-preserved
loop-i-preserved c =
    goes_on is_gap c.args.body.now c.loop-i.i c.loop-i.inside c.byte_at-next.result c.kind_at.result c.inside_after-inside.result _ c.loop-i-test.true c.byte_at-next.ensures c.kind_at.ensures
    (sym c.is_gap.ensures ∙ c.if-not-is_gap.false) c.inside_after-inside.ensures c.loop-i.invariant
