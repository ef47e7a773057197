use Rattle.std.proofs.Common.{not, sym, ap, ◌∙◌}
use Rattle.tt_script.specs.Body.{is_cut}
use Rattle.tt_script.proofs.Cuts.{goes_on}
use Rattle.tt_script.proofs.cut.part_length.Goals as goal

pub loop-i-preserved : goal.loop-i-preserved
loop-i-preserved c =
    goes_on (λ kind. not (is_cut kind)) c.args.body.now c.loop-i.i c.loop-i.inside c.byte_at-next.result c.kind_at.result c.inside_after-inside.result _ c.loop-i-test.true c.byte_at-next.ensures c.kind_at.ensures
    (ap not (sym c.is_cut.ensures ∙ c.if-is_cut.false)) c.inside_after-inside.ensures c.loop-i.invariant
