use Rattle.std.proofs.Common.{ℕ, List, ◌++◌, ap, ◌∙◌}
use Rattle.tt_value.proofs.columns.Indexes.{pushed_more}
use Rattle.tt_textcol.specs.TextBody.{text_bytes}
use Rattle.tt_textcol.proofs.bodies.push_texts.Goals as goal

pub loop-value-preserved : goal.loop-value-preserved
loop-value-preserved c = pushed_more text_bytes c.args.out.now.items c.args.values.now c.loop-value.value-index c.value-item.result c.loop-value.out.items _ c.loop-value-test.true c.loop-value.invariant (c.in_ok-push_text.ensures ∙ ap (λ (t : List ℕ). c.loop-value.out.items ++ text_bytes t) c.value-item.is)
