use Rattle.std.proofs.Common.{ℕ, List, ◌++◌, ap, ◌∙◌, append_assoc}
use Rattle.tt_value.specs.columns.Body.{run_bytes, word}
use Rattle.tt_value.proofs.columns.Indexes.{pushed_more}
use Rattle.tt_textcol.specs.TextBody.{text_bytes, text_cmp}
use Rattle.tt_textcol.proofs.bodies.push_runs.Goals as goal

pub loop-run-preserved : goal.loop-run-preserved
loop-run-preserved c =
    let run : List ℕ × ℕ = c.run-item.result in
    pushed_more (run_bytes text_bytes text_cmp) c.args.out.now.items c.args.runs.now c.loop-run.run-index run c.loop-run.out.items _ c.loop-run-test.true c.loop-run.invariant
    (c.in_ok-extend_from_slice.ensures.items ∙ ap (λ t. t ++ c.to_le_bytes.result) c.in_ok-push_text.ensures ∙ ap (λ t. (c.loop-run.out.items ++ text_bytes run.0) ++ t) c.to_le_bytes.ensures ∙ append_assoc c.loop-run.out.items (text_bytes run.0) (word run.1) ∙ ap (λ (r : List ℕ × ℕ). c.loop-run.out.items ++ run_bytes text_bytes text_cmp r) c.run-item.is)
