use Rattle.std.proofs.Common.{◌≡◌, ◌≤◌, ◌+◌, length, ap, arith}
use Rattle.std.proofs.lemmas.List.{length-drop}
use Rattle.tt_script.proofs.Cuts.{spans_go_on, spans_end, few_spans, first_spans, all_spans}
use Rattle.tt_script.proofs.cut.statements_in.Goals as goal

pub returns-in_default : goal.returns-in_default
returns-in_default c =
    let n = c.part_length-length.result in
    let whole : n ≡ length c.loop-rest.rest.now = omega (arith, c.part_length-length.ensures.within, c.in_default.ensures.none) in
    let few : length c.loop-rest.spans.items ≤ 100000 = omega (arith, c.loop-rest-test.true, c.len.ensures, c.loop-rest.spans.ok) in
    rw c.in_ok-push_span.ensures
    (all_spans _ _ 100001 (spans_end c.loop-rest.at c.loop-rest.rest.now n c.gap_length.result c.loop-rest.spans.items _ c.part_length-length.ensures.value c.gap_length.ensures whole c.loop-rest.invariant.spans)
    (few_spans c.loop-rest.at c.gap_length.result n c.loop-rest.spans.items 100000 few))

pub loop-rest-preserved : goal.loop-rest-preserved
loop-rest-preserved c =
    let n = c.part_length-length.result in
    let few : length c.loop-rest.spans.items ≤ 100000 = omega (arith, c.loop-rest-test.true, c.len.ensures, c.loop-rest.spans.ok) in
    let behind = c.in-Some.ensures.some in
    record {
      spans = rw (c.in_ok-push_span.ensures, behind.1) (spans_go_on c.loop-rest.at c.loop-rest.rest.now n c.gap_length.result c.loop-rest.spans.items _ c.part_length-length.ensures.value c.gap_length.ensures behind.0 c.loop-rest.invariant.spans);
      place = omega (arith, c.loop-rest.invariant.place, behind.0, ap length behind.1, length-drop (n + 1) c.loop-rest.rest.now);
      few = rw c.in_ok-push_span.ensures (few_spans c.loop-rest.at c.gap_length.result n c.loop-rest.spans.items 100000 few);
    }

pub returns : goal.returns
returns c =
    let many : length c.loop-rest.spans.items ≡ 100001 = omega (arith, c.loop-rest-test.false, c.len.ensures, c.loop-rest.spans.ok, c.loop-rest.invariant.few) in
    first_spans _ _ _ 100001 c.loop-rest.invariant.spans many
