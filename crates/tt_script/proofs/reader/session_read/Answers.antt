use Rattle.std.proofs.Common.{◌≡◌, List, ℕ, drop, take, ap, ◌∙◌}
use Rattle.tt_script.specs.Body.{statements_in}
use Rattle.tt_script.proofs.Words.{printable_name, short_name}
use Rattle.tt_script.proofs.Programs.{late_session, full_session}
use Rattle.tt_script.proofs.reader.session_read.Goals as goal

pub from_ascii-requires-clause-plain : goal.from_ascii-requires-clause-plain
from_ascii-requires-clause-plain c = printable_name c.args.name.now c.requires.named

pub from_ascii-requires-clause-short : goal.from_ascii-requires-clause-short
from_ascii-requires-clause-short c = short_name c.args.name.now c.requires.named

pub returns-in-Some : goal.returns-in-Some
returns-in-Some c =
    let body : c.split_at.result.1.now ≡ drop c.args.start c.args.text.now = c.split_at.ensures.back in
    let spans = c.in_ok-spans.ensures ∙ ap (λ (b : List ℕ). take 100001 (statements_in c.args.start b)) body in
    let found = c.in-Some.ensures.lookup in
    late_session c.args.text.now _ _ _ _ c.in-Some.field-0.now c.line_place-place.result spans c.deref.ensures.value found.3.0 found.1 c.line_place-place.ensures

pub returns : goal.returns
returns c =
    let body : c.split_at.result.1.now ≡ drop c.args.start c.args.text.now = c.split_at.ensures.back in
    let spans = c.in_ok-spans.ensures ∙ ap (λ (b : List ℕ). take 100001 (statements_in c.args.start b)) body in
    let all = full_session c.args.text.now _ _ _ _ spans c.deref.ensures.value c.in_default.ensures.lookup.3 in
    rw (c.from_vec.ensures, all.1, c.in_ok-from_ascii.ensures) all.0
