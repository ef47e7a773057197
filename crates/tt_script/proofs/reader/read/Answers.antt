use Rattle.std.proofs.Common.{◌≡◌, ◌≤◌, ℕ, false, List, length, None, sym, ap, subst, ◌∙◌, arith}
use Rattle.std.specs.Prelude.{unwrap_or}
use Rattle.std.proofs.lemmas.Bool.{false≢true}
use Rattle.tt_script.specs.Lines.{lines_of, first_faulty}
use Rattle.tt_script.specs.Script.{start_in}
use Rattle.tt_script.proofs.Texts.{utf8_text}
use Rattle.tt_script.proofs.Programs.{whole_read, program_made}
use Rattle.tt_script.proofs.reader.read.Goals as goal

pub unreachable-requires : goal.unreachable-requires
unreachable-requires c =
    let none : first_faulty false 0 (lines_of c.args.bytes.items) ≡ None = subst (λ (b : List ℕ). first_faulty false 0 (lines_of b) ≡ None) c.deref.ensures.value (sym c.in_default.ensures.place) in
    false≢true (c.in_default-from_utf8.ensures.succeeds (utf8_text c.args.bytes.items none))

pub new-requires-4 : goal.new-requires-4
new-requires-4 c =
    let bytes = c.args.bytes.items in
    let none : first_faulty false 0 (lines_of bytes) ≡ None = subst (λ (b : List ℕ). first_faulty false 0 (lines_of b) ≡ None) c.deref.ensures.value (sym c.in_default.ensures.place) in
    let all : length bytes ≤ c.unwrap_or.result = omega (arith, c.unwrap_or.ensures ∙ ap (λ o. unwrap_or o c.len.result) c.in_default.is, c.len.ensures, c.args.bytes.ok) in
    let start = c.start_in-start.ensures ∙ ap (λ (b : List ℕ). start_in (lines_of b)) c.deref-3.ensures.value in
    program_made bytes c.new.result c.start_in-start.result c.in_ok-sessions.sessions _ _ start (c.new.ensures ∙ ap (λ v. v.items) c.in-Ok.ensures.ok) c.new-2.ensures c.new-3.ensures (utf8_text bytes none)
    (whole_read bytes c.deref-2.result.now c.unwrap_or.result c.in_ok-sessions.sessions c.deref-2.ensures.value all c.in_ok-sessions.ensures)
