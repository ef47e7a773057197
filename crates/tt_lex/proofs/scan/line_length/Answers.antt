use Rattle.std.proofs.Common.{length, sym, arith, refl}
use Rattle.std.proofs.lemmas.List.Sums.{prefix_len_is}
use Rattle.tt_lex.specs.Lexis.{is_line_byte}
use Rattle.tt_lex.proofs.scan.line_length.Goals as goal

pub returns-then-byte-eq10 : goal.returns-then-byte-eq10
returns-then-byte-eq10 c = sym (prefix_len_is is_line_byte c.args.bytes.now c.loop-i.i 0 (omega arith) c.loop-i.invariant (λ _. rw c.if-byte-eq10.true refl))

pub returns : goal.returns
returns c = sym (prefix_len_is is_line_byte c.args.bytes.now (length c.args.bytes.now) 0 (omega arith) (λ k h. c.loop-i.invariant k (omega arith)) (λ h. absurd (omega arith)))
