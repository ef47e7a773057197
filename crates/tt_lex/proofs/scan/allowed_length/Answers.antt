use Rattle.std.proofs.Common.{length, sym, ◌∙◌, arith}
use Rattle.std.proofs.lemmas.List.Sums.{prefix_len_is}
use Rattle.tt_lex.specs.Lexis.{is_text_byte}
use Rattle.tt_lex.proofs.scan.allowed_length.Goals as goal

pub returns-then-not-is_text_byte : goal.returns-then-not-is_text_byte
returns-then-not-is_text_byte c = sym (prefix_len_is is_text_byte c.args.bytes.now c.loop-i.i 0 (omega arith) c.loop-i.invariant (λ _. sym c.is_text_byte.ensures ∙ c.if-not-is_text_byte.true))

pub returns : goal.returns
returns c = sym (prefix_len_is is_text_byte c.args.bytes.now (length c.args.bytes.now) 0 (omega arith) (λ k h. c.loop-i.invariant k (omega arith)) (λ h. absurd (omega arith)))
