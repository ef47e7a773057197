use Rattle.std.proofs.Common.{sym, ◌∙◌, arith}
use Rattle.std.proofs.lemmas.Fmt.{decimal_injective}
use Rattle.tt_travel.proofs.Ids.{none_named, none_numbered, numbered}
use Rattle.tt_travel.proofs.statements.place_in.Goals as goal

pub returns-in_err-number : goal.returns-in_err-number
returns-in_err-number c = c.from_residual.ensures ∙ sym (none_named c.args.lines.now c.as_bytes.result.now c.args.id.now (c.as_bytes.ensures.value ∙ c.as_str.ensures.value) c.in_err-number.ensures.none)

pub returns-in_err-index : goal.returns-in_err-index
returns-in_err-index c = c.from_residual-in_err-index.ensures ∙ sym (none_numbered c.args.lines.now c.as_bytes.result.now c.args.id.now c.in_ok-number.number.now (c.as_bytes.ensures.value ∙ c.as_str.ensures.value) c.in_ok-number.ensures.parts (λ n low high. c.in_err-index.ensures.none n low (omega arith)))

pub returns-then-index-count : goal.returns-then-index-count
returns-then-index-count c = sym (numbered c.args.lines.now c.as_bytes.result.now c.args.id.now c.in_ok-number.number.now c.in_ok-index.index (c.as_bytes.ensures.value ∙ c.as_str.ensures.value) c.in_ok-number.ensures.parts c.in_ok-index.ensures.written c.in_ok-index.ensures.some (omega arith) (omega arith))

pub returns-else-index-count : goal.returns-else-index-count
returns-else-index-count c = sym (none_numbered c.args.lines.now c.as_bytes.result.now c.args.id.now c.in_ok-number.number.now (c.as_bytes.ensures.value ∙ c.as_str.ensures.value) c.in_ok-number.ensures.parts (λ n low high same. omega (arith, decimal_injective n c.in_ok-index.index (omega arith) c.in_ok-index.ensures.fits (same ∙ sym c.in_ok-index.ensures.written))))
