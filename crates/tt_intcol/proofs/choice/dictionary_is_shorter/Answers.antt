use Rattle.std.proofs.Common.{◌≡◌, ltb, length, sym, ap, ◌∙◌, arith}
use Rattle.std.specs.Ordering.{int_cmp}
use Rattle.std.proofs.lemmas.Bool.{le-ltb}
use Rattle.std.proofs.lemmas.Cmp.{int_cmp_total}
use Rattle.std.proofs.lemmas.Map.Lookups.{exact_signed}
use Rattle.tt_value.specs.columns.Body.{distinct}
use Rattle.tt_value.proofs.columns.Counting.{dictionary_grows}
use Rattle.tt_value.proofs.columns.Indexes.{distinct_le}
use Rattle.tt_intcol.specs.declared.encoding.Encoding.TheVariants.{Dictionary}
use Rattle.tt_intcol.specs.IntBody.{body, value_size}
use Rattle.tt_intcol.proofs.Lengths.{length-dictionary}
use Rattle.tt_intcol.proofs.choice.dictionary_is_shorter.Goals as goal

pub returns-then-dictionary_length-bytes : goal.returns-then-dictionary_length-bytes
returns-then-dictionary_length-bytes c =
    let size = c.value_size-size.ensures in
    let count = length (distinct int_cmp c.args.values.now) in
    let le = distinct_le int_cmp int_cmp_total exact_signed c.args.values.now in
    let few = rw size at c.dictionary_length.ensures in
    let grows = dictionary_grows (value_size c.args.kind) (length c.args.values.now) c.in_ok-few.few count c.in_ok-few.ensures (omega arith) in
    let long = length-dictionary c.args.kind c.args.values.now in
    sym (le-ltb (length (body c.args.kind c.args.values.now Dictionary)) c.args.bytes (omega arith))

pub returns : goal.returns
returns c =
    let size = c.value_size-size.ensures in
    let count = rw size at c.dictionary_length-2.ensures in
    let len = c.len-count.ensures in
    let found = ap length c.in_ok-distinct_values.ensures in
    let long = length-dictionary c.args.kind c.args.values.now in
    let all : c.len-count.result ≡ length (distinct int_cmp c.args.values.now) = omega (arith, len, found) in
    ap (λ n. ltb n c.args.bytes) (rw all at count ∙ sym long)
