use Rattle.std.proofs.Common.{◌≡◌, ℕ, List, length, ap, ◌+◌, ◌-◌, ◌*◌, ◌∙◌, arith}
use Rattle.std.specs.List.{flat_map}
use Rattle.std.proofs.lemmas.Bool.{le-ltb, lt-ltb}
use Rattle.tt_value.specs.columns.Packing.{bytes_for, width_of}
use Rattle.tt_value.specs.columns.Body.{distinct}
use Rattle.tt_value.proofs.columns.Counting.{dictionary_grows}
use Rattle.tt_value.proofs.columns.Indexes.{distinct_le}
use Rattle.tt_textcol.specs.declared.encoding.Encoding.TheVariants.{Dictionary}
use Rattle.tt_textcol.specs.TextBody.{text_bytes, text_cmp, body}
use Rattle.tt_textcol.proofs.TextLaws.{text_total, text_ties}
use Rattle.tt_textcol.proofs.Lengths.{length-dictionary, dictionary_long}
use Rattle.tt_textcol.proofs.choice.dictionary.Goals as goal

pub returns-then-dictionary_length-bytes : goal.returns-then-dictionary_length-bytes
returns-then-dictionary_length-bytes c =
    let count = length (distinct text_cmp c.args.values.now) in
    let le = distinct_le text_cmp text_total text_ties c.args.values.now in
    let few = c.dictionary_length.ensures in
    let fewer = c.in_ok-few.ensures.bytes in
    let grows = dictionary_grows 0 (length c.args.values.now) c.in_ok-few.few.count count c.in_ok-few.ensures.count (omega arith) in
    let long = length-dictionary c.args.values.now in
    le-ltb (length (body c.args.values.now Dictionary)) c.args.bytes (omega arith)

-- the length of the sorted ones is that of the body
long_is : (vs entries sorted : List (List ℕ)) (bytes count long : ℕ) → bytes ≡ length (flat_map text_bytes sorted) → sorted ≡ entries → count ≡ length entries → entries ≡ distinct text_cmp vs → long ≡ 4 + bytes + bytes_for (length vs * width_of (count - 1)) → long ≡ length (body vs Dictionary)
long_is vs entries sorted bytes count long bytes_is sorted_is count_is entries_is is =
    dictionary_long vs bytes count long (bytes_is ∙ ap (λ (t : List (List ℕ)). length (flat_map text_bytes t)) (sorted_is ∙ entries_is)) (count_is ∙ ap length entries_is) is

pub returns-then-dictionary_length-bytes-2 : goal.returns-then-dictionary_length-bytes-2
returns-then-dictionary_length-bytes-2 c =
    let long = long_is c.args.values.now c.in_ok-distinct.distinct.items c.deref.result.now c.plain_length.result c.len.result c.dictionary_length-2.result c.plain_length.ensures.size c.deref.ensures.value (omega (arith, c.len.ensures)) c.in_ok-distinct.ensures c.dictionary_length-2.ensures in
    le-ltb (length (body c.args.values.now Dictionary)) c.args.bytes (omega (arith, long, c.if-dictionary_length-bytes-2.true))

pub returns : goal.returns
returns c =
    let long = long_is c.args.values.now c.in_ok-distinct.distinct.items c.deref.result.now c.plain_length.result c.len.result c.dictionary_length-2.result c.plain_length.ensures.size c.deref.ensures.value (omega (arith, c.len.ensures)) c.in_ok-distinct.ensures c.dictionary_length-2.ensures in
    (lt-ltb (length (body c.args.values.now Dictionary)) c.args.bytes (omega (arith, long, c.if-dictionary_length-bytes-2.false)), c.in_ok-distinct.ensures)
