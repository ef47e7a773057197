use Rattle.std.proofs.Common.{[], length, ap, ◌∙◌, arith}
use Rattle.tt_value.specs.columns.Packing.{width_of}
use Rattle.tt_value.proofs.columns.Indexes.{distinct_le, indexes_fit}
use Rattle.tt_textcol.specs.TextBody.{text_cmp}
use Rattle.tt_textcol.proofs.TextLaws.{text_total, text_ties}
use Rattle.tt_textcol.proofs.bodies.dictionary_body.Goals as goal

pub overflow_cast-entries : goal.overflow_cast-entries
overflow_cast-entries c =
    let le = distinct_le text_cmp text_total text_ties c.args.values.now in
    let e = ap length c.requires.distinct in
    omega (arith, le, e)

pub pack-requires-clause-fit : goal.pack-requires-clause-fit
pack-requires-clause-fit c = indexes_fit text_cmp text_total text_ties c.args.values.now c.args.entries.now c.deref.result.now c.width_of-width.result [] c.requires.distinct (c.deref.ensures.value ∙ c.in_ok-indexes.ensures) (c.width_of-width.ensures.value ∙ ap width_of c.saturating_sub.ensures) c.requires.few
