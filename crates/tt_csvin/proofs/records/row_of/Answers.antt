use Rattle.std.proofs.Common.{◌<◌, ◌∙◌, ◌++◌, ◌∷◌, [], length, sym, ap, refl, arith}
use Rattle.std.proofs.lemmas.Option.{slice_get-get_or, slice_get_read}
use Rattle.csv.specs.Records.{fields_of}
use Rattle.tt_value.specs.declared.value.Value.{Value}
use Rattle.tt_csvin.proofs.Cells.{fault_here, field_at_is, one_more, refused_here}
use Rattle.tt_csvin.proofs.records.row_of.Goals as goal

pub unreachable-requires : goal.unreachable-requires
unreachable-requires c =
    let fields = fields_of c.args.fields.now in
    let less : c.loop-place.place < length fields = omega (arith, c.loop-place.invariant.as_many) in
    let there = slice_get-get_or fields c.loop-place.place [] less in
    let none = c.in_default.ensures.value ∙ field_at_is fields c.loop-place.place in
    cc (there, none)

pub returns-in-Err-clause-refused : goal.returns-in-Err-clause-refused
returns-in-Err-clause-refused c =
    let fields = fields_of c.args.fields.now in
    let at_column = slice_get_read c.args.columns.now (length c.args.columns.now) c.loop-place.place c.index-columns-place.result refl c.loop-place-test.true c.index-columns-place.is in
    let at_field = sym (c.in-Some.ensures.value ∙ field_at_is fields c.loop-place.place) in
    refused_here _ _ c.in-Err.error
    (λ f is. fault_here c.args.columns.now c.args.number fields c.loop-place.place c.loop-place.values.items c.index-columns-place.result c.in-Some.field.now f c.loop-place.invariant at_column at_field is)
    c.in-Err.ensures.refused

pub loop-place-preserved : goal.loop-place-preserved
loop-place-preserved c =
    let fields = fields_of c.args.fields.now in
    let at_column = slice_get_read c.args.columns.now (length c.args.columns.now) c.loop-place.place c.index-columns-place.result refl c.loop-place-test.true c.index-columns-place.is in
    let at_field = sym (c.in-Some.ensures.value ∙ field_at_is fields c.loop-place.place) in
    one_more c.args.columns.now c.args.number fields c.loop-place.place c.loop-place.values.items c.push.new.self.items c.index-columns-place.result c.in-Some.field.now c.loop-place.invariant at_column at_field c.in-Ok.ensures.sound
    (c.in_ok-push.ensures.items ∙ ap (λ (v : Value). c.loop-place.values.items ++ v ∷ []) c.in-Ok.ensures.value)
