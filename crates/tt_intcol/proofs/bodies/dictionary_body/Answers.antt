use Rattle.std.proofs.Common.{pos, length, ap, ◌∙◌, sym, ◌-◌, map, arith}
use Rattle.tt_value.specs.columns.Body.{index_in}
use Rattle.std.specs.Ordering.{int_cmp}
use Rattle.std.proofs.lemmas.Cmp.{int_cmp_total}
use Rattle.std.proofs.lemmas.Map.Lookups.{exact_signed}
use Rattle.tt_value.specs.columns.Packing.{width_of}
use Rattle.tt_value.proofs.columns.Indexes.{distinct_le, indexes_fit}
use Rattle.tt_intcol.proofs.bodies.dictionary_body.Goals as goal

pub overflow_cast-len : goal.overflow_cast-len
overflow_cast-len c =
    let le = distinct_le int_cmp int_cmp_total exact_signed c.args.values.now in
    let e = ap length c.in_ok-entries.ensures in
    omega (arith, le, e)

pub pack-requires-clause-fit : goal.pack-requires-clause-fit
pack-requires-clause-fit c = indexes_fit int_cmp int_cmp_total exact_signed c.args.values.now c.in_ok-entries.entries.items c.deref-3.result.now c.width_of-width.result (pos 0) c.in_ok-entries.ensures (c.deref-3.ensures.value ∙ c.in_ok-indexes.ensures ∙ ap (λ t. map (index_in int_cmp t) c.args.values.now) c.deref.ensures.value) (c.width_of-width.ensures.value ∙ ap width_of (c.saturating_sub.ensures ∙ ap (λ n. n - 1) (c.len.ensures ∙ sym c.deref-2.ensures.len ∙ ap length c.deref-2.ensures.value))) c.requires
