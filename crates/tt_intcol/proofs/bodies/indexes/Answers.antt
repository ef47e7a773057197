use Rattle.std.proofs.Common.{◌≡◌, ℤ, pos, ◌++◌, ◌∷◌, [], get_or, true, ap, sym, ◌∙◌}
use Rattle.std.specs.Ordering.{int_cmp}
use Rattle.std.proofs.lemmas.Cmp.{int_cmp_total}
use Rattle.std.proofs.lemmas.Map.Lookups.{exact_signed}
use Rattle.std.proofs.lemmas.List.{map_more}
use Rattle.tt_value.specs.columns.Body.{index_in}
use Rattle.tt_value.proofs.columns.Distinct.{Ascends, has, distinct_ascends}
use Rattle.tt_value.proofs.columns.Indexes.{found_index, not_missing, member_of_distinct}
use Rattle.tt_intcol.proofs.bodies.indexes.Goals as goal

pub unreachable-requires : goal.unreachable-requires
unreachable-requires c =
    let v : ℤ = get_or c.args.values.now c.loop-value.value-index (pos 0) in
    let up : Ascends int_cmp int_cmp_total exact_signed c.args.entries.now = rw c.requires (distinct_ascends int_cmp int_cmp_total exact_signed c.args.values.now) in
    let member : has int_cmp int_cmp_total exact_signed v c.args.entries.now ≡ true = rw c.requires (member_of_distinct int_cmp int_cmp_total exact_signed c.args.values.now c.loop-value.value-index (pos 0) c.loop-value-test.true) in
    not_missing int_cmp int_cmp_total exact_signed c.args.entries.now v c.in-Err.field-0 up member c.in-Err.ensures.position

pub loop-value-preserved : goal.loop-value-preserved
loop-value-preserved c =
    let v : ℤ = get_or c.args.values.now c.loop-value.value-index (pos 0) in
    let up : Ascends int_cmp int_cmp_total exact_signed c.args.entries.now = rw c.requires (distinct_ascends int_cmp int_cmp_total exact_signed c.args.values.now) in
    let at : index_in int_cmp c.args.entries.now v ≡ c.in-Ok.index = found_index int_cmp int_cmp_total exact_signed c.args.entries.now v c.in-Ok.index (pos 0) up c.in-Ok.ensures.bound (c.in-Ok.ensures.ok (pos 0)) in
    c.in_ok-push-in-Ok.ensures.items ∙ ap (λ n. c.loop-value.indexes.items ++ n ∷ []) (sym at) ∙ ap (λ t. t ++ index_in int_cmp c.args.entries.now v ∷ []) c.loop-value.invariant
    ∙ sym (map_more (index_in int_cmp c.args.entries.now) c.args.values.now c.loop-value.value-index (pos 0) c.loop-value-test.true)
