use Rattle.std.proofs.Common.{◌≡◌, ℕ, List, ◌++◌, ◌∷◌, [], get_or, true, ap, sym, ◌∙◌}
use Rattle.std.proofs.lemmas.List.{map_more}
use Rattle.tt_value.specs.columns.Body.{index_in}
use Rattle.tt_value.proofs.columns.Distinct.{Ascends, has, distinct_ascends}
use Rattle.tt_value.proofs.columns.Indexes.{found_index, not_missing, member_of_distinct}
use Rattle.tt_textcol.specs.TextBody.{text_cmp}
use Rattle.tt_textcol.proofs.TextLaws.{text_total, text_ties}
use Rattle.tt_textcol.proofs.bodies.indexes.Goals as goal

pub unreachable-requires : goal.unreachable-requires
unreachable-requires c =
    let v : List ℕ = c.value-item.result in
    let up : Ascends text_cmp text_total text_ties c.args.entries.now = rw c.requires (distinct_ascends text_cmp text_total text_ties c.args.values.now) in
    let at : has text_cmp text_total text_ties (get_or c.args.values.now c.loop-value.value-index v) c.args.entries.now ≡ true = rw c.requires (member_of_distinct text_cmp text_total text_ties c.args.values.now c.loop-value.value-index v c.loop-value-test.true) in
    let member : has text_cmp text_total text_ties v c.args.entries.now ≡ true = ap (λ u. has text_cmp text_total text_ties u c.args.entries.now) c.value-item.is ∙ at in
    not_missing text_cmp text_total text_ties c.args.entries.now v c.in-Err.field-0 up member c.in-Err.ensures.position

pub loop-value-preserved : goal.loop-value-preserved
loop-value-preserved c =
    let v : List ℕ = c.value-item.result in
    let up : Ascends text_cmp text_total text_ties c.args.entries.now = rw c.requires (distinct_ascends text_cmp text_total text_ties c.args.values.now) in
    let at : index_in text_cmp c.args.entries.now v ≡ c.in-Ok.index = found_index text_cmp text_total text_ties c.args.entries.now v c.in-Ok.index v up c.in-Ok.ensures.bound (c.in-Ok.ensures.ok v) in
    let put : index_in text_cmp c.args.entries.now v ≡ index_in text_cmp c.args.entries.now (get_or c.args.values.now c.loop-value.value-index v) = ap (index_in text_cmp c.args.entries.now) c.value-item.is in
    c.in_ok-push-in-Ok.ensures.items ∙ ap (λ n. c.loop-value.indexes.items ++ n ∷ []) (sym at ∙ put) ∙ ap (λ t. t ++ index_in text_cmp c.args.entries.now (get_or c.args.values.now c.loop-value.value-index v) ∷ []) c.loop-value.invariant
    ∙ sym (map_more (index_in text_cmp c.args.entries.now) c.args.values.now c.loop-value.value-index v c.loop-value-test.true)
