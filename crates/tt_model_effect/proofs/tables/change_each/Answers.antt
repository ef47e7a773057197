use Rattle.std.proofs.Common.{ap, sym, ◌∙◌, set, get_or, arith, subst, ◌≡◌, List}
use Rattle.tt_plain.specs.declared.store.PlainTable.{PlainTable}
use Rattle.tt_model_effect.specs.Allowed.{Takes}
use Rattle.tt_model_effect.specs.EffectAs.{table_change_in}
use Rattle.tt_model_effect.specs.OneTable.{changed_one}
use Rattle.tt_model_effect.proofs.Steps.{mapped_next, mapped_get}
use Rattle.tt_model_effect.proofs.Takings.{takes_at}
use Rattle.tt_model_effect.proofs.tables.change_each.Goals as goal

pub change_one-requires : goal.change_one-requires
change_one-requires c =
    let change = table_change_in c.args.change.now in
    let old = c.args.tables.now.items in
    let place = c.loop-place.place in
    let table = c.index_mut.result.now in
    let same : table ≡ get_or old place table = c.index_mut.ensures.value ∙ ap (λ (xs : List PlainTable). get_or xs place table) c.loop-place.invariant ∙ mapped_get (changed_one change) old place table in
    subst (Takes change) (sym same) (takes_at change old place table (omega (arith, c.args.tables.now.ok.0)) c.requires)

pub loop-place-preserved : goal.loop-place-preserved
loop-place-preserved c =
    let change = table_change_in c.args.change.now in
    ap (set c.loop-place.tables.items c.loop-place.place) (c.in_ok-change_one.ensures ∙ ap (changed_one change) c.index_mut.ensures.value)
    ∙ mapped_next (changed_one change) c.args.tables.now.items c.loop-place.tables.items c.loop-place.place c.index_mut.result.now (omega (arith, c.args.tables.now.ok.0)) c.loop-place.invariant
