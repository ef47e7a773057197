use Rattle.std.proofs.Common.{refl}
use Rattle.std.specs.Int.{w64}
use Rattle.std.specs.Int.RustNames.{FitsSigned}
use Rattle.std.proofs.lemmas.Int.{to_z-of_z}
use Rattle.std.proofs.Common.{rules}
use Rattle.tt_value.proofs.columns.Lookups.{look_more, look_none}
use Rattle.tt_intcol.proofs.reading.values_at_indexes.Goals as goal

pub returns-in-None : goal.returns-in-None
returns-in-None c =
    let h = c.in-None.ensures.lookup in
    look_none c.args.entries.now c.args.indexes.now c.loop-index.values.items c.loop-index.index-index _ _ c.loop-index-test.true refl h.3 c.loop-index.invariant

pub loop-index-preserved : goal.loop-index-preserved
loop-index-preserved c =
    let h = c.in-Some.ensures.lookup in
    let fits : FitsSigned w64 c.in-Some.value.now = search rules in
    let same = to_z-of_z w64 c.in-Some.value.now fits in
    rw (c.in_ok-push-in-Some.ensures.items, same) (look_more c.args.entries.now c.args.indexes.now c.loop-index.values.items c.loop-index.index-index _ c.in-Some.value.now _ c.loop-index-test.true refl h.3.0 h.1 c.loop-index.invariant)
