use Rattle.std.proofs.Common.{ℕ, ◌+◌, List, sym, subst, take}
use Rattle.std.specs.List.{AllZip}
use Rattle.std.proofs.lemmas.List.{take_all}
use Rattle.tt_partition.specs.declared.column.ColumnValues.{ColumnValues}
use Rattle.tt_partition.specs.ColumnView.{IsColumnAt}
use Rattle.tt_partition.proofs.PickingLaws.{zip_more}
use Rattle.tt_partition.proofs.partition.Partition.columns.Goals as goal

pub loop-place-preserved : goal.loop-place-preserved
loop-place-preserved c =
    let more = zip_more (IsColumnAt c.args.self.now) c.args.places.now c.loop-place.columns.items c.loop-place.place-index 0 c.in_ok-column.column c.loop-place-test.true c.loop-place.invariant c.in_ok-column.ensures in
    subst (λ (cs : List ColumnValues). AllZip (IsColumnAt c.args.self.now) (take (c.loop-place.place-index + 1) c.args.places.now) cs) (sym c.in_ok-push.ensures.items) more

pub returns : goal.returns
returns c = subst (λ (ks : List ℕ). AllZip (IsColumnAt c.args.self.now) ks c.loop-place.columns.items) (take_all c.loop-place.place-index c.args.places.now c.loop-place-test.false) c.loop-place.invariant
