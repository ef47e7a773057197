use Rattle.std.proofs.Common.{◌≡◌, Err, subst}
use Rattle.tt_partition.specs.declared.error.ImageError.{ImageError}
use Rattle.tt_partition.specs.Outcome.{Fails}
use Rattle.tt_partition.specs.Picking.{column_in}
use Rattle.tt_partition.proofs.PickingLaws.{kept_image, picked, is_picked}
use Rattle.tt_partition.proofs.partition.Partition.column.Goals as goal

pub returns-in-Ok : goal.returns-in-Ok
returns-in-Ok c =
    let is = kept_image c.self.inside.image.items c.as_slice-image.result.now c.args.self.now c.as_slice-image.ensures.value c.bytes_fit.ensures c.self.invariant.is_image c.self.view_is in
    picked c.as_slice-image.result.now c.args.self.now c.args.place c.in-Ok.column is c.requires c.in-Ok.ensures

pub unreachable-requires : goal.unreachable-requires
unreachable-requires c =
    let is = kept_image c.self.inside.image.items c.as_slice-image.result.now c.args.self.now c.as_slice-image.ensures.value c.bytes_fit.ensures c.self.invariant.is_image c.self.view_is in
    let told : column_in c.args.place c.as_slice-image.result.now ≡ Err c.in-Err-BadImage.field-0-0.place = subst (λ (e : ImageError). Fails e (column_in c.args.place c.as_slice-image.result.now)) c.in-Err-BadImage.field-0-is c.in-Err-BadImage.ensures in
    is_picked c.as_slice-image.result.now c.args.self.now c.args.place c.in-Err-BadImage.field-0-0.place is c.requires told
