use Rattle.std.proofs.Common.{◌≡◌, ◌<◌, length, get_or, refl, sym, subst, arith}
use Rattle.tt_value.specs.declared.value.Schema.{Schema}
use Rattle.tt_value.specs.trees.Predicates.{takes}
use Rattle.tt_value.specs.trees.Scope.{table_scope}
use Rattle.tt_partition.specs.Cuts.{kinds_of}
use Rattle.tt_partition.specs.Fits.{FitSchema}
use Rattle.tt_scan.proofs.Scans.{all_at}
use Rattle.tt_partition.specs.Table.{IsPart, Table}
use Rattle.tt_rewrite.specs.Renewed.{PartGoesOn}
use Rattle.tt_rewrite.specs.Sets.{becomes}
use Rattle.tt_rewrite.proofs.Renews.{renewed_next, renewed_nothing}
use Rattle.tt_rewrite.proofs.FitsAgain.{renewed_fit}
use Rattle.tt_rewrite.proofs.RowAt.{parts_out}
use Rattle.tt_rewrite.proofs.updating.renewed_of.Goals as goal

pub loop-part-init : goal.loop-part-init
loop-part-init c = (
  renewed_nothing (takes (table_scope c.args.seen.now.schema) c.args.filter.now) (becomes c.args.setting.now) c.args.seen.now.schema _ c.new.ensures c.new-2.ensures refl refl,
  subst (FitSchema c.args.seen.now.schema) (sym c.new-2.ensures) tt,
)

pub returns-then-not-branch-clause-renewed : goal.returns-then-not-branch-clause-renewed
returns-then-not-branch-clause-renewed c =
    let taken = takes (table_scope c.args.seen.now.schema) c.args.filter.now in
    let below = subst (λ parts. c.loop-part.part-index < length parts) c.items-part-items.ensures (omega arith) in
    let is = subst (λ parts. c.part-item.result ≡ get_or parts c.loop-part.part-index c.part-item.result) c.items-part-items.ensures c.part-item.is in
    let by_schema = subst (λ (s : Schema). PartGoesOn (takes (table_scope s) c.args.filter.now) (becomes c.args.setting.now) s (c.part-item.result.0, c.partition-partition.result.now) c.loop-part.renewed c.renew_part.new.renewed c.in_ok-renew_part.field-0) c.requires.schema c.in_ok-renew_part.ensures in
    let goes = subst (λ (part : Table). PartGoesOn taken (becomes c.args.setting.now) c.args.seen.now.schema (c.part-item.result.0, part) c.loop-part.renewed c.renew_part.new.renewed c.in_ok-renew_part.field-0) c.partition-partition.ensures by_schema in
    let out = subst (PartGoesOn taken (becomes c.args.setting.now) c.args.seen.now.schema c.part-item.result c.loop-part.renewed c.renew_part.new.renewed) c.if-not-branch.true goes in
    parts_out taken (becomes c.args.setting.now) c.args.seen.now.parts c.loop-part.part-index c.part-item.result below is out

pub loop-part-preserved : goal.loop-part-preserved
loop-part-preserved c =
    let taken = takes (table_scope c.args.seen.now.schema) c.args.filter.now in
    let below = subst (λ parts. c.loop-part.part-index < length parts) c.items-part-items.ensures (omega arith) in
    let is = subst (λ parts. c.part-item.result ≡ get_or parts c.loop-part.part-index c.part-item.result) c.items-part-items.ensures c.part-item.is in
    let by_schema = subst (λ (s : Schema). PartGoesOn (takes (table_scope s) c.args.filter.now) (becomes c.args.setting.now) s (c.part-item.result.0, c.partition-partition.result.now) c.loop-part.renewed c.renew_part.new.renewed c.in_ok-renew_part.field-0) c.requires.schema c.in_ok-renew_part.ensures in
    let goes = subst (λ (part : Table). PartGoesOn taken (becomes c.args.setting.now) c.args.seen.now.schema (c.part-item.result.0, part) c.loop-part.renewed c.renew_part.new.renewed c.in_ok-renew_part.field-0) c.partition-partition.ensures by_schema in
    let adds = subst (PartGoesOn taken (becomes c.args.setting.now) c.args.seen.now.schema c.part-item.result c.loop-part.renewed c.renew_part.new.renewed) c.if-not-branch.false goes in
    let part_is = subst IsPart c.partition-partition.ensures c.holds_rows.ensures in (
      renewed_next taken (becomes c.args.setting.now) c.args.seen.now.schema c.args.seen.now.parts c.loop-part.part-index c.part-item.result c.loop-part.renewed c.renew_part.new.renewed below is c.loop-part.invariant.0 adds,
      renewed_fit c.args.seen.now.schema (becomes c.args.setting.now) c.requires.keeps taken c.part-item.result.0 c.part-item.result.1 c.loop-part.renewed.left.rows c.renew_part.new.renewed.left.rows
          (all_at (λ (part : _ × Table). part.1.kinds ≡ kinds_of c.args.seen.now.schema) c.args.seen.now.parts c.loop-part.part-index c.part-item.result c.requires.parts below is) part_is c.loop-part.invariant.1 adds.left.rows,
    )
