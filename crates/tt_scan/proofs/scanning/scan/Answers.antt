use Rattle.std.proofs.Common.{◌∙◌, ◌++◌, ap, sym, subst, arith}
use Rattle.std.specs.Prelude.{All}
use Rattle.std.specs.List.{flat_map}
use Rattle.std.proofs.lemmas.List.Elements.{All-nil}
use Rattle.tt_value.specs.values.RowText.{IsPrintable}
use Rattle.tt_partition.specs.Table.{Table}
use Rattle.tt_scan.specs.Held.{rows_taken}
use Rattle.tt_scan.proofs.Scans.{taken_more, taken_whole, printable_taken, more_printable, so_far}
use Rattle.tt_scan.proofs.scanning.scan.Goals as goal

pub loop-part-init : goal.loop-part-init
loop-part-init c = (c.new-rows.ensures.items, subst (All IsPrintable) (sym c.new-rows.ensures.items) (All-nil IsPrintable))

pub loop-part-preserved : goal.loop-part-preserved
loop-part-preserved c = (
  c.in_ok-append_taken.ensures
      ∙ ap (λ rows. rows ++ rows_taken c.args.seen.now.schema c.args.filter.now c.partition-partition.result.now.rows) c.loop-part.invariant.0
      ∙ ap (λ (part : Table). rows_taken c.args.seen.now.schema c.args.filter.now (so_far c.items-part-items.result.now c.loop-part.part-index) ++ rows_taken c.args.seen.now.schema c.args.filter.now part.rows) c.partition-partition.ensures
      ∙ taken_more c.args.seen.now.schema c.args.filter.now c.items-part-items.result.now c.loop-part.part-index c.part-item.result (omega arith) c.part-item.is,
  more_printable c.loop-part.rows.items c.append_taken.new.rows.items (rows_taken c.args.seen.now.schema c.args.filter.now c.partition-partition.result.now.rows) c.in_ok-append_taken.ensures c.loop-part.invariant.1 (printable_taken c.args.seen.now.schema c.args.filter.now c.partition-partition.result.now c.is_part.ensures),
)

pub returns-clause-rows : goal.returns-clause-rows
returns-clause-rows c =
    c.loop-part.invariant.0
    ∙ taken_whole c.args.seen.now.schema c.args.filter.now c.items-part-items.result.now c.loop-part.part-index c.loop-part-test.false
    ∙ ap (λ parts. rows_taken c.args.seen.now.schema c.args.filter.now (flat_map (λ (part : _ × Table). part.1.rows) parts)) c.items-part-items.ensures
