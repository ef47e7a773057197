use Rattle.std.proofs.Common.{◌∙◌, ◌+◌, ap, arith, length}
use Rattle.std.specs.List.{flat_map}
use Rattle.tt_partition.specs.Table.{Table}
use Rattle.tt_scan.specs.Held.{rows_taken}
use Rattle.tt_scan.proofs.Counts.{count_more}
use Rattle.tt_scan.proofs.Scans.{so_far, taken_whole}
use Rattle.tt_scan.proofs.counting.count.Goals as goal

pub loop-part-preserved : goal.loop-part-preserved
loop-part-preserved c =
    c.in_ok-count.ensures
    ∙ ap (λ n. n + c.in_ok-more.more) c.loop-part.invariant
    ∙ ap (λ n. length (rows_taken c.args.seen.now.schema c.args.filter.now (so_far c.items-part-items.result.now c.loop-part.part-index)) + n) (c.in_ok-more.ensures ∙ ap (λ (part : Table). length (rows_taken c.args.seen.now.schema c.args.filter.now part.rows)) c.partition.ensures)
    ∙ count_more c.args.seen.now.schema c.args.filter.now c.items-part-items.result.now c.loop-part.part-index c.part-item.result (omega arith) c.part-item.is

pub returns : goal.returns
returns c =
    c.loop-part.invariant
    ∙ ap length (taken_whole c.args.seen.now.schema c.args.filter.now c.items-part-items.result.now c.loop-part.part-index c.loop-part-test.false
    ∙ ap (λ parts. rows_taken c.args.seen.now.schema c.args.filter.now (flat_map (λ (part : _ × Table). part.1.rows) parts)) c.items-part-items.ensures)
