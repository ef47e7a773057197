use Rattle.std.proofs.Common.{◌≡◌, map, filter, take}
use Rattle.tt_plain.specs.report.Metrics.{is_measured}
use Rattle.tt_owner.specs.Rows.{metric_of}
use Rattle.tt_owner.proofs.rows.metrics.Given as goal

abbrev pub invariant-loop-table : goal.invariant-loop-table
invariant-loop-table l = l.rows.items ≡ map (metric_of l.facts) (filter (is_measured l.facts) (take l.table-index l.facts.tables))
