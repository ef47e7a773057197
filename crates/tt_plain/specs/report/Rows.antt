-- The rows of each report, where the entry's numbers may be what they are. SHOW and the metrics view have no numbers.
use Rattle.std.specs.Prelude.{List, Option, length, ℕ, ◌==◌}
use Rattle.tt_value.specs.declared.value.Row.{Row}
use Rattle.tt_script.specs.Lines.{only_if}
use Rattle.tt_plain.specs.asked.Asked.{Asked}
use Rattle.tt_plain.specs.asked.Request.{Explains, Gauges, Measures, Shows, Telling}
use Rattle.tt_plain.specs.report.Depth.{depth_rows}
use Rattle.tt_plain.specs.report.Explain.{explain_rows}
use Rattle.tt_plain.specs.report.Metrics.{metric_rows}
use Rattle.tt_plain.specs.report.Show.{show_rows}
use Rattle.tt_plain.specs.tally.Facts.{facts_at}

unfoldable pub report_rows : Asked → List ℕ → Telling → Option (List Row)
report_rows asked numbers (Explains q) = explain_rows asked q numbers
report_rows asked numbers (Shows history) = only_if (length numbers == 0) (show_rows asked history)
report_rows asked numbers Measures = only_if (length numbers == 0) (metric_rows (facts_at asked.store asked.moment))
report_rows asked numbers (Gauges name) = depth_rows asked name numbers
