-- The rows of the metrics view, with whole totals.
use Rattle.std.specs.Prelude.{Bool, IsTrue, List, [], if◌then◌else◌, length, map, nat_lt, sum_by, ℕ, ◌+◌, ◌==◌, ◌∷◌}
use Rattle.std.specs.List.{list_all}
use Rattle.tt_value.specs.declared.value.Row.{Row}
use Rattle.tt_value.specs.declared.value.Value.TheVariants as value
use Rattle.tt_layout.specs.declared.hold.Class.{Class}
use Rattle.tt_layout.specs.declared.hold.Class.TheVariants as class
use Rattle.tt_layout.specs.declared.facts.TableFacts.{TableFacts}
use Rattle.tt_layout.specs.declared.facts.PartFacts.{PartFacts}
use Rattle.tt_layout.specs.declared.facts.Facts.{Facts}
use Rattle.tt_layout.specs.Numbers.{IsAscending, has}
use Rattle.tt_plain.specs.report.Values.{number_value, row_of}
use Rattle.tt_plain.specs.report.Metrics.{class_number, bytes_owned, is_measured}
use Rattle.tt_owner.specs.declared.owned.Owned.{Owned}
use Rattle.tt_owner.specs.declared.row.MetricRow.{MetricRow}

-- the row of a table
abbrev pub metric_of : Facts → TableFacts → MetricRow
metric_of facts table = record {
  table = table.number;
  name = table.name;
  group = table.group;
  active = bytes_owned facts table.number class.Active;
  time_travel = bytes_owned facts table.number class.TimeTravel;
  failsafe = bytes_owned facts table.number class.FailSafe;
  retained = bytes_owned facts table.number class.RetainedForClone;
  pending = bytes_owned facts table.number class.Pending;
}

-- a row as a reply has it, where no number is above the greatest INT
abbrev pub reply_row : MetricRow → Row
reply_row row = row_of (
    number_value row.table ∷ value.Text row.name ∷ number_value row.group
    ∷ number_value row.active ∷ number_value row.time_travel ∷ number_value row.failsafe
    ∷ number_value row.retained ∷ number_value row.pending ∷ [])

abbrev pub row_if : Facts → TableFacts → List MetricRow
row_if facts table = if is_measured facts table then metric_of facts table ∷ [] else []

-- ---- from the parts that a table owns

abbrev pub has_some : List Owned → Bool
has_some run = nat_lt 0 (length run)

-- what a part counts in a class
abbrev pub counted : Class → Owned → ℕ
counted class part = if class_number part.class == class_number class then part.bytes else 0

abbrev pub row_of_run : TableFacts → List Owned → MetricRow
row_of_run table run = record {
  table = table.number;
  name = table.name;
  group = table.group;
  active = sum_by (counted class.Active) run;
  time_travel = sum_by (counted class.TimeTravel) run;
  failsafe = sum_by (counted class.FailSafe) run;
  retained = sum_by (counted class.RetainedForClone) run;
  pending = sum_by (counted class.Pending) run;
}

-- ---- all rows together

abbrev pub table_numbers : Facts → List ℕ
table_numbers facts = map (λ (table : TableFacts). table.number) facts.tables

-- the tables stand by number, and each stored part was added by one of them
pub record AreByNumber (facts : Facts) : Type 0 where
  pub tables : IsAscending (table_numbers facts)
  pub origins : IsTrue (list_all (λ part. has (table_numbers facts) part.origin) facts.parts)

-- the five totals of a row
abbrev pub total_of : MetricRow → ℕ
total_of row = row.active + row.time_travel + row.failsafe + row.retained + row.pending

abbrev pub stored_bytes : Facts → ℕ
stored_bytes facts = sum_by (λ (part : PartFacts). part.bytes) facts.parts
