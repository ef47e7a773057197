use Rattle.csv.specs.Records.{fields_of}
use Rattle.tt_csvin.proofs.Cells.{IsReadUpTo}
use Rattle.tt_csvin.proofs.records.row_of.Given as goal

abbrev pub invariant-loop-place : goal.invariant-loop-place
invariant-loop-place l = IsReadUpTo l.columns l.number (fields_of l.fields) l.place l.values.items
