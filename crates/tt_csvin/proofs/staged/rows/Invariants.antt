use Rattle.std.proofs.Common.{◌≡◌, ◌<◌, ℕ, List, Some, None, map}
use Rattle.csv.specs.Reading.{Reached, Ready, default_config, source_of, strip_bom}
use Rattle.csv.specs.declared.parser.State.TheVariants as st
use Rattle.csv.specs.declared.reader.Trim.TheVariants as trim
use Rattle.tt_plain.specs.meaning.StagedRows.{first_fault, row_of_record}
use Rattle.tt_csvin.proofs.staged.rows.Given as goal

abbrev pub invariant-loop-record : goal.invariant-loop-record
invariant-loop-record l = (l.record-iterator.rdr.trim ≡ trim.None) × Ready l.record-iterator.rdr × (0 < l.record-iterator.left) × (l.record-iterator.rdr.config ≡ default_config)
    × (y : List ℕ) × (source_of (λ s. Some s.now) l.record-iterator.rdr ≡ Some y)
    × (done : List (List (List ℕ))) × Reached default_config st.StartRecord (strip_bom l.fn.file) done l.record-iterator.rdr.state y
    × (l.rows.items ≡ map (row_of_record l.schema.columns) done) × (first_fault l.schema.columns 1 done ≡ None)
