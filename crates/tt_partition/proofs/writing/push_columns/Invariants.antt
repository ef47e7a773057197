use Rattle.std.proofs.Common.{◌≡◌, ◌++◌, take}
use Rattle.tt_partition.specs.Table.{columns_of}
use Rattle.tt_partition.specs.Image.{columns_bytes}
use Rattle.tt_partition.specs.Cuts.{kinds_of}
use Rattle.tt_partition.proofs.writing.push_columns.Given as goal

abbrev pub invariant-loop-place : goal.invariant-loop-place
invariant-loop-place l = l.out.items ≡ l.fn.out.items ++ columns_bytes (take l.place (columns_of (record { kinds = kinds_of l.schema; rows = l.rows })))
