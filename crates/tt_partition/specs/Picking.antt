-- Reading one column of an image. Of the columns in front of it only the heads are read; those behind it are not looked at.
use Rattle.std.specs.Prelude.{ℕ, zero, suc, List, length, Result, Ok}
use Rattle.tt_value.specs.declared.value.Kind.{Kind}
use Rattle.tt_value.specs.declared.value.Value.{Value}
use Rattle.tt_value.specs.columns.Reading.{◌>>=◌}
use Rattle.tt_partition.specs.ImageReading.{magic_at, row_count_at, column_count_at, head_at, behind, column_at}

-- what stands behind a column
unfoldable pub past_column : ℕ → ℕ → List ℕ → Result (List ℕ) ℕ
past_column rows end bytes = do
  head ← head_at end bytes
  Ok (behind rows head.0 head.1)

-- what stands behind so many columns
unfoldable pub past_columns : ℕ → ℕ → ℕ → List ℕ → Result (List ℕ) ℕ
past_columns rows end zero bytes = Ok bytes
past_columns rows end (suc count) bytes = do
  rest ← past_column rows end bytes
  past_columns rows end count rest

-- the kind and the values of the column at a place of an image
unfoldable pub column_in : ℕ → List ℕ → Result (Kind × List Value) ℕ
column_in place bytes = do
  head ← magic_at (length bytes) bytes
  rows ← row_count_at (length bytes) head
  count ← column_count_at (length bytes) rows.1
  rest ← past_columns rows.0 (length bytes) place count.1
  read ← column_at rows.0 (length bytes) rest
  Ok read.0
