-- SYSTEM$CLUSTERING_DEPTH: the depth of the current layout, as the entry tells.
use Rattle.std.specs.Prelude.{Bool, List, None, Option, [], if◌then◌else◌, length, nat_le, ℕ, ◌&&◌, ◌==◌, ◌∷◌}
use Rattle.tt_value.specs.declared.name.TableName.{TableName}
use Rattle.tt_value.specs.declared.value.Row.{Row}
use Rattle.tt_script.specs.Lines.{only_if}
use Rattle.tt_plain.specs.Answers.{◌>>=◌}
use Rattle.tt_plain.specs.asked.Asked.{Asked, table_asked}
use Rattle.tt_plain.specs.report.Values.{numbers_row}
use Rattle.tt_plain.specs.tally.Layouts.{current_parts}

-- it is 0 exactly for no parts, and at most as many as there are
abbrev pub may_be_depth : ℕ → ℕ → Bool
may_be_depth depth parts = if parts == 0 then depth == 0 else nat_le 1 depth && nat_le depth parts

abbrev pub depth_rows : Asked → TableName → List ℕ → Option (List Row)
depth_rows asked name (depth ∷ []) = do
  table ← table_asked asked name
  only_if (may_be_depth depth (length (current_parts asked.store.tally table.number))) (numbers_row (depth ∷ []) ∷ [])
depth_rows asked name _ = None
