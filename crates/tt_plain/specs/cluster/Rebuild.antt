-- What a round makes of the rows of its parts.
use Rattle.std.specs.declared.cmp.Ordering.{Ordering}
use Rattle.std.specs.Ordering.{on, then_cmp}
use Rattle.std.specs.Prelude.{List, Some, ℕ}
use Rattle.tt_value.specs.declared.value.Row.{Row}
use Rattle.tt_value.specs.values.Order.{row_cmp, value_cmp}
use Rattle.tt_sql.specs.meaning.Queries.{sorted_by, value_at}

abbrev pub by_key : ℕ → Row → Row → Ordering
by_key key = then_cmp (on (value_at (Some key)) value_cmp) row_cmp

-- by key, and what ties by whole rows
unfoldable pub rebuilt_rows : ℕ → List Row → List Row
rebuilt_rows key rows = sorted_by (by_key key) rows
