-- EXPLAIN: how many parts a query sees, and how many of them it looks at, as the entry tells.
use Rattle.std.specs.Prelude.{List, None, Option, [], filter_map, length, nat_le, sum_by, ℕ, ◌&&◌, ◌==◌, ◌∷◌}
use Rattle.tt_value.specs.declared.value.Row.{Row}
use Rattle.tt_sql.specs.declared.query.Query.{Query}
use Rattle.tt_script.specs.Lines.{only_if}
use Rattle.tt_plain.specs.asked.Asked.{Asked}
use Rattle.tt_plain.specs.opening.Point.{query_sources}
use Rattle.tt_plain.specs.report.Values.{numbers_row}
use Rattle.tt_plain.specs.tally.Layouts.{source_parts}

-- how many parts the query sees
abbrev pub parts_of_query : Asked → Query → ℕ
parts_of_query asked q = sum_by (λ seen. length seen.1) (filter_map (source_parts asked) (query_sources q))

-- all parts that the query sees, and of them those that it looks at
abbrev pub explain_rows : Asked → Query → List ℕ → Option (List Row)
explain_rows asked q (total ∷ assigned ∷ []) =
    only_if (total == parts_of_query asked q && nat_le assigned total) (numbers_row (total ∷ assigned ∷ []) ∷ [])
explain_rows asked q _ = None
