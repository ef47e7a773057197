use Rattle.std.proofs.Common.{◌≡◌, map, take}
use Rattle.tt_sql.specs.meaning.Queries.{each_once, grouped}
use Rattle.tt_agg.specs.Groups.{key_at, rows_of, HasPlacesOf}
use Rattle.tt_agg.proofs.groups.groups_by.Given as goal

abbrev pub invariant-loop-row : goal.invariant-loop-row
invariant-loop-row l = record {
  found : HasPlacesOf (each_once (map (key_at l.places) (take l.row-index l.rows))) l.found;
  groups : rows_of l.groups.items ≡ grouped (key_at l.places) (take l.row-index l.rows);
}
