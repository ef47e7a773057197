use Rattle.std.proofs.Common.{◌≡◌, ◌+◌, ◌^◌, ◌<◌, ◌++◌, length}
use Rattle.std.specs.Option.{option_to_list}
use Rattle.tt_sql.specs.meaning.Scopes.{places_among, only_place}
use Rattle.tt_scope.specs.Places.{joined_tables, columns_of}
use Rattle.tt_scope.proofs.place.place_among.Given as goal

-- what was found, and the places among the tables that are left, are the places among all
abbrev pub invariant-loop-join : goal.invariant-loop-join
invariant-loop-join l = record {
  whole : only_place (option_to_list l.found ++ places_among l.before (joined_tables l.joins l.schemas) l.column) ≡ only_place (option_to_list l.fn.found ++ places_among l.fn.before (joined_tables l.fn.joins l.fn.schemas) l.column);
  fits : l.before + length (columns_of (joined_tables l.joins l.schemas)) < 2 ^ 64;
}

abbrev pub decreases-loop-join : goal.decreases-loop-join
decreases-loop-join l = length l.joins
