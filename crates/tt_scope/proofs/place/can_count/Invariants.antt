use Rattle.std.proofs.Common.{◌≡◌, ◌+◌, ◌^◌, ◌<◌, length}
use Rattle.tt_scope.specs.Places.{joined_tables, columns_of}
use Rattle.tt_scope.proofs.place.can_count.Given as goal

-- what was counted and what is left are all
abbrev pub invariant-loop-later : goal.invariant-loop-later
invariant-loop-later l = record {
  whole : l.count + length (columns_of (joined_tables l.joins l.schemas)) ≡ l.fn.count + length (columns_of (joined_tables l.fn.joins l.fn.schemas));
  fits : l.count < 2 ^ 64;
}

abbrev pub decreases-loop-later : goal.decreases-loop-later
decreases-loop-later l = length l.joins
