use Rattle.std.proofs.Common.{◌≡◌, []}
use Rattle.tt_layout.specs.Numbers.{IsAscending, changed}
use Rattle.tt_layout.specs.Chain.{layouts_from, numbers_at}
use Rattle.tt_layout.proofs.layouts.net_change.Given as goal

-- the changes so far lead from the full list to the layout at this place
abbrev pub invariant-loop-at : goal.invariant-loop-at
invariant-loop-at l = record {
  change : changed (numbers_at (layouts_from [] l.pieces) l.first) l.net.gone.items l.net.added.items ≡ numbers_at (layouts_from [] l.pieces) l.at;
  gone : IsAscending l.net.gone.items;
  added : IsAscending l.net.added.items;
}
