use Rattle.std.proofs.Common.{◌≡◌, take}
use Rattle.tt_layout.specs.Numbers.{has}
use Rattle.tt_layout.specs.Spans.{spans_of}
use Rattle.tt_sweep.specs.Claims.{numbers_before}
use Rattle.tt_owner.proofs.Picked.{strongest_in}
use Rattle.tt_owner.proofs.holding.hold_on.Given as goal

-- whether the layout before this place has the part, and the strongest hold of the spans before it
abbrev pub invariant-loop-place : goal.invariant-loop-place
invariant-loop-place l = record {
  inside : l.inside ≡ has (numbers_before l.table.layouts l.place) l.number;
  strongest : l.strongest ≡ strongest_in l.at l.table l.number (take l.place (spans_of l.table.layouts l.table.dropped));
}
