use Rattle.std.proofs.Common.{◌≡◌, ℕ, suc, Bool, take}
use Rattle.std.specs.List.{list_any}
use Rattle.tt_layout.specs.declared.hold.Hold.{Hold}
use Rattle.tt_layout.specs.Spans.{spans_of}
use Rattle.tt_sweep.specs.Claims.{claimed, span_hold, end_at}
use Rattle.tt_sweep.proofs.Claiming.{in_span}
use Rattle.tt_sweep.proofs.claims.claims_of.Given as goal

-- the spans before this place are claimed, and how the last of them is held is known
abbrev pub invariant-loop-place : goal.invariant-loop-place
invariant-loop-place l = record {
  claims : (test : Hold → Bool) (part : ℕ) → claimed test l.claims.items part
      ≡ list_any (in_span test l.at l.table.regimes part) (take l.place (spans_of l.table.layouts l.table.dropped));
  before : (k : ℕ) → l.place ≡ suc k → l.before ≡ span_hold l.at l.table.regimes (end_at l.table.layouts l.table.dropped k);
}
