use Rattle.std.proofs.Common.{◌≡◌, None, replicate}
use Rattle.tt_filter.proofs.decoding.none_decoded.Given as goal

abbrev pub invariant-loop-place : goal.invariant-loop-place
invariant-loop-place l = l.columns.items ≡ replicate l._place None
