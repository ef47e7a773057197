use Rattle.std.proofs.Common.{◌≡◌, ◌+◌, ◌*◌, ◌^◌, drop, pos, ◌+ℤ◌, ◌≤ℤ◌}
use Rattle.std.specs.Prelude.{fold, neg_ℤ}
use Rattle.tt_sql.specs.meaning.Queries.{int_of}
use Rattle.tt_agg.specs.Lent.{lent}
use Rattle.tt_agg.proofs.values.total.Given as goal

-- so many numbers of 64 bits have a sum of 128 bits
abbrev pub invariant-loop-value : goal.invariant-loop-value
invariant-loop-value l = record {
  whole : fold (λ sum next. sum +ℤ int_of next) l.sum (lent (drop l.value-index l.others)) ≡ fold (λ sum next. sum +ℤ int_of next) (int_of l.fn.first) (lent l.fn.others);
  low : neg_ℤ (pos ((l.value-index + 1) * 2 ^ 63)) ≤ℤ l.sum;
  high : l.sum ≤ℤ pos ((l.value-index + 1) * 2 ^ 63);
}
