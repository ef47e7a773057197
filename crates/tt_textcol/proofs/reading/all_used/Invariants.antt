use Rattle.std.proofs.Common.{◌≡◌, ℕ, ◌<◌, take, length, get_or, false}
use Rattle.std.specs.Prelude.{◌==◌}
use Rattle.std.specs.List.{list_any}
use Rattle.tt_textcol.proofs.reading.all_used.Given as goal

-- each flag says whether its number has come
abbrev pub invariant-loop-index : goal.invariant-loop-index
invariant-loop-index l = record {
  len : length l.used.items ≡ l.count;
  flags : (k : ℕ) → k < l.count → get_or l.used.items k false ≡ list_any (λ index. index == k) (take l.index-index l.indexes);
}
