use Rattle.std.proofs.Common.{◌≡◌, ℕ, ◌-◌, List, ◌++◌, length, drop}
use Rattle.tt_lex.specs.Lexis.{doubled}
use Rattle.tt_lex.proofs.scan.inside_of.Given as goal

-- what stands in front is a text with its quotes doubled
abbrev pub invariant-loop-written : goal.invariant-loop-written
invariant-loop-written l = (text : List ℕ) × (l.rest ≡ doubled text ++ drop l.written l.rest) × (l.written ≡ length (doubled text)) × (l.meant ≡ length text)

abbrev pub decreases-loop-written : goal.decreases-loop-written
decreases-loop-written l = length l.rest - l.written
