use Rattle.std.proofs.Common.{◌≡◌, ◌<◌, ℕ, false}
use Rattle.tt_sql.specs.meaning.Changes.{is_missing_at}
use Rattle.tt_rewrite.proofs.renewing.first_missing.Given as goal

-- nothing is missing in the columns so far
abbrev pub invariant-loop-place : goal.invariant-loop-place
invariant-loop-place l = (k : ℕ) → k < l.place → is_missing_at l.schema k l.row ≡ false
