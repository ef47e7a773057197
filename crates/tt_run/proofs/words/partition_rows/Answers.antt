use Rattle.std.proofs.Common.{ℕ, Option, map, sym, subst, ◌≤◌}
use Rattle.std.specs.Prelude.{IfSome, string_bytes}
use Rattle.tt_run.proofs.Digits.{asked_within}
use Rattle.tt_run.proofs.words.partition_rows.Goals as goal

pub returns-in-Some-clause-within : goal.returns-in-Some-clause-within
returns-in-Some-clause-within c = subst (λ (o : Option ℕ). IfSome o (λ rows. (1 ≤ rows) × (rows ≤ 65536))) (sym c.rows_asked.ensures) (asked_within (map string_bytes c.in-Some.words.now))
