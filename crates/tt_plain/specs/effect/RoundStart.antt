-- The start of a round: it takes parts of a table that may be reclustered.
use Rattle.std.specs.List.{list_all}
use Rattle.std.specs.Prelude.{Bool, List, Option, Some, [], is_none, length, nat_le, ℕ, ◌&&◌, ◌+◌, ◌==◌, ◌∷◌}
use Rattle.tt_layout.specs.Numbers.{has}
use Rattle.tt_plain.specs.declared.store.Plain.{Plain}
use Rattle.tt_plain.specs.declared.tally.Tally.{Tally}
use Rattle.tt_script.specs.Lines.{only_if}
use Rattle.tt_plain.specs.Answers.{◌>>=◌}
use Rattle.tt_plain.specs.effect.Effect.{Effect}
use Rattle.tt_plain.specs.effect.Round.{may_be_reclustered, worker_effect}
use Rattle.tt_plain.specs.stored.Tables.{table_numbered}
use Rattle.tt_plain.specs.tally.Changes.{StartsRound}
use Rattle.tt_plain.specs.tally.Layouts.{current_parts, is_ascending}

-- 2 to 16 parts of the current layout of a table, whose number counts from 1
abbrev pub may_take : Tally → ℕ → List ℕ → Bool
may_take tally table parts =
    nat_le 1 table && is_ascending parts && nat_le 2 (length parts) && nat_le (length parts) 16 && list_all (has (current_parts tally table)) parts

-- one round is open at a time; rounds count from 1
unfoldable pub round_start_effect : Plain → ℕ → ℕ → List ℕ → Option Effect
round_start_effect store index number parts = do
  next ← only_if (is_none store.tally.round && index == store.tally.rounds + 1) index
  table ← table_numbered store number
  free ← only_if (may_be_reclustered store table && may_take store.tally number parts) table
  key ← free.key
  Some (worker_effect store (StartsRound (record { table = number; key = key; parts = parts }) ∷ []))
