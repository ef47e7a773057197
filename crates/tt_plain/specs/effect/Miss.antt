-- A round that misses changes nothing but that it ends.
use Rattle.std.specs.Prelude.{Bool, None, Option, Some, [], false, true, ℕ, ◌==◌, ◌∷◌}
use Rattle.tt_history.specs.declared.history.Miss.{Miss}
use Rattle.tt_plain.specs.declared.store.Plain.{Plain}
use Rattle.tt_script.specs.Lines.{only_if}
use Rattle.tt_plain.specs.Answers.{◌>>=◌}
use Rattle.tt_plain.specs.effect.Effect.{Effect}
use Rattle.tt_plain.specs.effect.Round.{miss_of, round_of, worker_effect}
use Rattle.tt_plain.specs.tally.Changes.{EndsRound}
use Rattle.tt_history.specs.declared.history.Miss.TheVariants as miss

abbrev pub is_same_miss : Miss → Miss → Bool
is_same_miss miss.Dropped miss.Dropped = true
is_same_miss miss.Suspended miss.Suspended = true
is_same_miss (miss.Held a) (miss.Held b) = a == b
is_same_miss (miss.Gone a) (miss.Gone b) = a == b
is_same_miss _ _ = false

-- it may miss by memory whatever stands in its way
abbrev pub may_miss : Option Miss → Miss → Bool
may_miss cause miss.Memory = true
may_miss None why = false
may_miss (Some cause) why = is_same_miss cause why

unfoldable pub round_miss_effect : Plain → (index table : ℕ) → Miss → Option Effect
round_miss_effect store index table why = do
  round ← round_of store index table
  missed ← only_if (may_miss (miss_of store round) why) round
  Some (worker_effect store (EndsRound ∷ []))
