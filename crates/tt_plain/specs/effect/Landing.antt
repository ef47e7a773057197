-- The landing of a round: others stand in the place of its parts, where nothing stands in its way.
use Rattle.std.specs.Prelude.{Bool, List, Option, Some, [], bytes_eq, is_none, ℕ, ◌&&◌, ◌++◌, ◌+◌, ◌==◌, ◌∷◌}
use Rattle.tt_history.specs.declared.history.Added.{Added}
use Rattle.tt_plain.specs.declared.store.Plain.{Plain}
use Rattle.tt_plain.specs.declared.tally.Tally.{Tally}
use Rattle.tt_plain.specs.declared.tally.TallyRound.{TallyRound}
use Rattle.tt_script.specs.Lines.{only_if}
use Rattle.tt_plain.specs.Answers.{◌>>=◌}
use Rattle.tt_plain.specs.effect.Effect.{Effect}
use Rattle.tt_plain.specs.effect.Round.{miss_of, round_of, worker_effect}
use Rattle.tt_plain.specs.tally.Changes.{AddsParts, EndsRound}
use Rattle.tt_plain.specs.tally.Parts.{are_next_parts, numbers_added, rows_in_added, rows_in_parts}
use Rattle.tt_plain.specs.tally.Pending.{layout_begun}

-- just the round's parts go, and as many rows come as go
abbrev pub lands_with : Tally → TallyRound → List ℕ → List Added → Bool
lands_with tally round gone added =
    bytes_eq gone round.parts && are_next_parts tally added && rows_in_added added == rows_in_parts tally gone

unfoldable pub round_end_effect : Plain → (index table : ℕ) → List ℕ → List Added → Option Effect
round_end_effect store index table gone added = do
  round ← round_of store index table
  lands ← only_if (is_none (miss_of store round) && lands_with store.tally round gone added) round
  Some (worker_effect store (AddsParts table added ∷ layout_begun store.tally (store.moment + 1) table gone (numbers_added added) ++ EndsRound ∷ []))
