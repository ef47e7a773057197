-- A purge takes away stored parts that nothing names.
use Rattle.std.specs.List.{list_all}
use Rattle.std.specs.Prelude.{Bool, List, Option, [], length, nat_lt, not, ℕ, ◌&&◌, ◌+◌, ◌==◌, ◌∷◌}
use Rattle.tt_plain.specs.declared.store.Plain.{Plain}
use Rattle.tt_script.specs.Lines.{only_if}
use Rattle.tt_plain.specs.effect.Effect.{Effect}
use Rattle.tt_plain.specs.effect.Round.{worker_effect}
use Rattle.tt_plain.specs.tally.Changes.{TakesAway}
use Rattle.tt_plain.specs.tally.Facts.{is_named_at}
use Rattle.tt_plain.specs.tally.Layouts.{is_ascending}
use Rattle.tt_plain.specs.tally.Parts.{is_stored}

-- at least one, each stored and not named at the moment of the entry
abbrev pub may_purge : Plain → List ℕ → Bool
may_purge store parts =
    is_ascending parts && nat_lt 0 (length parts)
    && list_all (λ number. is_stored store.tally number && not (is_named_at store (store.moment + 1) number)) parts

-- purges count from 1
unfoldable pub purge_effect : Plain → ℕ → List ℕ → Option Effect
purge_effect store index parts =
    only_if (index == store.tally.purges + 1 && may_purge store parts) (worker_effect store (TakesAway parts ∷ []))
