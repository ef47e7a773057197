-- A round of reclustering: it takes parts of a table, and lands with others in their place or misses. It changes the tally alone.
use Rattle.std.specs.Prelude.{Bool, List, None, Option, Some, [], is_some, length, nat_lt, not, option_map, true, ℕ, ◌&&◌, ◌+◌, ◌==◌, ◌||◌, ◌∷◌}
use Rattle.tt_history.specs.declared.history.Miss.{Miss}
use Rattle.tt_layout.specs.Numbers.{without}
use Rattle.tt_plain.specs.declared.store.Plain.{Plain}
use Rattle.tt_plain.specs.declared.store.PlainTable.{PlainTable}
use Rattle.tt_plain.specs.declared.tally.Tally.{Tally}
use Rattle.tt_plain.specs.declared.tally.TallyRound.{TallyRound}
use Rattle.tt_script.specs.Lines.{only_if}
use Rattle.tt_plain.specs.Answers.{◌>>=◌}
use Rattle.tt_plain.specs.effect.Effect.{Effect}
use Rattle.tt_plain.specs.refusal.{first_some, head_of}
use Rattle.tt_plain.specs.stored.Sessions.{has_exclusive_mark, sessions_with}
use Rattle.tt_plain.specs.stored.Tables.{is_live, table_numbered}
use Rattle.tt_plain.specs.tally.Changes.{TallyChange}
use Rattle.tt_plain.specs.tally.Layouts.{current_parts}
use Rattle.tt_history.specs.declared.history.Miss.TheVariants as miss

abbrev pub worker_effect : Plain → List TallyChange → Effect
worker_effect store changes =
    record { session = None; tables = []; points = []; tally = changes; moment = store.moment + 1; reply = None }

abbrev pub has_exclusive : Plain → ℕ → Bool
has_exclusive store table = nat_lt 0 (length (sessions_with (has_exclusive_mark table) store))

-- a table may be reclustered where it is live, has a key, is not suspended, and has no exclusive mark
abbrev pub may_be_reclustered : Plain → PlainTable → Bool
may_be_reclustered store table = is_live table && is_some table.key && not table.suspended && not (has_exclusive store table.number)

abbrev pub is_other_key : Option ℕ → ℕ → Bool
is_other_key None key = true
is_other_key (Some now) key = not (now == key)

abbrev pub has_changed : PlainTable → TallyRound → Bool
has_changed table round = table.suspended || is_other_key table.key round.key

-- the parts that have left the current layout; the least is named
abbrev pub parts_left : Tally → TallyRound → List ℕ
parts_left tally round = without (current_parts tally round.table) round.parts

abbrev pub misses : Plain → TallyRound → PlainTable → List (Option Miss)
misses store round table =
    only_if (not (is_live table)) miss.Dropped ∷ only_if (has_changed table round) miss.Suspended
    ∷ option_map miss.Held (head_of (sessions_with (has_exclusive_mark table.number) store))
    ∷ option_map miss.Gone (head_of (parts_left store.tally round)) ∷ []

-- the first cause in this order
unfoldable pub miss_of : Plain → TallyRound → Option Miss
miss_of store round = table_numbered store round.table >>= λ table. first_some (misses store round table)

-- the open round, where an entry is of it
abbrev pub round_of : Plain → (index table : ℕ) → Option TallyRound
round_of store index table = do
  round ← store.tally.round
  only_if (index == store.tally.rounds && table == round.table) round
