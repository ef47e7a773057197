-- How the tally changes.
use Rattle.std.specs.Prelude.{Bool, List, None, Some, [], filter, map, nat_lt, not, slice_get, slice_set, true, unwrap_or, ℕ, ◌&&◌, ◌++◌, ◌+◌, ◌-◌, ◌==◌, ◌||◌, ◌∷◌}
use Rattle.tt_history.specs.declared.history.Added.{Added}
use Rattle.tt_layout.specs.Numbers.{has}
use Rattle.tt_plain.specs.declared.tally.Tally.{Tally}
use Rattle.tt_plain.specs.declared.tally.TallyPart.{TallyPart}
use Rattle.tt_plain.specs.declared.tally.TallyPending.{TallyPending}
use Rattle.tt_plain.specs.declared.tally.TallyPin.{TallyPin}
use Rattle.tt_plain.specs.declared.tally.TallyRound.{TallyRound}

-- what an entry may do to it; the tables are given by their numbers
pub data TallyChange : Type 0 where
  AddsParts : (origin : ℕ) (parts : List Added) → TallyChange
  MakesTable : (moment : ℕ) (parts : List ℕ) → TallyChange
  BeginsLayout : (table moment : ℕ) (parts : List ℕ) → TallyChange
  Keeps : TallyPending → TallyChange
  EndsPending : (session : ℕ) → TallyChange
  Pins : (session : ℕ) (pins : List TallyPin) → TallyChange
  Unpins : (session : ℕ) → TallyChange
  StartsRound : TallyRound → TallyChange
  EndsRound : TallyChange
  TakesAway : (parts : List ℕ) → TallyChange

abbrev pub part_added : ℕ → Added → TallyPart
part_added origin part = record { number = part.number; origin = origin; rows = part.rows; bytes = part.bytes; stored = true }

abbrev pub with_layout : List (List (ℕ × List ℕ)) → ℕ → ℕ × List ℕ → List (List (ℕ × List ℕ))
with_layout layouts table layout = slice_set layouts (table - 1) (unwrap_or (slice_get layouts (table - 1)) [] ++ layout ∷ [])

-- in the order of the sessions, and of the tables for each
abbrev pub stands_before : TallyPending → TallyPending → Bool
stands_before a b = nat_lt a.session b.session || (a.session == b.session && nat_lt a.table b.table)

-- the lists of a session and a table, in their place
abbrev pub with_lists : TallyPending → List TallyPending → List TallyPending
with_lists lists all = filter (λ other. stands_before other lists) all ++ lists ∷ filter (λ other. stands_before lists other) all

-- the pins of a session, in their place
abbrev pub with_pins : ℕ → List TallyPin → List TallyPin → List TallyPin
with_pins session pins all =
    filter (λ (pin : TallyPin). nat_lt pin.session session) all ++ pins ++ filter (λ (pin : TallyPin). nat_lt session pin.session) all

abbrev pub taken_away : List ℕ → TallyPart → TallyPart
taken_away numbers part = record part { stored = part.stored && not (has numbers part.number) }

abbrev pub changed_tally : Tally → TallyChange → Tally
changed_tally tally (AddsParts origin parts) = record tally { parts = tally.parts ++ map (part_added origin) parts }
changed_tally tally (MakesTable moment parts) = record tally { layouts = tally.layouts ++ ((moment, parts) ∷ []) ∷ [] }
changed_tally tally (BeginsLayout table moment parts) = record tally { layouts = with_layout tally.layouts table (moment, parts) }
changed_tally tally (Keeps lists) = record tally { pending = with_lists lists tally.pending }
changed_tally tally (EndsPending session) = record tally { pending = filter (λ (lists : TallyPending). not (lists.session == session)) tally.pending }
changed_tally tally (Pins session pins) = record tally { pins = with_pins session pins tally.pins }
changed_tally tally (Unpins session) = record tally { pins = with_pins session [] tally.pins }
changed_tally tally (StartsRound round) = record tally { round = Some round; rounds = tally.rounds + 1 }
changed_tally tally EndsRound = record tally { round = None }
changed_tally tally (TakesAway parts) = record tally { parts = map (taken_away parts) tally.parts; purges = tally.purges + 1 }
