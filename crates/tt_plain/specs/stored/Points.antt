-- The points of statements: where each stands among those of all sessions, and what a query id means.
use Rattle.std.specs.List.{range_with_len}
use Rattle.std.specs.Prelude.{Bool, List, None, Option, Some, codes, decimal, false, filter, flat_map, length, map, slice_get, sum_by, take, ℕ, ◌++◌, ◌+◌, ◌-◌, ◌==◌, ◌^◌}
use Rattle.tt_script.specs.declared.script.Script.{Script}
use Rattle.tt_script.specs.declared.script.SessionText.{SessionText}
use Rattle.tt_plain.specs.declared.store.Plain.{Plain}

-- what stands for a statement that has an entry and no point yet
abbrev pub no_point_yet : ℕ
no_point_yet = 2 ^ 64 - 1

abbrev pub statement_count : SessionText → ℕ
statement_count lines = length lines.statements

-- where the point of a session's statement stands; statements count from 1
abbrev pub point_place : Script → ℕ → ℕ → ℕ
point_place program session index = sum_by statement_count (take session program.sessions) + (index - 1)

-- the query ids of a session's statements: its name, a dash, and the number
abbrev pub ids_of : SessionText → List (List ℕ)
ids_of lines = map (λ index. lines.name ++ codes "-" ++ decimal index) (range_with_len 1 (statement_count lines))

-- the query ids of all statements, as their points stand
unfoldable pub query_ids : Script → List (List ℕ)
query_ids program = flat_map ids_of program.sessions

abbrev pub is_waiting : Option (Option ℕ) → Bool
is_waiting (Some (Some point)) = point == no_point_yet
is_waiting _ = false

abbrev pub count_in : Option SessionText → ℕ
count_in None = 0
count_in (Some lines) = statement_count lines

-- where the points of all statements of a session stand
abbrev pub places_of_session : Script → ℕ → List ℕ
places_of_session program session = range_with_len (point_place program session 1) (count_in (slice_get program.sessions session))

-- The statements of a session that have an entry and no point: in a transaction those that ended in it, for their points are
-- that of its end.
unfoldable pub waiting_places : Script → Plain → ℕ → List ℕ
waiting_places program store session = filter (λ place. is_waiting (slice_get store.points place)) (places_of_session program session)
