-- The sessions whose marks stand in the way of one that may or may not be exclusive.
use Rattle.std.specs.List.{enumerate_from}
use Rattle.std.specs.Prelude.{Bool, List, true, false, filter, map, not, ℕ, ◌==◌}
use Rattle.tt_plain.specs.declared.store.PlainSession.{PlainSession}
use Rattle.tt_plain.specs.stored.Sessions.{has_mark, has_exclusive_mark}

abbrev pub stands_in_way : (exclusive : Bool) → ℕ → PlainSession → Bool
stands_in_way true table state = has_exclusive_mark table state
stands_in_way false table state = has_mark table state

-- those of these sessions but one, numbered from here
abbrev pub holders_among : Bool → (table session first : ℕ) → List PlainSession → List ℕ
holders_among exclusive table session first sessions =
    filter (λ other. not (other == session)) (map (λ found. found.0) (filter (λ found. stands_in_way exclusive table found.1) (enumerate_from first sessions)))
