-- Which table owns a part, and as what its bytes count.
use Rattle.std.specs.Prelude.{ℕ, Bool, true, false, not, ◌&&◌, ◌==◌, min, if◌then◌else◌, List, [], ◌∷◌, map, filter}
use Rattle.std.specs.List.{list_any, fold}
use Rattle.tt_layout.specs.declared.hold.Hold.{Hold}
use Rattle.tt_layout.specs.declared.hold.Hold.TheVariants as hold
use Rattle.tt_layout.specs.declared.hold.Class.{Class}
use Rattle.tt_layout.specs.declared.hold.Class.TheVariants as class
use Rattle.tt_layout.specs.declared.facts.TableFacts.{TableFacts}
use Rattle.tt_layout.specs.declared.facts.PartFacts.{PartFacts}
use Rattle.tt_layout.specs.declared.facts.Facts.{Facts}
use Rattle.tt_layout.specs.Holds.{hold_of, stands}

abbrev pub is_active_hold : Hold → Bool
is_active_hold hold.Active = true
is_active_hold _ = false

-- Active or Time Travel
abbrev pub is_strong : Hold → Bool
is_strong hold.Active = true
is_strong hold.TimeTravel = true
is_strong _ = false

abbrev pub is_safe_hold : Hold → Bool
is_safe_hold hold.FailSafe = true
is_safe_hold _ = false

-- a table that stands and whose hold on the part is Active or Time Travel
abbrev pub is_holder : Facts → ℕ → TableFacts → Bool
is_holder facts part table = stands facts.at table && is_strong (hold_of facts.at table part)

-- the least of some numbers, and of none the one that is given
abbrev pub least_or : ℕ → List ℕ → ℕ
least_or other [] = other
least_or other (n ∷ ns) = fold min n ns

-- the owner: the origin if it stands, else the holder of the least number, and where there is none the origin
abbrev pub owner_of : Facts → PartFacts → ℕ
owner_of facts part =
    if list_any (λ table. (table.number == part.origin) && stands facts.at table) facts.tables then part.origin
    else least_or part.origin (map (λ table. table.number) (filter (is_holder facts part.number) facts.tables))

-- whether a table of this number has such a hold on the part
abbrev pub holds_so : (Hold → Bool) → Facts → PartFacts → ℕ → Bool
holds_so test facts part number =
    list_any (λ table. (table.number == number) && test (hold_of facts.at table part.number)) facts.tables

-- the class of a part whose owner has this number
abbrev pub class_under : Facts → PartFacts → ℕ → Class
class_under facts part owner =
    if holds_so is_active_hold facts part owner then class.Active
    else if holds_so is_strong facts part owner then class.TimeTravel
    else if list_any (λ table. not (table.number == owner) && is_holder facts part.number table) facts.tables then class.RetainedForClone
    else if list_any (λ table. is_safe_hold (hold_of facts.at table part.number)) facts.tables then class.FailSafe
    else class.Pending

abbrev pub class_of : Facts → PartFacts → Class
class_of facts part = class_under facts part (owner_of facts part)
