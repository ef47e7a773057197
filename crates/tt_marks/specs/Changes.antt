-- What the calls do to the marks.
use Rattle.std.specs.Prelude.{◌≡◌, ℕ, ◌<◌, ◌+◌, Bool, true, false, ◌==◌, not, List, [], ◌∷◌, length, filter, Option, None, Some, IsSome, is_some, if◌then◌else◌, ⊤}
use Rattle.std.specs.Ordering.{match_ordering}
use Rattle.tt_marks.specs.declared.mark.Mark.{Mark}
use Rattle.tt_marks.specs.Marks.{Standing, mark_cmp, is_mark_of, mark_of}

-- with a mark in its place, instead of an earlier one of its session on its table
abbrev pub with_mark : Mark → List Mark → List Mark
with_mark mark [] = mark ∷ []
with_mark mark (m ∷ ms) =
    match_ordering (mark_cmp mark m) (mark ∷ m ∷ ms) (mark ∷ ms) (m ∷ with_mark mark ms)

-- the session marks the table, exclusively or not
abbrev pub marked : ℕ → ℕ → Bool → List Mark → List Mark
marked session table exclusive marks =
    with_mark (record { session = session; table = table; exclusive = exclusive }) marks

-- with a mark of the session on the table, a shared one unless it has one there
abbrev pub shared : ℕ → ℕ → List Mark → List Mark
shared session table marks =
    if is_some (mark_of session table marks) then marks else marked session table false marks

-- without the session's mark on the table
abbrev pub unmarked : ℕ → ℕ → List Mark → List Mark
unmarked session table marks = filter (λ mark. not (is_mark_of session table mark)) marks

-- with the session's mark on the table as it was
abbrev pub restored : ℕ → ℕ → Option Bool → List Mark → List Mark
restored session table None marks = unmarked session table marks
restored session table (Some exclusive) marks = marked session table exclusive marks

-- without the marks of a session
abbrev pub released : ℕ → List Mark → List Mark
released session marks = filter (λ mark. not (mark.session == session)) marks

-- a mark takes room only where its session has none on its table
abbrev pub HasRoomFor : ℕ → ℕ → Standing → Type 0
HasRoomFor session table standing =
    mark_of session table standing.list ≡ None → 0 < standing.spare

-- an exclusive mark comes back only where it stands, and a shared one where some mark of the session does
abbrev pub CanRestore : ℕ → ℕ → Option Bool → List Mark → Type 0
CanRestore session table None marks = ⊤
CanRestore session table (Some true) marks = mark_of session table marks ≡ Some true
CanRestore session table (Some false) marks = IsSome (mark_of session table marks)

-- room is neither taken nor given back
abbrev pub IsSameRoom : Standing → Standing → Type 0
IsSameRoom old new = length new.list + new.spare ≡ length old.list + old.spare
