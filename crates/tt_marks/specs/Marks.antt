-- The marks of sessions on tables, as a list in one order: by table, and on one table by session.
use Rattle.std.specs.Prelude.{◌≡◌, ℕ, Bool, true, ◌==◌, ◌&&◌, not, List, find, filter, Option, None, Some, Result, Ok, Err}
use Rattle.std.specs.Option.{option_map}
use Rattle.std.specs.List.Sorted.{IsStrictlySortedBy}
use Rattle.std.specs.Ordering.{nat_cmp, on, then_cmp}
use Rattle.std.specs.declared.cmp.Ordering.{Ordering}
use Rattle.tt_marks.specs.declared.mark.Mark.{Mark}
use Rattle.tt_marks.specs.declared.mark.HeldBy.{HeldBy}

-- the marks that stand, and for how many more there is room
pub record Standing : Type 0 where
  pub list : List Mark
  pub spare : ℕ

-- by table, then by session
abbrev pub mark_cmp : Mark → Mark → Ordering
mark_cmp = then_cmp (on (λ mark. mark.table) nat_cmp) (on (λ mark. mark.session) nat_cmp)

abbrev pub is_mark_of : ℕ → ℕ → Mark → Bool
is_mark_of session table mark = mark.session == session && mark.table == table

-- a session's mark on a table, where it has one: whether it is exclusive
abbrev pub mark_of : ℕ → ℕ → List Mark → Option Bool
mark_of session table marks =
    option_map (λ mark. mark.exclusive) (find (is_mark_of session table) marks)

-- the marks of a session, by table
abbrev pub marks_of : ℕ → List Mark → List Mark
marks_of session marks = filter (λ mark. mark.session == session) marks

-- the marks on a table, by session
abbrev pub marks_on : ℕ → List Mark → List Mark
marks_on table marks = filter (λ mark. mark.table == table) marks

-- the marks in order, no two of one session on one table, and no two exclusive ones on one table
pub record IsMarks (marks : List Mark) : Type 0 where
  pub ordered : IsStrictlySortedBy mark_cmp marks
  pub alone : (table one other : ℕ) → mark_of one table marks ≡ Some true
      → mark_of other table marks ≡ Some true → one ≡ other

-- the first session, in the order of their numbers, whose mark on the table passes the test
abbrev pub first_holder : (Mark → Bool) → ℕ → List Mark → Option ℕ
first_holder test table marks = option_map (λ mark. mark.session) (find test (marks_on table marks))

-- the session that has the exclusive mark on a table
abbrev pub exclusive_holder : ℕ → List Mark → Option ℕ
exclusive_holder table marks = first_holder (λ mark. mark.exclusive) table marks

abbrev pub is_of_other : ℕ → Mark → Bool
is_of_other session mark = not (mark.session == session)

-- the first other session that has a mark on a table
abbrev pub other_holder : ℕ → ℕ → List Mark → Option ℕ
other_holder session table marks = first_holder (is_of_other session) table marks

-- the first other session that has an exclusive mark on a table
abbrev pub other_exclusive_holder : ℕ → ℕ → List Mark → Option ℕ
other_exclusive_holder session table marks =
    first_holder (λ mark. mark.exclusive && is_of_other session mark) table marks

-- the answer of a call that a session's mark refuses
abbrev pub unless_held : Option ℕ → Result Unit HeldBy
unless_held None = Ok tt
unless_held (Some session) = Err (record { session = session })
