-- The marks that a statement puts when it begins.
use Rattle.std.specs.List.{list_any}
use Rattle.std.specs.Prelude.{Bool, List, false, filter, nat_lt, true, ℕ, ◌&&◌, ◌++◌, ◌==◌, ◌||◌, ◌∷◌}
use Rattle.tt_sql.specs.declared.change.Dml.{Dml}
use Rattle.tt_plain.specs.declared.store.PlainMark.{PlainMark}
use Rattle.tt_sql.specs.declared.change.Dml.TheVariants as dml

abbrev pub is_exclusive_on : ℕ → PlainMark → Bool
is_exclusive_on table mark = mark.table == table && mark.exclusive

-- One mark for each table, in ascending order of the tables. An exclusive mark stays exclusive.
abbrev pub with_mark : ℕ → Bool → List PlainMark → List PlainMark
with_mark table exclusive marks =
    filter (λ (mark : PlainMark). nat_lt mark.table table) marks
    ++ record { table = table; exclusive = exclusive || list_any (is_exclusive_on table) marks }
    ∷ filter (λ (mark : PlainMark). nat_lt table mark.table) marks

-- an INSERT and a COPY put a shared mark on their table, an UPDATE and a DELETE an exclusive one
abbrev pub marks_exclusively : Dml → Bool
marks_exclusively (dml.Insert i) = false
marks_exclusively (dml.Update u) = true
marks_exclusively (dml.Delete d) = true
marks_exclusively (dml.Copy c) = false
