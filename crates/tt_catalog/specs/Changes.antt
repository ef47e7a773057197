-- The end of a change: what was built for it, how its parts come to be kept, and its entry.
use Rattle.std.specs.List.{range_with_len}
use Rattle.std.specs.Prelude.{List, Ok, Some, [], length, zero, suc, ℕ, ◌++◌, ◌+◌, ◌-◌, ◌∷◌, ◌≡◌}
use Rattle.tt_value.specs.declared.value.Row.{Row}
use Rattle.tt_script.specs.declared.script.Script.{Script}
use Rattle.tt_sql.specs.declared.change.Dml.{Dml}
use Rattle.tt_history.specs.declared.history.Added.{Added}
use Rattle.tt_history.specs.declared.history.Entry.{Entry}
use Rattle.tt_history.specs.declared.reply.Reply.{Reply}
use Rattle.tt_layout.specs.Chain.{with_change}
use Rattle.tt_partition.specs.Cuts.{cut, kinds_of}
use Rattle.tt_partition.specs.Image.{image_of}
use Rattle.tt_partition.specs.Table.{Table}
use Rattle.tt_plain.specs.asked.Asked.{Asked}
use Rattle.tt_plain.specs.asked.Turns.{asked_with}
use Rattle.tt_plain.specs.history.Contents.{rows_of_change}
use Rattle.tt_plain.specs.history.TrueFacts.{parts_to_replace}
use Rattle.tt_plain.specs.meaning.Outcome.{Does, outcome_of}
use Rattle.tt_state.specs.Chronicle.{Chronicle, MadeEntry, entry_at, rows_of, store_of}
use Rattle.tt_state.specs.Kept.{Kept}
use Rattle.tt_state.specs.declared.part.StoredPart.{StoredPart}
use Rattle.tt_state.specs.declared.state.TableState.{TableState}
use Rattle.tt_state.specs.declared.ticket.Built.{Built}
use Rattle.tt_state.specs.declared.ticket.Seen.{Seen}
use Rattle.tt_state.specs.declared.ticket.Ticket.{Ticket}
use Rattle.tt_catalog.specs.Ends.{with_given_up}
use Rattle.tt_catalog.specs.Tickets.{IsTicketOf}
use Rattle.tt_history.specs.declared.history.EntryKind.TheVariants as kind
use Rattle.tt_sql.specs.declared.statement.Statement.TheVariants as tree

-- ---- what was built

-- the change, as it is asked of the store now
abbrev pub change_asked : Chronicle → Ticket → Dml → Asked
change_asked chronicle ticket change =
    asked_with chronicle.program (store_of chronicle) ticket.session ticket.index (Ok (tree.Dml change))

-- What was built for an open change: its count over what the statement sees, the parts that it replaces, and those that it adds,
-- which are the rows that it gives, cut at the length that the catalog keeps.
pub record IsBuiltFor (chronicle : Chronicle) (ticket : Ticket) (change : Dml) (built : Built) : Type 0 where
  pub is_ticket : IsTicketOf chronicle ticket (tree.Dml change)
  pub held : Seen
  pub target : ticket.target ≡ Some held
  pub removed : List Row
  pub added : List Row
  pub outcome : outcome_of (change_asked chronicle ticket change) is_ticket.seen ≡ Some (Does held.table removed added built.count)
  pub gone : built.gone ≡ parts_to_replace (rows_of chronicle) (change_asked chronicle ticket change) held.table held.schema change
  pub parts : built.added ≡ cut (kinds_of held.schema) chronicle.cap
      (rows_of_change (rows_of chronicle) (change_asked chronicle ticket change) is_ticket.seen held.schema built.gone change)

-- ---- its entry

-- what an entry tells of parts from a number on: their rows are counted, and their bytes are those of their images
abbrev pub facts_from : ℕ → List Table → List Added
facts_from number [] = []
facts_from number (part ∷ parts) =
    record { number = number; rows = length part.rows; bytes = length (image_of part) } ∷ facts_from (number + 1) parts

-- the number of the next part that is added
abbrev pub next_part : Chronicle → ℕ
next_part chronicle = length (store_of chronicle).tally.parts + 1

abbrev pub change_entry : Chronicle → Ticket → Built → Entry
change_entry old ticket built =
    entry_at (store_of old).moment ticket.session ticket.index (kind.End built.gone (facts_from (next_part old) built.added))

abbrev pub MadeChange : Chronicle → Chronicle → Ticket → Built → Reply → Type 0
MadeChange old new ticket built answer = MadeEntry old new (change_entry old ticket built) (Some answer)

-- ---- what is kept then

-- a part that is kept under a number, of the table that added it
abbrev pub stored_as : (origin number : ℕ) → Table → StoredPart
stored_as origin number part = record {
  facts = record { number = number; origin = origin; rows = length part.rows; bytes = length (image_of part) };
  part = part;
}

-- parts from a number on
abbrev pub stored_from : (origin number : ℕ) → List Table → List StoredPart
stored_from origin number [] = []
stored_from origin number (part ∷ parts) = stored_as origin number part ∷ stored_from origin (number + 1) parts

-- the layouts of a table after a change at a moment: one more, unless no part goes and none comes
abbrev pub layouts_after : List (ℕ × List ℕ) → ℕ → List ℕ → List ℕ → List (ℕ × List ℕ)
layouts_after layouts moment [] [] = layouts
layouts_after layouts moment gone added = with_change layouts moment gone added

abbrev pub table_after : ℕ → List ℕ → List ℕ → TableState → TableState
table_after moment gone added table =
    record table { facts = record table.facts { layouts = layouts_after table.facts.layouts moment gone added } }

-- the item at a place changed
abbrev pub changed_at : {A : Type 0} → (A → A) → List A → ℕ → List A
changed_at f [] place = []
changed_at f (x ∷ xs) zero = f x ∷ xs
changed_at f (x ∷ xs) (suc place) = x ∷ changed_at f xs place

abbrev pub tables_after : ℕ → ℕ → List ℕ → List ℕ → List TableState → List TableState
tables_after table moment gone added tables = changed_at (table_after moment gone added) tables (table - 1)

-- the numbers of parts that are added behind so many
abbrev pub numbers_behind : ℕ → List Table → List ℕ
numbers_behind count parts = range_with_len (count + 1) (length parts)

-- the parts are kept under the next numbers, and are in the table from the next moment on
abbrev pub with_landed : Kept → ℕ → List ℕ → List Table → Kept
with_landed kept table gone parts = record kept {
  tables = tables_after table (kept.moment + 1) gone (numbers_behind (length kept.parts) parts) kept.tables;
  parts = kept.parts ++ stored_from table (length kept.parts + 1) parts;
}

-- and the change has ended
abbrev pub with_changed : Script → Kept → (session index table : ℕ) → List ℕ → List Table → Kept
with_changed program kept session index table gone parts = with_given_up program (with_landed kept table gone parts) session index
