-- A DELETE over the parts of its table.
use Rattle.std.specs.Prelude.{◌≡◌, ◌≤◌, ℕ, List, [], ◌∷◌, length, None}
use Rattle.std.specs.List.{flat_map}
use Rattle.tt_value.specs.declared.value.Row.{Row}
use Rattle.tt_value.specs.trees.Predicates.{takes}
use Rattle.tt_value.specs.trees.Scope.{Scope}
use Rattle.tt_sql.specs.declared.change.Delete.{Delete}
use Rattle.tt_sql.specs.declared.change.Dml.TheVariants as dml
use Rattle.tt_sql.specs.declared.statement.Statement.{Statement}
use Rattle.tt_sql.specs.declared.statement.Statement.TheVariants as statement
use Rattle.tt_sql.specs.meaning.Changes.{Changes, delete_change}
use Rattle.tt_sql.specs.meaning.Scopes.{target_scope}
use Rattle.tt_partition.specs.Cuts.{cut, kinds_of}
use Rattle.tt_partition.specs.Table.{Table}
use Rattle.tt_plain.specs.TypingRefusal.{typing_refusal}
use Rattle.tt_plain.specs.history.Contents.{row_deleted}
use Rattle.tt_state.specs.declared.ticket.Built.{Built}
use Rattle.tt_state.specs.declared.ticket.Seen.{Seen}
use Rattle.tt_rewrite.specs.Left.{AreOfSchema, numbers_of, rows_of, touched}

abbrev pub deletion : Delete → Statement
deletion delete = statement.Dml (dml.Delete delete)

-- A DELETE that is not refused for its columns and kinds. Its table has columns, and no more than a table may have, and each part is
-- of these columns.
pub record MayDelete (seen : Seen) (delete : Delete) : Type 0 where
  pub columns : (1 ≤ length seen.schema.columns) × (length seen.schema.columns ≤ 32)
  pub parts : AreOfSchema seen.schema seen.parts
  pub typed : typing_refusal (seen.schema ∷ []) (deletion delete) ≡ None

-- what the names of its filter mean
abbrev pub scope_of : Seen → Delete → Scope
scope_of seen delete = target_scope delete.table seen.schema

-- the parts that hold a row which it takes
abbrev pub parts_touched : Seen → Delete → List (ℕ × Table)
parts_touched seen delete = touched (takes (scope_of seen delete) delete.filter) seen.parts

-- The parts with a row that it takes go. Their rows come again without those that it takes, in their order, cut at the length.
pub record Deletes (seen : Seen) (delete : Delete) (cap : ℕ) (built : Built) : Type 0 where
  pub removed : List Row
  pub change : delete_change seen.schema (rows_of seen.parts) delete ≡ Changes removed [] built.count
  pub gone : built.gone ≡ numbers_of (parts_touched seen delete)
  pub added : built.added ≡ cut (kinds_of seen.schema) cap
      (flat_map (row_deleted (scope_of seen delete) delete) (rows_of (parts_touched seen delete)))
