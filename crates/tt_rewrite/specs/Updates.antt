-- An UPDATE over the parts of its table.
use Rattle.std.specs.Prelude.{◌≡◌, ◌≤◌, ℕ, ◌+◌, List, [], ◌∷◌, length, Option, None, Some}
use Rattle.std.specs.List.{flat_map}
use Rattle.tt_value.specs.declared.value.Row.{Row}
use Rattle.tt_value.specs.declared.value.Schema.{Schema}
use Rattle.tt_value.specs.trees.Predicates.{takes}
use Rattle.tt_value.specs.trees.Scope.{Scope}
use Rattle.tt_sql.specs.declared.change.Dml.TheVariants as dml
use Rattle.tt_sql.specs.declared.change.Update.{Update}
use Rattle.tt_sql.specs.declared.statement.Statement.{Statement}
use Rattle.tt_sql.specs.declared.statement.Statement.TheVariants as statement
use Rattle.tt_sql.specs.meaning.Changes.{Changed, Changes, update_change, updated_row}
use Rattle.tt_sql.specs.meaning.Changes as changed
use Rattle.tt_sql.specs.meaning.Scopes.{target_scope}
use Rattle.tt_sql.specs.text.StatementOf.{most_levels}
use Rattle.tt_sql.specs.trees.Lists.{IsListed}
use Rattle.tt_sql.specs.trees.Statements.{IsWrittenSet}
use Rattle.tt_partition.specs.Cuts.{cut, kinds_of}
use Rattle.tt_partition.specs.Fits.{FitKinds}
use Rattle.tt_partition.specs.Table.{Table}
use Rattle.tt_plain.specs.TypingRefusal.{typing_refusal}
use Rattle.tt_plain.specs.ValueKinds.{IsFoundByName}
use Rattle.tt_plain.specs.history.Contents.{row_updated}
use Rattle.tt_state.specs.declared.ticket.Built.{Built}
use Rattle.tt_state.specs.declared.ticket.Seen.{Seen}
use Rattle.tt_rewrite.specs.Left.{AreOfSchema, numbers_of, rows_of, touched}
use Rattle.tt_rewrite.specs.declared.renewing.Renewed.{Renewed}
use Rattle.tt_rewrite.specs.declared.error.UpdateError.{UpdateError}
use Rattle.tt_rewrite.specs.declared.error.UpdateError.TheVariants as failed

abbrev pub updating : Update → Statement
updating update = statement.Dml (dml.Update update)

-- An UPDATE, as it is read from a text, that is not refused for its columns, kinds and NULLs. Its table has columns, and no more than a
-- table may have, of different names, and each part is of these columns.
pub record MayUpdate (seen : Seen) (update : Update) : Type 0 where
  pub columns : (1 ≤ length seen.schema.columns) × (length seen.schema.columns ≤ 32)
  pub named : IsFoundByName seen.schema
  pub parts : AreOfSchema seen.schema seen.parts
  pub written : IsListed (IsWrittenSet most_levels) update.sets
  pub typed : typing_refusal (seen.schema ∷ []) (updating update) ≡ None

-- what the names of its SETs and of its filter mean
abbrev pub scope_of : Seen → Update → Scope
scope_of seen update = target_scope update.table seen.schema

-- the parts that hold a row which it takes
abbrev pub parts_touched : Seen → Update → List (ℕ × Table)
parts_touched seen update = touched (takes (scope_of seen update) update.filter) seen.parts

-- what it does to the rows of the parts
abbrev pub change_of : Seen → Update → Changed
change_of seen update = update_change seen.schema (rows_of seen.parts) update

-- The parts with a row that it takes go. Their rows come again with the changes in them, in their order, cut at the length.
pub record Updates (seen : Seen) (update : Update) (cap : ℕ) (built : Built) : Type 0 where
  pub removed : List Row
  pub added : List Row
  pub change : change_of seen update ≡ Changes removed added built.count
  pub gone : built.gone ≡ numbers_of (parts_touched seen update)
  pub parts : built.added ≡ cut (kinds_of seen.schema) cap
      (flat_map (row_updated (scope_of seen update) update) (rows_of (parts_touched seen update)))

-- it is refused as its meaning says
abbrev pub RefusedAs : Changed → UpdateError → Type 0
RefusedAs change failed.OutOfRange = change ≡ changed.OutOfRange
RefusedAs change (failed.NullInRow column) = change ≡ changed.NullInRow column
RefusedAs change failed.Memory = Unit {0}

-- a row that is renewed fits its table as it did before
abbrev pub KeepsFit : Schema → (Row → Option Row) → Type 0
KeepsFit schema becomes = (row new : Row) → FitKinds (kinds_of schema) row.values → becomes row ≡ Some new → FitKinds (kinds_of schema) new.values

-- what was renewed, as parts
pub record IsBuiltOf (schema : Schema) (renewed : Renewed) (cap : ℕ) (built : Built) : Type 0 where
  pub none : renewed.missing ≡ None
  pub gone : built.gone ≡ renewed.left.gone
  pub added : built.added ≡ cut (kinds_of schema) cap renewed.left.rows
  pub count : built.count ≡ renewed.left.count

-- the column in which a NULL is that may not be there
abbrev pub IsMissing : Option ℕ → UpdateError → Type 0
IsMissing missing failed.OutOfRange = ⊥
IsMissing missing (failed.NullInRow column) = (place : ℕ) × (missing ≡ Some place) × (column ≡ place + 1)
IsMissing missing failed.Memory = Unit {0}
