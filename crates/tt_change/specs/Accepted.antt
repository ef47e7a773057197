-- When an INSERT of written rows may be carried out.
use Rattle.std.specs.Prelude.{◌≡◌, ◌≤◌, [], ◌∷◌, length, None}
use Rattle.tt_value.specs.declared.value.Schema.{Schema}
use Rattle.tt_sql.specs.declared.change.Insert.{Insert}
use Rattle.tt_sql.specs.trees.Statements.{IsWrittenInsertSource}
use Rattle.tt_sql.specs.text.StatementOf.{most_levels}
use Rattle.tt_plain.specs.Statements.{insertion}
use Rattle.tt_plain.specs.TypingRefusal.{typing_refusal}
use Rattle.tt_plain.specs.ValueKinds.{IsFoundByName}

-- An INSERT, as it is read from a text, that is not refused for its columns, counts, kinds and NULLs. Its table has columns, and no more
-- than a table may have, of different names.
pub record IsAccepted (schema : Schema) (insert : Insert) : Type 0 where
  pub written : IsWrittenInsertSource most_levels insert.source
  pub columns : (1 ≤ length schema.columns) × (length schema.columns ≤ 32)
  pub named : IsFoundByName schema
  pub typed : typing_refusal (schema ∷ []) (insertion insert) ≡ None
