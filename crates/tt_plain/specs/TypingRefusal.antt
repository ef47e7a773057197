-- Why a statement is refused for its columns, counts, kinds and NULLs: the refusal with the least number, at its leftmost place.
use Rattle.std.specs.Prelude.{◌≡◌, ℕ, List, [], Option, Some, None}
use Rattle.tt_value.specs.declared.value.Schema.{Schema}
use Rattle.tt_sql.specs.declared.statement.Statement.{Statement}
use Rattle.tt_history.specs.declared.reply.Refusal.{Refusal}
use Rattle.tt_history.specs.declared.reply.Refusal.TheVariants.{UnknownColumn, WrongCount, TypeMismatch, NullInNotNull}
use Rattle.tt_plain.specs.Places.{leftmost}
use Rattle.tt_plain.specs.UnknownColumns.{unknown_columns}
use Rattle.tt_plain.specs.WrongCounts.{wrong_counts}
use Rattle.tt_plain.specs.TypeMismatches.{type_mismatches}
use Rattle.tt_plain.specs.NullsInNotNull.{nulls_in_not_null}

-- a refusal at a place, and the other one where there is no place
abbrev pub or_else : (ℕ → Refusal) → Option ℕ → Option Refusal → Option Refusal
or_else refusal None other = other
or_else refusal (Some place) other = Some (refusal place)

-- The schemas are those of the statement's tables, in order.
unfoldable pub typing_refusal : List Schema → Statement → Option Refusal
typing_refusal schemas s =
    or_else UnknownColumn (leftmost (unknown_columns schemas s))
    (or_else WrongCount (leftmost (wrong_counts schemas s))
    (or_else TypeMismatch (leftmost (type_mismatches schemas s))
    (or_else NullInNotNull (leftmost (nulls_in_not_null schemas s)) None)))

-- what stands where there is none
pub record IsWellTyped (schemas : List Schema) (s : Statement) : Type 0 where
  pub columns : unknown_columns schemas s ≡ []
  pub counts : wrong_counts schemas s ≡ []
  pub kinds : type_mismatches schemas s ≡ []
  pub nulls : nulls_in_not_null schemas s ≡ []
