-- Refusals 4 to 7 are what the typer finds, and a depth without a key.
use Rattle.std.proofs.Common.{◌≡◌, ℕ, [], ◌∷◌, Option, Some, None, Ok, refl, append-nil}
use Rattle.std.specs.Option.{option_map}
use Rattle.tt_sql.specs.declared.statement.Statement.{Statement}
use Rattle.tt_sql.specs.declared.statement.Statement.TheVariants as statement
use Rattle.tt_history.specs.declared.reply.Refusal.{Refusal}
use Rattle.tt_history.specs.declared.reply.Refusal.TheVariants as refusal
use Rattle.tt_plain.specs.Places.{leftmost}
use Rattle.tt_plain.specs.TypingRefusal.{typing_refusal, or_else}
use Rattle.tt_plain.specs.UnknownColumns.{unknown_columns}
use Rattle.tt_plain.specs.WrongCounts.{wrong_counts}
use Rattle.tt_plain.specs.TypeMismatches.{type_mismatches}
use Rattle.tt_plain.specs.NullsInNotNull.{nulls_in_not_null}
use Rattle.tt_plain.specs.asked.Asked.{Asked, schemas_asked}
use Rattle.tt_plain.specs.asked.Request.{request_in}
use Rattle.tt_plain.specs.refusal.{first_some}
use Rattle.tt_plain.specs.refusal.UnknownColumn.{tables_without_key}
use Rattle.tt_model_asked.specs.TypedAs.{typed_by, without_key}
use Rattle.tt_model_asked.specs.RefusalsAs.{refusals_of_typing}

one_first : (r : Option Refusal) → r ≡ first_some (r ∷ None ∷ None ∷ None ∷ [])
one_first None = refl
one_first (Some r) = refl

firsts : (u c m n : Option ℕ) → or_else refusal.UnknownColumn u (or_else refusal.WrongCount c (or_else refusal.TypeMismatch m (or_else refusal.NullInNotNull n None)))
    ≡ first_some (option_map refusal.UnknownColumn u ∷ option_map refusal.WrongCount c ∷ option_map refusal.TypeMismatch m ∷ option_map refusal.NullInNotNull n ∷ [])
firsts (Some u) c m n = refl
firsts None (Some c) m n = refl
firsts None None (Some m) n = refl
firsts None None None (Some n) = refl
firsts None None None None = refl

typed_plain : (asked : Asked) (s : Statement) → tables_without_key asked (request_in s) ≡ [] → asked.read ≡ Ok s → typing_refusal (schemas_asked asked s) s ≡ first_some (refusals_of_typing asked)
unfolding typing_refusal
typed_plain asked s none e =
    rw (e, none, append-nil (unknown_columns (schemas_asked asked s) s))
    (firsts (leftmost (unknown_columns (schemas_asked asked s) s)) (leftmost (wrong_counts (schemas_asked asked s) s)) (leftmost (type_mismatches (schemas_asked asked s) s)) (leftmost (nulls_in_not_null (schemas_asked asked s) s)))

pub typed_is : (asked : Asked) (s : Statement) → asked.read ≡ Ok s → typed_by asked s ≡ first_some (refusals_of_typing asked)
typed_is asked (statement.Query q) e = typed_plain asked (statement.Query q) refl e
typed_is asked (statement.Dml d) e = typed_plain asked (statement.Dml d) refl e
typed_is asked (statement.Create c) e = typed_plain asked (statement.Create c) refl e
typed_is asked (statement.Clone c) e = typed_plain asked (statement.Clone c) refl e
typed_is asked (statement.Drop name) e = typed_plain asked (statement.Drop name) refl e
typed_is asked (statement.Undrop name) e = typed_plain asked (statement.Undrop name) refl e
typed_is asked (statement.Truncate name) e = typed_plain asked (statement.Truncate name) refl e
typed_is asked (statement.Alter a) e = typed_plain asked (statement.Alter a) refl e
typed_is asked statement.Begin e = typed_plain asked statement.Begin refl e
typed_is asked statement.Commit e = typed_plain asked statement.Commit refl e
typed_is asked statement.Rollback e = typed_plain asked statement.Rollback refl e
typed_is asked (statement.Wait w) e = typed_plain asked (statement.Wait w) refl e
typed_is asked (statement.Explain q) e = typed_plain asked (statement.Explain q) refl e
typed_is asked (statement.Show history) e = typed_plain asked (statement.Show history) refl e
typed_is asked statement.Metrics e = typed_plain asked statement.Metrics refl e
typed_is asked (statement.Depth name) e = rw e (one_first (without_key asked name))
