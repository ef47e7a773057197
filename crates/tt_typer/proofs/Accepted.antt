-- Where there is no refusal there is no place.
use Rattle.std.proofs.Common.{◌≡◌, ℕ, List, [], ◌∷◌, Option, Some, None, is_some, refl, ap, sym}
use Rattle.tt_value.specs.declared.value.Schema.{Schema}
use Rattle.tt_sql.specs.declared.statement.Statement.{Statement}
use Rattle.tt_history.specs.declared.reply.Refusal.{Refusal}
use Rattle.tt_history.specs.declared.reply.Refusal.TheVariants.{UnknownColumn, WrongCount, TypeMismatch, NullInNotNull}
use Rattle.tt_plain.specs.Places.{earlier, leftmost}
use Rattle.tt_plain.specs.UnknownColumns.{unknown_columns}
use Rattle.tt_plain.specs.WrongCounts.{wrong_counts}
use Rattle.tt_plain.specs.TypeMismatches.{type_mismatches}
use Rattle.tt_plain.specs.NullsInNotNull.{nulls_in_not_null}
use Rattle.tt_plain.specs.TypingRefusal.{or_else, typing_refusal, IsWellTyped}
use Rattle.tt_typer.proofs.PartLaws.{false_true}

some_none : {A : Type 0} (x : A) → Some x ≡ None → ⊥
some_none x is = false_true (sym (ap is_some is))

found_none : (x : ℕ) (o : Option ℕ) → earlier (Some x) o ≡ None → ⊥
found_none x None is = some_none x is
found_none x (Some y) is = false_true (sym (ap is_some is))

no_place : (places : List ℕ) → leftmost places ≡ None → places ≡ []
no_place [] is = refl
no_place (place ∷ places) is = absurd (found_none place (leftmost places) is)

none_of_both : (refusal : ℕ → Refusal) (o : Option ℕ) (other : Option Refusal) → or_else refusal o other ≡ None → (o ≡ None) × (other ≡ None)
none_of_both refusal None other is = (refl, is)
none_of_both refusal (Some place) other is = absurd (false_true (sym (ap is_some is)))

pub well_typed : (schemas : List Schema) (s : Statement) → typing_refusal schemas s ≡ None → IsWellTyped schemas s
unfolding typing_refusal
well_typed schemas s is =
    let nulls = or_else NullInNotNull (leftmost (nulls_in_not_null schemas s)) None in
    let kinds = or_else TypeMismatch (leftmost (type_mismatches schemas s)) nulls in
    let counts = or_else WrongCount (leftmost (wrong_counts schemas s)) kinds in
    let first = none_of_both UnknownColumn (leftmost (unknown_columns schemas s)) counts is in
    let second = none_of_both WrongCount (leftmost (wrong_counts schemas s)) kinds first.1 in
    let third = none_of_both TypeMismatch (leftmost (type_mismatches schemas s)) nulls second.1 in
    let last = none_of_both NullInNotNull (leftmost (nulls_in_not_null schemas s)) None third.1 in
    record {
      columns = no_place (unknown_columns schemas s) first.0;
      counts = no_place (wrong_counts schemas s) second.0;
      kinds = no_place (type_mismatches schemas s) third.0;
      nulls = no_place (nulls_in_not_null schemas s) last.0;
    }
