-- What is renewed of the parts is what an UPDATE builds.
use Rattle.std.proofs.Common.{◌≡◌, ◌∙◌, ◌<◌, ℕ, Bool, List, [], ◌∷◌, length, map, Option, Some, None, ap, sym, subst, arith}
use Rattle.std.specs.Prelude.{IfSome, if◌then◌else◌}
use Rattle.std.specs.List.{filter}
use Rattle.std.specs.Option.{option_to_list}
use Rattle.std.proofs.lemmas.List.Sums.{length-filter}
use Rattle.tt_value.specs.declared.value.Row.{Row}
use Rattle.tt_value.specs.trees.Predicates.{takes}
use Rattle.tt_value.specs.trees.Scope.{Scope, table_scope}
use Rattle.tt_sql.specs.declared.change.Set.{Set}
use Rattle.tt_sql.specs.declared.change.Update.{Update}
use Rattle.tt_sql.specs.meaning.Changes.{Changes, NullInRow, OutOfRange, first_missing, replaces, stores, updated_row}
use Rattle.tt_sql.specs.meaning.Queries.{all_some}
use Rattle.tt_plain.specs.Places.{each, if_there}
use Rattle.tt_plain.specs.UnknownColumns.{unknown_in_predicate, unknown_in_set}
use Rattle.tt_typer.proofs.Accepted.{well_typed}
use Rattle.tt_typer.proofs.KindLaws.{nil_parts}
use Rattle.tt_partition.specs.Cuts.{cut, kinds_of}
use Rattle.tt_state.specs.declared.ticket.Built.{Built}
use Rattle.tt_state.specs.declared.ticket.Seen.{Seen}
use Rattle.tt_scan.proofs.Names.{same_takes}
use Rattle.tt_rewrite.specs.declared.error.UpdateError.{UpdateError}
use Rattle.tt_rewrite.specs.declared.error.UpdateError.TheVariants as failed
use Rattle.tt_rewrite.specs.declared.renewing.Renewed.{Renewed}
use Rattle.tt_rewrite.specs.Left.{rows_of}
use Rattle.tt_rewrite.specs.Renewed.{AreRenewed, AreRenewedIf, in_place, new_rows}
use Rattle.tt_rewrite.specs.Updates.{IsBuiltOf, IsMissing, MayUpdate, RefusedAs, Updates, change_of, scope_of, updating}
use Rattle.tt_rewrite.proofs.FirstMissing.{first_below}
use Rattle.tt_rewrite.proofs.Same.{same_filter, same_left}

module _ (seen : Seen) (update : Update) (may : MayUpdate seen update) where
  -- each name in the filter is that of a column
  known : if_there (unknown_in_predicate (scope_of seen update)) update.filter ≡ []
  known =
      (nil_parts (each (unknown_in_set update.table seen.schema) update.sets) (if_there (unknown_in_predicate (scope_of seen update)) update.filter)
      (well_typed (seen.schema ∷ []) (updating update) may.typed).columns).1

  abbrev by_table : Row → Bool
  by_table = takes (table_scope seen.schema) update.filter

  abbrev taken : Row → Bool
  taken = takes (scope_of seen update) update.filter

  same : (row : Row) → by_table row ≡ taken row
  same row = sym (same_takes update.table seen.schema update.filter known row)

  abbrev made : Row → Option Row
  made = updated_row (scope_of seen update) update.sets

  abbrev rows : List Row
  rows = rows_of seen.parts

  abbrev removed : List Row
  removed = filter taken rows

  same_new : new_rows taken made rows ≡ new_rows by_table made rows
  same_new = ap (λ rs. all_some (map made rs)) (sym (same_filter by_table taken same rows))

  -- what is found by other words for the same scope and the same SETs
  pub same_made : (scope : Scope) (sets : List Set) → scope ≡ scope_of seen update → sets ≡ update.sets → updated_row scope sets ≡ made
  same_made scope sets e f = ap (λ s. updated_row s sets) e ∙ ap (updated_row (scope_of seen update)) f

  pub are_given : (becomes : Row → Option Row) (found : Option Renewed) (renewed : Renewed) → becomes ≡ made → found ≡ Some renewed → AreRenewedIf by_table becomes seen.schema seen.parts found → AreRenewed by_table made seen.schema seen.parts renewed
  are_given becomes found renewed e is are = subst (λ f. AreRenewedIf by_table f seen.schema seen.parts (Some renewed)) e (subst (AreRenewedIf by_table becomes seen.schema seen.parts) is are)

  out_of_range : new_rows by_table made rows ≡ None → change_of seen update ≡ OutOfRange
  out_of_range out = ap (replaces seen.schema removed) (same_new ∙ out)

  pub none_given : (becomes : Row → Option Row) (found : Option Renewed) → becomes ≡ made → found ≡ None → AreRenewedIf by_table becomes seen.schema seen.parts found → change_of seen update ≡ OutOfRange
  none_given becomes found e is are = out_of_range (subst (λ f. AreRenewedIf by_table f seen.schema seen.parts None) e (subst (AreRenewedIf by_table becomes seen.schema seen.parts) is are))

  module _ (renewed : Renewed) (are : AreRenewed by_table made seen.schema seen.parts renewed) where
    stored : (missing : Option ℕ) → renewed.missing ≡ missing → change_of seen update ≡ stores removed are.given (length removed) missing
    stored missing is = ap (replaces seen.schema removed) (same_new ∙ are.all) ∙ ap (stores removed are.given (length removed)) (sym are.missing ∙ is)

    within_by : (missing : Option ℕ) → first_missing seen.schema are.given ≡ missing → IfSome missing (λ place. place < 32)
    within_by None is = tt
    within_by (Some place) is = let below = first_below seen.schema are.given place is in omega (arith, below, may.columns.1)

    pub within : IfSome renewed.missing (λ place. place < 32)
    within = within_by renewed.missing (sym are.missing)

    pub refused : (error : UpdateError) → IsMissing renewed.missing error → RefusedAs (change_of seen update) error
    refused failed.OutOfRange is = absurd is
    refused (failed.NullInRow column) is = stored (Some is.0) is.1 ∙ ap NullInRow (sym is.2)
    refused failed.Memory is = tt

    in_same_place : (row : Row) → in_place by_table made row ≡ in_place taken made row
    in_same_place row = ap (λ (b : Bool). if b then option_to_list (made row) else row ∷ []) (same row)

    pub updates : (cap : ℕ) (built : Built) → IsBuiltOf seen.schema renewed cap built → Updates seen update cap built
    updates cap built is =
        let left = same_left by_table taken same (in_place by_table made) (in_place taken made) in_same_place seen.parts renewed.left are.left in
        record {
          removed = removed;
          added = are.given;
          change = stored None is.none ∙ ap (Changes removed are.given) (length-filter taken rows ∙ sym left.count ∙ sym is.count);
          gone = is.gone ∙ left.gone;
          parts = is.added ∙ ap (cut (kinds_of seen.schema) cap) left.rows;
        }
