-- What is left of parts without the rows that a DELETE takes is what it builds.
use Rattle.std.proofs.Common.{◌≡◌, ◌∙◌, ℕ, List, [], ◌∷◌, ap, sym}
use Rattle.std.specs.List.{filter}
use Rattle.std.proofs.lemmas.List.Sums.{length-filter}
use Rattle.tt_value.specs.trees.Predicates.{takes}
use Rattle.tt_value.specs.trees.Scope.{table_scope}
use Rattle.tt_sql.specs.declared.change.Delete.{Delete}
use Rattle.tt_sql.specs.meaning.Changes.{Changes}
use Rattle.tt_partition.specs.Cuts.{cut, kinds_of}
use Rattle.tt_partition.specs.Table.{Table}
use Rattle.tt_plain.specs.Places.{if_there}
use Rattle.tt_plain.specs.UnknownColumns.{unknown_in_predicate}
use Rattle.tt_typer.proofs.Accepted.{well_typed}
use Rattle.tt_state.specs.declared.ticket.Seen.{Seen}
use Rattle.tt_scan.proofs.Names.{same_takes}
use Rattle.tt_rewrite.specs.declared.leaving.Left.{Left}
use Rattle.tt_rewrite.specs.Deletes.{Deletes, MayDelete, deletion, scope_of}
use Rattle.tt_rewrite.specs.Left.{AreOthers, rows_of}
use Rattle.tt_rewrite.proofs.Same.{same_others}

module _ (seen : Seen) (delete : Delete) (may : MayDelete seen delete) where
  -- each name in the filter is that of a column
  known : if_there (unknown_in_predicate (scope_of seen delete)) delete.filter ≡ []
  known = (well_typed (seen.schema ∷ []) (deletion delete) may.typed).columns

  pub deletes : (cap : ℕ) (left : Left) (added : List Table) → AreOthers (takes (table_scope seen.schema) delete.filter) seen.parts left → added ≡ cut (kinds_of seen.schema) cap left.rows → Deletes seen delete cap (record { gone = left.gone; added = added; count = left.count })
  deletes cap left added are cuts =
      let taken = takes (scope_of seen delete) delete.filter in
      let same = same_others (takes (table_scope seen.schema) delete.filter) taken (λ row. sym (same_takes delete.table seen.schema delete.filter known row)) seen.parts left are in
      let removed = filter taken (rows_of seen.parts) in
      record {
        removed = removed;
        change = ap (Changes removed []) (length-filter taken (rows_of seen.parts) ∙ sym same.count);
        gone = same.gone;
        added = cuts ∙ ap (cut (kinds_of seen.schema) cap) same.rows;
      }
