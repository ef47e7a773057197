-- What was built for an INSERT over what its ticket holds is what it means over what its statement sees.
use Rattle.std.specs.Prelude.{List, None, Ok, Option, Some, [], map, option_map, option_to_list, refl, ℕ, ◌++◌, ◌∷◌, ◌≡◌}
use Rattle.std.proofs.Common.{ap, subst, sym, ◌∙◌}
use Rattle.tt_value.specs.declared.value.Row.{Row}
use Rattle.tt_value.specs.declared.value.Value.{Value}
use Rattle.tt_sql.specs.declared.change.Dml.TheVariants as dml
use Rattle.tt_sql.specs.declared.change.Insert.{Insert}
use Rattle.tt_sql.specs.declared.change.InsertSource.{InsertSource}
use Rattle.tt_sql.specs.declared.change.InsertSource.TheVariants as source
use Rattle.tt_sql.specs.declared.statement.Statement.TheVariants as tree
use Rattle.tt_sql.specs.meaning.Changes.{BadData, Changed, Changes, NullInRow, OutOfRange, adds, insert_change, inserted_values, stored_row}
use Rattle.tt_sql.specs.meaning.Scopes.{query_scope}
use Rattle.tt_history.specs.declared.reply.Refusal.TheVariants as refusal
use Rattle.tt_partition.specs.Cuts.{cut, kinds_of}
use Rattle.tt_plain.specs.TypeMismatches.{misfit_in_query, misfit_in_source}
use Rattle.tt_plain.specs.TypingRefusal.{typing_refusal}
use Rattle.tt_plain.specs.history.Contents.{added_by_outcome}
use Rattle.tt_plain.specs.meaning.Outcome.{Outcome, change_outcome, change_seen, outcome_of, rows_read, schemas_read}
use Rattle.tt_change.specs.Builds.{PutsIn}
use Rattle.tt_query.specs.Answer.{rows_of_first}
use Rattle.tt_state.specs.Chronicle.{Chronicle, store_of}
use Rattle.tt_state.specs.Held.{schemas_held}
use Rattle.tt_state.specs.declared.ticket.Built.{Built}
use Rattle.tt_state.specs.declared.ticket.Seen.{Seen}
use Rattle.tt_state.specs.declared.ticket.Ticket.{Ticket}
use Rattle.tt_catalog.specs.Changes.{IsBuiltFor, change_asked}
use Rattle.tt_catalog.specs.Ends.{IsFailed}
use Rattle.tt_catalog.specs.Tickets.{IsTicketOf, schemas_of}
use Rattle.tt_typer.proofs.Accepted.{well_typed}
use Rattle.tt_ticket_laws.specs.Seen.{FailsAs}
use Rattle.tt_ticket_laws.proofs.Read.{same_answer}
use Rattle.tt_ticket_laws.proofs.Targets.{means}

none_first : (xs ys : List ℕ) → xs ++ ys ≡ [] → xs ≡ []
none_first [] ys e = refl
none_first (x ∷ xs) ys e = cc

module _ (chronicle : Chronicle) (ticket : Ticket) (insert : Insert) (held : Seen) (target : ticket.target ≡ Some held) (is : IsTicketOf chronicle ticket (tree.Dml (dml.Insert insert)))
    (typed : typing_refusal (schemas_of ticket) (tree.Dml (dml.Insert insert)) ≡ None) where
  fits : misfit_in_source held.schema insert.columns (schemas_held ticket.sources) insert.source ≡ []
  fits =
      (well_typed (held.schema ∷ schemas_held ticket.sources) (tree.Dml (dml.Insert insert))
      (subst (λ (t : Option Seen). typing_refusal (schemas_held (option_to_list t ++ ticket.sources)) (tree.Dml (dml.Insert insert)) ≡ None) target typed)).kinds

  same_values : (s : InsertSource) → misfit_in_source held.schema insert.columns (schemas_held ticket.sources) s ≡ [] → inserted_values (schemas_read (store_of chronicle) is.seen.sources) (rows_read is.seen.sources) s ≡ inserted_values (schemas_held ticket.sources) (rows_of_first ticket.sources) s
  same_values (source.Values tuples) none = refl
  same_values (source.Query q) none =
      ap (λ (o : Option (List Row)). option_map (map (λ (row : Row). row.values)) o)
      (same_answer chronicle _ is.seen.sources ticket.sources q is.pinned is.bags (none_first (misfit_in_query (query_scope (schemas_held ticket.sources) q) q) _ none))

  pub same_change : insert_change held.schema (schemas_read (store_of chronicle) is.seen.sources) (rows_read is.seen.sources) insert ≡ insert_change held.schema (schemas_held ticket.sources) (rows_of_first ticket.sources) insert
  same_change = ap (λ (o : Option (List (List Value))). adds held.schema (option_map (map (stored_row held.schema insert.columns)) o)) (same_values insert.source fits)

  outcome_is : (c : Changed) → insert_change held.schema (schemas_held ticket.sources) (rows_of_first ticket.sources) insert ≡ c → outcome_of (change_asked chronicle ticket (dml.Insert insert)) is.seen ≡ Some (change_outcome held.table c)
  unfolding change_seen
  outcome_is c e = means chronicle ticket (dml.Insert insert) held target is ∙ ap (λ (c : Changed). Some (change_outcome held.table c)) (same_change ∙ e)

  pub inserted : (b : Built) → PutsIn (insert_change held.schema (schemas_held ticket.sources) (rows_of_first ticket.sources) insert) (kinds_of held.schema) chronicle.cap b → IsBuiltFor chronicle ticket (dml.Insert insert) b
  inserted b puts =
      let outcome = outcome_is (Changes [] puts.rows b.count) puts.change in
      record {
        is_ticket = is;
        held = held;
        target = target;
        removed = [];
        added = puts.rows;
        outcome = outcome;
        gone = puts.gone;
        parts = puts.added ∙ ap (λ (o : Option Outcome). cut (kinds_of held.schema) chronicle.cap (added_by_outcome o)) (sym outcome);
      }

  out_of_range : insert_change held.schema (schemas_held ticket.sources) (rows_of_first ticket.sources) insert ≡ OutOfRange → IsFailed chronicle ticket refusal.OutOfRange
  out_of_range e = record { read = Ok (tree.Dml (dml.Insert insert)); seen = is.seen; is_open = is.is_open; outcome = outcome_is OutOfRange e }

  has_null : (column : ℕ) → insert_change held.schema (schemas_held ticket.sources) (rows_of_first ticket.sources) insert ≡ NullInRow column → IsFailed chronicle ticket (refusal.NullInRow column)
  has_null column e = record { read = Ok (tree.Dml (dml.Insert insert)); seen = is.seen; is_open = is.is_open; outcome = outcome_is (NullInRow column) e }

  fails : (c : Changed) → insert_change held.schema (schemas_held ticket.sources) (rows_of_first ticket.sources) insert ≡ c → FailsAs chronicle ticket c
  fails (Changes removed added count) e = tt
  fails (BadData number column) e = tt
  fails OutOfRange e = out_of_range e
  fails (NullInRow column) e = has_null column e

  pub failed : FailsAs chronicle ticket (insert_change held.schema (schemas_held ticket.sources) (rows_of_first ticket.sources) insert)
  failed = fails (insert_change held.schema (schemas_held ticket.sources) (rows_of_first ticket.sources) insert) refl
