-- What was built for an UPDATE or a DELETE over the parts that its ticket holds is what it means over what its statement sees.
use Rattle.std.specs.Prelude.{Bool, List, Some, [], flat_map, ℕ, ◌≡◌}
use Rattle.std.proofs.Common.{ap, subst, sym, ◌∙◌}
use Rattle.tt_value.specs.declared.value.Row.{Row}
use Rattle.tt_value.specs.trees.Predicates.{takes}
use Rattle.tt_sql.specs.declared.change.Delete.{Delete}
use Rattle.tt_sql.specs.declared.change.Dml.TheVariants as dml
use Rattle.tt_sql.specs.declared.statement.Statement.TheVariants as tree
use Rattle.tt_sql.specs.meaning.Changes.{Changed, Changes, delete_change}
use Rattle.tt_sql.specs.meaning.Scopes.{target_scope}
use Rattle.tt_partition.specs.Cuts.{cut, kinds_of}
use Rattle.tt_plain.specs.history.Contents.{row_deleted, rows_of_parts}
use Rattle.tt_plain.specs.meaning.Outcome.{change_outcome, change_seen}
use Rattle.tt_query_laws.proofs.Changes.{delete_alike}
use Rattle.tt_query_laws.specs.Changes.{AreAlike}
use Rattle.tt_rewrite.specs.Deletes.{Deletes}
use Rattle.tt_state.specs.Chronicle.{Chronicle, rows_of as contents_now}
use Rattle.tt_state.specs.Held.{rows_held}
use Rattle.tt_state.specs.declared.ticket.Built.{Built}
use Rattle.tt_state.specs.declared.ticket.Seen.{Seen}
use Rattle.tt_state.specs.declared.ticket.Ticket.{Ticket}
use Rattle.tt_catalog.specs.Changes.{IsBuiltFor}
use Rattle.tt_catalog.specs.Tickets.{IsTicketOf}
use Rattle.tt_ticket_laws.proofs.Targets.{gone_is, means, rows_are, same_bag, target_seen}

-- a change that is alike a count has this count
pub counted : (a b : Changed) (removed added : List Row) (count : ℕ) → a ≡ Changes removed added count → AreAlike a b → AreAlike (Changes removed added count) b
counted a b removed added count e alike = subst (λ c. AreAlike c b) e alike

module _ (chronicle : Chronicle) (ticket : Ticket) (delete : Delete) (held : Seen) (target : ticket.target ≡ Some held) (is : IsTicketOf chronicle ticket (tree.Dml (dml.Delete delete))) (b : Built) (deletes : Deletes held delete chronicle.cap b) where
  abbrev test : Row → Bool
  test = takes (target_scope delete.table held.schema) delete.filter

  abbrev rows : List Row
  rows = (target_seen chronicle ticket (dml.Delete delete) held target is).0.1

  alike : AreAlike (Changes deletes.removed [] b.count) (delete_change held.schema rows delete)
  alike =
      counted (delete_change held.schema (rows_held held) delete) (delete_change held.schema rows delete) deletes.removed [] b.count deletes.change
      (delete_alike held.schema (rows_held held) rows delete (same_bag chronicle ticket (dml.Delete delete) held target is is.pinned is.bags))

  pub deleted : IsBuiltFor chronicle ticket (dml.Delete delete) b
  unfolding change_seen
  deleted = record {
    is_ticket = is;
    held = held;
    target = target;
    removed = alike.0;
    added = alike.1;
    outcome = means chronicle ticket (dml.Delete delete) held target is ∙ ap (λ (c : Changed). Some (change_outcome held.table c)) alike.2;
    gone = deletes.gone ∙ gone_is chronicle ticket (dml.Delete delete) held target is is.pinned is.bags test;
    parts =
        deletes.added
        ∙ ap (λ (rs : List Row). cut (kinds_of held.schema) chronicle.cap (flat_map (row_deleted (target_scope delete.table held.schema) delete) rs))
        (rows_are chronicle ticket (dml.Delete delete) held target is is.pinned is.bags test ∙ ap (λ numbers. rows_of_parts (contents_now chronicle) numbers) (sym deletes.gone));
  }
