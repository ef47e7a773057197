-- What was built for an UPDATE over the parts that its ticket holds is what it means over what its statement sees, and so is why it is
-- refused.
use Rattle.std.specs.Prelude.{Bool, List, Ok, Some, flat_map, refl, ℕ, ◌≡◌}
use Rattle.std.proofs.Common.{ap, subst, sym, ◌∙◌}
use Rattle.tt_value.specs.declared.value.Row.{Row}
use Rattle.tt_value.specs.trees.Predicates.{takes}
use Rattle.tt_sql.specs.declared.change.Dml.TheVariants as dml
use Rattle.tt_sql.specs.declared.change.Update.{Update}
use Rattle.tt_sql.specs.declared.statement.Statement.TheVariants as tree
use Rattle.tt_sql.specs.meaning.Changes.{BadData, Changed, Changes, NullInRow, OutOfRange, update_change}
use Rattle.tt_sql.specs.meaning.Scopes.{target_scope}
use Rattle.tt_history.specs.declared.reply.Refusal.TheVariants as refusal
use Rattle.tt_partition.specs.Cuts.{cut, kinds_of}
use Rattle.tt_plain.specs.history.Contents.{row_updated, rows_of_parts}
use Rattle.tt_plain.specs.meaning.Outcome.{change_outcome, change_seen, outcome_of}
use Rattle.tt_query_laws.proofs.Changes.{update_alike}
use Rattle.tt_query_laws.specs.Changes.{AreAlike}
use Rattle.tt_rewrite.specs.Updates.{Updates}
use Rattle.tt_state.specs.Chronicle.{Chronicle, rows_of as contents_now}
use Rattle.tt_state.specs.Held.{rows_held}
use Rattle.tt_state.specs.declared.ticket.Built.{Built}
use Rattle.tt_state.specs.declared.ticket.Seen.{Seen}
use Rattle.tt_state.specs.declared.ticket.Ticket.{Ticket}
use Rattle.tt_catalog.specs.Changes.{IsBuiltFor, change_asked}
use Rattle.tt_catalog.specs.Ends.{IsFailed}
use Rattle.tt_catalog.specs.Tickets.{IsTicketOf}
use Rattle.tt_ticket_laws.specs.Seen.{FailsAs}
use Rattle.tt_ticket_laws.proofs.Replaced.{counted}
use Rattle.tt_ticket_laws.proofs.Targets.{gone_is, means, rows_are, same_bag, target_seen}

module _ (chronicle : Chronicle) (ticket : Ticket) (update : Update) (held : Seen) (target : ticket.target ≡ Some held) (is : IsTicketOf chronicle ticket (tree.Dml (dml.Update update))) where
  abbrev rows : List Row
  rows = (target_seen chronicle ticket (dml.Update update) held target is).0.1

  alike : AreAlike (update_change held.schema (rows_held held) update) (update_change held.schema rows update)
  alike = update_alike held.schema (rows_held held) rows update (same_bag chronicle ticket (dml.Update update) held target is is.pinned is.bags)

  outcome_is : (c : Changed) → update_change held.schema rows update ≡ c → outcome_of (change_asked chronicle ticket (dml.Update update)) is.seen ≡ Some (change_outcome held.table c)
  unfolding change_seen
  outcome_is c e = means chronicle ticket (dml.Update update) held target is ∙ ap (λ (c : Changed). Some (change_outcome held.table c)) e

  -- ---- it is carried out

  module _ (b : Built) (updates : Updates held update chronicle.cap b) where
    abbrev test : Row → Bool
    test = takes (target_scope update.table held.schema) update.filter

    does : AreAlike (Changes updates.removed updates.added b.count) (update_change held.schema rows update)
    does = counted (update_change held.schema (rows_held held) update) (update_change held.schema rows update) updates.removed updates.added b.count updates.change alike

    pub updated : IsBuiltFor chronicle ticket (dml.Update update) b
    updated = record {
      is_ticket = is;
      held = held;
      target = target;
      removed = does.0;
      added = does.1;
      outcome = outcome_is (Changes does.0 does.1 b.count) does.2;
      gone = updates.gone ∙ gone_is chronicle ticket (dml.Update update) held target is is.pinned is.bags test;
      parts =
          updates.parts
          ∙ ap (λ (rs : List Row). cut (kinds_of held.schema) chronicle.cap (flat_map (row_updated (target_scope update.table held.schema) update) rs))
          (rows_are chronicle ticket (dml.Update update) held target is is.pinned is.bags test ∙ ap (λ numbers. rows_of_parts (contents_now chronicle) numbers) (sym updates.gone));
    }

  -- ---- it is refused

  out_of_range : update_change held.schema (rows_held held) update ≡ OutOfRange → IsFailed chronicle ticket refusal.OutOfRange
  out_of_range e = record {
    read = Ok (tree.Dml (dml.Update update));
    seen = is.seen;
    is_open = is.is_open;
    outcome = outcome_is OutOfRange (subst (λ c. AreAlike c (update_change held.schema rows update)) e alike);
  }

  has_null : (column : ℕ) → update_change held.schema (rows_held held) update ≡ NullInRow column → IsFailed chronicle ticket (refusal.NullInRow column)
  has_null column e = record {
    read = Ok (tree.Dml (dml.Update update));
    seen = is.seen;
    is_open = is.is_open;
    outcome = outcome_is (NullInRow column) (subst (λ c. AreAlike c (update_change held.schema rows update)) e alike);
  }

  fails : (c : Changed) → update_change held.schema (rows_held held) update ≡ c → FailsAs chronicle ticket c
  fails (Changes removed added count) e = tt
  fails (BadData number column) e = tt
  fails OutOfRange e = out_of_range e
  fails (NullInRow column) e = has_null column e

  pub failed : FailsAs chronicle ticket (update_change held.schema (rows_held held) update)
  failed = fails (update_change held.schema (rows_held held) update) refl
