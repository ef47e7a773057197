-- The answer over what a ticket holds is that over what its statement sees.
use Rattle.std.specs.List.{AllByRecursion, AllZip}
use Rattle.std.specs.Prelude.{List, None, Ok, Option, Result, Some, [], flat_map, length, map, refl, true, ℕ, ◌∷◌, ◌≡◌}
use Rattle.std.proofs.Common.{ap, subst, sym, ◌∙◌}
use Rattle.std.proofs.lemmas.Option.{none-some, same_Some}
use Rattle.tt_value.specs.declared.value.Row.{Row}
use Rattle.tt_value.specs.declared.value.Schema.{Schema}
use Rattle.tt_value.specs.values.Bags.{bag_of}
use Rattle.tt_sql.specs.declared.query.Query.{Query}
use Rattle.tt_sql.specs.declared.statement.Statement.{Statement}
use Rattle.tt_sql.specs.meaning.Queries.{answer_of}
use Rattle.tt_sql.specs.meaning.Scopes.{query_scope}
use Rattle.tt_partition.specs.Cuts.{kinds_of}
use Rattle.tt_partition.specs.Table.{Table}
use Rattle.tt_plain.specs.asked.Asked.{Asked}
use Rattle.tt_plain.specs.asked.Turns.{asked_with}
use Rattle.tt_plain.specs.declared.store.Plain.{Plain}
use Rattle.tt_plain.specs.declared.store.PlainOpen.{PlainOpen}
use Rattle.tt_plain.specs.declared.tally.TallyPin.{TallyPin}
use Rattle.tt_plain.specs.meaning.Outcome.{answer_seen, rows_read as rows_seen, schemas_read}
use Rattle.tt_built.specs.Built.{is_plain_query}
use Rattle.tt_state.specs.Chronicle.{Chronicle, IsOpenRead, store_of}
use Rattle.tt_state.specs.declared.ticket.Seen.{Seen}
use Rattle.tt_state.specs.declared.ticket.Ticket.{Ticket}
use Rattle.tt_catalog.specs.Ends.{IsAnswered}
use Rattle.tt_state.specs.Held.{rows_held, schemas_held}
use Rattle.tt_catalog.specs.Tickets.{IsHeld, IsTicketOf, StandsForRows, part_of}
use Rattle.tt_query.specs.Answer.{IsOverOneTable, answer_held, rows_of_first}
use Rattle.tt_scan.specs.Held.{IsOfItsSchema}
use Rattle.tt_sql.specs.declared.statement.Statement.TheVariants as tree
use Rattle.tt_query.proofs.Whole.{is_whole, knows_names, same_answer, whole_answer}
use Rattle.tt_run.specs.Started.{IsReading}

-- ---- what a ticket holds

of_kinds : (chronicle : Chronicle) (schema : Schema) (numbers : List ℕ) → AllByRecursion (λ (part : ℕ × Table). part.1.kinds ≡ kinds_of schema) (map (part_of chronicle schema) numbers)
of_kinds chronicle schema [] = tt
of_kinds chronicle schema (number ∷ numbers) = (refl, of_kinds chronicle schema numbers)

pub held_fits : (chronicle : Chronicle) (pins : List TallyPin) (sources : List Seen) → AllZip (IsHeld chronicle) pins sources → AllByRecursion IsOfItsSchema sources
held_fits chronicle [] [] held = tt
held_fits chronicle [] (seen ∷ sources) held = absurd held
held_fits chronicle (pin ∷ pins) [] held = absurd held
held_fits chronicle (pin ∷ pins) (seen ∷ sources) held = (
  subst (AllByRecursion (λ (part : ℕ × Table). part.1.kinds ≡ kinds_of seen.schema)) (sym held.0.parts) (of_kinds chronicle seen.schema pin.parts),
  held_fits chronicle pins sources held.1,
)

-- a ticket that holds one table is enough for its query
pub is_over : (chronicle : Chronicle) (ticket : Ticket) (query : Query) (held : Seen) → is_plain_query query ≡ true → IsTicketOf chronicle ticket (tree.Query query) → ticket.sources ≡ held ∷ [] → IsReading ticket query
is_over chronicle ticket query held plain is one = record {
  plain = plain;
  over = record {
    joins = (is_whole query plain).joins_are;
    one = ap (λ (seen : List Seen). length seen) one;
    parts = held_fits chronicle _ ticket.sources is.pinned;
    names = knows_names (query_scope (schemas_held ticket.sources) query) query (is_whole query plain);
  };
}

-- ---- its answer

-- the answer is never out of range
pub in_range : (ticket : Ticket) (query : Query) → IsReading ticket query → answer_held ticket.sources query ≡ None → ⊥
in_range ticket query reads none =
    none-some (bag_of (rows_of_first ticket.sources)) (sym none ∙ whole_answer (query_scope (schemas_held ticket.sources) query) query (rows_of_first ticket.sources) (is_whole query reads.plain))

same_rows : (seen : List (ℕ × List Row)) (sources : List Seen) → AllZip StandsForRows seen sources → bag_of (rows_of_first sources) ≡ rows_seen seen
same_rows [] [] stands = refl
same_rows [] (held ∷ sources) stands = absurd stands
same_rows (s ∷ seen) [] stands = absurd stands
same_rows (s ∷ seen) (held ∷ sources) stands = stands.0.1

pub is_answered : (chronicle : Chronicle) (ticket : Ticket) (query : Query) (rows : List Row) → IsReading ticket query → IsTicketOf chronicle ticket (tree.Query query) → answer_held ticket.sources query ≡ Some rows → IsAnswered chronicle ticket rows
unfolding answer_seen
is_answered chronicle ticket query rows reads is answer = record {
  query = query;
  seen = is.seen;
  is_open = is.is_open;
  answer =
      same_answer (query_scope (schemas_held ticket.sources) query) (query_scope (schemas_read (store_of chronicle) is.seen.sources) query) query (rows_of_first ticket.sources) (rows_seen is.seen.sources) (is_whole query reads.plain)
      (same_rows is.seen.sources ticket.sources is.bags)
      ∙ answer;
}

-- and there is one answer
query_or : Query → Result Statement ℕ → Query
query_or other (Ok (tree.Query query)) = query
query_or other _ = other

pub same_answers : (chronicle : Chronicle) (ticket : Ticket) (a b : List Row) → IsAnswered chronicle ticket a → IsAnswered chronicle ticket b → a ≡ b
unfolding query_or
same_answers chronicle ticket a b first second =
    let same = same_Some _ _ (sym first.is_open ∙ second.is_open) in
    same_Some a b
    (sym first.answer ∙ ap (λ (found : Asked × PlainOpen). answer_seen (store_of chronicle) found.1 (query_or second.query found.0.read)) same ∙ second.answer)
