-- What is held of the table that a statement reads from is what the statement sees of it.
use Rattle.std.specs.List.{AllZip, cons_option}
use Rattle.std.specs.Prelude.{List, Option, Some, [], refl, ℕ, ◌∷◌, ◌≡◌}
use Rattle.std.proofs.Common.{ap, sym, ◌∙◌}
use Rattle.tt_value.specs.declared.value.Row.{Row}
use Rattle.tt_value.specs.declared.value.Schema.{Schema}
use Rattle.tt_value.specs.values.Bags.{bag_of}
use Rattle.tt_sql.specs.declared.query.Query.{Query}
use Rattle.tt_sql.specs.meaning.Queries.{answer_of}
use Rattle.tt_sql.specs.meaning.Scopes.{query_scope}
use Rattle.tt_plain.specs.TypeMismatches.{misfit_in_query}
use Rattle.tt_plain.specs.declared.store.Plain.{Plain}
use Rattle.tt_plain.specs.declared.tally.TallyPin.{TallyPin}
use Rattle.tt_plain.specs.meaning.Outcome.{rows_read, schema_numbered, schemas_read}
use Rattle.tt_query.specs.Answer.{answer_held, rows_of_first}
use Rattle.tt_query_laws.proofs.Bags.{rearranged_bag}
use Rattle.tt_query_laws.proofs.Groups.{answer_same}
use Rattle.tt_state.specs.Chronicle.{Chronicle, store_of}
use Rattle.tt_state.specs.Held.{schemas_held}
use Rattle.tt_state.specs.declared.ticket.Seen.{Seen}
use Rattle.tt_catalog.specs.Tickets.{IsHeld, StandsForRows}
use Rattle.tt_ticket_laws.proofs.Targets.{bag_twice}

module _ (chronicle : Chronicle) where
  abbrev store : Plain
  store = store_of chronicle

  pub same_schemas : (pins : List TallyPin) (seen : List (ℕ × List Row)) (sources : List Seen) → AllZip (IsHeld chronicle) pins sources → AllZip StandsForRows seen sources → schemas_read (store_of chronicle) seen ≡ schemas_held sources
  same_schemas [] [] [] held stands = refl
  same_schemas [] (s ∷ seen) [] held stands = absurd stands
  same_schemas (pin ∷ pins) seen [] held stands = absurd held
  same_schemas [] seen (source ∷ sources) held stands = absurd held
  same_schemas (pin ∷ pins) [] (source ∷ sources) held stands = absurd stands
  same_schemas (pin ∷ pins) (s ∷ seen) (source ∷ sources) held stands =
      by (schema_numbered store s.0) (ap (λ n. schema_numbered store n) (sym stands.0.0 ∙ held.0.table) ∙ held.0.schema) (same_schemas pins seen sources held.1 stands.1)
    where
      by : (o : Option Schema) → o ≡ Some source.schema → schemas_read store seen ≡ schemas_held sources → cons_option o (schemas_read store seen) ≡ source.schema ∷ schemas_held sources
      by o e f = rw e (ap (λ schemas. source.schema ∷ schemas) f)

  pub same_rows : (seen : List (ℕ × List Row)) (sources : List Seen) → AllZip StandsForRows seen sources → bag_of (rows_of_first sources) ≡ bag_of (rows_read seen)
  same_rows [] [] stands = refl
  same_rows [] (source ∷ sources) stands = absurd stands
  same_rows (s ∷ seen) [] stands = absurd stands
  same_rows (s ∷ seen) (source ∷ sources) stands = bag_twice (rows_of_first (source ∷ sources)) s.1 stands.0.1

  -- the answer over the one is that over the other
  pub same_answer : (pins : List TallyPin) (seen : List (ℕ × List Row)) (sources : List Seen) (q : Query) → AllZip (IsHeld chronicle) pins sources → AllZip StandsForRows seen sources
      → misfit_in_query (query_scope (schemas_held sources) q) q ≡ [] → answer_of (query_scope (schemas_read (store_of chronicle) seen) q) q (rows_read seen) ≡ answer_held sources q
  same_answer pins seen sources q held stands fits =
      ap (λ schemas. answer_of (query_scope schemas q) q (rows_read seen)) (same_schemas pins seen sources held stands)
      ∙ sym (answer_same (query_scope (schemas_held sources) q) q (rows_of_first sources) (rows_read seen) fits (rearranged_bag (rows_of_first sources) (rows_read seen) (same_rows seen sources stands)))
