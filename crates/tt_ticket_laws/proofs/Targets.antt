-- What an open change means for its target, and what an UPDATE or a DELETE holds of it.
use Rattle.std.specs.List.{AllZip}
use Rattle.std.specs.Prelude.{Bool, List, None, Option, Some, filter, option_to_list, refl, [], ℕ, ◌∷◌, ◌≡◌}
use Rattle.std.proofs.Common.{ap, subst, sym, ◌∙◌}
use Rattle.std.proofs.lemmas.Option.{none-some, same_Some}
use Rattle.tt_value.specs.declared.value.Row.{Row}
use Rattle.tt_value.specs.declared.value.Schema.{Schema}
use Rattle.tt_value.specs.values.Bags.{bag_of}
use Rattle.tt_value.proofs.values.Bags.{IsBag-bag_of, bag_of-bag}
use Rattle.tt_sql.specs.declared.change.Dml.{Dml}
use Rattle.tt_sql.specs.declared.statement.Statement.{Statement}
use Rattle.tt_sql.specs.declared.statement.Statement.TheVariants as tree
use Rattle.tt_partition.specs.Table.{Table}
use Rattle.tt_plain.specs.Answers.{◌>>=◌}
use Rattle.tt_plain.specs.declared.store.Plain.{Plain}
use Rattle.tt_plain.specs.history.Contents.{rows_of_parts}
use Rattle.tt_plain.specs.history.TrueFacts.{parts_pinned}
use Rattle.tt_plain.specs.law.Bag.{pins_of}
use Rattle.tt_plain.specs.meaning.Outcome.{change_outcome, change_seen, outcome_of, schema_numbered}
use Rattle.tt_rewrite.specs.Left.{numbers_of, rows_of, touched}
use Rattle.tt_state.specs.Chronicle.{Chronicle, rows_of as contents_now, store_of}
use Rattle.tt_state.specs.Held.{rows_held}
use Rattle.tt_state.specs.declared.ticket.Seen.{Seen}
use Rattle.tt_state.specs.declared.ticket.Ticket.{Ticket}
use Rattle.tt_catalog.specs.Changes.{change_asked}
use Rattle.tt_catalog.specs.Tickets.{HasTarget, IsHeld, IsTargetOf, IsTicketOf, StandsForRows}
use Rattle.tt_ticket_laws.proofs.Pinned.{IsAlone, is_touched, one_pinned, pinned_alone, touched_numbers, touched_rows}

target_is : (chronicle : Chronicle) (statement : Statement) (seen : Option (ℕ × List Row)) (target : Option Seen) (held : Seen) → target ≡ Some held → HasTarget chronicle statement seen target → (s : ℕ × List Row) × (seen ≡ Some s) × IsTargetOf chronicle statement s held
target_is chronicle statement seen None held is has = absurd (none-some held is)
target_is chronicle statement None (Some other) held is has = absurd has
target_is chronicle statement (Some s) (Some other) held is has = (s, refl, subst (IsTargetOf chronicle statement s) (same_Some other held is) has)

-- a bag is its own bag
pub bag_twice : (rows bag : List Row) → bag_of rows ≡ bag → bag_of rows ≡ bag_of bag
bag_twice rows bag e = sym (bag_of-bag (bag_of rows) (IsBag-bag_of rows)) ∙ ap bag_of e

module _ (chronicle : Chronicle) (ticket : Ticket) (d : Dml) (held : Seen) (target : ticket.target ≡ Some held) (is : IsTicketOf chronicle ticket (tree.Dml d)) where
  abbrev store : Plain
  store = store_of chronicle

  pub target_seen : (s : ℕ × List Row) × (is.seen.target ≡ Some s) × IsTargetOf chronicle (tree.Dml d) s held
  target_seen = target_is chronicle (tree.Dml d) is.seen.target ticket.target held target is.target

  -- the rows that it sees of its target
  abbrev pub rows_seen : List Row
  rows_seen = target_seen.0.1

  pub means : outcome_of (change_asked chronicle ticket d) is.seen ≡ Some (change_outcome held.table (change_seen chronicle.program (store_of chronicle) is.seen held.schema target_seen.0.1 d))
  unfolding outcome_of
  means =
      let t = target_seen in
      ap (λ (o : Option (ℕ × List Row)). o >>= λ found. schema_numbered store found.0 >>= λ schema. Some (change_outcome found.0 (change_seen chronicle.program store is.seen schema found.1 d))) t.1
      ∙ ap (λ (o : Option Schema). o >>= λ schema. Some (change_outcome t.0.0 (change_seen chronicle.program store is.seen schema t.0.1 d))) t.2.schema
      ∙ ap (λ n. Some (change_outcome n (change_seen chronicle.program store is.seen held.schema t.0.1 d))) (sym t.2.table)

  -- ---- an UPDATE or a DELETE reads it

  module _ (pinned : AllZip (IsHeld chronicle) (pins_of (store_of chronicle).tally ticket.session) (option_to_list ticket.target)) (bags : AllZip StandsForRows (option_to_list is.seen.target) (option_to_list ticket.target)) where
    alone : IsAlone chronicle (pins_of store.tally ticket.session) held
    alone = pinned_alone chronicle (pins_of store.tally ticket.session) held (subst (λ (t : Option Seen). AllZip (IsHeld chronicle) (pins_of store.tally ticket.session) (option_to_list t)) target pinned)

    stands : AllZip StandsForRows (target_seen.0 ∷ []) (held ∷ [])
    stands =
        subst (λ (t : Option Seen). AllZip StandsForRows (target_seen.0 ∷ []) (option_to_list t)) target
        (subst (λ (s : Option (ℕ × List Row)). AllZip StandsForRows (option_to_list s) (option_to_list ticket.target)) target_seen.1 bags)

    pub same_bag : bag_of (rows_held held) ≡ bag_of target_seen.0.1
    same_bag = bag_twice (rows_held held) target_seen.0.1 stands.0.1

    own : parts_pinned store.tally ticket.session held.table ≡ alone.pin.parts
    own = one_pinned store.tally ticket.session held.table alone.pin alone.one (sym alone.is_held.table)

    pub gone_is : (test : Row → Bool) → numbers_of (touched test held.parts) ≡ filter (is_touched chronicle held.schema test) (parts_pinned (store_of chronicle).tally ticket.session held.table)
    gone_is test =
        ap (λ (parts : List (ℕ × Table)). numbers_of (touched test parts)) alone.is_held.parts
        ∙ touched_numbers chronicle held.schema test alone.pin.parts
        ∙ ap (λ numbers. filter (is_touched chronicle held.schema test) numbers) (sym own)

    pub rows_are : (test : Row → Bool) → rows_of (touched test held.parts) ≡ rows_of_parts (contents_now chronicle) (numbers_of (touched test held.parts))
    rows_are test =
        ap (λ (parts : List (ℕ × Table)). rows_of (touched test parts)) alone.is_held.parts
        ∙ touched_rows chronicle held.schema test alone.pin.parts
        ∙ ap (λ numbers. rows_of_parts (contents_now chronicle) numbers)
        (sym (ap (λ (parts : List (ℕ × Table)). numbers_of (touched test parts)) alone.is_held.parts ∙ touched_numbers chronicle held.schema test alone.pin.parts))
