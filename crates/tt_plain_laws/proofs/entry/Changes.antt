-- The end of each query and each change keeps the bags.
use Rattle.std.specs.List.{AllZip}
use Rattle.std.specs.Prelude.{Bool, List, None, Option, Some, [], false, filter, flat_map, if◌then◌else◌, length, map, option_to_list, refl, true, unwrap_or, ℕ, ◌&&◌, ◌++◌, ◌+◌, ◌==◌, ◌∷◌, ◌≡◌}
use Rattle.std.proofs.Common.{ap, arith, subst, sym, ◌∙◌}
use Rattle.std.proofs.lemmas.Bool.{and_parts, false≢true}
use Rattle.std.proofs.lemmas.Option.{none-some, same_Some}
use Rattle.tt_history.specs.declared.history.Added.{Added}
use Rattle.tt_plain.proofs.Answers.{bind_some}
use Rattle.tt_plain.proofs.Tests.{same_number}
use Rattle.tt_plain.proofs.law.Gives.{Gives, gives_bind, gives_when}
use Rattle.tt_plain.proofs.law.session.Alone.{IsDue, IsSaid, state_sound}
use Rattle.tt_plain.specs.Answers.{◌>>=◌}
use Rattle.tt_plain.specs.asked.Asked.{Asked, request_asked, state_asked}
use Rattle.tt_plain.specs.asked.Carried.{Carried}
use Rattle.tt_plain.specs.asked.Request.{Reads, Request, Writes}
use Rattle.tt_plain.specs.asked.Turns.{statement_read}
use Rattle.tt_plain.specs.declared.store.PlainOpen.{PlainOpen}
use Rattle.tt_plain.specs.effect.Apply.{applied}
use Rattle.tt_plain.specs.effect.Effect.{Effect}
use Rattle.tt_plain.specs.effect.End.{answered, are_facts_of, changed_by, end_effect, ended_as, may_remove}
use Rattle.tt_plain.specs.history.Contents.{added_by_outcome, row_deleted, row_updated, rows_of_change, rows_of_end, rows_of_parts}
use Rattle.tt_plain.specs.history.TrueFacts.{parts_pinned, parts_to_replace, replaced_by}
use Rattle.tt_plain.specs.law.Bag.{PinForms, pins_of, seen_in_pins}
use Rattle.tt_plain.specs.law.Changes.{IsSoundEffect}
use Rattle.tt_plain.specs.meaning.Outcome.{Answers, Does, Outcome, change_outcome, change_seen, outcome_in, outcome_of, outcome_of_change, schema_numbered}
use Rattle.tt_plain.specs.opening.Marks.{marks_exclusively}
use Rattle.tt_plain.specs.tally.Layouts.{parts_seen}
use Rattle.tt_plain.specs.tally.Parts.{are_next_parts, rows_in_added, rows_in_parts}
use Rattle.tt_sql.specs.declared.change.Delete.{Delete}
use Rattle.tt_sql.specs.declared.change.Dml.{Dml}
use Rattle.tt_sql.specs.declared.change.Update.{Update}
use Rattle.tt_sql.specs.meaning.Changes.{BadData, Changed, Changes, NullInRow, OutOfRange, replaces, stores, updated_row}
use Rattle.tt_sql.specs.meaning.Queries.{all_some}
use Rattle.tt_sql.specs.meaning.Scopes.{target_scope}
use Rattle.tt_value.specs.declared.value.Row.{Row}
use Rattle.tt_value.specs.declared.value.Schema.{Schema}
use Rattle.tt_value.specs.trees.Predicates.{takes}
use Rattle.tt_plain_laws.proofs.guard.Removed.{IsOfTarget, does_of_target}
use Rattle.tt_plain_laws.proofs.parts.Added.{contents_added}
use Rattle.tt_plain_laws.proofs.parts.Backed.{AreBacked}
use Rattle.tt_plain_laws.proofs.parts.Contents.{Known}
use Rattle.tt_plain_laws.proofs.parts.Cuts.{added_cut, nil_of, one_pinned, replaced_cut, some_all}
use Rattle.tt_plain_laws.proofs.entry.Ends.{IsCut, changed_backs, removable}
use Rattle.tt_plain_laws.proofs.entry.Sessions.{answered_backs}
use Rattle.tt_plain_laws.proofs.entry.Starts.{seen_known}
use Rattle.tt_plain_laws.specs.Guarded.{AreGuarded}
use Rattle.tt_sql.specs.declared.change.Dml.TheVariants as dml

does_changes : (number : ℕ) (changed : Changed) (table : ℕ) (removed brought : List Row) (count : ℕ) → change_outcome number changed ≡ Does table removed brought count → (number ≡ table) × (changed ≡ Changes removed brought count)
does_changes number (Changes r a c) table removed brought count e = (cc, cc)
does_changes number (BadData r c) table removed brought count e = absurd cc
does_changes number OutOfRange table removed brought count e = absurd cc
does_changes number (NullInRow c) table removed brought count e = absurd cc

stores_changes : (r a : List Row) (n : ℕ) (missing : Option ℕ) (removed brought : List Row) (count : ℕ) → stores r a n missing ≡ Changes removed brought count → (removed ≡ r) × (brought ≡ a)
stores_changes r a n None removed brought count e = (cc, cc)
stores_changes r a n (Some place) removed brought count e = absurd cc

replaces_changes : (schema : Schema) (r : List Row) (o : Option (List Row)) (removed brought : List Row) (count : ℕ) → replaces schema r o ≡ Changes removed brought count → (removed ≡ r) × (o ≡ Some brought)
replaces_changes schema r None removed brought count e = absurd cc
replaces_changes schema r (Some a) removed brought count e = let both = stores_changes r a (length r) _ removed brought count e in (both.0, ap Some (sym both.1))

abbrev none_of : Row → List Row
none_of row = []

none_flat : (rows : List Row) → [] ≡ flat_map none_of rows
none_flat [] = refl
none_flat (r ∷ rows) = none_flat rows

no_facts : {A : Type 0} (xs : List A) → (length xs == 0) ≡ true → xs ≡ []
no_facts [] e = refl
no_facts (x ∷ xs) e = absurd (omega (arith, same_number (length (x ∷ xs)) 0 e))

none_removed : (test : Bool) (gone : List ℕ) (other : Bool) → test ≡ false → (if test then other else length gone == 0) ≡ true → gone ≡ []
none_removed true gone other e f = absurd (false≢true (sym e))
none_removed false gone other e f = no_facts gone f

module _ (carried : Carried) (asked : Asked) (due : IsDue carried asked) (said : IsSaid carried asked) (contents : List (List Row)) (backed : AreBacked carried asked.program contents asked.store) (guarded : AreGuarded asked.store)
    (seen : PlainOpen) (running : (state_asked asked).running ≡ Some seen) (gone : List ℕ) (added : List Added) where
  abbrev rows_given : Request → List Row
  rows_given request = unwrap_or (rows_of_end contents asked seen gone request) []

  -- the parts that are gone are those that the change touches
  abbrev Touches : Request → Type 0
  Touches request = gone ≡ unwrap_or (replaced_by contents asked seen request) []

  module _ (d : Dml) (writes : request_asked asked ≡ Writes d) (table : ℕ) (removed brought : List Row) (count : ℕ) (outcome : outcome_of_change asked seen d ≡ Some (Does table removed brought count))
      (facts : are_facts_of asked table d removed brought (gone, added) ≡ true) where
    of_target : IsOfTarget seen d table removed
    of_target = does_of_target asked seen d table removed brought count outcome

    sums : rows_in_added added + length removed ≡ rows_in_parts asked.store.tally gone + length brought
    unfolding are_facts_of
    sums = same_number (rows_in_added added + length removed) (rows_in_parts asked.store.tally gone + length brought)
        (and_parts (may_remove asked table d gone && are_next_parts asked.store.tally added) (rows_in_added added + length removed == rows_in_parts asked.store.tally gone + length brought) facts).1

    removes : may_remove asked table d gone ≡ true
    unfolding are_facts_of
    removes =
        (and_parts (may_remove asked table d gone) (are_next_parts asked.store.tally added)
        (and_parts (may_remove asked table d gone && are_next_parts asked.store.tally added) (rows_in_added added + length removed == rows_in_parts asked.store.tally gone + length brought) facts).0).0

    known : Known (length contents) gone
    known k e =
        seen_known carried asked due said contents backed guarded table k ((removable (marks_exclusively d) (parts_seen asked.store.tally asked.session table) gone removes).0 k e)

    -- what adds rows alone
    added_alone : marks_exclusively d ≡ false → IsCut contents gone removed brought brought added
    added_alone shared =
        added_cut contents asked.store.tally gone removed brought added (none_removed (marks_exclusively d) gone _ shared removes)
        (nil_of removed (λ some. false≢true (sym shared ∙ of_target.is_seen.1 some))) sums

    -- what is given is the outcome
    outcome_given : added_by_outcome (outcome_of asked seen) ≡ brought
    unfolding outcome_of
    outcome_given = ap added_by_outcome (ap (outcome_in asked seen) writes ∙ outcome)

    pins : AllZip (PinForms contents) (seen_in_pins (Writes d) seen) (pins_of asked.store.tally asked.session)
    pins =
        let opened = (state_sound carried asked due).running seen running in
        subst (λ (r : Request). AllZip (PinForms contents) (seen_in_pins r seen) (pins_of asked.store.tally asked.session)) writes
        (backed.pinned asked.session (state_asked asked) due.at seen asked.read running (ap (statement_read carried asked.program asked.session) (opened.counted ∙ sym said.counted) ∙ said.said))

  -- a change of the target with its schema
  module _ (table : ℕ) (rows : List Row) (schema : Schema) (removed brought : List Row) (count : ℕ) where
    update_cut : (u : Update) → (writes : request_asked asked ≡ Writes (dml.Update u)) → (outcome : outcome_of_change asked seen (dml.Update u) ≡ Some (Does table removed brought count))
        → (facts : are_facts_of asked table (dml.Update u) removed brought (gone, added) ≡ true) → seen.target ≡ Some (table, rows)
        → replaces schema (filter (takes (target_scope u.table schema) u.filter) rows) (all_some (map (updated_row (target_scope u.table schema) u.sets) (filter (takes (target_scope u.table schema) u.filter) rows))) ≡ Changes removed brought count
        → gone ≡ parts_to_replace contents asked table schema (dml.Update u)
        → IsCut contents gone removed brought (flat_map (row_updated (target_scope u.table schema) u) (rows_of_parts contents gone)) added
    update_cut u writes outcome facts target changed touched =
        let scope = target_scope u.table schema in
        let both = replaces_changes schema (filter (takes scope u.filter) rows) (all_some (map (updated_row scope u.sets) (filter (takes scope u.filter) rows))) removed brought count changed in
        replaced_cut contents asked.store.tally (takes scope u.filter) (λ (r : Row). option_to_list (updated_row scope u.sets r)) (parts_pinned asked.store.tally asked.session table) gone rows removed brought added
        backed.measured (known (dml.Update u) writes table removed brought count outcome facts)
        (one_pinned contents asked.store.tally asked.session table rows
        (subst (λ (t : Option (ℕ × List Row)). AllZip (PinForms contents) (option_to_list t) (pins_of asked.store.tally asked.session)) target (pins (dml.Update u) writes table removed brought count outcome facts)))
        both.0 (some_all (updated_row scope u.sets) (filter (takes scope u.filter) rows) brought both.1 ∙ ap (flat_map (λ (r : Row). option_to_list (updated_row scope u.sets r))) (sym both.0)) touched
        (sums (dml.Update u) writes table removed brought count outcome facts)

    delete_cut : (d : Delete) → (writes : request_asked asked ≡ Writes (dml.Delete d)) → (outcome : outcome_of_change asked seen (dml.Delete d) ≡ Some (Does table removed brought count))
        → (facts : are_facts_of asked table (dml.Delete d) removed brought (gone, added) ≡ true) → seen.target ≡ Some (table, rows)
        → Changes (filter (takes (target_scope d.table schema) d.filter) rows) [] (length (filter (takes (target_scope d.table schema) d.filter) rows)) ≡ Changes removed brought count
        → gone ≡ parts_to_replace contents asked table schema (dml.Delete d)
        → IsCut contents gone removed brought (flat_map (row_deleted (target_scope d.table schema) d) (rows_of_parts contents gone)) added
    delete_cut d writes outcome facts target changed touched =
        let scope = target_scope d.table schema in
        let first : removed ≡ filter (takes scope d.filter) rows = cc in
        let second : brought ≡ [] = cc in
        replaced_cut contents asked.store.tally (takes scope d.filter) none_of (parts_pinned asked.store.tally asked.session table) gone rows removed brought added
        backed.measured (known (dml.Delete d) writes table removed brought count outcome facts)
        (one_pinned contents asked.store.tally asked.session table rows
        (subst (λ (t : Option (ℕ × List Row)). AllZip (PinForms contents) (option_to_list t) (pins_of asked.store.tally asked.session)) target (pins (dml.Delete d) writes table removed brought count outcome facts)))
        first (second ∙ none_flat removed) touched (sums (dml.Delete d) writes table removed brought count outcome facts)

  -- each change
  change_cut : (d : Dml) (table : ℕ) (removed brought : List Row) (count : ℕ) → request_asked asked ≡ Writes d → outcome_of_change asked seen d ≡ Some (Does table removed brought count)
      → are_facts_of asked table d removed brought (gone, added) ≡ true → Touches (Writes d) → IsCut contents gone removed brought (rows_given (Writes d)) added
  unfolding change_seen
  change_cut d table removed brought count writes outcome facts touches = by seen.target refl outcome
    where
      with_schema : (target : ℕ × List Row) → seen.target ≡ Some target → (schema : Schema) → schema_numbered asked.store target.0 ≡ Some schema → (number : target.0 ≡ table)
          → (e : Dml) → d ≡ e → change_seen asked.program asked.store seen schema target.1 e ≡ Changes removed brought count → gone ≡ parts_to_replace contents asked target.0 schema e
          → IsCut contents gone removed brought (rows_of_change contents asked seen schema gone e) added
      with_schema target is schema found number (dml.Insert i) same changed touched =
          subst (λ (rs : List Row). IsCut contents gone removed brought rs added) (sym (outcome_given d writes table removed brought count outcome facts)) (added_alone d writes table removed brought count outcome facts (ap marks_exclusively same))
      with_schema target is schema found number (dml.Update u) same changed touched =
          update_cut table target.1 schema removed brought count u (writes ∙ ap Writes same) (ap (outcome_of_change asked seen) (sym same) ∙ outcome)
          (subst (λ (x : Dml). are_facts_of asked table x removed brought (gone, added) ≡ true) same facts) (is ∙ ap (λ (n : ℕ). Some (n, target.1)) number) changed
          (touched ∙ ap (λ (n : ℕ). parts_to_replace contents asked n schema (dml.Update u)) number)
      with_schema target is schema found number (dml.Delete x) same changed touched =
          delete_cut table target.1 schema removed brought count x (writes ∙ ap Writes same) (ap (outcome_of_change asked seen) (sym same) ∙ outcome)
          (subst (λ (y : Dml). are_facts_of asked table y removed brought (gone, added) ≡ true) same facts) (is ∙ ap (λ (n : ℕ). Some (n, target.1)) number) changed
          (touched ∙ ap (λ (n : ℕ). parts_to_replace contents asked n schema (dml.Delete x)) number)
      with_schema target is schema found number (dml.Copy c) same changed touched =
          subst (λ (rs : List Row). IsCut contents gone removed brought rs added) (sym (outcome_given d writes table removed brought count outcome facts)) (added_alone d writes table removed brought count outcome facts (ap marks_exclusively same))

      by : (target : Option (ℕ × List Row)) → seen.target ≡ target
          → (target >>= λ target. schema_numbered asked.store target.0 >>= λ schema. Some (change_outcome target.0 (change_seen asked.program asked.store seen schema target.1 d))) ≡ Some (Does table removed brought count)
          → IsCut contents gone removed brought (rows_given (Writes d)) added
      by None is f = absurd (none-some (Does table removed brought count) f)
      by (Some target) is f =
          let found = bind_some (schema_numbered asked.store target.0) _ (Does table removed brought count) f in
          let both = does_changes target.0 (change_seen asked.program asked.store seen found.0 target.1 d) table removed brought count (same_Some _ (Does table removed brought count) found.2) in
          subst (λ (rs : List Row). IsCut contents gone removed brought rs added)
          (sym (ap (λ (t : Option (ℕ × List Row)). unwrap_or (t >>= λ t. schema_numbered asked.store t.0 >>= λ schema. Some (rows_of_change contents asked seen schema gone d)) []) is
          ∙ ap (λ (o : Option Schema). unwrap_or (o >>= λ schema. Some (rows_of_change contents asked seen schema gone d)) []) found.1))
          (with_schema target is found.0 found.1 both.0 d refl both.1
          (touches ∙ ap (λ (t : Option (ℕ × List Row)). unwrap_or (t >>= λ t. schema_numbered asked.store t.0 >>= λ schema. Some (parts_to_replace contents asked t.0 schema d)) []) is
          ∙ ap (λ (o : Option Schema). unwrap_or (o >>= λ schema. Some (parts_to_replace contents asked target.0 schema d)) []) found.1))

  -- ---- the entry

  abbrev BacksIn : Effect → Type 0
  BacksIn effect = IsSoundEffect carried asked.program asked.store effect → AreBacked carried asked.program (contents ++ contents_added added (rows_given (request_asked asked))) (applied asked.store effect)

  answered_in : (rows : List Row) → added ≡ [] → BacksIn (answered asked rows)
  answered_in rows none good =
      subst (λ (ps : List Added). AreBacked carried asked.program (contents ++ contents_added ps (rows_given (request_asked asked))) (applied asked.store (answered asked rows))) (sym none) (answered_backs carried asked due contents backed rows)

  outcome_backs : (request : Request) (outcome : Outcome) → request_asked asked ≡ request → outcome_in asked seen request ≡ Some outcome → Touches request → Gives BacksIn (ended_as asked request outcome (gone, added))
  outcome_backs (Reads q) (Answers rows) e f touches =
      gives_when BacksIn (length gone == 0 && length added == 0) (answered asked rows) (λ test. answered_in rows (no_facts added (and_parts (length gone == 0) (length added == 0) test).1))
  outcome_backs (Writes d) (Does table removed brought count) e f touches =
      gives_when BacksIn (are_facts_of asked table d removed brought (gone, added)) (changed_by asked d table removed brought count (gone, added)) (λ test. λ good.
      subst (λ (r : Request). AreBacked carried asked.program (contents ++ contents_added added (rows_given r)) (applied asked.store (changed_by asked d table removed brought count (gone, added)))) (sym e)
      (changed_backs carried asked due contents backed guarded seen running d table removed brought (does_of_target asked seen d table removed brought count f) gone added (rows_given (Writes d)) test
      (change_cut d table removed brought count e f test touches) count good))
  outcome_backs _ _ e f touches = tt

  pub end_backs : Touches (request_asked asked) → Gives BacksIn (end_effect (asked, seen) gone added)
  unfolding end_effect outcome_of
  end_backs touches = gives_bind BacksIn (outcome_of asked seen) _ (λ outcome e. outcome_backs (request_asked asked) outcome refl e touches)
