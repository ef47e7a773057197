-- Each change by its kind: an INSERT adds rows alone, and an UPDATE and a DELETE replace the parts that they touch.
use Rattle.std.specs.List.{AllZip, list_all}
use Rattle.std.specs.Prelude.{Bool, List, None, Option, Some, [], false, filter, flat_map, if◌then◌else◌, length, map, option_to_list, refl, true, ℕ, ◌&&◌, ◌+◌, ◌==◌, ◌∷◌, ◌≡◌}
use Rattle.std.proofs.Common.{ap, arith, subst, sym, ◌∙◌}
use Rattle.std.proofs.lemmas.Bool.{false≢true}
use Rattle.std.proofs.lemmas.Option.{same_Some}
use Rattle.tt_value.specs.declared.value.Row.{Row}
use Rattle.tt_value.specs.declared.value.Schema.{Schema}
use Rattle.tt_value.specs.trees.Predicates.{takes}
use Rattle.tt_sql.specs.declared.change.Delete.{Delete}
use Rattle.tt_sql.specs.declared.change.Dml.{Dml}
use Rattle.tt_sql.specs.declared.change.Insert.{Insert}
use Rattle.tt_sql.specs.declared.change.Update.{Update}
use Rattle.tt_sql.specs.declared.statement.Statement.TheVariants as tree
use Rattle.tt_sql.specs.meaning.Changes.{BadData, Changed, Changes, NullInRow, OutOfRange, adds, first_missing, inserted_values, replaces, stored_row, stores, updated_row}
use Rattle.tt_sql.specs.meaning.Queries.{all_some}
use Rattle.tt_sql.specs.meaning.Scopes.{target_scope}
use Rattle.std.specs.Option.{option_map}
use Rattle.tt_layout.specs.Numbers.{IsAscending, has}
use Rattle.tt_plain.specs.Answers.{◌>>=◌}
use Rattle.tt_plain.specs.asked.Asked.{Asked, request_asked}
use Rattle.tt_plain.specs.asked.Request.{Writes}
use Rattle.tt_plain.specs.declared.store.PlainOpen.{PlainOpen}
use Rattle.tt_plain.specs.declared.tally.Tally.{Tally}
use Rattle.tt_plain.specs.declared.tally.TallyPin.{TallyPin}
use Rattle.tt_plain.specs.effect.End.{may_remove}
use Rattle.tt_plain.specs.history.Contents.{added_by_outcome, rows_of_change, rows_of_parts}
use Rattle.tt_plain.specs.history.TrueFacts.{parts_pinned, parts_to_replace}
use Rattle.tt_plain.specs.law.Bag.{PinForms, pins_of, seen_in_pins}
use Rattle.tt_plain.specs.law.Lists.{Every}
use Rattle.tt_plain.specs.meaning.Outcome.{Does, Outcome, change_outcome, change_seen, outcome_in, outcome_of, rows_read, schema_numbered, schemas_read}
use Rattle.tt_plain.specs.opening.Marks.{marks_exclusively}
use Rattle.tt_plain.specs.tally.Layouts.{current_parts, is_ascending, parts_seen}
use Rattle.tt_plain.specs.tally.Parts.{rows_in_parts}
use Rattle.tt_plain_laws.proofs.parts.Backed.{Measured}
use Rattle.tt_plain_laws.proofs.parts.Contents.{Known}
use Rattle.tt_plain_laws.proofs.parts.Cuts.{one_pinned, some_all}
use Rattle.tt_plain_laws.proofs.parts.Numbers.{Within}
use Rattle.tt_plain_laws.proofs.parts.Sums.{is_touched}
use Rattle.tt_built.specs.Built.{is_built}
use Rattle.tt_sql.specs.declared.change.Dml.TheVariants as dml
use Rattle.tt_catalog.proofs.Replaced.{all_within, pinned_ascend, replaced_count, tests_ascend, touched_ascend, touched_within}

-- What goes is of the table, in order; an INSERT takes nothing away. With the removed rows as many come as go, with those that the change
-- brings.
pub record IsReplaced (contents : List (List Row)) (asked : Asked) (table : ℕ) (d : Dml) (removed brought : List Row) (gone : List ℕ) (rows : List Row) : Type 0 where
  pub counts : length rows + length removed ≡ rows_in_parts asked.store.tally gone + length brought
  pub inside : Within gone (current_parts asked.store.tally table)
  pub ascends : IsAscending gone
  pub alone : marks_exclusively d ≡ false → gone ≡ []

-- ---- what an outcome says of a change

changes_are : (number table count : ℕ) (removed brought : List Row) (c : Changed) → change_outcome number c ≡ Does table removed brought count → c ≡ Changes removed brought count
changes_are number table count removed brought (Changes r a n) e = cc
changes_are number table count removed brought (BadData record_number column) e = absurd cc
changes_are number table count removed brought OutOfRange e = absurd cc
changes_are number table count removed brought (NullInRow column) e = absurd cc

stores_changes : (r a : List Row) (n : ℕ) (place : Option ℕ) (removed brought : List Row) (count : ℕ) → stores r a n place ≡ Changes removed brought count → (removed ≡ r) × (brought ≡ a)
stores_changes r a n None removed brought count e = (cc, cc)
stores_changes r a n (Some place) removed brought count e = absurd cc

replaces_changes : (schema : Schema) (r : List Row) (o : Option (List Row)) (removed brought : List Row) (count : ℕ) → replaces schema r o ≡ Changes removed brought count → (removed ≡ r) × (o ≡ Some brought)
replaces_changes schema r None removed brought count e = absurd cc
replaces_changes schema r (Some a) removed brought count e = let both = stores_changes r a (length r) (first_missing schema a) removed brought count e in (both.0, ap Some (sym both.1))

adds_changes : (schema : Schema) (o : Option (List Row)) (removed brought : List Row) (count : ℕ) → adds schema o ≡ Changes removed brought count → removed ≡ []
adds_changes schema None removed brought count e = absurd cc
adds_changes schema (Some rows) removed brought count e = (stores_changes [] rows (length rows) (first_missing schema rows) removed brought count e).0

none_of : Row → List Row
none_of row = []

-- ---- each change

module _ (contents : List (List Row)) (asked : Asked) (seen : PlainOpen) (target : ℕ × List Row) (schema : Schema) (removed brought : List Row) (count : ℕ) (gone : List ℕ)
    (is_target : seen.target ≡ Some target) (is_schema : schema_numbered asked.store target.0 ≡ Some schema)
    (measured : Measured contents asked.store.tally) (known : Known (length contents) (current_parts asked.store.tally target.0))
    (up : Every (λ (pin : TallyPin). IsAscending pin.parts) asked.store.tally.pins)
    (forms : AllZip (PinForms contents) (seen_in_pins (request_asked asked) seen) (pins_of asked.store.tally asked.session)) where
  abbrev Replaces : Dml → Type 0
  Replaces d = IsReplaced contents asked target.0 d removed brought gone (rows_of_change contents asked seen schema gone d)

  meaning : (d : Dml) → request_asked asked ≡ Writes d → outcome_of asked seen ≡ Some (Does target.0 removed brought count) → change_seen asked.program asked.store seen schema target.1 d ≡ Changes removed brought count
  unfolding outcome_of
  meaning d writes outcome =
      let is : outcome_of asked seen ≡ Some (change_outcome target.0 (change_seen asked.program asked.store seen schema target.1 d)) =
      ap (outcome_in asked seen) writes
      ∙ ap (λ (o : Option (ℕ × List Row)). o >>= λ t. schema_numbered asked.store t.0 >>= λ s. Some (change_outcome t.0 (change_seen asked.program asked.store seen s t.1 d))) is_target
      ∙ ap (λ (o : Option Schema). o >>= λ s. Some (change_outcome target.0 (change_seen asked.program asked.store seen s target.1 d))) is_schema in
      changes_are target.0 target.0 count removed brought (change_seen asked.program asked.store seen schema target.1 d) (same_Some _ _ (sym is ∙ outcome))

  -- an INSERT
  inserts : (i : Insert) → request_asked asked ≡ Writes (dml.Insert i) → outcome_of asked seen ≡ Some (Does target.0 removed brought count) → gone ≡ [] → Replaces (dml.Insert i)
  unfolding change_seen
  inserts i writes outcome none =
      let nothing : removed ≡ [] =
      adds_changes schema (option_map (map (stored_row schema i.columns)) (inserted_values (schemas_read asked.store seen.sources) (rows_read seen.sources) i.source)) removed brought count (meaning (dml.Insert i) writes outcome) in
      record {
        counts = omega (
          arith,
          ap (λ (o : Option Outcome). length (added_by_outcome o)) outcome,
          ap (λ (rs : List Row). length rs) nothing,
          ap (λ (ns : List ℕ). rows_in_parts asked.store.tally ns) none,
        );
        inside = λ k e. absurd (false≢true (sym (ap (λ (ns : List ℕ). has ns k) none) ∙ e));
        ascends = subst IsAscending (sym none) tt;
        alone = λ shared. none;
      }

  -- the parts that are pinned of the target
  module _ (still : Within (parts_pinned asked.store.tally asked.session target.0) (current_parts asked.store.tally target.0)) (pins : AllZip (PinForms contents) (option_to_list seen.target) (pins_of asked.store.tally asked.session)) where
    one : AllZip (PinForms contents) (target ∷ []) (pins_of asked.store.tally asked.session)
    one = subst (λ (o : Option (ℕ × List Row)). AllZip (PinForms contents) (option_to_list o) (pins_of asked.store.tally asked.session)) is_target pins

    abbrev pinned : List ℕ
    pinned = parts_pinned asked.store.tally asked.session target.0

    replaced_by : (d : Dml) (test : Row → Bool) (others : Row → List Row) (rows : List Row) → marks_exclusively d ≡ true → removed ≡ filter test target.1 → brought ≡ flat_map others removed
        → gone ≡ filter (is_touched contents test) pinned → rows ≡ flat_map (λ row. if test row then others row else row ∷ []) (rows_of_parts contents gone) → IsReplaced contents asked target.0 d removed brought gone rows
    replaced_by d test others rows exclusive removed_is brought_is gone_is rows_are =
        let inside : Within gone (current_parts asked.store.tally target.0) = subst (λ (ns : List ℕ). Within ns (current_parts asked.store.tally target.0)) (sym gone_is) (touched_within (is_touched contents test) pinned (current_parts asked.store.tally target.0) still) in
        record {
          counts = ap (λ (rs : List Row). length rs + length removed) rows_are
              ∙ replaced_count contents asked.store.tally test others pinned gone target.1 removed brought measured (λ k e. known k (inside k e)) (one_pinned contents asked.store.tally asked.session target.0 target.1 one) removed_is brought_is gone_is;
          inside = inside;
          ascends = subst IsAscending (sym gone_is) (touched_ascend (is_touched contents test) pinned (pinned_ascend contents asked.store.tally asked.session target.0 target.1 up one));
          alone = λ shared. absurd (false≢true (sym shared ∙ exclusive));
        }

  none_flat : (rows : List Row) → [] ≡ flat_map none_of rows
  unfolding none_of
  none_flat [] = refl
  none_flat (r ∷ rows) = none_flat rows

  updates : (u : Update) → request_asked asked ≡ Writes (dml.Update u) → outcome_of asked seen ≡ Some (Does target.0 removed brought count) → gone ≡ parts_to_replace contents asked target.0 schema (dml.Update u)
      → Within (parts_pinned asked.store.tally asked.session target.0) (current_parts asked.store.tally target.0) → Replaces (dml.Update u)
  unfolding change_seen
  updates u writes outcome touched still =
      let scope = target_scope u.table schema in
      let both = replaces_changes schema (filter (takes scope u.filter) target.1) (all_some (map (updated_row scope u.sets) (filter (takes scope u.filter) target.1))) removed brought count (meaning (dml.Update u) writes outcome) in
      replaced_by still (subst (λ r. AllZip (PinForms contents) (seen_in_pins r seen) (pins_of asked.store.tally asked.session)) writes forms) (dml.Update u) (takes scope u.filter) (λ (r : Row). option_to_list (updated_row scope u.sets r))
      (rows_of_change contents asked seen schema gone (dml.Update u)) refl both.0
      (some_all (updated_row scope u.sets) (filter (takes scope u.filter) target.1) brought both.1 ∙ ap (flat_map (λ (r : Row). option_to_list (updated_row scope u.sets r))) (sym both.0)) touched refl

  deletes : (d : Delete) → request_asked asked ≡ Writes (dml.Delete d) → outcome_of asked seen ≡ Some (Does target.0 removed brought count) → gone ≡ parts_to_replace contents asked target.0 schema (dml.Delete d)
      → Within (parts_pinned asked.store.tally asked.session target.0) (current_parts asked.store.tally target.0) → Replaces (dml.Delete d)
  unfolding change_seen none_of
  deletes d writes outcome touched still =
      let scope = target_scope d.table schema in
      let is : Changes (filter (takes scope d.filter) target.1) [] (length (filter (takes scope d.filter) target.1)) ≡ Changes removed brought count = meaning (dml.Delete d) writes outcome in
      let first : removed ≡ filter (takes scope d.filter) target.1 = cc in
      let second : brought ≡ [] = cc in
      replaced_by still (subst (λ r. AllZip (PinForms contents) (seen_in_pins r seen) (pins_of asked.store.tally asked.session)) writes forms) (dml.Delete d) (takes scope d.filter) none_of
      (rows_of_change contents asked seen schema gone (dml.Delete d)) refl first (second ∙ none_flat removed) touched refl

  -- a COPY is not carried out yet
  pub change_replaces : (d : Dml) → is_built (tree.Dml d) ≡ true → request_asked asked ≡ Writes d → outcome_of asked seen ≡ Some (Does target.0 removed brought count) → gone ≡ parts_to_replace contents asked target.0 schema d
      → (marks_exclusively d ≡ true → Within (parts_pinned asked.store.tally asked.session target.0) (current_parts asked.store.tally target.0)) → Replaces d
  change_replaces (dml.Insert i) carried writes outcome touched still = inserts i writes outcome touched
  change_replaces (dml.Update u) carried writes outcome touched still = updates u writes outcome touched (still refl)
  change_replaces (dml.Delete d) carried writes outcome touched still = deletes d writes outcome touched (still refl)
  change_replaces (dml.Copy c) carried writes outcome touched still = absurd (false≢true carried)

-- ---- what goes may be removed

-- nothing is pending, so what is seen is the current layout
pub current_seen : (tally : Tally) (session table : ℕ) → tally.pending ≡ [] → parts_seen tally session table ≡ current_parts tally table
current_seen tally session table settled = rw settled refl

pub may_go : (contents : List (List Row)) (asked : Asked) (table : ℕ) (d : Dml) (removed brought : List Row) (gone : List ℕ) (rows : List Row) → asked.store.tally.pending ≡ [] → IsReplaced contents asked table d removed brought gone rows
    → may_remove asked table d gone ≡ true
may_go contents asked table d removed brought gone rows settled is = by (marks_exclusively d) refl
  where
    by : (b : Bool) → marks_exclusively d ≡ b → (if b then is_ascending gone && list_all (has (parts_seen asked.store.tally asked.session table)) gone else length gone == 0) ≡ true
    by true e =
        ap (λ b. b && list_all (has (parts_seen asked.store.tally asked.session table)) gone) (tests_ascend gone 0 is.ascends)
        ∙ ap (λ (ns : List ℕ). list_all (has ns) gone) (current_seen asked.store.tally asked.session table settled) ∙ all_within gone (current_parts asked.store.tally table) is.inside
    by false e = ap (λ (ns : List ℕ). length ns == 0) (is.alone e)
