-- The start of a query or a change: what it pins of its target is what its session sees.
use Rattle.std.specs.Prelude.{List, None, Option, Some, [], option_map, option_to_list, refl, true, ℕ, ◌++◌, ◌∷◌, ◌≡◌}
use Rattle.std.proofs.Common.{ap, subst, sym, ◌∙◌}
use Rattle.std.proofs.lemmas.Bool.{false≢true}
use Rattle.std.proofs.lemmas.Option.{none-some, same_Some}
use Rattle.tt_history.specs.declared.history.Told.{Told}
use Rattle.tt_layout.specs.Numbers.{has}
use Rattle.tt_plain.proofs.Tests.{same_test}
use Rattle.tt_plain.proofs.law.Gives.{Gives}
use Rattle.tt_plain.proofs.law.Lists.{every_on}
use Rattle.tt_plain.proofs.law.Turns.{due_gives}
use Rattle.tt_plain.proofs.law.session.Alone.{IsDue, IsSaid}
use Rattle.tt_plain.proofs.law.session.Views.{GoodPin, change_pinned, sources_pinned}
use Rattle.tt_plain.specs.Answers.{◌>>=◌}
use Rattle.tt_plain.specs.asked.Asked.{Asked, own_point, request_asked, state_asked, table_asked}
use Rattle.tt_plain.specs.asked.Carried.{Carried}
use Rattle.tt_plain.specs.asked.Request.{Reads, Request, Writes, request_of}
use Rattle.tt_plain.specs.asked.Turns.{statement_read}
use Rattle.tt_plain.specs.declared.store.PlainOpen.{PlainOpen}
use Rattle.tt_plain.specs.declared.store.PlainSession.{PlainSession}
use Rattle.tt_plain.specs.declared.store.PlainTable.{PlainTable}
use Rattle.tt_plain.specs.declared.tally.Tally.{Tally}
use Rattle.tt_plain.specs.declared.tally.TallyPin.{TallyPin}
use Rattle.tt_plain.specs.effect.Effect.{Effect}
use Rattle.tt_plain.specs.effect.Ending.{memory_effect}
use Rattle.tt_plain.specs.effect.Start.{begun, begun_by, start_effect}
use Rattle.tt_plain.specs.history.TrueFacts.{parts_pinned}
use Rattle.tt_plain.specs.law.Lists.{Every}
use Rattle.tt_plain.specs.opening.Marks.{marks_exclusively, with_mark}
use Rattle.tt_plain.specs.opening.Opened.{change_opened, opened, query_opened, sources_seen, target_of, target_rows}
use Rattle.tt_plain.specs.opening.Point.{change_sources, query_sources}
use Rattle.tt_plain.specs.stored.Points.{no_point_yet}
use Rattle.tt_plain.specs.tally.Changes.{Pins, changed_tally}
use Rattle.tt_plain.specs.tally.Layouts.{parts_seen}
use Rattle.tt_plain.specs.tally.Pins.{change_pins, pin_of, source_pins, target_pin}
use Rattle.tt_plain_laws.proofs.parts.Views.{pins_own}
use Rattle.tt_sql.specs.declared.change.Dml.{Dml}
use Rattle.tt_sql.specs.declared.query.Query.{Query}
use Rattle.tt_target_laws.proofs.Sessions.{LeavesHere, apart_from, by_session, memory_leaves, told_leaves}
use Rattle.tt_target_laws.proofs.Spared.{pinned_in, pinned_is}
use Rattle.tt_target_laws.proofs.Targets.{SeesTarget}
use Rattle.tt_target_laws.specs.Targets.{SeesPinned}
use Rattle.tt_value.specs.declared.name.TableName.{TableName}
use Rattle.tt_value.specs.declared.value.Row.{Row}
use Rattle.tt_plain.specs.asked.Event as event
use Rattle.tt_sql.specs.declared.change.Dml.TheVariants as dml

append_nil : {A : Type 0} (xs : List A) → xs ++ [] ≡ xs
append_nil [] = refl
append_nil (x ∷ xs) = ap (λ ys. x ∷ ys) (append_nil xs)

same_change : (d e : Dml) → ◌≡◌ {A = Option Request} (Some (Writes d)) (Some (Writes e)) → d ≡ e
same_change d e is = cc

module _ (carried : Carried) (asked : Asked) (due : IsDue carried asked) where
  abbrev KeepsHere : Effect → Type 0
  KeepsHere effect = LeavesHere carried asked due effect

  abbrev tally : Tally
  tally = asked.store.tally

  abbrev state : PlainSession
  state = state_asked asked

  abbrev pinned : List TallyPin → Tally
  pinned pins = changed_tally tally (Pins asked.session pins)

  own_sessions : (pins : List TallyPin) → Every (GoodPin carried asked due) pins → Every (λ (pin : TallyPin). pin.session ≡ asked.session) pins
  own_sessions pins good = every_on (GoodPin carried asked due) (λ (pin : TallyPin). pin.session ≡ asked.session) pins (λ pin h. h.0) good

  begun_leaves : (new : PlainSession) (pins : List TallyPin) → Every (GoodPin carried asked due) pins → SeesTarget carried asked.program (pinned pins) asked.session new → KeepsHere (begun asked new pins)
  begun_leaves new pins good sees =
      by_session carried asked due new [] ((own_point asked, no_point_yet) ∷ []) (Pins asked.session pins ∷ []) asked.moment None sees
      (λ other held_by at apart table first within held. ((apart_from carried asked due other apart, own_sessions pins good), tt))

  -- ---- queries

  query_begun : (q : Query) → Gives KeepsHere (option_map (λ new. begun asked new (source_pins asked (query_sources q))) (query_opened asked q))
  unfolding query_opened
  query_begun q = seen (sources_seen asked (query_sources q))
    where
      no_target : (sources : List (ℕ × List Row)) → SeesTarget carried asked.program (pinned (source_pins asked (query_sources q))) asked.session (record (state_asked asked) { running = Some (opened asked sources None) })
      no_target sources other d target is said exclusive there = absurd (none-some target (ap (λ (s : PlainOpen). s.target) (same_Some (opened asked sources None) other is) ∙ there))

      seen : (sources : Option (List (ℕ × List Row)))
          → Gives KeepsHere (option_map (λ new. begun asked new (source_pins asked (query_sources q))) (sources >>= λ sources. Some (record (state_asked asked) { running = Some (opened asked sources None) })))
      seen None = tt
      seen (Some sources) =
          begun_leaves (record (state_asked asked) { running = Some (opened asked sources None) }) (source_pins asked (query_sources q)) (sources_pinned carried asked due (query_sources q)) (no_target sources)

  -- ---- changes

  abbrev changing : PlainTable → Dml → List (ℕ × List Row) → PlainSession
  changing table d sources = record (state_asked asked) {
    running = Some (opened asked sources (Some (table.number, target_rows (state_asked asked) table d)));
    marks = with_mark table.number (marks_exclusively d) (state_asked asked).marks;
  }

  -- the pin of the target is what is seen of it
  target_is : (name : TableName) (table : PlainTable) → table_asked asked name ≡ Some table → pinned_in table.number (target_pin asked name) ≡ parts_seen tally asked.session table.number
  target_is name table there =
      ap (λ (o : Option PlainTable). pinned_in table.number (option_to_list (option_map (pin_of asked.session) (option_map (λ (t : PlainTable). (t.number, parts_seen tally asked.session t.number)) o)))) there
      ∙ rw (same_test table.number) (append_nil (parts_seen tally asked.session table.number))

  pins_are : (d : Dml) (table : PlainTable) → marks_exclusively d ≡ true → table_asked asked (target_of d) ≡ Some table → pinned_in table.number (change_pins asked d) ≡ parts_seen tally asked.session table.number
  pins_are (dml.Insert i) table exclusive there = absurd (false≢true exclusive)
  pins_are (dml.Update u) table exclusive there = target_is u.table table there
  pins_are (dml.Delete d) table exclusive there = target_is d.table table there
  pins_are (dml.Copy c) table exclusive there = absurd (false≢true exclusive)

  sees_target : (d : Dml) (table : PlainTable) → marks_exclusively d ≡ true → table_asked asked (target_of d) ≡ Some table → SeesPinned (pinned (change_pins asked d)) asked.session table.number
  sees_target d table exclusive there k e =
      let is : parts_pinned (pinned (change_pins asked d)) asked.session table.number ≡ parts_seen tally asked.session table.number =
      pinned_is (pinned (change_pins asked d)) asked.session table.number
      ∙ ap (pinned_in table.number) (pins_own asked.session (change_pins asked d) tally.pins (own_sessions (change_pins asked d) (change_pinned carried asked due d))) ∙ pins_are d table exclusive there in
      sym (ap (λ (ns : List ℕ). has ns k) is) ∙ e

  change_sees : (d : Dml) (table : PlainTable) (sources : List (ℕ × List Row)) → request_asked asked ≡ Writes d → IsSaid carried asked → table_asked asked (target_of d) ≡ Some table
      → SeesTarget carried asked.program (pinned (change_pins asked d)) asked.session (changing table d sources)
  change_sees d table sources writes said there other e target is read exclusive at =
      let open_is : opened asked sources (Some (table.number, target_rows state table d)) ≡ other = same_Some _ other is in
      let same : d ≡ e =
      same_change d e (ap Some (sym writes) ∙ sym (ap (option_map request_of) said.said) ∙ ap (λ (s : PlainOpen). option_map request_of (statement_read carried asked.program asked.session s.index)) open_is ∙ read) in
      let number : table.number ≡ target.0 = ap (λ (t : ℕ × List Row). t.0) (same_Some _ target (ap (λ (s : PlainOpen). s.target) open_is ∙ at)) in
      subst (SeesPinned (pinned (change_pins asked d)) asked.session) number (sees_target d table (ap marks_exclusively same ∙ exclusive) there)

  change_begun : (d : Dml) → request_asked asked ≡ Writes d → IsSaid carried asked → Gives KeepsHere (option_map (λ new. begun asked new (change_pins asked d)) (change_opened asked d))
  unfolding change_opened
  change_begun d writes said = found (table_asked asked (target_of d)) refl
    where
      seen : (table : PlainTable) → table_asked asked (target_of d) ≡ Some table → (sources : Option (List (ℕ × List Row)))
          → Gives KeepsHere (option_map (λ new. begun asked new (change_pins asked d)) (sources >>= λ sources. Some (changing table d sources)))
      seen table there None = tt
      seen table there (Some sources) = begun_leaves (changing table d sources) (change_pins asked d) (change_pinned carried asked due d) (change_sees d table sources writes said there)

      found : (table : Option PlainTable) → table_asked asked (target_of d) ≡ table
          → Gives KeepsHere (option_map (λ new. begun asked new (change_pins asked d)) (table >>= λ table. sources_seen asked (change_sources d) >>= λ sources. Some (changing table d sources)))
      found None there = tt
      found (Some table) there = seen table there (sources_seen asked (change_sources d))

  -- ---- the entry

  request_begun : (request : Request) → request_asked asked ≡ request → IsSaid carried asked → Gives KeepsHere (begun_by asked request)
  request_begun (Reads q) e said = query_begun q
  request_begun (Writes d) e said = change_begun d e said
  request_begun _ e said = tt

  pub start_leaves : (t : Told) → IsSaid carried asked → Gives KeepsHere (start_effect asked t)
  unfolding start_effect
  start_leaves t said =
      due_gives KeepsHere event.Start asked _ (λ test.
      told_leaves carried asked due (begun_by asked (request_asked asked)) (memory_effect asked) t (λ free. request_begun (request_asked asked) refl said) (memory_leaves carried asked due))
