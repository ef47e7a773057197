-- The start of a query or a change keeps the store sound.
use Rattle.std.specs.Prelude.{List, None, Option, Some, [], length, option_map, refl, true, ℕ, ◌∷◌, ◌≡◌}
use Rattle.std.proofs.Common.{ap, arith, inl, inr, subst, sym, ◌∙◌}
use Rattle.std.proofs.lemmas.Bool.{false≢true}
use Rattle.std.proofs.lemmas.Option.{none-some, same_Some}
use Rattle.tt_history.specs.declared.history.Told.{Told}
use Rattle.tt_plain.proofs.law.session.Alone.{IsDue, IsSaid, StandsAlone, alone_sound, no_more_marks, state_sound}
use Rattle.tt_plain.proofs.law.Free.{is_free}
use Rattle.tt_plain.proofs.law.Gives.{Gives}
use Rattle.tt_plain.proofs.law.session.Marks.{all_kept, exclusive_put, kept_put, marked_put, marks_put, others_free}
use Rattle.tt_plain.proofs.law.entry.SessionAlone.{SoundIn, memory_sound, told_sound}
use Rattle.tt_plain.proofs.law.Turns.{due_gives}
use Rattle.tt_plain.proofs.law.session.Views.{named, GoodPin, IsNamed, IsTable, change_pinned, sources_pinned, sources_rows, visible_bag}
use Rattle.tt_plain.specs.Answers.{◌>>=◌}
use Rattle.tt_plain.specs.Places.{if_there}
use Rattle.tt_plain.specs.asked.Asked.{Asked, own_point, request_asked, state_asked, table_asked}
use Rattle.tt_plain.specs.asked.Carried.{Carried}
use Rattle.tt_plain.specs.asked.Request.{Reads, Request, Writes, request_of}
use Rattle.tt_plain.specs.asked.Turns.{statement_read}
use Rattle.tt_plain.specs.declared.store.PlainSession.{PlainSession}
use Rattle.tt_plain.specs.declared.store.PlainTable.{PlainTable}
use Rattle.tt_plain.specs.declared.tally.TallyPin.{TallyPin}
use Rattle.tt_plain.specs.effect.Effect.{Effect}
use Rattle.tt_plain.specs.effect.Ending.{memory_effect}
use Rattle.tt_plain.specs.effect.Start.{begun, begun_by, start_effect}
use Rattle.tt_plain.specs.law.Lists.{Every}
use Rattle.tt_plain.specs.law.Sound.{AreRowsOf, IsSoundMark, IsSoundOpen, IsSoundSession}
use Rattle.tt_plain.specs.opening.Marks.{marks_exclusively, with_mark}
use Rattle.tt_plain.specs.opening.Opened.{change_opened, opened, query_opened, sources_seen, target_of, target_rows}
use Rattle.tt_plain.specs.opening.Point.{change_sources, query_sources}
use Rattle.tt_plain.specs.refusal.{head_of}
use Rattle.tt_plain.specs.refusal.LockHeld.{change_holders, exclusive_holders, holders_asked, lock_held}
use Rattle.tt_plain.specs.stored.Points.{no_point_yet}
use Rattle.tt_plain.specs.stored.Sessions.{has_exclusive_mark, others_with}
use Rattle.tt_plain.specs.tally.Changes.{Pins}
use Rattle.tt_plain.specs.tally.Pins.{change_pins, source_pins}
use Rattle.tt_sql.specs.declared.change.Dml.{Dml}
use Rattle.tt_sql.specs.declared.query.Query.{Query}
use Rattle.tt_value.specs.declared.value.Row.{Row}
use Rattle.tt_value.specs.values.Bags.{IsBag}
use Rattle.tt_sql.specs.declared.change.Dml.TheVariants as dml
use Rattle.tt_plain.specs.asked.Event as event
use Rattle.tt_history.specs.declared.reply.Refusal.TheVariants as refusal

module _ (carried : Carried) (asked : Asked) (due : IsDue carried asked) (said : IsSaid carried asked) where
  abbrev Sound : Effect → Type 0
  Sound effect = SoundIn carried asked.program asked.store effect

  abbrev SoundSession : PlainSession → Type 0
  SoundSession new = IsSoundSession carried asked.program asked.store.tables asked.session new

  -- what begins changes no layout
  begun_sound : (new : PlainSession) (pins : List TallyPin) → SoundSession new → StandsAlone asked new → Every (GoodPin carried asked due) pins → Sound (begun asked new pins)
  begun_sound new pins sound apart good time =
      alone_sound carried asked due new ((own_point asked, no_point_yet) ∷ []) (Pins asked.session pins ∷ []) asked.moment None (omega arith) time sound apart (good, tt) refl

  -- ---- queries

  query_session : (sources : List (ℕ × List Row)) → (state_asked asked).running ≡ None → Every (AreRowsOf (length asked.store.tables)) sources
      → SoundSession (record (state_asked asked) { running = Some (opened asked sources None) })
  query_session sources idle rows =
      let sound = state_sound carried asked due in
      record {
        pending = sound.pending;
        rows = sound.rows;
        marks = sound.marks;
        marked = sound.marked;
        closed = sound.closed;
        running = λ seen e. subst (IsSoundOpen carried asked.program (length asked.store.tables) asked.session (record (state_asked asked) { running = Some (opened asked sources None) })) (same_Some (opened asked sources None) seen e)
            (record {
              counted = said.counted;
              sources = rows;
              target = tt;
              before = sound.marks;
              kept = all_kept (state_asked asked).marks;
              alone = λ closed. sound.unmarked closed idle;
              query = λ q f. refl;
            });
        unmarked = λ closed e. absurd (none-some (opened asked sources None) (sym e));
      }

  query_begun : (q : Query) → (state_asked asked).running ≡ None → Gives Sound (option_map (λ new. begun asked new (source_pins asked (query_sources q))) (query_opened asked q))
  unfolding query_opened
  query_begun q idle = seen (sources_seen asked (query_sources q)) (sources_rows carried asked due (query_sources q))
    where
      seen : (sources : Option (List (ℕ × List Row))) → Gives (Every (AreRowsOf (length asked.store.tables))) sources
          → Gives Sound (option_map (λ new. begun asked new (source_pins asked (query_sources q))) (sources >>= λ sources. Some (record (state_asked asked) { running = Some (opened asked sources None) })))
      seen None rows = tt
      seen (Some sources) rows =
          begun_sound (record (state_asked asked) { running = Some (opened asked sources None) }) (source_pins asked (query_sources q)) (query_session sources idle rows)
          (no_more_marks carried asked due (record (state_asked asked) { running = Some (opened asked sources None) }) (λ table e. e)) (sources_pinned carried asked due (query_sources q))

  -- ---- changes

  abbrev changing : PlainTable → Dml → List (ℕ × List Row) → PlainSession
  changing table d sources = record (state_asked asked) {
    running = Some (opened asked sources (Some (table.number, target_rows (state_asked asked) table d)));
    marks = with_mark table.number (marks_exclusively d) (state_asked asked).marks;
  }

  target_bag : (table : PlainTable) (d : Dml) → IsTable asked.store table → IsBag (target_rows (state_asked asked) table d)
  target_bag table (dml.Insert i) there = tt
  target_bag table (dml.Update u) there = visible_bag asked.store.moment (length asked.store.tables) table.number (state_asked asked) table there.sound
  target_bag table (dml.Delete d) there = visible_bag asked.store.moment (length asked.store.tables) table.number (state_asked asked) table there.sound
  target_bag table (dml.Copy c) there = tt

  no_query : (d : Dml) (q : Query) → request_asked asked ≡ Writes d → option_map request_of (statement_read carried asked.program asked.session asked.index) ≡ Some (Reads q) → ⊥
  no_query d q writes e =
      let read : Some (Writes d) ≡ Some (Reads q) = sym (ap (option_map request_of) said.said ∙ ap Some writes) ∙ e in absurd cc

  change_session : (d : Dml) (table : PlainTable) (sources : List (ℕ × List Row)) → request_asked asked ≡ Writes d → (state_asked asked).running ≡ None
      → IsNamed carried asked due (target_of d) table → Every (AreRowsOf (length asked.store.tables)) sources → SoundSession (changing table d sources)
  change_session d table sources writes idle named rows =
      let sound = state_sound carried asked due in
      record {
        pending = sound.pending;
        rows = sound.rows;
        closed = sound.closed;
        marks = marks_put table.number (marks_exclusively d) (state_asked asked).marks sound.marks;
        marked = marked_put (IsSoundMark asked.store.tables) table.number (marks_exclusively d) (state_asked asked).marks sound.marked
            (record { table = table; from_one = named.is.from_one; table_is = named.is.there; so = named.live });
        running = λ seen e. subst (IsSoundOpen carried asked.program (length asked.store.tables) asked.session (changing table d sources))
            (same_Some (opened asked sources (Some (table.number, target_rows (state_asked asked) table d))) seen e)
            (record {
              counted = said.counted;
              sources = rows;
              before = sound.marks;
              target = ((named.is.from_one, named.is.within, target_bag table d named.is), tt);
              kept = kept_put table.number (marks_exclusively d) (state_asked asked).marks;
              alone = λ closed. sound.unmarked closed idle;
              query = λ q f. absurd (no_query d q writes f);
            });
        unmarked = λ closed e. absurd (none-some (opened asked sources (Some (table.number, target_rows (state_asked asked) table d))) (sym e));
      }

  no_head : (xs : List ℕ) → option_map refusal.LockHeld (head_of xs) ≡ None → xs ≡ []
  no_head [] e = refl
  no_head (x ∷ xs) e = absurd (none-some (refusal.LockHeld x) (sym e))

  exclusive_named : (d : Dml) → marks_exclusively d ≡ true → change_holders asked d ≡ exclusive_holders asked (target_of d)
  exclusive_named (dml.Insert i) e = absurd (false≢true e)
  exclusive_named (dml.Update u) e = refl
  exclusive_named (dml.Delete d) e = refl
  exclusive_named (dml.Copy c) e = absurd (false≢true e)

  no_holder : (d : Dml) (table : PlainTable) → request_asked asked ≡ Writes d → lock_held asked ≡ None → marks_exclusively d ≡ true → table_asked asked (target_of d) ≡ Some table
      → others_with (has_exclusive_mark table.number) asked.store asked.session ≡ []
  no_holder d table writes free exclusive e =
      let nobody : change_holders asked d ≡ [] = sym (ap (holders_asked asked) writes) ∙ no_head (holders_asked asked (request_asked asked)) free in
      sym (ap (if_there (λ (t : PlainTable). others_with (has_exclusive_mark t.number) asked.store asked.session)) e) ∙ sym (exclusive_named d exclusive) ∙ nobody

  stays_alone : (d : Dml) (table : PlainTable) (sources : List (ℕ × List Row)) → request_asked asked ≡ Writes d → lock_held asked ≡ None → table_asked asked (target_of d) ≡ Some table → StandsAlone asked (changing table d sources)
  stays_alone d table sources writes free e t other state marked there held =
      elim (exclusive_put table.number (marks_exclusively d) (state_asked asked).marks t marked) [
        | inl h ↦ due.sound.holders t other asked.session state (state_asked asked) there due.at held h
        | inr h ↦ others_free (has_exclusive_mark table.number) asked.store asked.session other state (no_holder d table writes free h.1 e) there
            (subst (λ (n : ℕ). has_exclusive_mark n state ≡ true) h.0 held)
      ]

  change_begun : (d : Dml) → request_asked asked ≡ Writes d → lock_held asked ≡ None → (state_asked asked).running ≡ None → Gives Sound (option_map (λ new. begun asked new (change_pins asked d)) (change_opened asked d))
  unfolding change_opened
  change_begun d writes free idle = found (table_asked asked (target_of d)) refl
    where
      seen : (table : PlainTable) → table_asked asked (target_of d) ≡ Some table → (sources : Option (List (ℕ × List Row))) → Gives (Every (AreRowsOf (length asked.store.tables))) sources
          → Gives Sound (option_map (λ new. begun asked new (change_pins asked d)) (sources >>= λ sources. Some (changing table d sources)))
      seen table e None rows = tt
      seen table e (Some sources) rows =
          begun_sound (changing table d sources) (change_pins asked d) (change_session d table sources writes idle (named carried asked due (target_of d) table e) rows)
          (stays_alone d table sources writes free e) (change_pinned carried asked due d)

      found : (table : Option PlainTable) → table_asked asked (target_of d) ≡ table
          → Gives Sound (option_map (λ new. begun asked new (change_pins asked d)) (table >>= λ table. sources_seen asked (change_sources d) >>= λ sources. Some (changing table d sources)))
      found None e = tt
      found (Some table) e = seen table e (sources_seen asked (change_sources d)) (sources_rows carried asked due (change_sources d))

  -- ---- the entry

  request_begun : (request : Request) → request_asked asked ≡ request → lock_held asked ≡ None → (state_asked asked).running ≡ None → Gives Sound (begun_by asked request)
  request_begun (Reads q) e free idle = query_begun q idle
  request_begun (Writes d) e free idle = change_begun d e free idle
  request_begun _ e free idle = tt

  pub start_sound : (t : Told) → (state_asked asked).running ≡ None → Gives Sound (start_effect asked t)
  unfolding start_effect
  start_sound t idle =
      due_gives Sound event.Start asked _ (λ test.
      told_sound carried asked due (begun_by asked (request_asked asked)) (memory_effect asked) t idle
      (λ free. request_begun (request_asked asked) refl (is_free asked free).held idle) (memory_sound carried asked due idle))
