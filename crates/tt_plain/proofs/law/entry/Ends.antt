-- The end of a query or a change keeps the store sound.
use Rattle.std.specs.List.{list_all}
use Rattle.std.specs.Prelude.{Bool, List, None, Option, Some, [], false, filter, if◌then◌else◌, length, nat_lt, not, option_map, option_to_list, refl, true, unwrap_or, ℕ, ◌&&◌, ◌++◌, ◌+◌, ◌<◌, ◌==◌, ◌∷◌, ◌≡◌}
use Rattle.std.proofs.Common.{ap, arith, subst, sym, ◌∙◌}
use Rattle.std.proofs.lemmas.Bool.{and_parts, false≢true, ltb-true}
use Rattle.std.proofs.lemmas.Option.{none-some, same_Some}
use Rattle.tt_history.specs.declared.history.Added.{Added}
use Rattle.tt_history.specs.declared.reply.Reply.{Reply}
use Rattle.tt_layout.proofs.Ascending.{ascends-filter, ascends-joined}
use Rattle.tt_layout.specs.Numbers.{IsAscending, has, without}
use Rattle.tt_plain.proofs.Answers.{bind_some}
use Rattle.tt_plain.proofs.Tests.{same_number}
use Rattle.tt_plain.proofs.law.session.Alone.{IsDue, IsSaid, alone_sound, no_more_marks, state_sound}
use Rattle.tt_plain.proofs.law.Gives.{Gives, gives_bind, gives_when}
use Rattle.tt_plain.proofs.law.Lists.{every-append, every-filter, every_kept, every_on, two-append, two-filter}
use Rattle.tt_plain.proofs.law.entry.SessionAlone.{SoundIn}
use Rattle.tt_plain.proofs.law.entry.Rounds.{added_ascend, ascends, begun_sound, same_many}
use Rattle.tt_plain.proofs.law.change.TallyChanges.{tally_later}
use Rattle.tt_plain.proofs.law.session.Versions.{committed_version, versions_effect}
use Rattle.tt_plain.proofs.law.session.Views.{every_found}
use Rattle.tt_plain.specs.Answers.{◌>>=◌}
use Rattle.tt_plain.specs.asked.Asked.{Asked, request_asked, state_asked}
use Rattle.tt_plain.specs.asked.Carried.{Carried}
use Rattle.tt_plain.specs.asked.Request.{Reads, Request, Writes, request_of}
use Rattle.tt_plain.specs.asked.Turns.{statement_read}
use Rattle.tt_plain.specs.declared.store.PlainOpen.{PlainOpen}
use Rattle.tt_plain.specs.declared.store.PlainPending.{PlainPending}
use Rattle.tt_plain.specs.declared.store.PlainSession.{PlainSession}
use Rattle.tt_plain.specs.declared.tally.TallyPending.{TallyPending}
use Rattle.tt_plain.specs.effect.Commit.{version_committed}
use Rattle.tt_plain.specs.effect.Effect.{Effect}
use Rattle.tt_plain.specs.effect.End.{EntryFacts, answered, are_facts_of, changed_by, committed_alone, count_reply, end_effect, ended_as, kept, may_remove, nothing_pending, pending_after, point_of_end, with_pending}
use Rattle.tt_plain.specs.effect.Ending.{own_point_now, session_done}
use Rattle.tt_plain.specs.law.Lists.{EachTwo, Every}
use Rattle.tt_plain.specs.law.Sound.{AreRowsOf, AreSoundLists, IsSoundOpen, IsSoundPending, IsSoundSession, IsSoundTally}
use Rattle.tt_plain.specs.meaning.Outcome.{Answers, Does, Outcome, change_outcome, change_seen, outcome_in, outcome_of, schema_numbered}
use Rattle.tt_plain.specs.opening.Marks.{marks_exclusively}
use Rattle.tt_plain.specs.opening.Seen.{pending_of}
use Rattle.tt_plain.specs.tally.Changes.{AddsParts, Keeps, Unpins}
use Rattle.tt_plain.specs.tally.Layouts.{is_ascending, is_pending_of, lists_of, parts_seen}
use Rattle.tt_plain.specs.tally.Parts.{are_next_parts, numbers_added, rows_in_added, rows_in_parts}
use Rattle.tt_plain.specs.tally.Pending.{changed_lists, layout_begun, lists_after, no_lists}
use Rattle.tt_sql.specs.declared.change.Dml.{Dml}
use Rattle.tt_sql.specs.declared.query.Query.{Query}
use Rattle.tt_sql.specs.meaning.Changes.{BadData, Changed, Changes, NullInRow, OutOfRange}
use Rattle.tt_value.proofs.values.Bags.{IsBag-bag_of}
use Rattle.tt_value.specs.declared.value.Row.{Row}
use Rattle.tt_value.specs.values.Bags.{bag_plus}
use Rattle.tt_history.specs.declared.reply.Reply.TheVariants as reply

-- ---- what is pending, in its place

abbrev Earlier : PlainPending → PlainPending → Type 0
Earlier a b = a.table < b.table

pending_put : (pending : PlainPending) (all : List PlainPending) → EachTwo Earlier all → EachTwo Earlier (with_pending pending all)
pending_put pending all two =
    let left : List PlainPending = filter (λ (other : PlainPending). nat_lt other.table pending.table) all in
    let right : List PlainPending = filter (λ (other : PlainPending). nat_lt pending.table other.table) all in
    let above : Every (λ (other : PlainPending). nat_lt pending.table other.table ≡ true) right = every_kept (λ (other : PlainPending). nat_lt pending.table other.table) all in
    two-append Earlier left (pending ∷ right) (two-filter Earlier (λ (other : PlainPending). nat_lt other.table pending.table) all two) (
      every_on (λ (other : PlainPending). nat_lt pending.table other.table ≡ true) (Earlier pending) right (λ other h. ltb-true pending.table other.table h) above,
      two-filter Earlier (λ (other : PlainPending). nat_lt pending.table other.table) all two,
    )
    (every_on (λ (other : PlainPending). nat_lt other.table pending.table ≡ true) (λ (other : PlainPending). Every (Earlier other) (pending ∷ right)) left
    (λ other below. (
      ltb-true other.table pending.table below,
      every_on (λ (more : PlainPending). nat_lt pending.table more.table ≡ true) (Earlier other) right
          (λ more h. omega (arith, ltb-true other.table pending.table below, ltb-true pending.table more.table h)) above,
    ))
    (every_kept (λ (other : PlainPending). nat_lt other.table pending.table) all))

pending_with : (P : PlainPending → Type 0) (pending : PlainPending) (all : List PlainPending) → P pending → Every P all → Every P (with_pending pending all)
pending_with P pending all here each =
    every-append P (filter (λ (other : PlainPending). nat_lt other.table pending.table) all) (pending ∷ filter (λ (other : PlainPending). nat_lt pending.table other.table) all)
    (every-filter P (λ (other : PlainPending). nat_lt other.table pending.table) all each)
    (here, every-filter P (λ (other : PlainPending). nat_lt pending.table other.table) all each)

-- ---- lists of parts

nothing_gone : (gone : List ℕ) → (length gone == 0) ≡ true → IsAscending gone
nothing_gone [] e = tt
nothing_gone (n ∷ gone) e = absurd (omega (arith, same_number (length (n ∷ gone)) 0 e))

gone_ascends : (test : Bool) (gone : List ℕ) (all : Bool) → (if test then is_ascending gone && all else length gone == 0) ≡ true → IsAscending gone
gone_ascends true gone all e = ascends gone (and_parts (is_ascending gone) all e).0
gone_ascends false gone all e = nothing_gone gone e

module _ (carried : Carried) (asked : Asked) (due : IsDue carried asked) (said : IsSaid carried asked) (seen : PlainOpen) (running : (state_asked asked).running ≡ Some seen) where
  abbrev Sound : Effect → Type 0
  Sound effect = SoundIn carried asked.program asked.store effect

  abbrev SoundSession : PlainSession → Type 0
  SoundSession new = IsSoundSession carried asked.program asked.store.tables asked.session new

  sound_open : IsSoundOpen carried asked.program (length asked.store.tables) asked.session (state_asked asked) seen
  sound_open = (state_sound carried asked due).running seen running

  -- ---- queries

  is_read : (q : Query) → request_asked asked ≡ Reads q → option_map request_of (statement_read carried asked.program asked.session seen.index) ≡ Some (Reads q)
  is_read q e =
      ap (λ (i : ℕ). option_map request_of (statement_read carried asked.program asked.session i)) (sound_open.counted ∙ sym said.counted) ∙ ap (option_map request_of) said.said ∙ ap Some e

  answered_session : (q : Query) → request_asked asked ≡ Reads q → SoundSession (session_done asked)
  answered_session q reads =
      let sound = state_sound carried asked due in
      record {
        pending = sound.pending;
        rows = sound.rows;
        marks = sound.marks;
        marked = sound.marked;
        closed = sound.closed;
        running = λ other e. absurd (none-some other e);
        unmarked = λ closed e. sound_open.query q (is_read q reads) ∙ sound_open.alone closed;
      }

  answered_sound : (q : Query) (rows : List Row) → request_asked asked ≡ Reads q → Sound (answered asked rows)
  answered_sound q rows reads time =
      alone_sound carried asked due (session_done asked) (point_of_end asked) (Unpins asked.session ∷ []) asked.moment (Some (reply.Rows rows)) (omega arith) time (answered_session q reads)
      (no_more_marks carried asked due (session_done asked) (λ table e. e)) (tt, tt) refl

  -- ---- changes

  -- what is pending is of a table that there is
  pending_bags : (found : Option PlainPending) (table : ℕ) (removed added : List Row) → AreRowsOf (length asked.store.tables) (table, []) → pending_of (state_asked asked) table ≡ found
      → IsSoundPending (length asked.store.tables) (record { table = table; gone = bag_plus (unwrap_or found (nothing_pending table)).gone removed; added = bag_plus (unwrap_or found (nothing_pending table)).added added })
  pending_bags found table removed added there e =
      ((there.0, there.1, IsBag-bag_of ((unwrap_or found (nothing_pending table)).gone ++ removed)), IsBag-bag_of ((unwrap_or found (nothing_pending table)).added ++ added))

  kept_session : (pending : PlainPending) → (state_asked asked).transaction ≡ true → IsSoundPending (length asked.store.tables) pending
      → SoundSession (record (session_done asked) { pending = with_pending pending (state_asked asked).pending })
  kept_session pending within good =
      let sound = state_sound carried asked due in
      record {
        marks = sound.marks;
        marked = sound.marked;
        pending = pending_put pending (state_asked asked).pending sound.pending;
        rows = pending_with (IsSoundPending (length asked.store.tables)) pending (state_asked asked).pending good sound.rows;
        closed = λ closed. absurd (false≢true (sym closed ∙ within));
        running = λ other e. absurd (none-some other e);
        unmarked = λ closed e. absurd (false≢true (sym closed ∙ within));
      }

  lists_sound : (table : ℕ) (gone added : List ℕ) → IsAscending gone → IsAscending added → (found : Option TallyPending) → lists_of asked.store.tally asked.session table ≡ found
      → AreSoundLists (changed_lists (unwrap_or found (no_lists asked.session table)) gone added)
  lists_sound table gone added up right None e =
      (ascends-joined (without [] gone) [] 0 tt (ascends-filter (λ n. not (has [] n)) gone 0 up), ascends-joined added [] 0 tt right)
  lists_sound table gone added up right (Some lists) e =
      let sound = every_found AreSoundLists (is_pending_of asked.session table) asked.store.tally.pending lists due.sound.tally.lists e in (
        ascends-joined (without lists.added gone) lists.gone 0 sound.0 (ascends-filter (λ n. not (has lists.added n)) gone 0 up),
        ascends-joined added (without gone lists.added) 0 (ascends-filter (λ n. not (has gone n)) lists.added 0 sound.1) right,
      )

  kept_sound : (pending : PlainPending) (table : ℕ) (facts : EntryFacts) (reply : Reply) → (state_asked asked).transaction ≡ true → IsSoundPending (length asked.store.tables) pending
      → IsAscending facts.0 → are_next_parts asked.store.tally facts.1 ≡ true → Sound (kept asked pending table facts reply)
  unfolding kept
  kept_sound pending table facts reply within good up next time =
      let new : PlainSession = record (session_done asked) { pending = with_pending pending (state_asked asked).pending } in
      alone_sound carried asked due new [] (AddsParts table facts.1 ∷ Keeps (lists_after asked.store.tally asked.session table facts.0 (numbers_added facts.1)) ∷ Unpins asked.session ∷ [])
      asked.moment (Some reply) (omega arith) time (kept_session pending within good) (no_more_marks carried asked due new (λ t e. e))
      (next, (lists_sound table facts.0 (numbers_added facts.1) up (added_ascend asked.store.tally facts.1 next) (lists_of asked.store.tally asked.session table) refl, (tt, tt))) refl

  alone_session : (state_asked asked).transaction ≡ false → SoundSession (record (session_done asked) { marks = [] })
  alone_session closed_now =
      let sound = state_sound carried asked due in
      record {
        pending = sound.pending;
        rows = sound.rows;
        marks = tt;
        marked = tt;
        closed = sound.closed;
        running = λ other e. absurd (none-some other e);
        unmarked = λ closed e. refl;
      }

  at_now : IsSoundTally asked.moment asked.store.tally
  at_now = tally_later asked.store.moment asked.moment asked.store.tally (omega (arith, due.next)) due.sound.tally

  alone_committed : (pending : PlainPending) (table : ℕ) (facts : EntryFacts) (reply : Reply) → (state_asked asked).transaction ≡ false
      → are_next_parts asked.store.tally facts.1 ≡ true → Sound (committed_alone asked pending table facts reply)
  unfolding committed_alone
  alone_committed pending table facts reply closed next time =
      let new : PlainSession = record (session_done asked) { marks = [] } in
      versions_effect carried asked due new (version_committed asked.store asked.moment pending) (own_point_now asked)
      (AddsParts table facts.1 ∷ layout_begun asked.store.tally asked.moment table facts.0 (numbers_added facts.1) ++ Unpins asked.session ∷ []) (Some reply) time (alone_session closed)
      (no_more_marks carried asked due new (λ t e. absurd (false≢true e))) (committed_version asked.store asked.moment pending)
      (next, begun_sound asked.moment asked.store.tally _ table facts.0 (numbers_added facts.1) (Unpins asked.session ∷ []) at_now (added_ascend asked.store.tally facts.1 next) (λ t. (tt, tt)))
      (same_many asked.moment asked.store.tally _ table facts.0 (numbers_added facts.1) (Unpins asked.session ∷ []) (λ t. refl))

  changed_sound : (d : Dml) (table : ℕ) (removed added : List Row) (count : ℕ) (facts : EntryFacts) → AreRowsOf (length asked.store.tables) (table, []) → are_facts_of asked table d removed added facts ≡ true
      → Sound (changed_by asked d table removed added count facts)
  unfolding are_facts_of
  changed_sound d table removed added count facts there test = by (state_asked asked).transaction refl
    where
      first : (may_remove asked table d facts.0 && are_next_parts asked.store.tally facts.1) ≡ true
      first = (and_parts (may_remove asked table d facts.0 && are_next_parts asked.store.tally facts.1) (rows_in_added facts.1 + length removed == rows_in_parts asked.store.tally facts.0 + length added) test).0

      gone_up : IsAscending facts.0
      gone_up = gone_ascends (marks_exclusively d) facts.0 (list_all (has (parts_seen asked.store.tally asked.session table)) facts.0) (and_parts (may_remove asked table d facts.0) (are_next_parts asked.store.tally facts.1) first).0

      next : are_next_parts asked.store.tally facts.1 ≡ true
      next = (and_parts (may_remove asked table d facts.0) (are_next_parts asked.store.tally facts.1) first).1

      pending : PlainPending
      pending = pending_after (state_asked asked) table removed added

      by : (b : Bool) → (state_asked asked).transaction ≡ b → Sound (if b then kept asked pending table facts (count_reply d count) else committed_alone asked pending table facts (count_reply d count))
      by true e = kept_sound pending table facts (count_reply d count) e (pending_bags (pending_of (state_asked asked) table) table removed added there refl) gone_up next
      by false e = alone_committed pending table facts (count_reply d count) e next

  -- ---- the entry

  -- what a change does is of the table that it has seen
  does_there : (target : Option (ℕ × List Row)) (d : Dml) (table : ℕ) (removed added : List Row) (count : ℕ) → Every (AreRowsOf (length asked.store.tables)) (option_to_list target)
      → (target >>= λ target. schema_numbered asked.store target.0 >>= λ schema. Some (change_outcome target.0 (change_seen asked.program asked.store seen schema target.1 d))) ≡ Some (Does table removed added count)
      → AreRowsOf (length asked.store.tables) (table, [])
  does_there None d table removed added count all e = absurd (none-some (Does table removed added count) e)
  does_there (Some target) d table removed added count all e =
      let found = bind_some (schema_numbered asked.store target.0) _ (Does table removed added count) e in
      let same = does_table target.0 (change_seen asked.program asked.store seen found.0 target.1 d) table removed added count (same_Some _ (Does table removed added count) found.2) in
      subst (λ (n : ℕ). AreRowsOf (length asked.store.tables) (n, [])) same (all.0.0, all.0.1, tt)
    where
      does_table : (number : ℕ) (changed : Changed) (table : ℕ) (removed added : List Row) (count : ℕ) → change_outcome number changed ≡ Does table removed added count → number ≡ table
      does_table number (Changes r a c) table removed added count f = cc
      does_table number (BadData r c) table removed added count f = absurd cc
      does_table number OutOfRange table removed added count f = absurd cc
      does_table number (NullInRow c) table removed added count f = absurd cc

  outcome_sound : (request : Request) (outcome : Outcome) (facts : EntryFacts) → request_asked asked ≡ request → outcome_in asked seen request ≡ Some outcome → Gives Sound (ended_as asked request outcome facts)
  outcome_sound (Reads q) (Answers rows) facts e f = gives_when Sound (length facts.0 == 0 && length facts.1 == 0) (answered asked rows) (λ test. answered_sound q rows e)
  outcome_sound (Writes d) (Does table removed added count) facts e f =
      gives_when Sound (are_facts_of asked table d removed added facts) (changed_by asked d table removed added count facts)
      (λ test. changed_sound d table removed added count facts (does_there seen.target d table removed added count sound_open.target f) test)
  outcome_sound _ _ facts e f = tt

  pub end_sound : (gone : List ℕ) (added : List Added) → Gives Sound (end_effect (asked, seen) gone added)
  unfolding end_effect outcome_of
  end_sound gone added = gives_bind Sound (outcome_of asked seen) _ (λ outcome e. outcome_sound (request_asked asked) outcome (gone, added) refl e)
