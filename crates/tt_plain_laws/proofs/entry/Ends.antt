-- The end of a change keeps the bags: in a transaction its parts are pending like its rows, and else they begin at once.
use Rattle.std.specs.List.{list_all}
use Rattle.std.specs.Prelude.{Bool, List, None, Option, Some, [], false, filter, find, flat_map, fold, if◌then◌else◌, length, nat_lt, option_to_list, refl, slice_get, true, unwrap_or, ℕ, ◌&&◌, ◌++◌, ◌+◌, ◌==◌, ◌∷◌, ◌≡◌, ◌≢◌, ◌≤◌}
use Rattle.std.proofs.Common.{ap, arith, inl, inr, subst, sym, ◌∙◌, ◌⊎◌}
use Rattle.std.proofs.lemmas.Bool.{and_parts, cases_order, eq-eqb, false≢true, or_cases}
use Rattle.std.proofs.lemmas.Option.{none-some, same_Some}
use Rattle.tt_history.specs.declared.history.Added.{Added}
use Rattle.tt_history.specs.declared.reply.Reply.{Reply}
use Rattle.tt_layout.specs.Numbers.{IsAscending, changed, has, without}
use Rattle.tt_plain.proofs.Tests.{same_number}
use Rattle.tt_plain.proofs.law.Lists.{every-append, every-filter}
use Rattle.tt_plain.proofs.law.entry.Rounds.{added_ascend, ascends}
use Rattle.tt_plain.proofs.law.session.Alone.{IsDue, state_sound}
use Rattle.tt_plain.proofs.law.session.Versions.{committed_version, versions_sound}
use Rattle.tt_plain.specs.asked.Asked.{Asked, state_asked}
use Rattle.tt_plain.specs.asked.Carried.{Carried}
use Rattle.tt_plain.specs.declared.store.PlainOpen.{PlainOpen}
use Rattle.tt_plain.specs.declared.store.PlainPending.{PlainPending}
use Rattle.tt_plain.specs.declared.store.PlainSession.{PlainSession}
use Rattle.tt_plain.specs.declared.tally.Tally.{Tally}
use Rattle.tt_plain.specs.declared.tally.TallyPending.{TallyPending}
use Rattle.tt_plain.specs.declared.tally.TallyPin.{TallyPin}
use Rattle.tt_plain.specs.effect.Apply.{applied, changed_table}
use Rattle.tt_plain.specs.effect.Commit.{version_committed}
use Rattle.tt_plain.specs.effect.Effect.{Effect, TableChange}
use Rattle.tt_plain.specs.effect.End.{are_facts_of, changed_by, committed_alone, count_reply, kept, may_remove, nothing_pending, pending_after, with_pending}
use Rattle.tt_plain.specs.effect.Ending.{session_done}
use Rattle.tt_plain.specs.law.Changes.{IsSoundEffect}
use Rattle.tt_plain.specs.law.Isolated.{AreAmong}
use Rattle.tt_plain.specs.law.Lists.{Every}
use Rattle.tt_plain.specs.law.Sound.{AreRowsOf, AreSoundLists}
use Rattle.tt_plain.specs.opening.Marks.{marks_exclusively}
use Rattle.tt_plain.specs.opening.Seen.{pending_of}
use Rattle.tt_plain.specs.stored.Sessions.{has_exclusive_mark}
use Rattle.tt_plain.specs.stored.Tables.{current_rows, table_numbered}
use Rattle.tt_plain.specs.tally.Changes.{AddsParts, TallyChange, Unpins, changed_tally, stands_before, with_lists}
use Rattle.tt_plain.specs.tally.Layouts.{current_parts, is_ascending, is_pending_of, lists_of, parts_seen}
use Rattle.tt_plain.specs.tally.Parts.{are_next_parts, numbers_added, rows_in_added, rows_in_parts}
use Rattle.tt_plain.specs.tally.Pending.{layout_begun, lists_after, no_lists}
use Rattle.tt_sql.specs.declared.change.Dml.{Dml}
use Rattle.tt_value.proofs.values.Bags.{copies_of-bag_plus, minus_none}
use Rattle.tt_value.specs.declared.value.Row.{Row}
use Rattle.tt_value.specs.values.Bags.{bag_plus, copies_of}
use Rattle.tt_plain_laws.proofs.guard.Ends.{exclusive_now, rests_now}
use Rattle.tt_plain_laws.proofs.guard.Kept.{are_numbered}
use Rattle.tt_plain_laws.proofs.guard.Removed.{IsOfTarget}
use Rattle.tt_plain_laws.proofs.parts.Added.{contents_added, grown_length, known_outside, lengths_added, measured_added, new_hold, new_known, new_outside, stored_added}
use Rattle.tt_plain_laws.proofs.parts.After.{AreLaid, AreRisen, OnlyLayouts, fold_tally-append, found_for, layouts_laid, lists_key, none_for, only_begun, pending_key, versions_risen}
use Rattle.tt_plain_laws.proofs.parts.Backed.{AreBacked, IsPinned, found_passes, lists_sound, seen_is}
use Rattle.tt_plain_laws.proofs.parts.Balance.{IsBalanced, IsFurther, further_balanced, lists_now, more_balanced, none_balanced, not_none_second, pending_now}
use Rattle.tt_plain_laws.proofs.entry.Commits.{bags_now, held_alone, none_or}
use Rattle.tt_plain_laws.proofs.parts.Contents.{Known, known_more, same_contents, total}
use Rattle.tt_plain_laws.proofs.parts.Known.{KnownChange, known_current, known_lists}
use Rattle.tt_plain_laws.proofs.parts.Moved.{IsMoved, moved_backed}
use Rattle.tt_plain_laws.proofs.parts.Numbers.{Outside, Within, copies_in, is_false, not_both, within_changed, within_joined, within_without}
use Rattle.tt_plain_laws.proofs.parts.Places.{key_of, lists_kept, pending_kept}
use Rattle.tt_plain_laws.proofs.parts.Step.{balanced_still, each_session, known_next, layouts_still, pinned_other}
use Rattle.tt_plain_laws.proofs.parts.Views.{pins_other}
use Rattle.tt_plain_laws.specs.Guarded.{AreGuarded}

-- What an end gives as the rows of its parts: as many as its facts say, and with the removed rows those that are gone with those
-- that the change brings. Where parts are gone, so are rows.
pub record IsCut (contents : List (List Row)) (gone : List ℕ) (removed brought rows : List Row) (added : List Added) : Type 0 where
  pub all : total (lengths_added added) ≡ length rows
  pub swap : (row : Row) → copies_of row rows + copies_of row removed ≡ copies_in contents row gone + copies_of row brought
  pub touched : gone ≢ [] → removed ≢ []

has_each : (seen gone : List ℕ) → list_all (has seen) gone ≡ true → Within gone seen
has_each seen [] all k e = absurd (false≢true e)
has_each seen (n ∷ gone) all k e =
    let both = and_parts (has seen n) (list_all (has seen) gone) all in
    elim (or_cases (n == k) (has gone k) e) [ inl h ↦ subst (λ (m : ℕ). has seen m ≡ true) (same_number n k h) both.0 | inr h ↦ has_each seen gone both.1 k h ]

-- what may be removed is seen, in ascending order
pub removable : (test : Bool) (seen gone : List ℕ) → (if test then is_ascending gone && list_all (has seen) gone else length gone == 0) ≡ true → Within gone seen × IsAscending gone
removable true seen gone e = let both = and_parts (is_ascending gone) (list_all (has seen) gone) e in (has_each seen gone both.1, ascends gone both.0)
removable false seen [] e = ((λ k f. absurd (false≢true f)), tt)
removable false seen (n ∷ gone) e = absurd (omega (arith, same_number (length (n ∷ gone)) 0 e))

module _ (carried : Carried) (asked : Asked) (due : IsDue carried asked) (contents : List (List Row)) (backed : AreBacked carried asked.program contents asked.store) (guarded : AreGuarded asked.store)
    (seen : PlainOpen) (running : (state_asked asked).running ≡ Some seen) (d : Dml) (table : ℕ) (removed brought : List Row) (of_target : IsOfTarget seen d table removed)
    (gone : List ℕ) (added : List Added) (rows : List Row) (facts : are_facts_of asked table d removed brought (gone, added) ≡ true) (cut : IsCut contents gone removed brought rows added) where
  abbrev state : PlainSession
  state = state_asked asked

  abbrev tally : Tally
  tally = asked.store.tally

  abbrev s : ℕ
  s = asked.session

  abbrev more : List (List Row)
  more = contents_added added rows

  abbrev news : List ℕ
  news = numbers_added added

  both_facts : (may_remove asked table d gone && are_next_parts tally added) ≡ true
  unfolding are_facts_of
  both_facts = (and_parts (may_remove asked table d gone && are_next_parts tally added) (rows_in_added added + length removed == rows_in_parts tally gone + length brought) facts).0

  next_parts : are_next_parts tally added ≡ true
  next_parts = (and_parts (may_remove asked table d gone) (are_next_parts tally added) both_facts).1

  gone_seen : Within gone (changed (current_parts tally table) (lists_now tally s table).gone (lists_now tally s table).added) × IsAscending gone
  gone_seen =
      let both = removable (marks_exclusively d) (parts_seen tally s table) gone (and_parts (may_remove asked table d gone) (are_next_parts tally added) both_facts).0 in
      (subst (Within gone) (seen_is tally s table) both.0, both.1)

  there : (1 ≤ table) × (table ≤ length asked.store.tables)
  there =
      let all = (subst (λ (t : Option (ℕ × List Row)). Every (AreRowsOf (length asked.store.tables)) (option_to_list t)) of_target.target ((state_sound carried asked due).running seen running).target).0 in (all.0, all.1)

  known_gone : Known (length contents) gone
  known_gone k e = elim (within_changed (current_parts tally table) (lists_now tally s table).gone (lists_now tally s table).added k (gone_seen.0 k e)) [
    | inl h ↦ known_current (length contents) tally table backed.known k h.0
    | inr h ↦ (known_lists (length contents) tally s table backed.known).1 k h
  ]

  new_up : IsAscending news
  new_up = added_ascend tally added next_parts

  known_new : Known (length (contents ++ more)) news
  known_new = new_known contents tally added rows backed.stored next_parts cut.all

  further : IsFurther (contents ++ more) (current_parts tally table) (lists_now tally s table) gone news removed brought
  further = record {
    change = λ row. omega (
      arith,
      new_hold contents tally added rows backed.stored next_parts cut.all row,
      ap (copies_of row) (same_contents contents more gone known_gone),
      cut.swap row,
    );
    gone_up = gone_seen.1;
    added_up = new_up;
    seen = gone_seen.0;
    new = new_outside contents tally added rows backed.stored next_parts cut.all (current_parts tally table) (known_current (length contents) tally table backed.known);
    fresh = new_outside contents tally added rows backed.stored next_parts cut.all (lists_now tally s table).added (known_lists (length contents) tally s table backed.known).1;
    removes = cut.touched;
  }

  -- ---- in a transaction

  abbrev pending : PlainPending
  pending = pending_after state table removed brought

  abbrev lists : TallyPending
  lists = lists_after tally s table gone news

  abbrev left : PlainSession
  left = record (session_done asked) { pending = with_pending pending state.pending }

  lists_are : (lists.session ≡ s) × (lists.table ≡ table)
  lists_are = by (lists_of tally s table) refl
    where
      by : (o : Option TallyPending) → lists_of tally s table ≡ o → ((unwrap_or o (no_lists s table)).session ≡ s) × ((unwrap_or o (no_lists s table)).table ≡ table)
      by None e = (refl, refl)
      by (Some l) e = key_of s table l (found_passes (is_pending_of s table) tally.pending l e)

  abbrev kept_lists : ℕ → ℕ → TallyPending
  kept_lists other t = unwrap_or (find (is_pending_of other t) (with_lists lists tally.pending)) (no_lists other t)

  is_kept : (other t : ℕ) → is_pending_of other t lists ≡ true → kept_lists other t ≡ lists
  is_kept other t e = ap (λ (o : Option TallyPending). unwrap_or o (no_lists other t)) (lists_kept lists tally.pending other t) ∙ rw e refl

  is_left : (other t : ℕ) → is_pending_of other t lists ≡ false → find (is_pending_of other t) (with_lists lists tally.pending) ≡ lists_of tally other t
  is_left other t e = lists_kept lists tally.pending other t ∙ rw e refl

  not_key : (other t : ℕ) → ((other ≡ s) × (t ≡ table) → ⊥) → is_pending_of other t lists ≡ false
  not_key other t apart =
      is_false (is_pending_of other t lists) (λ e. let key = key_of other t lists e in apart (sym key.0 ∙ lists_are.0, sym key.1 ∙ lists_are.1))

  own_key : (t : ℕ) → t ≡ table → is_pending_of s t lists ≡ true
  own_key t e = rw (eq-eqb lists.session s lists_are.0, eq-eqb lists.table t (lists_are.1 ∙ sym e)) refl

  same_or : (m n : ℕ) → (m ≡ n) ⊎ (m ≡ n → ⊥)
  same_or m n = elim (cases_order m n) [ inl e ↦ inl e | inr (inl h) ↦ inr (λ e. absurd (omega (arith, e, h))) | inr (inr h) ↦ inr (λ e. absurd (omega (arith, e, h))) ]

  abbrev kept_effect : Reply → Effect
  kept_effect reply = kept asked pending table (gone, added) reply

  pending_is : (t : ℕ) → pending_now left t ≡ (if pending.table == t then pending else pending_now state t)
  pending_is t = ap (λ (o : Option PlainPending). unwrap_or o (nothing_pending t)) (pending_kept pending state.pending t) ∙ out (pending.table == t)
    where
      out : (b : Bool) → unwrap_or (if b then Some pending else pending_of state t) (nothing_pending t) ≡ (if b then pending else pending_now state t)
      out true = refl
      out false = refl

  own_lists_hold : (won k : ℕ) → has lists.added k ≡ true → (has (lists_now tally s table).added k ≡ true) ⊎ (has news k ≡ true)
  own_lists_hold won k e = elim (within_joined (without gone (lists_now tally s table).added) news k e) [ inl h ↦ inl (within_without gone (lists_now tally s table).added k h).0 | inr h ↦ inr h ]

  -- lists of another session are apart from what is kept
  other_apart : (other : ℕ) → (other ≡ s → ⊥) → Outside (lists_now tally other table).added lists.added
  other_apart other apart k e = is_false (has lists.added k) (λ f. elim (own_lists_hold 0 k f) [
    | inl h ↦ not_both (has (lists_now tally s table).added k) h (backed.apart other s table apart k e)
    | inr h ↦ not_both (has news k) h (known_outside contents tally added rows backed.stored next_parts cut.all (lists_now tally other table).added (known_lists (length contents) tally other table backed.known).1 k e)
  ])

  kept_apart : (a b t : ℕ) → (a ≡ b → ⊥) → Outside (kept_lists a t).added (kept_lists b t).added
  kept_apart a b t other = by (is_pending_of a t lists) refl (is_pending_of b t lists) refl
    where
      by : (x : Bool) → is_pending_of a t lists ≡ x → (y : Bool) → is_pending_of b t lists ≡ y → Outside (kept_lists a t).added (kept_lists b t).added
      by true e true f = absurd (other (sym (key_of a t lists e).0 ∙ (key_of b t lists f).0))
      by true e false f =
          let key = key_of a t lists e in
          let is_table : t ≡ table = sym key.1 ∙ lists_are.1 in
          subst (λ (l : TallyPending). Outside l.added (kept_lists b t).added) (sym (is_kept a t e))
          (subst (λ (l : TallyPending). Outside lists.added l.added) (sym (ap (λ (o : Option TallyPending). unwrap_or o (no_lists b t)) (is_left b t f)))
          (λ k g. is_false (has (lists_now tally b t).added k) (λ h. not_both (has lists.added k) g (other_apart b (λ m. other (sym key.0 ∙ lists_are.0 ∙ sym m)) k
          (subst (λ (n : ℕ). has (lists_now tally b n).added k ≡ true) is_table h)))))
      by false e true f =
          let key = key_of b t lists f in
          let is_table : t ≡ table = sym key.1 ∙ lists_are.1 in
          subst (λ (l : TallyPending). Outside (kept_lists a t).added l.added) (sym (is_kept b t f))
          (subst (λ (l : TallyPending). Outside l.added lists.added) (sym (ap (λ (o : Option TallyPending). unwrap_or o (no_lists a t)) (is_left a t e)))
          (λ k g. other_apart a (λ m. other (m ∙ sym lists_are.0 ∙ key.0)) k (subst (λ (n : ℕ). has (lists_now tally a n).added k ≡ true) is_table g)))
      by false e false f =
          subst (λ (l : TallyPending). Outside l.added (kept_lists b t).added) (sym (ap (λ (o : Option TallyPending). unwrap_or o (no_lists a t)) (is_left a t e)))
          (subst (λ (l : TallyPending). Outside (lists_now tally a t).added l.added) (sym (ap (λ (o : Option TallyPending). unwrap_or o (no_lists b t)) (is_left b t f))) (backed.apart a b t other))

  -- what is kept of the table
  kept_balanced : IsBalanced (contents ++ more) (current_parts tally table) lists pending
  kept_balanced =
      let known = known_lists (length contents) tally s table backed.known in
      further_balanced (contents ++ more) (current_parts tally table) (lists_now tally s table) (pending_now state table) gone news removed brought table (lists_sound tally s table due.sound.tally.lists)
      (more_balanced contents more (current_parts tally table) (lists_now tally s table) (pending_now state table) known.0 known.1 (backed.balanced s state due.at table there.0 there.1)) further

  known_kept : Known (length (contents ++ more)) lists.gone × Known (length (contents ++ more)) lists.added
  known_kept = (
    λ k e. elim (within_joined (lists_now tally s table).gone (without (lists_now tally s table).added gone) k e) [
      | inl h ↦ up (lists_now tally s table).gone (known_lists (length contents) tally s table backed.known).0 k h
      | inr h ↦ up gone known_gone k (within_without (lists_now tally s table).added gone k h).0
    ],
    λ k e. elim (own_lists_hold 0 k e) [ inl h ↦ up (lists_now tally s table).added (known_lists (length contents) tally s table backed.known).1 k h | inr h ↦ known_new k h ],
  )
    where
      up : (ns : List ℕ) → Known (length contents) ns → Known (length (contents ++ more)) ns
      up ns known = known_more (length contents) (length (contents ++ more)) ns (omega (arith, grown_length contents tally added rows backed.stored next_parts cut.all)) known

  some_pending : (all : List PlainPending) → with_pending pending all ≡ [] → ⊥
  some_pending all e = by (filter (λ (other : PlainPending). nat_lt other.table pending.table) all) e
    where
      by : (first : List PlainPending) → first ++ pending ∷ filter (λ (other : PlainPending). nat_lt pending.table other.table) all ≡ [] → ⊥
      by [] f = cc
      by (p ∷ first) f = cc

  pub kept_backs : (reply : Reply) → AreBacked carried asked.program (contents ++ more) (applied asked.store (kept asked pending table (gone, added) reply))
  unfolding kept applied
  kept_backs reply =
      let effect : Effect = kept asked pending table (gone, added) reply in
      record {
        stored = stored_added contents tally added rows backed.stored next_parts cut.all table (applied asked.store effect).tally refl;
        measured = measured_added contents tally added rows backed.stored next_parts cut.all table (applied asked.store effect).tally refl backed.measured;
        known = known_next carried asked.program contents more asked.store effect due.sound backed (tt, ((omega (arith, lists_are.1, there.0), known_kept.0, known_kept.1), (tt, tt)));
        layouts = λ place new at. layouts_still carried asked.program contents more asked.store effect due.sound backed place new (record { old = new; was = at; number = refl; made = refl; versions = refl }) refl;
        placed = every-append (λ (l : TallyPending). l.table ≤ length asked.store.tables) (filter (λ other. stands_before other lists) tally.pending) (lists ∷ filter (λ other. stands_before lists other) tally.pending)
            (every-filter (λ (l : TallyPending). l.table ≤ length asked.store.tables) (λ other. stands_before other lists) tally.pending backed.placed)
            (omega (arith, lists_are.1, there.1), every-filter (λ (l : TallyPending). l.table ≤ length asked.store.tables) (λ other. stands_before lists other) tally.pending backed.placed);
        empty = each_session asked.store effect (λ session new. new.pending ≡ [] → (t : ℕ) → find (is_pending_of session t) (with_lists lists tally.pending) ≡ None)
            (λ session new e none t. absurd (some_pending state.pending (ap (λ (c : ℕ × PlainSession). c.1.pending) (same_Some (s, left) (session, new) e) ∙ none)))
            (λ other held_by at apart none t. is_left other t (not_key other t (λ both. apart left (ap (λ (n : ℕ). Some (n, left)) (sym both.0)))) ∙ backed.empty other held_by at none t);
        balanced = each_session asked.store effect (λ session new. (t : ℕ) → 1 ≤ t → t ≤ length asked.store.tables → IsBalanced (contents ++ more) (current_parts tally t) (kept_lists session t) (pending_now new t))
            (λ session new e t first within.
            subst (λ (c : ℕ × PlainSession). IsBalanced (contents ++ more) (current_parts tally t) (kept_lists c.0 t) (pending_now c.1 t)) (same_Some (s, left) (session, new) e) (own_balanced effect t first within))
            (λ other held_by at apart t first within. other_balanced effect other held_by at (λ e. apart left (ap (λ (n : ℕ). Some (n, left)) (sym e))) t first within);
        apart = kept_apart;
        round = λ round e. backed.round round e;
        pinned = each_session asked.store effect (λ session new. IsPinned carried asked.program (contents ++ more) (applied asked.store effect).tally session new)
            (λ session new e other read open_now said. absurd (none-some other (ap (λ (c : ℕ × PlainSession). c.1.running) (same_Some (s, left) (session, new) e) ∙ open_now)))
            (λ other held_by at apart. pinned_other carried asked.program contents more asked.store effect due.sound backed other held_by at
            (pins_other s [] tally.pins tt other (λ e. apart left (ap (λ (n : ℕ). Some (n, left)) (sym e)))));
      }
    where
      still : (other : ℕ) (held_by new : PlainSession) (t : ℕ) → slice_get asked.store.sessions other ≡ Some held_by → 1 ≤ t → t ≤ length asked.store.tables
          → pending_now new t ≡ pending_now held_by t → is_pending_of other t lists ≡ false → IsBalanced (contents ++ more) (current_parts tally t) (kept_lists other t) (pending_now new t)
      still other held_by new t at first within same e =
          let before = backed.balanced other held_by at t first within in
          balanced_still carried asked.program contents more asked.store (kept asked pending table (gone, added) reply) due.sound backed other held_by new t (current_parts tally t) at first within same
          (ap (λ (o : Option TallyPending). unwrap_or o (no_lists other t)) (is_left other t e)) (λ some. before.inside) before.outside

      own_balanced : (effect : Effect) → (t : ℕ) → 1 ≤ t → t ≤ length asked.store.tables → IsBalanced (contents ++ more) (current_parts tally t) (kept_lists s t) (pending_now left t)
      own_balanced effect t first within = by (same_or t table)
        where
          by : (t ≡ table) ⊎ (t ≡ table → ⊥) → IsBalanced (contents ++ more) (current_parts tally t) (kept_lists s t) (pending_now left t)
          by (inl e) =
              subst (λ (p : PlainPending). IsBalanced (contents ++ more) (current_parts tally t) (kept_lists s t) p) (sym (pending_is t ∙ rw (eq-eqb pending.table t (sym e)) refl))
              (subst (λ (l : TallyPending). IsBalanced (contents ++ more) (current_parts tally t) l pending) (sym (is_kept s t (own_key t e)))
              (subst (λ (n : ℕ). IsBalanced (contents ++ more) (current_parts tally n) lists pending) (sym e) kept_balanced))
          by (inr apart) =
              still s state left t due.at first within (pending_is t ∙ rw (is_false (pending.table == t) (λ e. apart (sym (same_number pending.table t e)))) refl) (not_key s t (λ both. apart both.1))

      other_balanced : (effect : Effect) → (other : ℕ) (held_by : PlainSession) → slice_get asked.store.sessions other ≡ Some held_by → (other ≡ s → ⊥) → (t : ℕ) → 1 ≤ t → t ≤ length asked.store.tables
          → IsBalanced (contents ++ more) (current_parts tally t) (kept_lists other t) (pending_now held_by t)
      other_balanced effect other held_by at apart t first within = still other held_by held_by t at first within refl (not_key other t (λ both. apart both.0))

  -- ---- outside a transaction

  abbrev one : TallyPending
  one = record { session = s; table = table; gone = gone; added = news }

  one_at : (t : ℕ) → t ≡ table → found_for lists_key (none_for s) (one ∷ []) t ≡ one
  one_at t e = rw (eq-eqb table t (sym e)) refl

  one_off : (t : ℕ) → (t ≡ table → ⊥) → found_for lists_key (none_for s) (one ∷ []) t ≡ no_lists s t
  one_off t apart = rw (is_false (table == t) (λ e. apart (sym (same_number table t e)))) refl

  pending_at : (t : ℕ) → t ≡ table → found_for pending_key nothing_pending (pending ∷ []) t ≡ pending
  pending_at t e = rw (eq-eqb table t (sym e)) refl

  pending_off : (t : ℕ) → (t ≡ table → ⊥) → found_for pending_key nothing_pending (pending ∷ []) t ≡ nothing_pending t
  pending_off t apart = rw (is_false (table == t) (λ e. apart (sym (same_number table t e)))) refl

  -- the table has nothing pending before
  one_balanced : (t : ℕ) → lists_of tally s table ≡ None → pending_of state table ≡ None → t ≡ table → IsBalanced (contents ++ more) (current_parts tally t) one pending
  one_balanced t none nothing e = record {
    balance = λ row. omega (
      arith,
      further.change row,
      ap (λ (o : Option PlainPending). copies_of row (bag_plus (unwrap_or o (nothing_pending table)).gone removed)) nothing,
      ap (λ (o : Option PlainPending). copies_of row (bag_plus (unwrap_or o (nothing_pending table)).added brought)) nothing,
      copies_of-bag_plus row [] removed,
      copies_of-bag_plus row [] brought,
    );
    inside = λ k f. subst (λ (n : ℕ). has (current_parts tally n) k ≡ true) (sym e) (elim (within_changed (current_parts tally table) (lists_now tally s table).gone (lists_now tally s table).added k (gone_seen.0 k f)) [
      | inl h ↦ h.0
      | inr h ↦ absurd (false≢true (sym (ap (λ (o : Option TallyPending). has (unwrap_or o (no_lists s table)).added k) none) ∙ h))
    ]);
    outside = λ k f. subst (λ (n : ℕ). has (current_parts tally n) k ≡ false) (sym e) (further.new k f);
    removes = λ some. not_none_second (unwrap_or (pending_of state table) (nothing_pending table)).gone removed (cut.touched some);
  }

  append_nil : (changes : List TableChange) → changes ++ [] ≡ changes
  append_nil [] = refl
  append_nil (c ∷ changes) = ap (λ cs. c ∷ cs) (append_nil changes)

  append_none : (changes : List TallyChange) → changes ++ [] ≡ changes
  append_none [] = refl
  append_none (c ∷ changes) = ap (λ cs. c ∷ cs) (append_none changes)

  abbrev begun : List TallyChange
  begun = layout_begun tally asked.moment table gone news

  abbrev with_parts : Tally
  with_parts = changed_tally tally (AddsParts table added)

  abbrev bare : PlainSession
  bare = record (session_done asked) { marks = [] }

  changed_known : Known (length (contents ++ more)) (changed (current_parts tally table) gone news)
  changed_known k e = elim (within_changed (current_parts tally table) gone news k e) [
    | inl h ↦ known_more (length contents) (length (contents ++ more)) (current_parts tally table) (omega (arith, grown_length contents tally added rows backed.stored next_parts cut.all)) (known_current (length contents) tally table backed.known) k h.0
    | inr h ↦ known_new k h
  ]

  begun_known : (g a : List ℕ) → Known (length (contents ++ more)) (changed (current_parts tally table) g a) → Every (KnownChange (length (contents ++ more))) (layout_begun tally asked.moment table g a)
  begun_known [] [] known = tt
  begun_known [] (n ∷ a) known = (known, tt)
  begun_known (n ∷ g) a known = (known, tt)

  alone_moved : (reply : Reply) → state.transaction ≡ false → IsMoved carried asked.program contents more asked.store (committed_alone asked pending table (gone, added) reply) s (pending ∷ []) (one ∷ [])
  unfolding committed_alone applied
  alone_moved reply closed =
      let only : OnlyLayouts tally asked.moment s with_parts (fold changed_tally with_parts begun) = only_begun tally asked.moment s with_parts table gone news in
      let mid : Tally = fold changed_tally with_parts begun in
      let whole : fold changed_tally with_parts (begun ++ Unpins s ∷ []) ≡ changed_tally mid (Unpins s) = fold_tally-append tally asked.moment s with_parts begun (Unpins s ∷ []) in
      let none_pending : state.pending ≡ [] = (state_sound carried asked due).closed closed in
      let none : (t : ℕ) → lists_of tally s t ≡ None = backed.empty s state due.at none_pending in
      let nothing : pending_of state table ≡ None = ap (find (λ (p : PlainPending). p.table == table)) none_pending in
      let versions : flat_map (version_committed asked.store asked.moment) (pending ∷ []) ≡ version_committed asked.store asked.moment pending = append_nil (version_committed asked.store asked.moment pending) in
      record {
        moment = due.next;
        stored = stored_added contents tally added rows backed.stored next_parts cut.all table (fold changed_tally with_parts (begun ++ Unpins s ∷ [])) (ap (λ (t : Tally). t.parts) whole ∙ only.parts);
        measured = measured_added contents tally added rows backed.stored next_parts cut.all table (fold changed_tally with_parts (begun ++ Unpins s ∷ [])) (ap (λ (t : Tally). t.parts) whole ∙ only.parts) backed.measured;
        known = (tt, every-append (KnownChange (length (contents ++ more))) begun (Unpins s ∷ []) (begun_known gone news changed_known) (tt, tt));
        many = (versions_sound asked.moment asked.store.tables (version_committed asked.store asked.moment pending) (committed_version asked.store asked.moment pending)).1.many;
        risen = subst (λ (cs : List TableChange). AreRisen asked.store.tables (pending ∷ []) (fold changed_table asked.store.tables cs)) versions
            (versions_risen asked.store asked.moment (are_numbered carried asked.program asked.store due.sound) (bags_now carried asked.program asked.store due.sound) (pending ∷ []) (tt, tt) ((there.0, there.1), tt));
        laid = subst (λ (t : Tally). AreLaid tally s (one ∷ []) t.layouts) (sym whole)
            (subst (λ (cs : List TallyChange). AreLaid tally s (one ∷ []) (fold changed_tally with_parts cs).layouts) (append_none begun)
            (layouts_laid tally asked.moment s (one ∷ []) with_parts (tt, tt) (there.0, tt) refl));
        own = λ other new e. let both = same_Some (s, bare) (other, new) e in (
          ap (λ (c : ℕ × PlainSession). c.0) (sym both),
          ap (λ (c : ℕ × PlainSession). c.1.pending) (sym both) ∙ none_pending,
          ap (λ (c : ℕ × PlainSession). c.1.running) (sym both),
        );
        is_own = (bare, refl);
        ended = λ t. ap (λ (x : Tally). find (is_pending_of s t) x.pending) whole ∙ ap (find (is_pending_of s t)) only.pending ∙ none t;
        others = λ other t apart. ap (λ (x : Tally). find (is_pending_of other t) x.pending) whole ∙ ap (find (is_pending_of other t)) only.pending;
        placed = subst (λ (x : Tally). Every (λ (l : TallyPending). l.table ≤ length asked.store.tables) x.pending) (sym whole)
            (subst (Every (λ (l : TallyPending). l.table ≤ length asked.store.tables)) (sym only.pending) backed.placed);
        round = ap (λ (x : Tally). x.round) whole ∙ only.round;
        pins = λ other apart. ap (λ (x : Tally). filter (λ (pin : TallyPin). pin.session == other) x.pins) whole ∙ pins_other s [] mid.pins tt other apart ∙ ap (filter (λ (pin : TallyPin). pin.session == other)) only.pins;
        balanced = λ t first within. elim (same_or t table) [
          | inl e ↦ subst (λ (l : TallyPending). IsBalanced (contents ++ more) (current_parts tally t) l (found_for pending_key nothing_pending (pending ∷ []) t)) (sym (one_at t e))
              (subst (IsBalanced (contents ++ more) (current_parts tally t) one) (sym (pending_at t e)) (one_balanced t (none table) nothing e))
          | inr apart ↦ subst (λ (l : TallyPending). IsBalanced (contents ++ more) (current_parts tally t) l (found_for pending_key nothing_pending (pending ∷ []) t)) (sym (one_off t apart))
              (subst (IsBalanced (contents ++ more) (current_parts tally t) (no_lists s t)) (sym (pending_off t apart)) (none_balanced (contents ++ more) (current_parts tally t) s t))
        ];
        up = λ t. elim (same_or t table) [
          | inl e ↦ subst AreSoundLists (sym (one_at t e)) (gone_seen.1, new_up)
          | inr apart ↦ subst AreSoundLists (sym (one_off t apart)) (tt, tt)
        ];
        among = λ t at. elim (same_or t.number table) [
          | inl e ↦ subst (λ (p : PlainPending). AreAmong p.gone (bag_plus (current_rows t) p.added)) (sym (pending_at t.number e))
              ((rests_now carried asked due guarded seen running d table removed brought of_target).1 t (ap (table_numbered asked.store) (sym e) ∙ at))
          | inr apart ↦ subst (λ (p : PlainPending). AreAmong p.gone (bag_plus (current_rows t) p.added)) (sym (pending_off t.number apart)) (minus_none (bag_plus (current_rows t) []))
        ];
        guarded = λ other held_by at apart t first within some. elim (same_or t table) [
          | inl e ↦ ap (λ (l : TallyPending). l.gone) (one_at t e)
              ∙ none_or gone (λ own. held_alone carried asked due contents backed guarded other held_by at apart t first within some
              (subst (λ (n : ℕ). has_exclusive_mark n state ≡ true) (sym e) (exclusive_now carried asked due guarded seen running d table removed brought of_target (cut.touched own))))
          | inr off ↦ ap (λ (l : TallyPending). l.gone) (one_off t off)
        ];
        fresh = λ other t apart. elim (same_or t table) [
          | inl e ↦ subst (λ (l : TallyPending). Outside (lists_now tally other t).added l.added) (sym (one_at t e))
              (known_outside contents tally added rows backed.stored next_parts cut.all (lists_now tally other t).added (known_lists (length contents) tally other t backed.known).1)
          | inr off ↦ subst (λ (l : TallyPending). Outside (lists_now tally other t).added l.added) (sym (one_off t off)) (λ k e. refl)
        ];
      }

  pub changed_backs : (count : ℕ) → IsSoundEffect carried asked.program asked.store (changed_by asked d table removed brought count (gone, added))
      → AreBacked carried asked.program (contents ++ more) (applied asked.store (changed_by asked d table removed brought count (gone, added)))
  changed_backs count good = by state.transaction refl good
    where
      by : (b : Bool) → state.transaction ≡ b
          → IsSoundEffect carried asked.program asked.store (if b then kept asked pending table (gone, added) (count_reply d count) else committed_alone asked pending table (gone, added) (count_reply d count))
          → AreBacked carried asked.program (contents ++ more) (applied asked.store (if b then kept asked pending table (gone, added) (count_reply d count) else committed_alone asked pending table (gone, added) (count_reply d count)))
      by true e sound_one = kept_backs (count_reply d count)
      by false e sound_one =
          moved_backed carried asked.program contents more asked.store (committed_alone asked pending table (gone, added) (count_reply d count)) s (pending ∷ []) (one ∷ []) due.sound backed sound_one (alone_moved (count_reply d count) e)
