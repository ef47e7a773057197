-- Commits and rollbacks keep the bags.
use Rattle.std.specs.Prelude.{Bool, List, None, Option, Some, [], false, filter, find, flat_map, fold, length, nat_lt, not, refl, slice_get, true, unwrap_or, ℕ, ◌&&◌, ◌++◌, ◌+◌, ◌-◌, ◌<◌, ◌==◌, ◌∷◌, ◌≡◌, ◌≢◌, ◌≤◌}
use Rattle.std.proofs.Common.{ap, arith, cond, inl, inr, length-append, subst, sym, ◌∙◌}
use Rattle.std.proofs.lemmas.Bool.{and_parts, eqb-true, ltb-true, or_cases}
use Rattle.std.proofs.lemmas.Option.{same_Some}
use Rattle.tt_history.specs.declared.history.Told.{Told}
use Rattle.tt_history.specs.declared.reply.Reply.{Reply}
use Rattle.tt_layout.specs.Numbers.{changed}
use Rattle.tt_plain.proofs.Tests.{same_number}
use Rattle.tt_plain.proofs.law.Gives.{Gives}
use Rattle.tt_plain.proofs.law.Lists.{every-append, every-filter, every_at, every_on}
use Rattle.tt_plain.proofs.law.Turns.{due_gives}
use Rattle.tt_plain.proofs.law.change.Tables.{table_at}
use Rattle.tt_plain.proofs.law.session.Alone.{IsDue, state_sound}
use Rattle.tt_plain.proofs.law.session.Views.{current_bag, every_found}
use Rattle.tt_plain.proofs.law.session.Versions.{committed_versions, versions_sound}
use Rattle.tt_plain.specs.asked.Asked.{Asked, own_point, request_asked, state_asked}
use Rattle.tt_plain.specs.asked.Carried.{Carried}
use Rattle.tt_plain.specs.asked.Request.{Commits, Defines, Request}
use Rattle.tt_plain.specs.declared.store.Plain.{Plain}
use Rattle.tt_plain.specs.declared.store.PlainPending.{PlainPending}
use Rattle.tt_plain.specs.declared.store.PlainSession.{PlainSession}
use Rattle.tt_plain.specs.declared.store.PlainTable.{PlainTable}
use Rattle.tt_plain.specs.declared.tally.Tally.{Tally}
use Rattle.tt_plain.specs.declared.tally.TallyPart.{TallyPart}
use Rattle.tt_plain.specs.declared.tally.TallyPending.{TallyPending}
use Rattle.tt_plain.specs.declared.tally.TallyPin.{TallyPin}
use Rattle.tt_plain.specs.effect.Apply.{applied}
use Rattle.tt_plain.specs.effect.Commit.{commit_effect, commit_told, committed, committed_by, points_settled, session_committed, version_committed}
use Rattle.tt_plain.specs.effect.Effect.{Effect}
use Rattle.tt_plain.specs.effect.End.{nothing_pending}
use Rattle.tt_plain.specs.effect.Ending.{own_point_now, session_done}
use Rattle.tt_plain.specs.effect.Rollback.{rollback_effect, rolled_back}
use Rattle.tt_plain.specs.law.Changes.{IsSoundEffect}
use Rattle.tt_plain.specs.law.Lists.{EachTwo, Every}
use Rattle.tt_plain.specs.law.Sound.{AreSoundLists, IsSound, IsSoundPending}
use Rattle.tt_plain.specs.opening.Seen.{pending_of}
use Rattle.tt_plain.specs.stored.Points.{no_point_yet}
use Rattle.tt_plain.specs.stored.Sessions.{has_exclusive_mark}
use Rattle.tt_plain.specs.stored.Tables.{current_rows}
use Rattle.tt_plain.specs.tally.Changes.{EndsPending, TallyChange, changed_tally, stands_before}
use Rattle.tt_plain.specs.tally.Layouts.{current_parts, is_pending_of}
use Rattle.tt_plain.specs.tally.Parts.{rows_of_part}
use Rattle.tt_plain.specs.tally.Pending.{layout_begun, layouts_committed, lists_of_session, no_lists}
use Rattle.tt_script.specs.declared.script.Script.{Script}
use Rattle.tt_value.proofs.values.Bags.{minus_none}
use Rattle.tt_value.specs.declared.value.Row.{Row}
use Rattle.tt_value.specs.values.Bags.{IsBag, bag_plus}
use Rattle.tt_plain_laws.proofs.guard.Kept.{Rests, are_numbered, rests_now}
use Rattle.tt_plain_laws.proofs.parts.After.{AreLaid, Distinct, OnlyLayouts, begun_by_lists, fold_tally-append, found_for, layouts_laid, lists_key, none_for, none_laid, only_lists, pending_key, versions_risen}
use Rattle.tt_plain_laws.proofs.parts.Backed.{AreBacked, Measured, found_passes, lists_sound, pending_among}
use Rattle.tt_plain_laws.proofs.parts.Balance.{IsBalanced, lists_now, more_balanced, none_balanced, pending_now}
use Rattle.tt_plain_laws.proofs.parts.Contents.{Known, known_more, same_numbered}
use Rattle.tt_plain_laws.proofs.parts.Known.{KnownChange, KnownLists, known_current, known_lists}
use Rattle.tt_plain_laws.proofs.parts.Moved.{IsMoved, moved_backed}
use Rattle.tt_plain_laws.proofs.parts.Numbers.{Outside, within_changed}
use Rattle.tt_plain_laws.proofs.parts.Places.{lists_ended, lists_other}
use Rattle.tt_plain_laws.proofs.entry.Sessions.{Backs, memory_backs}
use Rattle.tt_plain_laws.specs.Guarded.{AreGuarded, IsGuarded}
use Rattle.tt_plain.specs.asked.Event as event
use Rattle.tt_history.specs.declared.reply.Reply.TheVariants as reply
use Rattle.tt_history.specs.declared.history.Told.TheVariants as told

-- ---- where no part is added

pub no_more : (contents : List (List Row)) → length (contents ++ []) ≡ length contents
no_more contents = length-append contents [] ∙ omega arith

pub measured_same : (contents : List (List Row)) (before after : Tally) → after.parts ≡ before.parts → Measured contents before → Measured (contents ++ []) after
measured_same contents before after parts measured k first within =
    let few : k ≤ length contents = omega (arith, within, no_more contents) in
    ap (λ (rows : List Row). length rows) (same_numbered contents [] k first few) ∙ measured k first few ∙ sym (ap (λ (ps : List TallyPart). rows_of_part (slice_get ps (k - 1))) parts)

-- ---- who has something pending that is gone has the table for itself

pub holder_of : (store : Plain) (contents : List (List Row)) (current : List ℕ) (state : PlainSession) (table : ℕ) (lists : TallyPending) → IsGuarded store state → IsBalanced contents current lists (pending_now state table)
    → lists.gone ≢ [] → has_exclusive_mark table state ≡ true
holder_of store contents current state table lists guarded balanced some = by (pending_of state table) refl (balanced.removes some)
  where
    by : (o : Option PlainPending) → pending_of state table ≡ o → (unwrap_or o (nothing_pending table)).gone ≢ [] → has_exclusive_mark table state ≡ true
    by None e gone = absurd (gone refl)
    by (Some pending) e gone =
        let same : pending.table ≡ table = same_number pending.table table (found_passes (λ (p : PlainPending). p.table == table) state.pending pending e) in
        subst (λ (n : ℕ). has_exclusive_mark n state ≡ true) same
        ((every_found (Rests store state.marks) (λ (p : PlainPending). p.table == table) state.pending pending (rests_now store state guarded) e).0.1 gone)

pub none_or : (ns : List ℕ) → (ns ≢ [] → ⊥) → ns ≡ []
none_or [] never = refl
none_or (n ∷ ns) never = absurd (never (λ e. cc))

-- ---- what is found of a session

find_both : {A : Type 0} (first second : A → Bool) (xs : List A) → find second (filter first xs) ≡ find (λ x. first x && second x) xs
find_both first second [] = refl
find_both first second (x ∷ xs) = by (first x) (find_both first second xs)
  where
    by : (b : Bool) → find second (filter first xs) ≡ find (λ y. first y && second y) xs → find second (cond b (x ∷ filter first xs) (filter first xs)) ≡ cond (b && second x) (Some x) (find (λ y. first y && second y) xs)
    by true e = ap (cond (second x) (Some x)) e
    by false e = e

pub found_lists : (tally : Tally) (session table : ℕ) → found_for lists_key (none_for session) (lists_of_session tally session) table ≡ lists_now tally session table
found_lists tally session table = ap (λ (o : Option TallyPending). unwrap_or o (no_lists session table)) (find_both (λ (l : TallyPending). l.session == session) (λ (l : TallyPending). l.table == table) tally.pending)

-- lists of one session are of different tables
pub lists_distinct : (tally : Tally) (session : ℕ) → EachTwo (λ (a b : TallyPending). stands_before a b ≡ true) tally.pending → Distinct lists_key (lists_of_session tally session)
lists_distinct tally session two = by tally.pending two
  where
    apart : (a b : TallyPending) → a.session ≡ session → b.session ≡ session → stands_before a b ≡ true → lists_key a ≡ lists_key b → ⊥
    apart a b left right e same = elim (or_cases (nat_lt a.session b.session) (a.session == b.session && nat_lt a.table b.table) e) [
      | inl h ↦ absurd (omega (arith, ltb-true a.session b.session h, left, right))
      | inr h ↦ absurd (omega (arith, ltb-true a.table b.table (and_parts (a.session == b.session) (nat_lt a.table b.table) h).1, same))
    ]

    each : (a : TallyPending) → a.session ≡ session → (all : List TallyPending) → Every (λ (b : TallyPending). stands_before a b ≡ true) all → Every (λ (b : TallyPending). lists_key a ≡ lists_key b → ⊥) (filter (λ (l : TallyPending). l.session == session) all)
    each a own [] all = tt
    each a own (b ∷ rest) all = keep (b.session == session) refl (each a own rest all.1)
      where
        keep : (t : Bool) → (b.session == session) ≡ t → Every (λ (c : TallyPending). lists_key a ≡ lists_key c → ⊥) (filter (λ (l : TallyPending). l.session == session) rest)
            → Every (λ (c : TallyPending). lists_key a ≡ lists_key c → ⊥) (cond t (b ∷ filter (λ (l : TallyPending). l.session == session) rest) (filter (λ (l : TallyPending). l.session == session) rest))
        keep true e others = (apart a b own (eqb-true b.session session e) all.0, others)
        keep false e others = others

    by : (all : List TallyPending) → EachTwo (λ (a b : TallyPending). stands_before a b ≡ true) all → Distinct lists_key (filter (λ (l : TallyPending). l.session == session) all)
    by [] two = tt
    by (a ∷ rest) two = keep (a.session == session) refl (by rest two.1)
      where
        keep : (t : Bool) → (a.session == session) ≡ t → Distinct lists_key (filter (λ (l : TallyPending). l.session == session) rest)
            → Distinct lists_key (cond t (a ∷ filter (λ (l : TallyPending). l.session == session) rest) (filter (λ (l : TallyPending). l.session == session) rest))
        keep true e others = (each a (eqb-true a.session session e) rest two.0, others)
        keep false e others = others

pub pending_distinct : (all : List PlainPending) → EachTwo (λ (a b : PlainPending). a.table < b.table) all → Distinct pending_key all
pending_distinct [] two = tt
pending_distinct (p ∷ all) two = (every_on (λ (q : PlainPending). p.table < q.table) (λ (q : PlainPending). pending_key p ≡ pending_key q → ⊥) all (λ q h e. absurd (omega (arith, h, e))) two.0, pending_distinct all two.1)

pub bags_now : (carried : Carried) (program : Script) (store : Plain) → IsSound carried program store → (place : ℕ) (table : PlainTable) → slice_get store.tables place ≡ Some table → IsBag (current_rows table)
bags_now carried program store sound place table at =
    current_bag store.moment (length store.tables) (1 + place) table (table_at store.moment (length store.tables) 1 place store.tables table sound.tables at)

module _ (carried : Carried) (asked : Asked) (due : IsDue carried asked) (contents : List (List Row)) (backed : AreBacked carried asked.program contents asked.store) (guarded : AreGuarded asked.store) where
  abbrev state : PlainSession
  state = state_asked asked

  abbrev SoundOne : Effect → Type 0
  SoundOne effect = IsSoundEffect carried asked.program asked.store effect

  guarded_at : (other : ℕ) (held_by : PlainSession) → slice_get asked.store.sessions other ≡ Some held_by → IsGuarded asked.store held_by
  guarded_at other held_by at = every_at (IsGuarded asked.store) asked.store.sessions other held_by guarded at

  -- another that has parts gone has the table for itself, and so this session has not
  pub held_alone : (other : ℕ) (held_by : PlainSession) → slice_get asked.store.sessions other ≡ Some held_by → (other ≡ asked.session → ⊥) → (table : ℕ) → 1 ≤ table → table ≤ length asked.store.tables
      → (lists_now asked.store.tally other table).gone ≢ [] → has_exclusive_mark table state ≡ true → ⊥
  held_alone other held_by at apart table first within some own =
      apart (due.sound.holders table other asked.session held_by state at due.at
      (holder_of asked.store contents (current_parts asked.store.tally table) held_by table (lists_now asked.store.tally other table) (guarded_at other held_by at) (backed.balanced other held_by at table first within) some) own)

  changed_known : (table : ℕ) (gone added : List ℕ) → Known (length (contents ++ [])) added → Known (length (contents ++ [])) (changed (current_parts asked.store.tally table) gone added)
  changed_known table gone added known k e = elim (within_changed (current_parts asked.store.tally table) gone added k e) [
    | inl h ↦ known_more (length contents) (length (contents ++ [])) (current_parts asked.store.tally table) (omega (arith, no_more contents)) (known_current (length contents) asked.store.tally table backed.known) k h.0
    | inr h ↦ known k h
  ]

  known_begun : (table : ℕ) (gone added : List ℕ) → Known (length (contents ++ [])) added → Every (KnownChange (length (contents ++ []))) (layout_begun asked.store.tally asked.moment table gone added)
  known_begun table [] [] known = tt
  known_begun table [] (n ∷ added) known = (changed_known table [] (n ∷ added) known, tt)
  known_begun table (n ∷ gone) added known = (changed_known table (n ∷ gone) added known, tt)

  known_all : (ls : List TallyPending) → Every (KnownLists (length contents)) ls → Every (KnownChange (length (contents ++ []))) (flat_map (begun_by_lists asked.store.tally asked.moment asked.session) ls)
  known_all [] all = tt
  known_all (l ∷ ls) all =
      every-append (KnownChange (length (contents ++ []))) (layout_begun asked.store.tally asked.moment l.table l.gone l.added) (flat_map (begun_by_lists asked.store.tally asked.moment asked.session) ls)
      (known_begun l.table l.gone l.added (known_more (length contents) (length (contents ++ [])) l.added (omega (arith, no_more contents)) all.0.2)) (known_all ls all.1)

  committed_moved : (left : PlainSession) (points : List (ℕ × ℕ)) (reply : Option Reply) → left.running ≡ None
      → IsMoved carried asked.program contents [] asked.store (record (committed asked) { session = Some (asked.session, session_committed left); points = points; reply = reply }) asked.session state.pending (lists_of_session asked.store.tally asked.session)
  unfolding committed applied
  committed_moved left points reply idle =
      let s = asked.session in
      let tally = asked.store.tally in
      let ls = lists_of_session tally s in
      let begun : List TallyChange = layouts_committed tally asked.moment s in
      let mid : Tally = fold changed_tally tally begun in
      let only : OnlyLayouts tally asked.moment s tally mid = only_lists tally asked.moment s tally ls in
      let whole : fold changed_tally tally (begun ++ EndsPending s ∷ []) ≡ changed_tally mid (EndsPending s) = fold_tally-append tally asked.moment s tally begun (EndsPending s ∷ []) in
      let sound = state_sound carried asked due in
      record {
        moment = due.next;
        stored = no_more contents ∙ backed.stored ∙ sym (ap (λ (t : Tally). length t.parts) whole ∙ ap (λ (ps : List TallyPart). length ps) only.parts);
        measured = measured_same contents tally (fold changed_tally tally (begun ++ EndsPending s ∷ [])) (ap (λ (t : Tally). t.parts) whole ∙ only.parts) backed.measured;
        known = every-append (KnownChange (length (contents ++ []))) begun (EndsPending s ∷ [])
            (known_all ls (every-filter (KnownLists (length contents)) (λ (l : TallyPending). l.session == s) tally.pending backed.known.lists)) (tt, tt);
        many = (versions_sound asked.moment asked.store.tables (flat_map (version_committed asked.store asked.moment) state.pending) (committed_versions asked.store asked.moment state.pending)).1.many;
        risen = versions_risen asked.store asked.moment (are_numbered carried asked.program asked.store due.sound) (bags_now carried asked.program asked.store due.sound) state.pending (pending_distinct state.pending sound.pending)
            (every_on (IsSoundPending (length asked.store.tables)) (λ (p : PlainPending). (1 ≤ p.table) × (p.table ≤ length asked.store.tables)) state.pending (λ p h. (h.0.0, h.0.1)) sound.rows);
        laid = subst (λ (t : Tally). AreLaid tally s ls t.layouts) (sym whole)
            (layouts_laid tally asked.moment s ls tally (lists_distinct tally s due.sound.tally.pending)
            (every_on (KnownLists (length contents)) (λ (l : TallyPending). 1 ≤ l.table) ls (λ l h. h.0) (every-filter (KnownLists (length contents)) (λ (l : TallyPending). l.session == s) tally.pending backed.known.lists)) refl);
        own = λ other new e. let both = same_Some (s, session_committed left) (other, new) e in (
          ap (λ (c : ℕ × PlainSession). c.0) (sym both),
          ap (λ (c : ℕ × PlainSession). c.1.pending) (sym both),
          ap (λ (c : ℕ × PlainSession). c.1.running) (sym both) ∙ idle,
        );
        is_own = (session_committed left, refl);
        ended = λ table. ap (λ (t : Tally). find (is_pending_of s table) t.pending) whole ∙ lists_ended s table mid.pending;
        others = λ other table apart. ap (λ (t : Tally). find (is_pending_of other table) t.pending) whole ∙ lists_other s other table mid.pending apart ∙ ap (find (is_pending_of other table)) only.pending;
        placed = subst (λ (t : Tally). Every (λ (l : TallyPending). l.table ≤ length asked.store.tables) t.pending) (sym whole)
            (every-filter (λ (l : TallyPending). l.table ≤ length asked.store.tables) (λ (l : TallyPending). not (l.session == s)) mid.pending
            (subst (Every (λ (l : TallyPending). l.table ≤ length asked.store.tables)) (sym only.pending) backed.placed));
        round = ap (λ (t : Tally). t.round) whole ∙ only.round;
        pins = λ other apart. ap (λ (t : Tally). filter (λ (pin : TallyPin). pin.session == other) t.pins) whole ∙ ap (filter (λ (pin : TallyPin). pin.session == other)) only.pins;
        balanced = λ table first within.
            let known = known_lists (length contents) tally s table backed.known in
            subst (λ (l : TallyPending). IsBalanced (contents ++ []) (current_parts tally table) l (pending_now state table)) (sym (found_lists tally s table))
            (more_balanced contents [] (current_parts tally table) (lists_now tally s table) (pending_now state table) known.0 known.1 (backed.balanced s state due.at table first within));
        up = λ table. subst AreSoundLists (sym (found_lists tally s table)) (lists_sound tally s table due.sound.tally.lists);
        among = λ table at. pending_among asked.store state table.number table (guarded_at s state due.at) at;
        guarded = λ other held_by at apart table first within some.
            ap (λ (l : TallyPending). l.gone) (found_lists tally s table)
            ∙ none_or (lists_now tally s table).gone (λ own. held_alone other held_by at apart table first within some
            (holder_of asked.store contents (current_parts tally table) state table (lists_now tally s table) (guarded_at s state due.at) (backed.balanced s state due.at table first within) own));
        fresh = λ other table apart. subst (λ (l : TallyPending). Outside (lists_now tally other table).added l.added) (sym (found_lists tally s table)) (backed.apart other s table apart);
      }

  -- an effect is sound, if its moment is in time
  committed_backs : (left : PlainSession) (points : List (ℕ × ℕ)) (reply : Option Reply) → left.running ≡ None
      → SoundOne (record (committed asked) { session = Some (asked.session, session_committed left); points = points; reply = reply })
      → Backs carried asked due contents backed (record (committed asked) { session = Some (asked.session, session_committed left); points = points; reply = reply })
  committed_backs left points reply idle good =
      moved_backed carried asked.program contents [] asked.store (record (committed asked) { session = Some (asked.session, session_committed left); points = points; reply = reply }) asked.session state.pending
      (lists_of_session asked.store.tally asked.session) due.sound backed good (committed_moved left points reply idle)

  -- ---- rollbacks

  rolled_moved : (left : PlainSession) (points : List (ℕ × ℕ)) (reply : Option Reply) → left.running ≡ None → IsMoved carried asked.program contents [] asked.store (rolled_back asked left points reply) asked.session [] []
  unfolding rolled_back applied
  rolled_moved left points reply idle =
      let s = asked.session in
      let tally = asked.store.tally in
      record {
        moment = due.next;
        stored = no_more contents ∙ backed.stored;
        measured = measured_same contents tally (changed_tally tally (EndsPending s)) refl backed.measured;
        known = (tt, tt);
        many = refl;
        risen = versions_risen asked.store asked.moment (are_numbered carried asked.program asked.store due.sound) (bags_now carried asked.program asked.store due.sound) [] tt tt;
        laid = none_laid tally asked.moment s tally.layouts refl;
        own = λ other new e. let both = same_Some (s, session_committed left) (other, new) e in (
          ap (λ (c : ℕ × PlainSession). c.0) (sym both),
          ap (λ (c : ℕ × PlainSession). c.1.pending) (sym both),
          ap (λ (c : ℕ × PlainSession). c.1.running) (sym both) ∙ idle,
        );
        is_own = (session_committed left, refl);
        ended = λ table. lists_ended s table tally.pending;
        others = λ other table apart. lists_other s other table tally.pending apart;
        placed = every-filter (λ (l : TallyPending). l.table ≤ length asked.store.tables) (λ (l : TallyPending). not (l.session == s)) tally.pending backed.placed;
        round = refl;
        pins = λ other apart. refl;
        balanced = λ table first within. none_balanced (contents ++ []) (current_parts tally table) s table;
        up = λ table. (tt, tt);
        among = λ table at. minus_none (bag_plus (current_rows table) []);
        guarded = λ other held_by at apart table first within some. refl;
        fresh = λ other table apart k e. refl;
      }

  pub rolled_backs : (left : PlainSession) (points : List (ℕ × ℕ)) (reply : Option Reply) → left.running ≡ None → SoundOne (rolled_back asked left points reply) → Backs carried asked due contents backed (rolled_back asked left points reply)
  rolled_backs left points reply idle good =
      moved_backed carried asked.program contents [] asked.store (rolled_back asked left points reply) asked.session [] [] due.sound backed good (rolled_moved left points reply idle)

  -- ---- the entries

  abbrev BacksIn : Effect → Type 0
  BacksIn effect = SoundOne effect → Backs carried asked due contents backed effect

  request_committed : (request : Request) → state.running ≡ None → Gives BacksIn (committed_by asked request)
  unfolding committed
  request_committed Commits idle = committed_backs (session_done asked) (points_settled asked ++ own_point_now asked) (Some reply.Ok) refl
  request_committed (Defines d) idle = committed_backs state (points_settled asked ++ (own_point asked, no_point_yet) ∷ []) None idle
  request_committed _ idle = tt

  told_committed : (t : Told) → state.running ≡ None → Gives BacksIn (commit_told asked t)
  told_committed told.Done idle = request_committed (request_asked asked) idle
  told_committed (told.Refused number) idle = tt
  told_committed told.Memory idle = λ good. memory_backs carried asked due contents backed

  pub commit_backs : (t : Told) → state.running ≡ None → Gives BacksIn (commit_effect asked t)
  unfolding commit_effect
  commit_backs t idle = due_gives BacksIn event.Commit asked _ (λ test. told_committed t idle)

  pub rollback_backs : Gives BacksIn (rollback_effect asked)
  unfolding rollback_effect
  rollback_backs = due_gives BacksIn event.Rollback asked _ (λ test. rolled_backs (session_done asked) (own_point_now asked) (Some reply.Ok) refl)
