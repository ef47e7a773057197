-- The landing of a round keeps the bags: the parts that come hold what those that go held.
use Rattle.std.specs.Prelude.{Bool, List, None, Option, Some, [], bytes_eq, false, filter, find, fold, if◌then◌else◌, is_none, length, refl, slice_get, slice_set, true, unwrap_or, ℕ, ◌&&◌, ◌++◌, ◌+◌, ◌-◌, ◌==◌, ◌∷◌, ◌≡◌, ◌≢◌, ◌≤◌}
use Rattle.std.specs.declared.cmp.Ordering.{Ordering}
use Rattle.std.proofs.Common.{ap, arith, inl, inr, subst, sym, ◌∙◌, ◌⊎◌}
use Rattle.std.proofs.lemmas.Bool.{and_parts, cases_order, eq-eqb, false≢true}
use Rattle.std.proofs.lemmas.Option.{none-some, same_Some, slice_get_within}
use Rattle.std.proofs.lemmas.Slice.Eq.{bytes_eq-Decides}
use Rattle.tt_history.specs.declared.history.Added.{Added}
use Rattle.tt_layout.specs.Numbers.{IsAscending, changed, has, without}
use Rattle.tt_plain.proofs.Answers.{bind_some, only_if_some}
use Rattle.tt_plain.proofs.Tests.{none_is, same_number}
use Rattle.tt_plain.proofs.law.Gives.{Gives, gives_bind, gives_tested}
use Rattle.tt_plain.proofs.law.Lists.{every-append, every_at}
use Rattle.tt_plain.proofs.law.Past.{keeps_past}
use Rattle.tt_plain.proofs.law.change.Applied.{effects_keep_sound}
use Rattle.tt_plain.proofs.law.entry.Rounds.{added_ascend, current_parts_ascend}
use Rattle.tt_plain.proofs.law.session.Marks.{others_free}
use Rattle.tt_plain.specs.asked.Carried.{Carried}
use Rattle.tt_plain.specs.declared.store.Plain.{Plain}
use Rattle.tt_plain.specs.declared.store.PlainSession.{PlainSession}
use Rattle.tt_plain.specs.declared.store.PlainTable.{PlainTable}
use Rattle.tt_plain.specs.declared.tally.Tally.{Tally}
use Rattle.tt_plain.specs.declared.tally.TallyPending.{TallyPending}
use Rattle.tt_plain.specs.declared.tally.TallyPin.{TallyPin}
use Rattle.tt_plain.specs.declared.tally.TallyRound.{TallyRound}
use Rattle.tt_plain.specs.cluster.Rebuild.{by_key, rebuilt_rows}
use Rattle.tt_plain.specs.effect.Apply.{applied}
use Rattle.tt_plain.specs.effect.Effect.{Effect}
use Rattle.tt_plain.specs.effect.Landing.{lands_with, round_end_effect}
use Rattle.tt_plain.specs.effect.Round.{miss_of, misses, parts_left, round_of, worker_effect}
use Rattle.tt_plain.specs.history.Contents.{rows_of_landing, rows_of_parts}
use Rattle.tt_plain.specs.law.Changes.{IsSoundEffect}
use Rattle.tt_plain.specs.law.Lists.{Every}
use Rattle.tt_plain.specs.law.Sound.{IsSound}
use Rattle.tt_plain.specs.refusal.{first_some}
use Rattle.tt_plain.specs.stored.Sessions.{has_exclusive_mark, others_with, sessions_with}
use Rattle.tt_plain.specs.stored.Tables.{current_rows}
use Rattle.tt_plain.specs.tally.Changes.{AddsParts, EndsRound, TallyChange, changed_tally}
use Rattle.tt_plain.specs.tally.Layouts.{current_parts, is_pending_of, lists_of}
use Rattle.tt_plain.specs.tally.Parts.{are_next_parts, numbers_added, rows_in_added, rows_in_parts}
use Rattle.tt_plain.specs.tally.Pending.{layout_begun, no_lists}
use Rattle.tt_plain.specs.tally.Facts.{round_parts}
use Rattle.tt_layout.proofs.NetLaws.{unchanged}
use Rattle.tt_plain.specs.Answers.{◌>>=◌}
use Rattle.std.specs.Prelude.{not}
use Rattle.tt_script.specs.declared.script.Script.{Script}
use Rattle.tt_sql.specs.meaning.Queries.{insert_by, sorted_by}
use Rattle.tt_value.proofs.values.Bags.{copies_of-cons}
use Rattle.tt_value.specs.declared.value.Row.{Row}
use Rattle.tt_value.specs.values.Bags.{copies_of}
use Rattle.tt_plain_laws.proofs.guard.Kept.{are_numbered}
use Rattle.tt_plain_laws.proofs.parts.Added.{contents_added, get_some, grown_length, known_outside, lengths_added, measured_added, new_hold, new_known, new_outside, stored_added, total_added}
use Rattle.tt_plain_laws.proofs.parts.After.{AreLaid, OnlyLayouts, fold_tally-append, found_for, layouts_laid, lists_key, none_for, only_begun}
use Rattle.tt_plain_laws.proofs.parts.Backed.{AreBacked, IsPinned, current_hold}
use Rattle.tt_plain_laws.proofs.parts.Balance.{Hold, IsBalanced, lists_now, pending_now}
use Rattle.tt_plain_laws.proofs.entry.Commits.{holder_of}
use Rattle.tt_plain_laws.proofs.parts.Contents.{Known, known_more, same_contents, total}
use Rattle.tt_plain_laws.proofs.parts.Cuts.{length-rows}
use Rattle.tt_plain_laws.proofs.parts.Known.{KnownChange, known_current, known_lists}
use Rattle.tt_plain_laws.proofs.parts.Moved.{outside_later, within_later}
use Rattle.tt_plain_laws.proofs.parts.Numbers.{Outside, Within, copies-changed, copies_in, is_false, within_changed, without_has}
use Rattle.tt_plain_laws.proofs.entry.Starts.{no_head, nothing_first}
use Rattle.tt_plain_laws.proofs.parts.Step.{balanced_still, each_session, known_next, layouts_moved, pinned_other}
use Rattle.tt_plain_laws.proofs.parts.Sums.{same_length}
use Rattle.tt_plain_laws.specs.Guarded.{AreGuarded, IsGuarded}
use Rattle.tt_layout.specs.Chain as chain
use Rattle.tt_history.specs.declared.history.Miss.TheVariants as miss

-- ---- rows in another order

copies-inserted : (cmp : Row → Row → Ordering) (row x : Row) (rows : List Row) → copies_of row (insert_by cmp x rows) ≡ copies_of row (x ∷ rows)
copies-inserted cmp row x [] = refl
copies-inserted cmp row x (r ∷ rows) = by _ (copies-inserted cmp row x rows)
  where
    by : (b : Bool) → copies_of row (insert_by cmp x rows) ≡ copies_of row (x ∷ rows) → copies_of row (if b then r ∷ insert_by cmp x rows else x ∷ r ∷ rows) ≡ copies_of row (x ∷ r ∷ rows)
    by true e = omega (arith, e, copies_of-cons row r (insert_by cmp x rows), copies_of-cons row x (r ∷ rows), copies_of-cons row r rows, copies_of-cons row x rows)
    by false e = refl

copies-sorted : (cmp : Row → Row → Ordering) (row : Row) (rows : List Row) → copies_of row (sorted_by cmp rows) ≡ copies_of row rows
copies-sorted cmp row [] = refl
copies-sorted cmp row (r ∷ rows) = omega (arith, copies-inserted cmp row r (sorted_by cmp rows), copies_of-cons row r (sorted_by cmp rows), copies_of-cons row r rows, copies-sorted cmp row rows)

copies-rebuilt : (key : ℕ) (rows : List Row) (row : Row) → copies_of row (rebuilt_rows key rows) ≡ copies_of row rows
unfolding rebuilt_rows
copies-rebuilt key rows row = copies-sorted (by_key key) row rows

none_left : (current parts : List ℕ) → without current parts ≡ [] → Within parts current
none_left current parts none k e = by (has current k) refl
  where
    by : (b : Bool) → has current k ≡ b → has current k ≡ true
    by true f = f
    by false f = absurd (false≢true (sym (ap (λ (ns : List ℕ). has ns k) none) ∙ without_has current parts k e f))

-- a layout is put by the place of its table
same_place : (tally now : Tally) (moment a b : ℕ) (gone added : List ℕ) → a - 1 ≡ b - 1 → (fold changed_tally now (layout_begun tally moment a gone added)).layouts ≡ (fold changed_tally now (layout_begun tally moment b gone added)).layouts
same_place tally now moment a b [] [] e = refl
same_place tally now moment a b [] (n ∷ added) e =
    ap (λ (k : ℕ). slice_set now.layouts k (unwrap_or (slice_get now.layouts k) [] ++ (moment, changed (chain.current_of (unwrap_or (slice_get tally.layouts k) [])) [] (n ∷ added)) ∷ [])) e
same_place tally now moment a b (n ∷ gone) added e =
    ap (λ (k : ℕ). slice_set now.layouts k (unwrap_or (slice_get now.layouts k) [] ++ (moment, changed (chain.current_of (unwrap_or (slice_get tally.layouts k) [])) (n ∷ gone) added) ∷ [])) e

module _ (carried : Carried) (program : Script) (store : Plain) (contents : List (List Row)) (sound : IsSound carried program store) (backed : AreBacked carried program contents store) (guarded : AreGuarded store) where
  module _ (table : ℕ) (gone : List ℕ) (added : List Added) (round : TallyRound) (is_open : store.tally.round ≡ Some round) (same_table : table ≡ round.table) (never : miss_of store round ≡ None) (facts : lands_with store.tally round gone added ≡ true) where
    abbrev tally : Tally
    tally = store.tally

    abbrev news : List ℕ
    news = numbers_added added

    abbrev rows : List Row
    rows = rows_of_landing contents gone tally.round

    abbrev more : List (List Row)
    more = contents_added added rows

    abbrev effect : Effect
    effect = worker_effect store (AddsParts table added ∷ layout_begun tally (store.moment + 1) table gone news ++ EndsRound ∷ [])

    abbrev next : Plain
    next = applied store effect

    -- the number of its table
    n : ℕ
    n = round.table - 1 + 1

    n_is : n ≡ round.table - 1 + 1
    unfolding n
    n_is = refl

    gone_is : gone ≡ round.parts
    gone_is = (bytes_eq-Decides gone round.parts).0 (and_parts (bytes_eq gone round.parts) (are_next_parts tally added)
        (and_parts (bytes_eq gone round.parts && are_next_parts tally added) (rows_in_added added == rows_in_parts tally gone) facts).0).0

    next_parts : are_next_parts tally added ≡ true
    next_parts = (and_parts (bytes_eq gone round.parts) (are_next_parts tally added) (and_parts (bytes_eq gone round.parts && are_next_parts tally added) (rows_in_added added == rows_in_parts tally gone) facts).0).1

    as_many : rows_in_added added ≡ rows_in_parts tally gone
    as_many = same_number (rows_in_added added) (rows_in_parts tally gone) (and_parts (bytes_eq gone round.parts && are_next_parts tally added) (rows_in_added added == rows_in_parts tally gone) facts).1

    there : (t : PlainTable) × (slice_get store.tables (round.table - 1) ≡ Some t)
    there = get_some store.tables (round.table - 1) (backed.round round is_open)

    numbered : there.0.number ≡ n
    numbered = are_numbered carried program store sound (round.table - 1) there.0 there.1 ∙ sym n_is

    in_range : (1 ≤ n) × (n ≤ length store.tables)
    in_range = (omega (arith, n_is), omega (arith, n_is, backed.round round is_open))

    none_misses : first_some (misses store round there.0) ≡ None
    unfolding miss_of
    none_misses = sym (ap (λ (o : Option PlainTable). o >>= λ t. first_some (misses store round t)) there.1) ∙ never

    nobody : sessions_with (has_exclusive_mark there.0.number) store ≡ []
    nobody = no_head miss.Held (sessions_with (has_exclusive_mark there.0.number) store) (nothing_first (misses store round there.0) 2 _ none_misses refl)

    same_current : current_parts tally round.table ≡ current_parts tally n
    same_current = ap (λ (k : ℕ). chain.current_of (unwrap_or (slice_get tally.layouts k) [])) (omega (arith, n_is))

    inside : Within gone (current_parts tally n)
    inside k e =
        subst (λ (ns : List ℕ). has ns k ≡ true) same_current
        (none_left (current_parts tally round.table) round.parts (no_head miss.Gone (parts_left tally round) (nothing_first (misses store round there.0) 3 _ none_misses refl)) k (subst (λ (ns : List ℕ). has ns k ≡ true) gone_is e))

    up : IsAscending gone
    up = subst IsAscending (sym gone_is) (ap_round tally.round is_open sound.tally.round)
      where
        ap_round : (o : Option TallyRound) → o ≡ Some round → IsAscending (round_parts o) → IsAscending round.parts
        ap_round None e all = absurd (none-some round e)
        ap_round (Some r) e all = subst (λ (x : TallyRound). IsAscending x.parts) (same_Some r round e) all

    known_gone : Known (length contents) gone
    known_gone k e = known_current (length contents) tally n backed.known k (inside k e)

    same_rows : (row : Row) → copies_of row rows ≡ copies_in contents row gone
    same_rows row = ap (λ (o : Option TallyRound). copies_of row (rows_of_landing contents gone o)) is_open ∙ copies-rebuilt round.key (rows_of_parts contents gone) row

    all : total (lengths_added added) ≡ length rows
    all = total_added added ∙ as_many ∙ length-rows contents tally backed.measured gone known_gone ∙ sym (same_length rows (rows_of_parts contents gone) same_rows)

    abbrev with_parts : Tally
    with_parts = changed_tally tally (AddsParts table added)

    abbrev one : TallyPending
    one = record { session = 0; table = n; gone = gone; added = news }

    abbrev begun : List TallyChange
    begun = layout_begun tally (store.moment + 1) table gone news

    whole : next.tally ≡ changed_tally (fold changed_tally with_parts begun) EndsRound
    unfolding applied
    whole = fold_tally-append tally (store.moment + 1) 0 with_parts begun (EndsRound ∷ [])

    only : OnlyLayouts tally (store.moment + 1) 0 with_parts (fold changed_tally with_parts begun)
    only = only_begun tally (store.moment + 1) 0 with_parts table gone news

    append_none : (changes : List TallyChange) → changes ++ [] ≡ changes
    append_none [] = refl
    append_none (c ∷ changes) = ap (λ cs. c ∷ cs) (append_none changes)

    laid : AreLaid tally 0 (one ∷ []) next.tally.layouts
    laid =
        subst (AreLaid tally 0 (one ∷ [])) (sym (ap (λ (t : Tally). t.layouts) whole ∙ same_place tally with_parts (store.moment + 1) table n gone news (omega (arith, n_is, same_table))))
        (subst (λ (cs : List TallyChange). AreLaid tally 0 (one ∷ []) (fold changed_tally with_parts cs).layouts) (append_none (layout_begun tally (store.moment + 1) n gone news))
        (layouts_laid tally (store.moment + 1) 0 (one ∷ []) with_parts (tt, tt) (in_range.0, tt) refl))

    one_at : (t : ℕ) → t ≡ n → found_for lists_key (none_for 0) (one ∷ []) t ≡ one
    one_at t e = rw (eq-eqb n t (sym e)) refl

    one_off : (t : ℕ) → (t ≡ n → ⊥) → found_for lists_key (none_for 0) (one ∷ []) t ≡ no_lists 0 t
    one_off t apart = rw (is_false (n == t) (λ e. apart (sym (same_number n t e)))) refl

    same_or : (a b : ℕ) → (a ≡ b) ⊎ (a ≡ b → ⊥)
    same_or a b = elim (cases_order a b) [ inl e ↦ inl e | inr (inl h) ↦ inr (λ e. absurd (omega (arith, e, h))) | inr (inr h) ↦ inr (λ e. absurd (omega (arith, e, h))) ]

    -- a table's layout holds what it held
    hold_now : (place : ℕ) (t : PlainTable) → slice_get store.tables place ≡ Some t → Hold (contents ++ more) (current_parts next.tally t.number) (current_rows t)
    hold_now place t at row =
        let number = are_numbered carried program store sound place t at in
        let first : 1 ≤ t.number = omega (arith, number) in
        let within : t.number ≤ length tally.layouts = omega (arith, number, slice_get_within store.tables place t at, sound.layouts) in
        let before : copies_in (contents ++ more) row (current_parts tally t.number) ≡ copies_of row (current_rows t) =
        ap (copies_of row) (same_contents contents more (current_parts tally t.number) (known_current (length contents) tally t.number backed.known)) ∙ current_hold carried program contents store sound backed place t at row in
        ap (copies_in (contents ++ more) row) (laid t.number first within) ∙ by (same_or t.number n) before
      where
        by : (t.number ≡ n) ⊎ (t.number ≡ n → ⊥) → copies_in (contents ++ more) row (current_parts tally t.number) ≡ copies_of row (current_rows t)
            → copies_in (contents ++ more) row (changed (current_parts tally t.number) (found_for lists_key (none_for 0) (one ∷ []) t.number).gone (found_for lists_key (none_for 0) (one ∷ []) t.number).added) ≡ copies_of row (current_rows t)
        by (inl e) before =
            ap (λ (l : TallyPending). copies_in (contents ++ more) row (changed (current_parts tally t.number) l.gone l.added)) (one_at t.number e)
            ∙ omega (
              arith,
              copies-changed (contents ++ more) row (current_parts tally t.number) gone news (current_parts_ascend store.moment tally t.number sound.tally) up (added_ascend tally added next_parts)
                  (λ k f. subst (λ (m : ℕ). has (current_parts tally m) k ≡ true) (sym e) (inside k f)) (new_outside contents tally added rows backed.stored next_parts all (current_parts tally t.number) (known_current (length contents) tally t.number backed.known)),
              new_hold contents tally added rows backed.stored next_parts all row,
              same_rows row,
              ap (copies_of row) (same_contents contents more gone known_gone),
              before,
            )
        by (inr apart) before =
            ap (λ (l : TallyPending). copies_in (contents ++ more) row (changed (current_parts tally t.number) l.gone l.added)) (one_off t.number apart)
            ∙ ap (copies_in (contents ++ more) row) (unchanged (current_parts tally t.number) [] [] refl refl) ∙ before

    -- nobody has parts of it gone
    none_gone : (other : ℕ) (held_by : PlainSession) → slice_get store.sessions other ≡ Some held_by → (t : ℕ) → 1 ≤ t → t ≤ length store.tables → (lists_now tally other t).gone ≢ [] → t ≡ n → ⊥
    none_gone other held_by at t first within some e =
        let held : has_exclusive_mark there.0.number held_by ≡ true =
        subst (λ (m : ℕ). has_exclusive_mark m held_by ≡ true) (e ∙ sym numbered)
        (holder_of store contents (current_parts tally t) held_by t (lists_now tally other t) (every_at (IsGuarded store) store.sessions other held_by guarded at) (backed.balanced other held_by at t first within) some) in
        let free : (session : ℕ) → others_with (has_exclusive_mark there.0.number) store session ≡ [] = λ session. ap (filter (λ other. not (other == session))) nobody in
        omega (
          arith,
          others_free (has_exclusive_mark there.0.number) store 0 other held_by (free 0) at held,
          others_free (has_exclusive_mark there.0.number) store 1 other held_by (free 1) at held,
        )

    same_find : (other t : ℕ) → lists_of next.tally other t ≡ lists_of tally other t
    same_find other t = ap (λ (x : Tally). find (is_pending_of other t) x.pending) whole ∙ ap (find (is_pending_of other t)) only.pending

    same_lists : (other t : ℕ) → lists_now next.tally other t ≡ lists_now tally other t
    same_lists other t = ap (λ (o : Option TallyPending). unwrap_or o (no_lists other t)) (same_find other t)

    balanced_next : (other : ℕ) (held_by : PlainSession) → slice_get store.sessions other ≡ Some held_by → (t : ℕ) → 1 ≤ t → t ≤ length store.tables
        → IsBalanced (contents ++ more) (current_parts next.tally t) (lists_now next.tally other t) (pending_now held_by t)
    balanced_next other held_by at t first within =
        let before = backed.balanced other held_by at t first within in
        let l = found_for lists_key (none_for 0) (one ∷ []) t in
        subst (λ (ns : List ℕ). IsBalanced (contents ++ more) ns (lists_now next.tally other t) (pending_now held_by t)) (sym (laid t first (omega (arith, within, sound.layouts))))
        (balanced_still carried program contents more store effect sound backed other held_by held_by t (changed (current_parts tally t) l.gone l.added) at first within refl (same_lists other t)
        (λ some. within_later (lists_now tally other t).gone (current_parts tally t) l.gone l.added (off_gone some (same_or t n)) before.inside)
        (outside_later (lists_now tally other t).added (current_parts tally t) l.gone l.added before.outside (off_added (same_or t n))))
      where
        off_gone : (lists_now tally other t).gone ≢ [] → (t ≡ n) ⊎ (t ≡ n → ⊥) → (found_for lists_key (none_for 0) (one ∷ []) t).gone ≡ []
        off_gone some (inl e) = absurd (none_gone other held_by at t first within some e)
        off_gone some (inr off) = ap (λ (l : TallyPending). l.gone) (one_off t off)

        off_added : (t ≡ n) ⊎ (t ≡ n → ⊥) → Outside (lists_now tally other t).added (found_for lists_key (none_for 0) (one ∷ []) t).added
        off_added (inl e) =
            subst (λ (l : TallyPending). Outside (lists_now tally other t).added l.added) (sym (one_at t e))
            (known_outside contents tally added rows backed.stored next_parts all (lists_now tally other t).added (known_lists (length contents) tally other t backed.known).1)
        off_added (inr off) = subst (λ (l : TallyPending). Outside (lists_now tally other t).added l.added) (sym (one_off t off)) (λ k e. refl)

    changed_known : (g : List ℕ) → Known (length (contents ++ more)) (changed (current_parts tally table) g news)
    changed_known g k e = elim (within_changed (current_parts tally table) g news k e) [
      | inl h ↦ known_more (length contents) (length (contents ++ more)) (current_parts tally table) (omega (arith, grown_length contents tally added rows backed.stored next_parts all)) (known_current (length contents) tally table backed.known) k h.0
      | inr h ↦ new_known contents tally added rows backed.stored next_parts all k h
    ]

    begun_known : (g a : List ℕ) → Known (length (contents ++ more)) (changed (current_parts tally table) g a) → Every (KnownChange (length (contents ++ more))) (layout_begun tally (store.moment + 1) table g a)
    begun_known [] [] known = tt
    begun_known [] (m ∷ a) known = (known, tt)
    begun_known (m ∷ g) a known = (known, tt)

    same_tables : next.tables ≡ store.tables
    unfolding applied
    same_tables = refl

    none_own : (session : ℕ) (new : PlainSession) → effect.session ≡ Some (session, new) → ⊥
    none_own session new e = none-some (session, new) e

    pub landed_backs : IsSoundEffect carried program store effect → AreBacked carried program (contents ++ more) next
    landed_backs good = record {
      stored = stored_added contents tally added rows backed.stored next_parts all table next.tally (ap (λ (t : Tally). t.parts) whole ∙ only.parts);
      measured = measured_added contents tally added rows backed.stored next_parts all table next.tally (ap (λ (t : Tally). t.parts) whole ∙ only.parts) backed.measured;
      known = known_next carried program contents more store effect sound backed (tt, every-append (KnownChange (length (contents ++ more))) begun (EndsRound ∷ []) (begun_known gone news (changed_known gone)) (tt, tt));
      layouts = λ place new at.
          let was : slice_get store.tables place ≡ Some new = sym (ap (λ (ts : List PlainTable). slice_get ts place) same_tables) ∙ at in
          layouts_moved carried program contents more store effect sound backed (keeps_past carried program store effect sound good) (effects_keep_sound carried program store effect sound good) refl place new at
          (inl (record { old = new; was = was; made = refl })) (hold_now place new was);
      placed = subst (λ (ts : List PlainTable). Every (λ (l : TallyPending). l.table ≤ length ts) next.tally.pending) (sym same_tables)
          (subst (Every (λ (l : TallyPending). l.table ≤ length store.tables)) (sym (ap (λ (t : Tally). t.pending) whole ∙ only.pending)) backed.placed);
      empty = each_session store effect (λ session new. new.pending ≡ [] → (t : ℕ) → lists_of next.tally session t ≡ None)
          (λ session new e. absurd (none_own session new e)) (λ other held_by at apart none t. same_find other t ∙ backed.empty other held_by at none t);
      balanced = each_session store effect (λ session new. (t : ℕ) → 1 ≤ t → t ≤ length next.tables → IsBalanced (contents ++ more) (current_parts next.tally t) (lists_now next.tally session t) (pending_now new t))
          (λ session new e. absurd (none_own session new e))
          (λ other held_by at apart t first within. balanced_next other held_by at t first (subst (λ (ts : List PlainTable). t ≤ length ts) same_tables within));
      apart = λ a b t other. subst (λ (l : TallyPending). Outside l.added (lists_now next.tally b t).added) (sym (same_lists a t))
          (subst (λ (l : TallyPending). Outside (lists_now tally a t).added l.added) (sym (same_lists b t)) (backed.apart a b t other));
      round = λ r e. absurd (none-some r (sym (ap (λ (t : Tally). t.round) whole) ∙ e));
      pinned = each_session store effect (λ session new. IsPinned carried program (contents ++ more) next.tally session new)
          (λ session new e. absurd (none_own session new e))
          (λ other held_by at apart. pinned_other carried program contents more store effect sound backed other held_by at
          (ap (λ (t : Tally). filter (λ (pin : TallyPin). pin.session == other) t.pins) whole ∙ ap (filter (λ (pin : TallyPin). pin.session == other)) only.pins));
    }

  pub landing_backs : (index table : ℕ) (gone : List ℕ) (added : List Added)
      → Gives (λ effect. IsSoundEffect carried program store effect → AreBacked carried program (contents ++ contents_added added (rows_of_landing contents gone store.tally.round)) (applied store effect)) (round_end_effect store index table gone added)
  unfolding round_end_effect
  landing_backs index table gone added =
      gives_bind _ (round_of store index table) _ (λ round there.
      gives_tested _ (is_none (miss_of store round) && lands_with store.tally round gone added) round _ (λ lands.
      let found = bind_some store.tally.round _ round there in
      let same = only_if_some (index == store.tally.rounds && table == found.0.table) found.0 round found.2 in
      let both = and_parts (is_none (miss_of store round)) (lands_with store.tally round gone added) lands in
      landed_backs table gone added round (found.1 ∙ ap Some same.1)
      (same_number table found.0.table (and_parts (index == store.tally.rounds) (table == found.0.table) same.0).1 ∙ ap (λ (r : TallyRound). r.table) same.1) (none_is (miss_of store round) both.0) both.1))
