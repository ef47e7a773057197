-- Definitions keep the bags.
use Rattle.std.specs.Prelude.{Bool, List, None, Option, Some, [], false, filter, find, fold, if◌then◌else◌, length, map, option_map, option_to_list, refl, slice_get, true, unwrap_or, ℕ, ◌++◌, ◌+◌, ◌-◌, ◌==◌, ◌∷◌, ◌≡◌, ◌≢◌, ◌≤◌}
use Rattle.std.proofs.Common.{ap, arith, cond, inl, inr, subst, sym, ◌∙◌, ◌⊎◌}
use Rattle.std.proofs.lemmas.Bool.{cases_order, eq-eqb, false≢true}
use Rattle.std.proofs.lemmas.List.{length-map, length_push}
use Rattle.std.proofs.lemmas.Option.{none-some, same_Some, slice_get_within}
use Rattle.tt_history.specs.declared.history.Told.{Told}
use Rattle.tt_plain.proofs.Tests.{same_number}
use Rattle.tt_plain.proofs.law.Free.{IsFree, is_free}
use Rattle.tt_plain.proofs.law.Gives.{Gives, gives_at, gives_bind, gives_map}
use Rattle.tt_plain.proofs.law.Lists.{every_at, every_on}
use Rattle.tt_plain.proofs.law.Past.{keeps_past}
use Rattle.tt_plain.proofs.law.Turns.{due_gives}
use Rattle.tt_plain.proofs.law.change.Apart.{get_unmap}
use Rattle.tt_plain.proofs.law.change.Applied.{effects_keep_sound}
use Rattle.tt_plain.proofs.law.session.Alone.{IsDue, IsSaid, state_sound}
use Rattle.tt_plain.proofs.law.session.Marks.{others_free}
use Rattle.tt_plain.proofs.law.session.Views.{named}
use Rattle.tt_plain.specs.asked.Asked.{Asked, request_asked, state_asked, table_asked}
use Rattle.tt_plain.specs.asked.Carried.{Carried}
use Rattle.tt_plain.specs.asked.Event.{first_event, is_same_event}
use Rattle.tt_plain.specs.asked.Request.{Alters, Clones, Creates, Defines, Definition, Drops, Request, Truncates, Undrops}
use Rattle.tt_plain.specs.declared.store.Plain.{Plain}
use Rattle.tt_plain.specs.declared.store.PlainPending.{PlainPending}
use Rattle.tt_plain.specs.declared.store.PlainSession.{PlainSession}
use Rattle.tt_plain.specs.declared.store.PlainTable.{PlainTable}
use Rattle.tt_plain.specs.declared.tally.Tally.{Tally}
use Rattle.tt_plain.specs.declared.tally.TallyPending.{TallyPending}
use Rattle.tt_plain.specs.declared.tally.TallyPin.{TallyPin}
use Rattle.tt_plain.specs.definition.Alter.{alter_changes}
use Rattle.tt_plain.specs.definition.Changes.{definition_changes, tables_alone}
use Rattle.tt_plain.specs.definition.Clone.{clone_changes, table_cloned}
use Rattle.tt_plain.specs.definition.Create.{create_changes, replaced, table_created}
use Rattle.tt_plain.specs.definition.Drop.{drop_changes}
use Rattle.tt_plain.specs.definition.Swap.{swap_changes}
use Rattle.tt_plain.specs.definition.Truncate.{truncate_changes}
use Rattle.tt_plain.specs.definition.Undrop.{undrop_changes}
use Rattle.tt_plain.specs.effect.Apply.{applied, changed_table, with_version}
use Rattle.tt_plain.specs.effect.Define.{define_effect, defined, defined_by}
use Rattle.tt_plain.specs.effect.Effect.{Dropped, Effect, Made, TableChange}
use Rattle.tt_plain.specs.effect.End.{nothing_pending}
use Rattle.tt_plain.specs.effect.Ending.{ended_with, memory_effect, own_point_now, session_done}
use Rattle.tt_plain.specs.law.Changes.{IsSoundEffect}
use Rattle.tt_plain.specs.law.Lists.{Every}
use Rattle.tt_plain.specs.law.Sound.{IsSoundPending}
use Rattle.tt_plain.specs.opening.Point.{sources_in}
use Rattle.tt_plain.specs.opening.Seen.{pending_of, rows_seen}
use Rattle.tt_plain.specs.refusal.First.{refusal_of}
use Rattle.tt_plain.specs.refusal.NothingToUndrop.{table_to_undrop}
use Rattle.tt_plain.specs.stored.Sessions.{has_exclusive_mark, has_mark}
use Rattle.tt_plain.specs.stored.Tables.{current_rows}
use Rattle.tt_plain.specs.tally.Changes.{MakesTable, TallyChange, with_layout}
use Rattle.tt_plain.specs.tally.Layouts.{current_parts, is_pending_of, lists_of, source_parts}
use Rattle.tt_plain.specs.tally.Pending.{no_lists}
use Rattle.tt_sql.specs.declared.table.Change.{Change}
use Rattle.tt_sql.specs.declared.table.ClonedTable.{ClonedTable}
use Rattle.tt_value.specs.declared.name.TableName.{TableName}
use Rattle.tt_value.specs.declared.value.Row.{Row}
use Rattle.tt_value.specs.values.Bags.{copies_of}
use Rattle.tt_plain_laws.proofs.guard.Defines.{exclusive_is_mark, nobody_holds, none_open}
use Rattle.tt_plain_laws.proofs.guard.Grown.{last_pushed, push_get}
use Rattle.tt_plain_laws.proofs.guard.Kept.{are_numbered}
use Rattle.tt_plain_laws.proofs.parts.After.{current_in, layout_here, layout_there}
use Rattle.tt_plain_laws.proofs.parts.Backed.{AreBacked, IsPinned, current_hold}
use Rattle.tt_plain_laws.proofs.parts.Balance.{Hold, IsBalanced, hold_from, lists_now, none_balanced, pending_now}
use Rattle.tt_plain_laws.proofs.entry.Commits.{holder_of, measured_same, no_more}
use Rattle.tt_plain_laws.proofs.parts.Contents.{Known, known_more, seam_get, same_contents}
use Rattle.tt_plain_laws.proofs.parts.Known.{known_current}
use Rattle.tt_plain_laws.proofs.parts.Numbers.{Outside, copies_in}
use Rattle.tt_plain_laws.proofs.parts.Places.{key_of}
use Rattle.tt_plain_laws.proofs.parts.Quiet.{IsQuietChange, quiet_fold, quiet_many}
use Rattle.tt_plain_laws.proofs.entry.Starts.{IsMade, all_made, parts_known, source_forms}
use Rattle.tt_plain.specs.declared.store.Version.{Version}
use Rattle.std.specs.List.{last_or}
use Rattle.tt_plain.specs.stored.Tables.{rows_of}
use Rattle.std.specs.Prelude.{is_none}
use Rattle.tt_plain.proofs.law.Gives.{gives_if, gives_on}
use Rattle.tt_plain.specs.effect.Ending.{refused_effect, told_effect}
use Rattle.tt_plain.proofs.Tests.{none_is}
use Rattle.tt_plain_laws.proofs.entry.Sessions.{refused_backs}
use Rattle.tt_layout.specs.Chain as chain
use Rattle.tt_history.specs.declared.history.Told.TheVariants as told
use Rattle.tt_plain_laws.proofs.entry.Sessions.{Backs, alone_backs, memory_backs}
use Rattle.tt_plain_laws.proofs.parts.Step.{balanced_still, each_session, known_next, layouts_moved, pinned_other}
use Rattle.tt_plain_laws.specs.Guarded.{AreGuarded, IsGuarded}
use Rattle.tt_plain.specs.asked.Event as event
use Rattle.tt_sql.specs.declared.table.Change.TheVariants as change
use Rattle.tt_history.specs.declared.reply.Reply.TheVariants as reply

module _ (carried : Carried) (asked : Asked) (due : IsDue carried asked) (said : IsSaid carried asked) (contents : List (List Row)) (backed : AreBacked carried asked.program contents asked.store) (guarded : AreGuarded asked.store) where
  abbrev BacksIn : Effect → Type 0
  BacksIn effect = IsSoundEffect carried asked.program asked.store effect → Backs carried asked due contents backed effect

  abbrev state : PlainSession
  state = state_asked asked

  abbrev tally : Tally
  tally = asked.store.tally

  abbrev left : PlainSession
  left = session_done asked

  -- what all definitions have in common: the session is as before, and nothing is pending in another way
  record IsPlaced (effect : Effect) : Type 0 where
    session : effect.session ≡ Some (asked.session, left)
    pending : (applied asked.store effect).tally.pending ≡ tally.pending
    pins : (applied asked.store effect).tally.pins ≡ tally.pins

  module _ (closed : state.transaction ≡ false) (free : IsFree asked) where
    abbrev BacksDefined : List TableChange × List TallyChange → Type 0
    BacksDefined changes = BacksIn (defined asked changes)

    none_pending : state.pending ≡ []
    none_pending = (state_sound carried asked due).closed closed

    -- ---- definitions that change no rows

    by_quiet : (changes : List TableChange) → Every IsQuietChange changes → BacksDefined (changes, [])
    unfolding ended_with
    by_quiet changes quiet good = alone_backs carried asked due contents backed left changes (own_point_now asked) asked.moment (Some reply.Ok) quiet refl refl

    altered_backs : (table : PlainTable) (c : Change) → Gives BacksDefined (option_map tables_alone (alter_changes asked table c))
    altered_backs table (change.RenameTo name) = by_quiet _ (tt, tt)
    altered_backs table (change.SwapWith name) = by (table_asked asked name)
      where
        by : (o : Option PlainTable) → Gives BacksDefined (option_map tables_alone (option_map (swap_changes table) o))
        by None = tt
        by (Some second) = by_quiet _ (tt, tt)
    altered_backs table (change.SetRetention days) = by_quiet _ (tt, tt)
    altered_backs table (change.ClusterBy column) = by_quiet _ (tt, tt)
    altered_backs table change.DropClusteringKey = by_quiet _ (tt, tt)
    altered_backs table change.SuspendRecluster = by_quiet _ (tt, tt)
    altered_backs table change.ResumeRecluster = by_quiet _ (tt, tt)

    -- ---- the common part

    module _ (effect : Effect) (placed : IsPlaced effect) where
      abbrev next : Plain
      next = applied asked.store effect

      same_find : (session table : ℕ) → lists_of next.tally session table ≡ lists_of tally session table
      same_find session table = ap (λ (all : List TallyPending). find (is_pending_of session table) all) placed.pending

      same_lists : (session table : ℕ) → lists_now next.tally session table ≡ lists_now tally session table
      same_lists session table = ap (λ (o : Option TallyPending). unwrap_or o (no_lists session table)) (same_find session table)

      other_is : (other : ℕ) → ((new : PlainSession) → effect.session ≡ Some (other, new) → ⊥) → other ≡ asked.session → ⊥
      other_is other apart e = apart left (placed.session ∙ ap (λ (n : ℕ). Some (n, left)) (sym e))

      both_of : (session : ℕ) (new : PlainSession) → effect.session ≡ Some (session, new) → ◌≡◌ {A = ℕ × PlainSession} (asked.session, left) (session, new)
      both_of session new e = same_Some (asked.session, left) (session, new) (sym placed.session ∙ e)

      empty_next : (session : ℕ) (held_by : PlainSession) → slice_get next.sessions session ≡ Some held_by → held_by.pending ≡ [] → (table : ℕ) → lists_of next.tally session table ≡ None
      empty_next = each_session asked.store effect (λ session new. new.pending ≡ [] → (table : ℕ) → lists_of next.tally session table ≡ None)
          (λ session new e none table. ap (λ (c : ℕ × PlainSession). lists_of next.tally c.0 table) (sym (both_of session new e)) ∙ same_find asked.session table ∙ backed.empty asked.session state due.at none_pending table)
          (λ other held_by at apart none table. same_find other table ∙ backed.empty other held_by at none table)

      apart_next : (a b table : ℕ) → (a ≡ b → ⊥) → Outside (lists_now next.tally a table).added (lists_now next.tally b table).added
      apart_next a b table other =
          subst (λ (l : TallyPending). Outside l.added (lists_now next.tally b table).added) (sym (same_lists a table))
          (subst (λ (l : TallyPending). Outside (lists_now tally a table).added l.added) (sym (same_lists b table)) (backed.apart a b table other))

      pinned_next : (session : ℕ) (held_by : PlainSession) → slice_get next.sessions session ≡ Some held_by → IsPinned carried asked.program (contents ++ []) next.tally session held_by
      pinned_next = each_session asked.store effect (λ session new. IsPinned carried asked.program (contents ++ []) next.tally session new)
          (λ session new e seen read running read_is. absurd (none-some seen (ap (λ (c : ℕ × PlainSession). c.1.running) (both_of session new e) ∙ running)))
          (λ other held_by at apart. pinned_other carried asked.program contents [] asked.store effect due.sound backed other held_by at (ap (filter (λ (pin : TallyPin). pin.session == other)) placed.pins))

      own_lists : (table : ℕ) → lists_now tally asked.session table ≡ no_lists asked.session table
      own_lists table = ap (λ (o : Option TallyPending). unwrap_or o (no_lists asked.session table)) (backed.empty asked.session state due.at none_pending table)

      -- of the session itself nothing is pending
      own_balanced : (table : ℕ) (current : List ℕ) → IsBalanced (contents ++ []) current (lists_now next.tally asked.session table) (pending_now left table)
      own_balanced table current =
          subst (λ (l : TallyPending). IsBalanced (contents ++ []) current l (pending_now left table)) (sym (same_lists asked.session table ∙ own_lists table))
          (subst (IsBalanced (contents ++ []) current (no_lists asked.session table)) (sym (ap (λ (all : List PlainPending). unwrap_or (find (λ (p : PlainPending). p.table == table) all) (nothing_pending table)) none_pending))
          (none_balanced (contents ++ []) current asked.session table))

      balanced_next : ((other : ℕ) (held_by : PlainSession) → slice_get asked.store.sessions other ≡ Some held_by → (other ≡ asked.session → ⊥) → (table : ℕ) → 1 ≤ table → table ≤ length next.tables
          → IsBalanced (contents ++ []) (current_parts next.tally table) (lists_now next.tally other table) (pending_now held_by table))
          → (session : ℕ) (held_by : PlainSession) → slice_get next.sessions session ≡ Some held_by → (table : ℕ) → 1 ≤ table → table ≤ length next.tables
          → IsBalanced (contents ++ []) (current_parts next.tally table) (lists_now next.tally session table) (pending_now held_by table)
      balanced_next others = each_session asked.store effect (λ session new. (table : ℕ) → 1 ≤ table → table ≤ length next.tables → IsBalanced (contents ++ []) (current_parts next.tally table) (lists_now next.tally session table) (pending_now new table))
          (λ session new e table first within.
          subst (λ (c : ℕ × PlainSession). IsBalanced (contents ++ []) (current_parts next.tally table) (lists_now next.tally c.0 table) (pending_now c.1 table)) (both_of session new e) (own_balanced table (current_parts next.tally table)))
          (λ other held_by at apart table first within. others other held_by at (other_is other apart) table first within)

      -- of another session, over the same layout
      other_still : (other : ℕ) (held_by : PlainSession) → slice_get asked.store.sessions other ≡ Some held_by → (table : ℕ) → 1 ≤ table → table ≤ length asked.store.tables → current_parts next.tally table ≡ current_parts tally table
          → IsBalanced (contents ++ []) (current_parts next.tally table) (lists_now next.tally other table) (pending_now held_by table)
      other_still other held_by at table first within same =
          let before = backed.balanced other held_by at table first within in
          subst (λ (ns : List ℕ). IsBalanced (contents ++ []) ns (lists_now next.tally other table) (pending_now held_by table)) (sym same)
          (balanced_still carried asked.program contents [] asked.store effect due.sound backed other held_by held_by table (current_parts tally table) at first within refl (same_lists other table) (λ some. before.inside) before.outside)

      hold_still : (place : ℕ) (old : PlainTable) → slice_get asked.store.tables place ≡ Some old → Hold (contents ++ []) (current_parts tally old.number) (current_rows old)
      hold_still place old at row =
          ap (copies_of row) (same_contents contents [] (current_parts tally old.number) (known_current (length contents) tally old.number backed.known)) ∙ current_hold carried asked.program contents asked.store due.sound backed place old at row

    -- ---- TRUNCATE

    truncate_backs : (name : TableName) (table : PlainTable) → request_asked asked ≡ Defines (Truncates name) → table_asked asked name ≡ Some table → BacksDefined (truncate_changes asked table)
    unfolding ended_with applied
    truncate_backs name table asks there good =
        let effect : Effect = defined asked (truncate_changes asked table) in
        let placed : IsPlaced effect = record { session = refl; pending = refl; pins = refl } in
        let is = (named carried asked due name table there).is in
        let numbered = are_numbered carried asked.program asked.store due.sound in
        let f : PlainTable → PlainTable = λ (t : PlainTable). if t.number == table.number then with_version asked.moment [] t else t in
        let many : length (map f asked.store.tables) ≡ length asked.store.tables = length-map asked.store.tables f in
        record {
          stored = no_more contents ∙ backed.stored;
          measured = measured_same contents tally (applied asked.store effect).tally refl backed.measured;
          known = known_next carried asked.program contents [] asked.store effect due.sound backed ((λ k e. absurd (false≢true e)), tt);
          layouts = λ place new at.
              let was = get_unmap f asked.store.tables place new at in
              layouts_moved carried asked.program contents [] asked.store effect due.sound backed (keeps_past carried asked.program asked.store effect due.sound good)
              (effects_keep_sound carried asked.program asked.store effect due.sound good) due.next place new at
              (inl (record { old = was.0; was = was.1; made = ap (λ (t : PlainTable). t.made) was.2 ∙ made_is (was.0.number == table.number) was.0 })) (hold_now place new was.0 was.1 was.2);
          placed = every_on (λ (l : TallyPending). l.table ≤ length asked.store.tables) (λ (l : TallyPending). l.table ≤ length (map f asked.store.tables)) tally.pending (λ l h. omega (arith, h, many)) backed.placed;
          empty = empty_next effect placed;
          balanced = balanced_next effect placed (λ other held_by at apart t first within.
              let inside : t ≤ length asked.store.tables = omega (arith, within, many) in
              elim (same_or t table.number) [
                | inl e ↦ subst (λ (ns : List ℕ). IsBalanced (contents ++ []) ns (lists_now tally other t) (pending_now held_by t)) (sym (emptied t e))
                    (balanced_still carried asked.program contents [] asked.store effect due.sound backed other held_by held_by t [] at first inside refl refl
                    (λ some. absurd (apart (held_by_none other held_by at t first inside some e))) (λ k f. refl))
                | inr off ↦ other_still effect placed other held_by at t first inside (left_alone t first off)
              ]);
          apart = apart_next effect placed;
          round = λ round e. omega (arith, backed.round round e, many);
          pinned = pinned_next effect placed;
        }
      where
        made_is : (b : Bool) (t : PlainTable) → (if b then with_version asked.moment [] t else t).made ≡ t.made
        made_is true t = refl
        made_is false t = refl

        same_or : (m n : ℕ) → (m ≡ n) ⊎ (m ≡ n → ⊥)
        same_or m n = elim (cases_order m n) [ inl e ↦ inl e | inr (inl h) ↦ inr (λ e. absurd (omega (arith, e, h))) | inr (inr h) ↦ inr (λ e. absurd (omega (arith, e, h))) ]

        -- nobody else has parts of it gone
        held_by_none : (other : ℕ) (held_by : PlainSession) → slice_get asked.store.sessions other ≡ Some held_by → (t : ℕ) → 1 ≤ t → t ≤ length asked.store.tables → (lists_now tally other t).gone ≢ [] → t ≡ table.number → other ≡ asked.session
        held_by_none other held_by at t first within some e =
            others_free (has_mark table.number) asked.store asked.session other held_by (nobody_holds carried asked due guarded closed free name table asks there) at
            (exclusive_is_mark table.number held_by.marks (subst (λ (n : ℕ). has_exclusive_mark n held_by ≡ true) e
            (holder_of asked.store contents (current_parts tally t) held_by t (lists_now tally other t) (every_at (IsGuarded asked.store) asked.store.sessions other held_by guarded at) (backed.balanced other held_by at t first within) some)))

        emptied : (t : ℕ) → t ≡ table.number → current_in (with_layout tally.layouts table.number (asked.moment, [])) t ≡ []
        emptied t e =
            let is = (named carried asked due name table there).is in
            ap (current_in (with_layout tally.layouts table.number (asked.moment, []))) e ∙ layout_here tally.layouts table.number asked.moment [] is.from_one (omega (arith, is.within, due.sound.layouts))

        left_alone : (t : ℕ) → 1 ≤ t → (t ≡ table.number → ⊥) → current_in (with_layout tally.layouts table.number (asked.moment, [])) t ≡ current_parts tally t
        left_alone t first apart = layout_there tally.layouts table.number t asked.moment [] ((named carried asked due name table there).is.from_one) first apart

        hold_now : (place : ℕ) (new old : PlainTable) → slice_get asked.store.tables place ≡ Some old → new ≡ (if old.number == table.number then with_version asked.moment [] old else old)
            → Hold (contents ++ []) (current_in (with_layout tally.layouts table.number (asked.moment, [])) new.number) (current_rows new)
        hold_now place new old at is = by (old.number == table.number) refl is
          where
            by : (b : Bool) → (old.number == table.number) ≡ b → new ≡ (if b then with_version asked.moment [] old else old)
                → Hold (contents ++ []) (current_in (with_layout tally.layouts table.number (asked.moment, [])) new.number) (current_rows new)
            by true e f row =
                let nothing : current_rows (with_version asked.moment [] old) ≡ [] = rw (last_pushed None old.versions (record { begun = asked.moment; rows = [] })) refl in
                ap (copies_in (contents ++ []) row) (emptied new.number (ap (λ (t : PlainTable). t.number) f ∙ same_number old.number table.number e))
                ∙ sym (ap (copies_of row) (ap (λ (t : PlainTable). current_rows t) f ∙ nothing))
            by false e f row =
                ap (copies_in (contents ++ []) row) (ap (current_in (with_layout tally.layouts table.number (asked.moment, []))) (ap (λ (t : PlainTable). t.number) f)
                ∙ left_alone old.number (omega (arith, are_numbered carried asked.program asked.store due.sound place old at)) (λ g. false≢true (sym e ∙ eq-eqb old.number table.number g)))
                ∙ hold_still (defined asked (truncate_changes asked table)) (record { session = refl; pending = refl; pins = refl }) place old at row ∙ sym (ap (λ (t : PlainTable). copies_of row (current_rows t)) f)

    -- ---- tables that are made

    fold-made : (tables : List PlainTable) (before : List TableChange) (table : PlainTable) → fold changed_table tables (before ++ Made table ∷ []) ≡ fold changed_table tables before ++ table ∷ []
    fold-made tables [] table = refl
    fold-made tables (c ∷ before) table = fold-made (changed_table tables c) before table

    no_lists_yet : (session t : ℕ) → t ≡ length asked.store.tables + 1 → lists_of tally session t ≡ None
    no_lists_yet session t e = by tally.pending backed.placed
      where
        by : (all : List TallyPending) → Every (λ (l : TallyPending). l.table ≤ length asked.store.tables) all → find (is_pending_of session t) all ≡ None
        by [] placed = refl
        by (l ∷ all) placed = keep (is_pending_of session t l) refl (by all placed.1)
          where
            keep : (b : Bool) → is_pending_of session t l ≡ b → find (is_pending_of session t) all ≡ None → cond b (Some l) (find (is_pending_of session t) all) ≡ None
            keep true f rest = absurd (omega (arith, (key_of session t l f).1, placed.0, e))
            keep false f rest = rest

    none_yet : (held_by : PlainSession) (t : ℕ) → Every (IsSoundPending (length asked.store.tables)) held_by.pending → t ≡ length asked.store.tables + 1 → pending_of held_by t ≡ None
    none_yet held_by t rows e = by held_by.pending rows
      where
        by : (all : List PlainPending) → Every (IsSoundPending (length asked.store.tables)) all → find (λ (p : PlainPending). p.table == t) all ≡ None
        by [] sound = refl
        by (p ∷ all) sound = keep (p.table == t) refl (by all sound.1)
          where
            keep : (b : Bool) → (p.table == t) ≡ b → find (λ (q : PlainPending). q.table == t) all ≡ None → cond b (Some p) (find (λ (q : PlainPending). q.table == t) all) ≡ None
            keep true f rest = absurd (omega (arith, same_number p.table t f, sound.0.0.1, e))
            keep false f rest = rest

    layout_old : (n moment : ℕ) (parts : List ℕ) → 1 ≤ n → n ≤ length asked.store.tables → current_in (tally.layouts ++ ((moment, parts) ∷ []) ∷ []) n ≡ current_parts tally n
    layout_old n moment parts first within =
        ap (λ (o : Option (List (ℕ × List ℕ))). chain.current_of (unwrap_or o [])) (push_get tally.layouts ((moment, parts) ∷ []) (n - 1) (omega (arith, first, within, due.sound.layouts)))

    layout_new : (n moment : ℕ) (parts : List ℕ) → n ≡ length asked.store.tables + 1 → current_in (tally.layouts ++ ((moment, parts) ∷ []) ∷ []) n ≡ parts
    layout_new n moment parts e =
        ap (λ (k : ℕ). chain.current_of (unwrap_or (slice_get (tally.layouts ++ ((moment, parts) ∷ []) ∷ []) k) [])) (omega (arith, e, due.sound.layouts))
        ∙ ap (λ (o : Option (List (ℕ × List ℕ))). chain.current_of (unwrap_or o [])) (seam_get tally.layouts ((moment, parts) ∷ []) [])

    made_backs : (before : List TableChange) (table : PlainTable) (parts : List ℕ) → Every IsQuietChange before → table.made ≡ asked.moment → table.number ≡ length asked.store.tables + 1 → Known (length contents) parts
        → Hold contents parts (current_rows table) → BacksDefined (before ++ Made table ∷ [], MakesTable asked.moment parts ∷ [])
    unfolding ended_with applied
    made_backs before table parts quiet made numbered known hold good =
        let effect : Effect = defined asked (before ++ Made table ∷ [], MakesTable asked.moment parts ∷ []) in
        let placed : IsPlaced effect = record { session = refl; pending = refl; pins = refl } in
        let mid : List PlainTable = fold changed_table asked.store.tables before in
        let many : length mid ≡ length asked.store.tables = quiet_many asked.store.tables before quiet in
        let is : fold changed_table asked.store.tables (before ++ Made table ∷ []) ≡ mid ++ table ∷ [] = fold-made asked.store.tables before table in
        let total : length (fold changed_table asked.store.tables (before ++ Made table ∷ [])) ≡ length asked.store.tables + 1 =
        ap (λ (ts : List PlainTable). length ts) is ∙ length_push mid table ∙ ap (λ (n : ℕ). n + 1) many in
        let past = keeps_past carried asked.program asked.store effect due.sound good in
        let after = effects_keep_sound carried asked.program asked.store effect due.sound good in
        record {
          stored = no_more contents ∙ backed.stored;
          measured = measured_same contents tally (applied asked.store effect).tally refl backed.measured;
          known = known_next carried asked.program contents [] asked.store effect due.sound backed (known_more (length contents) (length (contents ++ [])) parts (omega (arith, no_more contents)) known, tt);
          layouts = λ place new at.
              let there : slice_get (mid ++ table ∷ []) place ≡ Some new = sym (ap (λ (ts : List PlainTable). slice_get ts place) is) ∙ at in
              elim (cases_order place (length mid)) [
                | inl e ↦
                    let same : table ≡ new = same_Some table new (sym (seam_get mid table []) ∙ ap (slice_get (mid ++ table ∷ [])) (sym e) ∙ there) in
                    layouts_moved carried asked.program contents [] asked.store effect due.sound backed past after due.next place new at (inr (omega (arith, ap (λ (t : PlainTable). t.made) same, made)))
                    (λ row. ap (copies_in (contents ++ []) row) (layout_new new.number asked.moment parts (sym (ap (λ (t : PlainTable). t.number) same) ∙ numbered))
                    ∙ ap (copies_of row) (same_contents contents [] parts known) ∙ hold row ∙ ap (λ (t : PlainTable). copies_of row (current_rows t)) same)
                | inr (inl below) ↦
                    let was = quiet_fold asked.store.tables before place new quiet (sym (push_get mid table place below) ∙ there) in
                    let number : was.0.number ≡ place + 1 = are_numbered carried asked.program asked.store due.sound place was.0 was.1 in
                    layouts_moved carried asked.program contents [] asked.store effect due.sound backed past after due.next place new at (inl (record { old = was.0; was = was.1; made = was.2.made }))
                    (λ row. ap (copies_in (contents ++ []) row) (ap (current_in (tally.layouts ++ ((asked.moment, parts) ∷ []) ∷ [])) was.2.number
                    ∙ layout_old was.0.number asked.moment parts (omega (arith, number)) (omega (arith, number, below, many)))
                    ∙ hold_still effect placed place was.0 was.1 row ∙ sym (ap (λ (vs : List Version). copies_of row (rows_of (last_or None vs))) was.2.versions))
                | inr (inr above) ↦ absurd (omega (arith, above, slice_get_within (mid ++ table ∷ []) place new there, length_push mid table))
              ];
          placed = every_on (λ (l : TallyPending). l.table ≤ length asked.store.tables) (λ (l : TallyPending). l.table ≤ length (fold changed_table asked.store.tables (before ++ Made table ∷ []))) tally.pending (λ l h. omega (arith, h, total)) backed.placed;
          empty = empty_next effect placed;
          balanced = balanced_next effect placed (λ other held_by at apart t first within. elim (cases_order t (length asked.store.tables + 1)) [
            | inl e ↦
                subst (λ (l : TallyPending). IsBalanced (contents ++ []) (current_in (tally.layouts ++ ((asked.moment, parts) ∷ []) ∷ []) t) l (pending_now held_by t)) (sym (ap (λ (o : Option TallyPending). unwrap_or o (no_lists other t)) (no_lists_yet other t e)))
                (subst (IsBalanced (contents ++ []) (current_in (tally.layouts ++ ((asked.moment, parts) ∷ []) ∷ []) t) (no_lists other t))
                (sym (ap (λ (o : Option PlainPending). unwrap_or o (nothing_pending t)) (none_yet held_by t (due.sound.each other held_by at).rows e)))
                (none_balanced (contents ++ []) (current_in (tally.layouts ++ ((asked.moment, parts) ∷ []) ∷ []) t) other t))
            | inr (inl below) ↦ other_still effect placed other held_by at t first (omega (arith, below)) (layout_old t asked.moment parts first (omega (arith, below)))
            | inr (inr above) ↦ absurd (omega (arith, above, within, total))
          ]);
          apart = apart_next effect placed;
          round = λ round e. omega (arith, backed.round round e, total);
          pinned = pinned_next effect placed;
        }

    replaced_quiet : (replaces : Bool) (name : TableName) → Every IsQuietChange (replaced asked replaces name)
    replaced_quiet false name = tt
    replaced_quiet true name = by (table_asked asked name)
      where
        by : (old : Option PlainTable) → Every IsQuietChange (map (λ (t : PlainTable). Dropped t.number asked.moment) (option_to_list old))
        by None = tt
        by (Some old) = (tt, tt)

    -- a clone has what its source has at the point
    clone_backs : (c : ClonedTable) → request_asked asked ≡ Defines (Clones c) → refusal_of asked ≡ None → Gives BacksDefined (clone_changes asked c)
    unfolding clone_changes
    clone_backs c e never =
        gives_bind BacksDefined (table_asked asked c.source.table) _ (λ from_table there.
        gives_bind BacksDefined (rows_seen asked c.source) _ (λ seen f.
        gives_bind BacksDefined (source_parts asked c.source) _ (λ parts g.
        let made = subst (λ (r : Request). Every (IsMade carried asked due said contents backed guarded) (sources_in r)) e (all_made carried asked due said contents backed guarded never) in
        let forms = source_forms carried asked due said contents backed guarded c.source seen made.0 f in
        let same : forms.0 ≡ parts = same_Some forms.0 parts (sym forms.1 ∙ g) in
        made_backs (replaced asked c.replaces c.table) (table_cloned asked c from_table seen.1) parts.1 (replaced_quiet c.replaces c.table) refl refl
        (gives_at (λ (s : ℕ × List ℕ). Known (length contents) s.1) (source_parts asked c.source) parts (parts_known carried asked due said contents backed guarded c.source) g)
        (subst (λ (s : ℕ × List ℕ). Hold contents s.1 seen.1) same (hold_from contents forms.0.1 seen.1 forms.3)))))

    definition_backs : (d : Definition) → request_asked asked ≡ Defines d → refusal_of asked ≡ None → Gives BacksDefined (definition_changes asked d)
    unfolding definition_changes create_changes
    definition_backs (Creates c) e never = made_backs (replaced asked c.replaces c.table) (table_created asked c) [] (replaced_quiet c.replaces c.table) refl refl (λ k f. absurd (false≢true f)) (λ row. refl)
    definition_backs (Clones c) e never = clone_backs c e never
    definition_backs (Drops name) e never = gives_map BacksDefined (drop_changes asked) (table_asked asked name) (λ table there. by_quiet _ (tt, tt))
    definition_backs (Undrops name) e never = gives_map BacksDefined undrop_changes (table_to_undrop asked name) (λ table there. by_quiet _ (tt, tt))
    definition_backs (Truncates name) e never = gives_map BacksDefined (truncate_changes asked) (table_asked asked name) (λ table there. truncate_backs name table e there)
    definition_backs (Alters name c) e never = gives_bind BacksDefined (table_asked asked name) _ (λ table there. altered_backs table c)

    defined_backs : (d : Definition) → request_asked asked ≡ Defines d → refusal_of asked ≡ None → Gives BacksIn (defined_by asked (Defines d))
    defined_backs d e never = gives_map BacksIn (defined asked) (definition_changes asked d) (λ changes f. gives_at BacksDefined (definition_changes asked d) changes (definition_backs d e never) f)

  -- ---- the entry

  due_defined : (request : Request) → request_asked asked ≡ request → is_same_event event.Define (first_event state.transaction request) ≡ true → refusal_of asked ≡ None → Gives BacksIn (defined_by asked request)
  due_defined (Defines d) e test never = defined_backs (none_open carried asked due guarded state.transaction test) (is_free asked never) d e never
  due_defined _ e test never = tt

  told_in : (accepted starved : Option Effect) (t : Told) → (refusal_of asked ≡ None → Gives BacksIn accepted) → Gives (Backs carried asked due contents backed) starved → Gives BacksIn (told_effect asked t accepted starved)
  unfolding told_effect
  told_in accepted starved told.Done done memory = gives_if BacksIn (is_none (refusal_of asked)) accepted (λ test. done (none_is (refusal_of asked) test))
  told_in accepted starved (told.Refused number) done memory =
      gives_on (Backs carried asked due contents backed) BacksIn (refused_effect asked (refusal_of asked) number) (λ effect h good. h) (refused_backs carried asked due contents backed (refusal_of asked) number)
  told_in accepted starved told.Memory done memory = gives_on (Backs carried asked due contents backed) BacksIn starved (λ effect h good. h) memory

  pub define_backs : (t : Told) → Gives BacksIn (define_effect asked t)
  unfolding define_effect
  define_backs t =
      due_gives BacksIn event.Define asked _ (λ test.
      told_in (defined_by asked (request_asked asked)) (memory_effect asked) t (λ never. due_defined (request_asked asked) refl test never) (memory_backs carried asked due contents backed))
