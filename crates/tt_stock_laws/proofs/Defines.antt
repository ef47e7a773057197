-- Definitions.
use Rattle.std.specs.List.{reduce}
use Rattle.std.specs.Prelude.{Bool, List, None, Option, Some, [], bytes_eq, false, filter, fold, if◌then◌else◌, map, nat_lt, option_map, option_to_list, refl, slice_get, slice_set, true, unwrap_or, ℕ, ◌++◌, ◌-◌, ◌==◌, ◌∷◌, ◌≡◌}
use Rattle.std.proofs.Common.{ap, arith, inl, inr, subst, suc, sym, zero, ◌∙◌, ◌⊎◌}
use Rattle.std.proofs.lemmas.Bool.{and_parts, false≢true}
use Rattle.std.proofs.lemmas.Option.{none-some, same_Some}
use Rattle.tt_history.specs.declared.history.Told.{Told}
use Rattle.tt_history.specs.declared.reply.Refusal.TheVariants as refusal
use Rattle.tt_layout.specs.Chain.{current_of}
use Rattle.tt_layout.specs.Numbers.{has}
use Rattle.tt_plain.proofs.Tests.{same_number}
use Rattle.tt_plain.proofs.law.Free.{IsFree, is_free}
use Rattle.tt_plain.proofs.law.Gives.{Gives, gives_at, gives_bind, gives_map}
use Rattle.tt_plain.proofs.law.Lists.{every-filter, every_from, every_kept, every_on}
use Rattle.tt_plain.proofs.law.Turns.{due_gives}
use Rattle.tt_plain.proofs.law.session.Alone.{IsDue, state_sound}
use Rattle.tt_plain.proofs.law.session.Marks.{others_free}
use Rattle.tt_plain.proofs.law.session.Views.{named}
use Rattle.tt_plain.specs.Places.{if_there}
use Rattle.tt_plain.specs.asked.Asked.{Asked, request_asked, state_asked, table_asked}
use Rattle.tt_plain.specs.asked.Carried.{Carried}
use Rattle.tt_plain.specs.asked.Event as event
use Rattle.tt_plain.specs.asked.Event.{first_event, is_same_event}
use Rattle.tt_plain.specs.asked.Request.{Alters, Clones, Creates, Defines, Definition, Drops, Request, Truncates, Undrops}
use Rattle.tt_plain.specs.declared.store.PlainSession.{PlainSession}
use Rattle.tt_plain.specs.declared.store.PlainTable.{PlainTable}
use Rattle.tt_plain.specs.declared.tally.Tally.{Tally}
use Rattle.tt_plain.specs.declared.tally.TallyPending.{TallyPending}
use Rattle.tt_plain.specs.definition.Alter.{alter_changes}
use Rattle.tt_plain.specs.definition.Changes.{definition_changes, tables_alone}
use Rattle.tt_plain.specs.definition.Clone.{clone_changes}
use Rattle.tt_plain.specs.definition.Create.{create_changes, replaced}
use Rattle.tt_plain.specs.definition.Drop.{drop_changes}
use Rattle.tt_plain.specs.definition.Swap.{swap_changes}
use Rattle.tt_plain.specs.definition.Truncate.{truncate_changes}
use Rattle.tt_plain.specs.definition.Undrop.{undrop_changes}
use Rattle.tt_plain.specs.effect.Apply.{changed_table}
use Rattle.tt_plain.specs.effect.Define.{define_effect, defined, defined_by}
use Rattle.tt_plain.specs.effect.Effect.{Dropped, Effect, Made, NewVersion, TableChange}
use Rattle.tt_plain.specs.effect.Ending.{ended_with, memory_effect, session_done}
use Rattle.tt_plain.specs.law.Lists.{Every}
use Rattle.tt_plain.specs.law.Stocked.{AreStored}
use Rattle.tt_plain.specs.opening.Point.{sources_in}
use Rattle.tt_plain.specs.opening.Seen.{rows_seen}
use Rattle.tt_plain.specs.refusal.First.{refusal_of}
use Rattle.tt_plain.specs.refusal.LockHeld.{holders_asked}
use Rattle.tt_plain.specs.refusal.NothingToUndrop.{is_in_time_travel, is_undroppable, is_within, later_dropped, drop_moment, table_to_undrop}
use Rattle.tt_plain.specs.refusal.{head_of}
use Rattle.tt_plain.specs.stored.Sessions.{has_mark, others_with}
use Rattle.tt_plain.specs.tally.Changes.{BeginsLayout, MakesTable, TallyChange, changed_tally}
use Rattle.tt_plain.specs.tally.Layouts.{source_parts}
use Rattle.tt_plain_laws.proofs.guard.Kept.{are_numbered, every_two}
use Rattle.tt_retain.specs.Retention.{Retention}
use Rattle.tt_sql.specs.declared.table.Change.TheVariants as change
use Rattle.tt_sql.specs.declared.table.Change.{Change}
use Rattle.tt_sql.specs.declared.table.ClonedTable.{ClonedTable}
use Rattle.tt_stock_laws.proofs.Alone.{Supplied, idle_marks, memory_supplies, still_marked, told_supplies}
use Rattle.tt_stock_laws.proofs.Ends.{live_after, none_before, own_marked}
use Rattle.tt_stock_laws.proofs.Layouts.{one_there, owned}
use Rattle.tt_stock_laws.proofs.Sources.{IsOpenTo, IsSeenStored, open_sources, source_stored}
use Rattle.tt_stock_laws.proofs.Stock.{AreFair, AreGiven}
use Rattle.tt_stock_laws.proofs.Supplied.{AreThere, IsHeld, IsMarked, Stocks, held_idle}
use Rattle.tt_stock_laws.proofs.Used.{lives}
use Rattle.tt_value.specs.declared.name.TableName.{TableName}

-- ---- the table of a drop, and the one that comes back

reduced : (P : PlainTable → Type 0) (tables : List PlainTable) (table : PlainTable) → Every P tables → reduce later_dropped tables ≡ Some table → P table
reduced P [] table all e = absurd (none-some table e)
reduced P (first ∷ tables) table all e = folded tables first all.0 all.1 (same_Some (fold later_dropped first tables) table e)
  where
    picked : (b : Bool) (x y : PlainTable) → P x → P y → P (if b then y else x)
    picked true x y left right = right
    picked false x y left right = left

    folded : (tables : List PlainTable) (first : PlainTable) → P first → Every P tables → fold later_dropped first tables ≡ table → P table
    folded [] first here all e = subst P e here
    folded (t ∷ tables) first here all e = folded tables (later_dropped first t) (picked (nat_lt (drop_moment first) (drop_moment t)) first t here all.0) all.1 e

travel_lives : (moment : ℕ) (regimes : Retention) (dropped : Option ℕ) → is_within regimes moment dropped ≡ true → lives moment regimes dropped ≡ true
travel_lives moment regimes None e = refl
travel_lives moment regimes (Some dropped) e = rw e refl

no_head : (xs : List ℕ) → option_map refusal.LockHeld (head_of xs) ≡ None → xs ≡ []
no_head [] e = refl
no_head (x ∷ xs) e = absurd (none-some (refusal.LockHeld x) (sym e))

pushed_stays : {A : Type 0} (xs : List A) (y : A) (place : ℕ) → (slice_get (xs ++ y ∷ []) place ≡ slice_get xs place) ⊎ (slice_get xs place ≡ None)
pushed_stays [] y zero = inr refl
pushed_stays [] y (suc place) = inl refl
pushed_stays (x ∷ xs) y zero = inl refl
pushed_stays (x ∷ xs) y (suc place) = pushed_stays xs y place

module _ (carried : Carried) (asked : Asked) (due : IsDue carried asked) (stocks : Stocks carried asked.program asked.store) where
  abbrev SuppliedHere : Effect → Type 0
  SuppliedHere effect = Supplied carried asked due stocks effect

  abbrev tally : Tally
  tally = asked.store.tally

  abbrev state : PlainSession
  state = state_asked asked

  -- the table of a number is the only one
  same_table : (place other : ℕ) (table found : PlainTable) → slice_get asked.store.tables place ≡ Some table → slice_get asked.store.tables other ≡ Some found → (table.number == found.number) ≡ true → table ≡ found
  same_table place other table found at there e =
      let left = are_numbered carried asked.program asked.store due.sound place table at in
      let right = are_numbered carried asked.program asked.store due.sound other found there in
      let same : place ≡ other = omega (arith, left, right, same_number table.number found.number e) in
      same_Some table found (sym at ∙ ap (slice_get asked.store.tables) same ∙ there)

  dropped_fair : (name : TableName) (table : PlainTable) → table_asked asked name ≡ Some table → (place : ℕ) (other : PlainTable) → slice_get asked.store.tables place ≡ Some other → (other.number == table.number) ≡ true → other.dropped ≡ None
  dropped_fair name table e place other at same =
      let is = named carried asked due name table e in
      subst (λ (t : PlainTable). t.dropped ≡ None) (sym (same_table place (table.number - 1) other table at is.is.there same)) is.live

  abbrev IsComing : PlainTable → Type 0
  IsComing table = (place : ℕ) (other : PlainTable) → slice_get asked.store.tables place ≡ Some other → (other.number == table.number) ≡ true → lives asked.moment other.regimes other.dropped ≡ true

  coming : (name : TableName) (table : PlainTable) → table_to_undrop asked name ≡ Some table → IsComing table
  coming name table e = reduced IsComing (filter (is_undroppable asked name) asked.store.tables) table each e
    where
      one : (t : PlainTable) → ((place : ℕ) × (slice_get asked.store.tables place ≡ Some t)) → is_undroppable asked name t ≡ true → IsComing t
      one t found undroppable place other at same =
          subst (λ (x : PlainTable). lives asked.moment x.regimes x.dropped ≡ true) (sym (same_table place found.0 other t at found.1 same))
          (travel_lives asked.moment t.regimes t.dropped (and_parts (bytes_eq t.name name.name.text) (is_in_time_travel asked.moment t) undroppable).1)

      placed : Every (λ (t : PlainTable). (place : ℕ) × (slice_get asked.store.tables place ≡ Some t)) asked.store.tables
      placed = every_from (λ (t : PlainTable). (place : ℕ) × (slice_get asked.store.tables place ≡ Some t)) asked.store.tables (λ place t at. (place, at))

      each : Every IsComing (filter (is_undroppable asked name) asked.store.tables)
      each = both (filter (is_undroppable asked name) asked.store.tables) (kept_places asked.store.tables placed) (every_kept (is_undroppable asked name) asked.store.tables)
        where
          both : (ts : List PlainTable) → Every (λ (t : PlainTable). (place : ℕ) × (slice_get asked.store.tables place ≡ Some t)) ts → Every (λ (t : PlainTable). is_undroppable asked name t ≡ true) ts → Every IsComing ts
          both [] left right = tt
          both (t ∷ ts) left right = (one t left.0 right.0, both ts left.1 right.1)

          kept_places : (ts : List PlainTable) → Every (λ (t : PlainTable). (place : ℕ) × (slice_get asked.store.tables place ≡ Some t)) ts → Every (λ (t : PlainTable). (place : ℕ) × (slice_get asked.store.tables place ≡ Some t)) (filter (is_undroppable asked name) ts)
          kept_places ts all = every-filter (λ (t : PlainTable). (place : ℕ) × (slice_get asked.store.tables place ≡ Some t)) (is_undroppable asked name) ts all

  -- ---- effects of definitions

  module _ (closed : state.transaction ≡ false) (idle : state.running ≡ None) (clear : refusal_of asked ≡ None) where
    abbrev Defined : List TableChange × List TallyChange → Type 0
    Defined changes = SuppliedHere (defined asked changes)

    none_own : (lists : TallyPending) → lists.session ≡ asked.session → IsMarked asked.store.sessions lists → ⊥
    none_own lists e marked =
        none_before carried asked due stocks state.marks ((state_sound carried asked due).unmarked closed idle) lists (idle_marks carried asked due stocks idle lists (own_marked carried asked due stocks lists e marked))

    by_changes : (changes : List TableChange) (talled : List TallyChange) → AreFair asked.moment asked.store.tables changes → AreGiven (fold changed_table asked.store.tables changes) tally talled
        → (fold changed_tally tally talled).pending ≡ tally.pending → Every (AreThere (fold changed_tally tally talled)) tally.pending → Defined (changes, talled)
    unfolding ended_with
    by_changes changes talled fair given same there = record {
      fair = fair;
      given = given;
      there = subst (Every (AreThere (fold changed_tally tally talled))) (sym same) there;
      marked = subst (Every (IsMarked (slice_set asked.store.sessions asked.session (session_done asked)))) (sym same)
          (still_marked carried asked due stocks (session_done asked) (λ lists e marked. idle_marks carried asked due stocks idle lists marked));
      held = λ session other e. subst (λ (c : ℕ × PlainSession). IsHeld carried asked.program c.0 c.1) (same_Some (asked.session, session_done asked) (session, other) e) (held_idle carried asked.program asked.session (session_done asked) refl);
    }

    by_tables : (changes : List TableChange) → AreFair asked.moment asked.store.tables changes → Defined (changes, [])
    by_tables changes fair = by_changes changes [] fair tt refl stocks.there

    -- a table that is made has layouts of its own
    made_there : (parts : List ℕ) → Every (AreThere (changed_tally tally (MakesTable asked.moment parts))) tally.pending
    made_there parts = every_on (AreThere tally) (AreThere (changed_tally tally (MakesTable asked.moment parts))) tally.pending over stocks.there
      where
        over : (lists : TallyPending) → AreThere tally lists → AreThere (changed_tally tally (MakesTable asked.moment parts)) lists
        over lists there part e = elim (pushed_stays tally.layouts ((asked.moment, parts) ∷ []) (lists.table - 1)) [
          | inl h ↦ ap (λ (o : Option (List (ℕ × List ℕ))). has (current_of (unwrap_or o [])) part) h ∙ there part e
          | inr h ↦ absurd (false≢true (sym (ap (λ (o : Option (List (ℕ × List ℕ))). has (current_of (unwrap_or o [])) part) h) ∙ there part e))
        ]

    made_changes : (replaces : Bool) (name : TableName) (table : PlainTable) (parts : List ℕ) → AreStored tally parts → Defined (replaced asked replaces name ++ Made table ∷ [], MakesTable asked.moment parts ∷ [])
    made_changes replaces name table parts stored =
        by_changes (replaced asked replaces name ++ Made table ∷ []) (MakesTable asked.moment parts ∷ []) (fair replaces (table_asked asked name) refl) (stored, tt) refl (made_there parts)
      where
        fair : (b : Bool) (found : Option PlainTable) → table_asked asked name ≡ found
            → AreFair asked.moment asked.store.tables ((if b then map (λ (t : PlainTable). Dropped t.number asked.moment) (option_to_list found) else []) ++ Made table ∷ [])
        fair true None e = (tt, tt)
        fair true (Some t) e = (dropped_fair name t e, (tt, tt))
        fair false found e = (tt, tt)

    clone_supplies : (c : ClonedTable) → request_asked asked ≡ Defines (Clones c) → Gives Defined (clone_changes asked c)
    unfolding clone_changes
    clone_supplies c e =
        gives_bind Defined (table_asked asked c.source.table) _ (λ from_table there.
        gives_bind Defined (rows_seen asked c.source) _ (λ seen f.
        gives_bind Defined (source_parts asked c.source) _ (λ parts g.
        let open_to = (subst (λ (r : Request). Every (IsOpenTo asked) (sources_in r)) e (open_sources asked clear)).0 in
        made_changes c.replaces c.table _ parts.1 (gives_at (IsSeenStored carried asked due stocks) (source_parts asked c.source) parts (source_stored carried asked due stocks c.source open_to) g))))

    -- ---- TRUNCATE

    module _ (free : IsFree asked) where
      nobody_holds : (name : TableName) (table : PlainTable) → request_asked asked ≡ Defines (Truncates name) → table_asked asked name ≡ Some table → others_with (has_mark table.number) asked.store asked.session ≡ []
      nobody_holds name table e there =
          sym (ap (if_there (λ (t : PlainTable). others_with (has_mark t.number) asked.store asked.session)) there)
          ∙ sym (ap (holders_asked asked) e) ∙ no_head (holders_asked asked (request_asked asked)) free.held

      truncate_supplies : (name : TableName) (table : PlainTable) → request_asked asked ≡ Defines (Truncates name) → table_asked asked name ≡ Some table → Defined (truncate_changes asked table)
      truncate_supplies name table e there =
          let is = named carried asked due name table there in
          by_changes (NewVersion table.number asked.moment [] ∷ []) (BeginsLayout table.number asked.moment [] ∷ []) (tt, tt)
          ((tt, live_after asked.moment asked.store.tables (NewVersion table.number asked.moment [] ∷ []) table.number ((refl, tt), tt) (record { table = table; from_one = is.is.from_one; table_is = is.is.there; so = is.live })), tt) refl
          (every_two (IsMarked asked.store.sessions) (AreThere tally) (AreThere (changed_tally tally (BeginsLayout table.number asked.moment []))) tally.pending over stocks.marked stocks.there)
        where
          over : (lists : TallyPending) → IsMarked asked.store.sessions lists → AreThere tally lists → AreThere (changed_tally tally (BeginsLayout table.number asked.moment [])) lists
          over lists marked here =
              one_there tally lists table.number asked.moment [] (λ same part has_it.
              let is = named carried asked due name table there in
              let own = owned carried asked.program asked.store due.sound lists marked in
              let one : lists.table ≡ table.number = omega (arith, same, is.is.from_one, own.live.from_one) in
              let held : has_mark table.number own.state ≡ true = subst (λ (n : ℕ). has_mark n own.state ≡ true) one own.marked.0 in
              absurd (none_own lists (others_free (has_mark table.number) asked.store asked.session lists.session own.state (nobody_holds name table e there) own.at held) marked)) here

      -- ---- each

      altered_supplies : (table : PlainTable) (c : Change) → Gives Defined (option_map tables_alone (alter_changes asked table c))
      altered_supplies table (change.RenameTo name) = by_tables _ (tt, tt)
      altered_supplies table (change.SwapWith name) = by (table_asked asked name)
        where
          by : (o : Option PlainTable) → Gives Defined (option_map tables_alone (option_map (swap_changes table) o))
          by None = tt
          by (Some second) = by_tables _ (tt, tt)
      altered_supplies table (change.SetRetention days) = by_tables _ (tt, tt)
      altered_supplies table (change.ClusterBy column) = by_tables _ (tt, tt)
      altered_supplies table change.DropClusteringKey = by_tables _ (tt, tt)
      altered_supplies table change.SuspendRecluster = by_tables _ (tt, tt)
      altered_supplies table change.ResumeRecluster = by_tables _ (tt, tt)

      definition_supplies : (d : Definition) → request_asked asked ≡ Defines d → Gives Defined (definition_changes asked d)
      unfolding definition_changes create_changes
      definition_supplies (Creates c) e = made_changes c.replaces c.table _ [] tt
      definition_supplies (Clones c) e = clone_supplies c e
      definition_supplies (Drops name) e = gives_map Defined (drop_changes asked) (table_asked asked name) (λ table there. by_tables _ (dropped_fair name table there, tt))
      definition_supplies (Undrops name) e = gives_map Defined undrop_changes (table_to_undrop asked name) (λ table there. by_tables _ (coming name table there, tt))
      definition_supplies (Truncates name) e = gives_map Defined (truncate_changes asked) (table_asked asked name) (λ table there. truncate_supplies name table e there)
      definition_supplies (Alters name c) e = gives_bind Defined (table_asked asked name) _ (λ table there. altered_supplies table c)

      defined_supplies : (d : Definition) → request_asked asked ≡ Defines d → Gives SuppliedHere (defined_by asked (Defines d))
      defined_supplies d e =
          gives_map SuppliedHere (defined asked) (definition_changes asked d) (λ changes f. gives_at Defined (definition_changes asked d) changes (definition_supplies d e) f)

  -- ---- the entry

  -- in a transaction a commit comes first
  none_open : (open_now : Bool) → is_same_event event.Define (if open_now then event.Commit else event.Define) ≡ true → open_now ≡ false
  none_open true e = absurd (false≢true e)
  none_open false e = refl

  due_defined : (request : Request) → request_asked asked ≡ request → state.running ≡ None → is_same_event event.Define (first_event (state_asked asked).transaction request) ≡ true → refusal_of asked ≡ None → Gives SuppliedHere (defined_by asked request)
  due_defined (Defines d) e idle test clear = defined_supplies (none_open (state_asked asked).transaction test) idle clear (is_free asked clear) d e
  due_defined _ e idle test clear = tt

  pub define_supplies : (t : Told) → state.running ≡ None → Gives SuppliedHere (define_effect asked t)
  unfolding define_effect
  define_supplies t idle =
      due_gives SuppliedHere event.Define asked _ (λ test.
      told_supplies carried asked due stocks idle (defined_by asked (request_asked asked)) (memory_effect asked) t (λ clear. due_defined (request_asked asked) refl idle test clear) (memory_supplies carried asked due stocks idle))
