-- Effects by which what is pending of a session begins at once, or ends, keep the contents and the store backed.
use Rattle.std.specs.Prelude.{List, None, Option, Some, [], false, find, length, refl, slice_get, unwrap_or, ℕ, ◌++◌, ◌+◌, ◌-◌, ◌==◌, ◌≡◌, ◌≢◌, ◌≤◌}
use Rattle.std.proofs.Common.{ap, arith, inl, inr, subst, sym, ◌∙◌, ◌⊎◌}
use Rattle.std.proofs.lemmas.Bool.{cases_order, false≢true}
use Rattle.std.proofs.lemmas.Option.{none-some, slice_get_within}
use Rattle.tt_layout.specs.Numbers.{changed, has, without}
use Rattle.tt_plain.proofs.law.Lists.{every_on}
use Rattle.tt_plain.proofs.law.Past.{keeps_past}
use Rattle.tt_plain.proofs.law.change.Applied.{effects_keep_sound}
use Rattle.tt_plain.proofs.law.entry.Rounds.{current_parts_ascend}
use Rattle.tt_plain.specs.asked.Carried.{Carried}
use Rattle.tt_plain.specs.declared.store.Plain.{Plain}
use Rattle.tt_plain.specs.declared.store.PlainPending.{PlainPending}
use Rattle.tt_plain.specs.declared.store.PlainSession.{PlainSession}
use Rattle.tt_plain.specs.declared.store.PlainTable.{PlainTable}
use Rattle.tt_plain.specs.declared.tally.TallyPending.{TallyPending}
use Rattle.tt_plain.specs.effect.Apply.{applied}
use Rattle.tt_plain.specs.effect.Effect.{Effect}
use Rattle.tt_plain.specs.effect.End.{nothing_pending}
use Rattle.tt_plain.specs.law.Bag.{pins_of}
use Rattle.tt_plain.specs.law.Changes.{IsSoundEffect}
use Rattle.tt_plain.specs.law.Isolated.{AreAmong}
use Rattle.tt_plain.specs.law.Lists.{Every}
use Rattle.tt_plain.specs.law.Sound.{AreSoundLists, IsSound}
use Rattle.tt_plain.specs.opening.Seen.{rows_with}
use Rattle.tt_plain.specs.stored.Tables.{current_rows}
use Rattle.tt_plain.specs.tally.Layouts.{current_parts, lists_of}
use Rattle.tt_plain.specs.tally.Pending.{no_lists}
use Rattle.tt_script.specs.declared.script.Script.{Script}
use Rattle.tt_value.specs.declared.value.Row.{Row}
use Rattle.tt_value.specs.values.Bags.{bag_plus, copies_of}
use Rattle.tt_plain_laws.proofs.guard.Kept.{are_numbered}
use Rattle.tt_plain_laws.proofs.parts.After.{AreLaid, AreRisen, found_for, lists_key, none_for, pending_key}
use Rattle.tt_plain_laws.proofs.parts.Backed.{AreBacked, IsPinned, Measured, current_hold}
use Rattle.tt_plain_laws.proofs.parts.Balance.{Hold, IsBalanced, lists_now, none_balanced, pending_now, seen_hold}
use Rattle.tt_plain_laws.proofs.parts.Contents.{same_contents}
use Rattle.tt_plain_laws.proofs.parts.Known.{KnownChange, known_current}
use Rattle.tt_plain_laws.proofs.parts.Numbers.{Outside, Within, copies_in, is_false, joined_first, not_both, within_changed, without_has}
use Rattle.tt_plain_laws.proofs.parts.Step.{balanced_still, each_session, known_next, layouts_moved, pinned_other}

-- ---- a layout that others have changed

-- where nothing is gone all numbers stay
pub within_later : (lost current gone added : List ℕ) → gone ≡ [] → Within lost current → Within lost (changed current gone added)
within_later lost current gone added none within k e =
    joined_first (without gone current) added k (without_has gone current k (within k e) (ap (λ (g : List ℕ). has g k) none))

pub outside_later : (won current gone added : List ℕ) → Outside won current → Outside won added → Outside won (changed current gone added)
outside_later won current gone added outside apart k e =
    is_false (has (changed current gone added) k) (λ f. elim (within_changed current gone added k f) [ inl h ↦ not_both (has current k) h.0 (outside k e) | inr h ↦ not_both (has added k) h (apart k e) ])

pub record IsMoved (carried : Carried) (program : Script) (contents more : List (List Row)) (store : Plain) (effect : Effect) (session : ℕ) (ps : List PlainPending) (ls : List TallyPending) : Type 0 where
  pub moment : effect.moment ≡ store.moment + 1
  pub stored : length (contents ++ more) ≡ length (applied store effect).tally.parts
  pub measured : Measured (contents ++ more) (applied store effect).tally
  pub known : Every (KnownChange (length (contents ++ more))) effect.tally
  pub many : length (applied store effect).tables ≡ length store.tables
  pub risen : AreRisen store.tables ps (applied store effect).tables
  pub laid : AreLaid store.tally session ls (applied store effect).tally.layouts
  pub own : (other : ℕ) (new : PlainSession) → effect.session ≡ Some (other, new) → (other ≡ session) × (new.pending ≡ []) × (new.running ≡ None)
  pub is_own : (new : PlainSession) × (effect.session ≡ Some (session, new))
  pub ended : (table : ℕ) → lists_of (applied store effect).tally session table ≡ None
  pub others : (other table : ℕ) → (other ≡ session → ⊥) → lists_of (applied store effect).tally other table ≡ lists_of store.tally other table
  pub placed : Every (λ (lists : TallyPending). lists.table ≤ length store.tables) (applied store effect).tally.pending
  pub round : (applied store effect).tally.round ≡ store.tally.round
  pub pins : (other : ℕ) → (other ≡ session → ⊥) → pins_of (applied store effect).tally other ≡ pins_of store.tally other
  pub balanced : (table : ℕ) → 1 ≤ table → table ≤ length store.tables →
      IsBalanced (contents ++ more) (current_parts store.tally table) (found_for lists_key (none_for session) ls table) (found_for pending_key nothing_pending ps table)
  pub up : (table : ℕ) → AreSoundLists (found_for lists_key (none_for session) ls table)
  pub among : (table : PlainTable) → slice_get store.tables (table.number - 1) ≡ Some table →
      AreAmong (found_for pending_key nothing_pending ps table.number).gone (bag_plus (current_rows table) (found_for pending_key nothing_pending ps table.number).added)
  pub guarded : (other : ℕ) (state : PlainSession) → slice_get store.sessions other ≡ Some state → (other ≡ session → ⊥) → (table : ℕ) → 1 ≤ table → table ≤ length store.tables →
      (lists_now store.tally other table).gone ≢ [] → (found_for lists_key (none_for session) ls table).gone ≡ []
  pub fresh : (other table : ℕ) → (other ≡ session → ⊥) → Outside (lists_now store.tally other table).added (found_for lists_key (none_for session) ls table).added

module _ (carried : Carried) (program : Script) (contents more : List (List Row)) (store : Plain) (effect : Effect) (session : ℕ) (ps : List PlainPending) (ls : List TallyPending) (sound : IsSound carried program store)
    (backed : AreBacked carried program contents store) (good : IsSoundEffect carried program store effect) (moved : IsMoved carried program contents more store effect session ps ls) where
  abbrev next : Plain
  next = applied store effect

  after : IsSound carried program next
  after = effects_keep_sound carried program store effect sound good

  now_hold : (place : ℕ) (new : PlainTable) → slice_get next.tables place ≡ Some new → Hold (contents ++ more) (current_parts next.tally new.number) (current_rows new)
  now_hold place new at =
      let risen = moved.risen place new at in
      let first : risen.old.number ≡ place + 1 = are_numbered carried program store sound place risen.old risen.was in
      let within : risen.old.number ≤ length store.tables = omega (arith, first, slice_get_within store.tables place risen.old risen.was) in
      let numbered : slice_get store.tables (risen.old.number - 1) ≡ Some risen.old = ap (slice_get store.tables) (omega (arith, first)) ∙ risen.was in
      let hold : Hold (contents ++ more) (current_parts store.tally risen.old.number) (current_rows risen.old) =
      λ row. ap (copies_of row) (same_contents contents more (current_parts store.tally risen.old.number) (known_current (length contents) store.tally risen.old.number backed.known))
      ∙ current_hold carried program contents store sound backed place risen.old risen.was row in
      let lists = found_for lists_key (none_for session) ls risen.old.number in
      let pending = found_for pending_key nothing_pending ps risen.old.number in
      let seen : Hold (contents ++ more) (changed (current_parts store.tally risen.old.number) lists.gone lists.added) (rows_with (current_rows risen.old) pending) =
      seen_hold (contents ++ more) (current_parts store.tally risen.old.number) lists pending (current_rows risen.old) (moved.balanced risen.old.number (omega (arith, first)) within)
      (current_parts_ascend store.moment store.tally risen.old.number sound.tally) (moved.up risen.old.number) hold (moved.among risen.old numbered) in
      let parts : current_parts next.tally new.number ≡ changed (current_parts store.tally risen.old.number) lists.gone lists.added =
      ap (current_parts next.tally) risen.number ∙ moved.laid risen.old.number (omega (arith, first)) (omega (arith, within, sound.layouts)) in
      λ row. ap (λ (ns : List ℕ). copies_in (contents ++ more) row ns) parts ∙ seen row ∙ sym (ap (copies_of row) risen.rows)

  other_is : (other : ℕ) → ((new : PlainSession) → effect.session ≡ Some (other, new) → ⊥) → other ≡ session → ⊥
  other_is other apart e = apart moved.is_own.0 (moved.is_own.1 ∙ ap (λ (n : ℕ). Some (n, moved.is_own.0)) (sym e))

  same_lists : (other table : ℕ) → (other ≡ session → ⊥) → lists_now next.tally other table ≡ lists_now store.tally other table
  same_lists other table apart = ap (λ (o : Option TallyPending). unwrap_or o (no_lists other table)) (moved.others other table apart)

  own_lists : (table : ℕ) → lists_now next.tally session table ≡ no_lists session table
  own_lists table = ap (λ (o : Option TallyPending). unwrap_or o (no_lists session table)) (moved.ended table)

  own_balanced : (new : PlainSession) → new.pending ≡ [] → (table : ℕ) → IsBalanced (contents ++ more) (current_parts next.tally table) (lists_now next.tally session table) (pending_now new table)
  own_balanced new none table =
      subst (λ (l : TallyPending). IsBalanced (contents ++ more) (current_parts next.tally table) l (pending_now new table)) (sym (own_lists table))
      (subst (IsBalanced (contents ++ more) (current_parts next.tally table) (no_lists session table)) (sym (ap (λ (all : List PlainPending). unwrap_or (find (λ (p : PlainPending). p.table == table) all) (nothing_pending table)) none))
      (none_balanced (contents ++ more) (current_parts next.tally table) session table))

  other_balanced : (other : ℕ) (state : PlainSession) → slice_get store.sessions other ≡ Some state → (other ≡ session → ⊥) → (table : ℕ) → 1 ≤ table → table ≤ length store.tables
      → IsBalanced (contents ++ more) (current_parts next.tally table) (lists_now next.tally other table) (pending_now state table)
  other_balanced other state at apart table first within =
      let before = backed.balanced other state at table first within in
      let lists = found_for lists_key (none_for session) ls table in
      subst (λ (ns : List ℕ). IsBalanced (contents ++ more) ns (lists_now next.tally other table) (pending_now state table)) (sym (moved.laid table first (omega (arith, within, sound.layouts))))
      (balanced_still carried program contents more store effect sound backed other state state table (changed (current_parts store.tally table) lists.gone lists.added) at first within refl (same_lists other table apart)
      (λ some. within_later (lists_now store.tally other table).gone (current_parts store.tally table) lists.gone lists.added (moved.guarded other state at apart table first within some) before.inside)
      (outside_later (lists_now store.tally other table).added (current_parts store.tally table) lists.gone lists.added before.outside (moved.fresh other table apart)))

  lists_apart : (a b table : ℕ) → (a ≡ b → ⊥) → Outside (lists_now next.tally a table).added (lists_now next.tally b table).added
  lists_apart a b table other = by (same_or a session) (same_or b session)
    where
      same_or : (m n : ℕ) → (m ≡ n) ⊎ (m ≡ n → ⊥)
      same_or m n = elim (cases_order m n) [ inl e ↦ inl e | inr (inl h) ↦ inr (λ e. absurd (omega (arith, e, h))) | inr (inr h) ↦ inr (λ e. absurd (omega (arith, e, h))) ]

      nothing_outside : (n : ℕ) → n ≡ session → (others : List ℕ) → Outside (lists_now next.tally n table).added others
      nothing_outside n e others k f = absurd (false≢true (sym (ap (λ (l : TallyPending). has l.added k) (ap (λ (m : ℕ). lists_now next.tally m table) e ∙ own_lists table)) ∙ f))

      by : (a ≡ session) ⊎ (a ≡ session → ⊥) → (b ≡ session) ⊎ (b ≡ session → ⊥) → Outside (lists_now next.tally a table).added (lists_now next.tally b table).added
      by (inl e) right = nothing_outside a e (lists_now next.tally b table).added
      by (inr e) (inl f) = λ k g. is_false (has (lists_now next.tally b table).added k) (λ h. not_both (has (lists_now next.tally b table).added k) h (nothing_has k))
        where
          nothing_has : (k : ℕ) → has (lists_now next.tally b table).added k ≡ false
          nothing_has k = ap (λ (l : TallyPending). has l.added k) (ap (λ (m : ℕ). lists_now next.tally m table) f ∙ own_lists table)
      by (inr e) (inr f) =
          subst (λ (l : TallyPending). Outside l.added (lists_now next.tally b table).added) (sym (same_lists a table e))
          (subst (λ (l : TallyPending). Outside (lists_now store.tally a table).added l.added) (sym (same_lists b table f)) (backed.apart a b table other))

  pub moved_backed : AreBacked carried program (contents ++ more) next
  moved_backed = record {
    stored = moved.stored;
    measured = moved.measured;
    known = known_next carried program contents more store effect sound backed moved.known;
    layouts = λ place new at. let risen = moved.risen place new at in
        layouts_moved carried program contents more store effect sound backed (keeps_past carried program store effect sound good) after moved.moment place new at
        (inl (record { old = risen.old; was = risen.was; made = risen.made })) (now_hold place new at);
    placed = every_on (λ (lists : TallyPending). lists.table ≤ length store.tables) (λ (lists : TallyPending). lists.table ≤ length next.tables) next.tally.pending (λ lists h. omega (arith, h, moved.many)) moved.placed;
    empty = each_session store effect (λ other new. new.pending ≡ [] → (table : ℕ) → lists_of next.tally other table ≡ None)
        (λ other new e none table. ap (λ (n : ℕ). lists_of next.tally n table) (moved.own other new e).0 ∙ moved.ended table)
        (λ other state at apart none table. moved.others other table (other_is other apart) ∙ backed.empty other state at none table);
    balanced = each_session store effect (λ other new. (table : ℕ) → 1 ≤ table → table ≤ length next.tables → IsBalanced (contents ++ more) (current_parts next.tally table) (lists_now next.tally other table) (pending_now new table))
        (λ other new e table first within. let own = moved.own other new e in
        subst (λ (n : ℕ). IsBalanced (contents ++ more) (current_parts next.tally table) (lists_now next.tally n table) (pending_now new table)) (sym own.0) (own_balanced new own.1 table))
        (λ other state at apart table first within. other_balanced other state at (other_is other apart) table first (omega (arith, within, moved.many)));
    apart = lists_apart;
    round = λ round e. omega (arith, backed.round round (sym moved.round ∙ e), moved.many);
    pinned = each_session store effect (λ other new. IsPinned carried program (contents ++ more) next.tally other new)
        (λ other new e seen read running said. absurd (none-some seen (sym (moved.own other new e).2 ∙ running)))
        (λ other state at apart. pinned_other carried program contents more store effect sound backed other state at (moved.pins other (other_is other apart)));
  }
