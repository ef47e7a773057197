-- Effects that change no row and no part of any table keep the contents and the store backed.
use Rattle.std.specs.Prelude.{Bool, List, None, Option, Some, [], false, find, fold, if◌then◌else◌, length, map, option_map, refl, slice_get, true, unwrap_or, ℕ, ⊤, ◌++◌, ◌-◌, ◌==◌, ◌∷◌, ◌<◌, ◌≡◌, ◌≤◌}
use Rattle.std.proofs.Common.{ap, arith, length-append, subst, sym, ◌∙◌}
use Rattle.std.proofs.lemmas.List.{length-map}
use Rattle.std.proofs.lemmas.Option.{slice_get-map}
use Rattle.tt_plain.proofs.law.Lists.{every_on}
use Rattle.tt_plain.proofs.law.change.Apart.{get_unmap}
use Rattle.tt_plain.specs.asked.Carried.{Carried}
use Rattle.tt_plain.specs.declared.store.Plain.{Plain}
use Rattle.tt_plain.specs.declared.store.PlainSession.{PlainSession}
use Rattle.tt_plain.specs.declared.store.PlainTable.{PlainTable}
use Rattle.tt_plain.specs.declared.tally.Tally.{Tally}
use Rattle.tt_plain.specs.declared.tally.TallyPart.{TallyPart}
use Rattle.tt_plain.specs.declared.store.PlainPending.{PlainPending}
use Rattle.tt_plain.specs.declared.tally.TallyPending.{TallyPending}
use Rattle.tt_plain.specs.effect.End.{nothing_pending}
use Rattle.tt_plain.specs.tally.Pending.{no_lists}
use Rattle.tt_plain.specs.declared.tally.TallyRound.{TallyRound}
use Rattle.tt_plain.specs.effect.Apply.{applied, changed_table, renamed}
use Rattle.tt_plain.specs.effect.Effect.{Dropped, Effect, Made, NewKey, NewRegime, NewVersion, Renamed, Suspended, TableChange, Undropped}
use Rattle.tt_plain.specs.law.Bag.{pins_of}
use Rattle.tt_plain.specs.law.Lists.{Every}
use Rattle.tt_plain.specs.law.Sound.{IsSound}
use Rattle.tt_plain.specs.tally.Changes.{TakesAway, changed_tally, taken_away}
use Rattle.tt_plain.specs.tally.Layouts.{current_parts, is_pending_of, lists_of}
use Rattle.tt_plain.specs.tally.Parts.{part_numbered, rows_of_part}
use Rattle.tt_retain.specs.Retention.{with_regime}
use Rattle.tt_script.specs.declared.script.Script.{Script}
use Rattle.tt_value.specs.declared.value.Row.{Row}
use Rattle.tt_plain_laws.proofs.parts.Backed.{AreBacked, IsPinned}
use Rattle.tt_plain_laws.proofs.parts.Balance.{IsBalanced, lists_now, pending_now}
use Rattle.tt_plain_laws.proofs.parts.Contents.{same_numbered}
use Rattle.tt_plain_laws.proofs.parts.Numbers.{Outside}
use Rattle.tt_plain_laws.proofs.parts.Known.{KnownChange}
use Rattle.tt_plain_laws.proofs.parts.Step.{IsSame, balanced_still, each_session, known_next, layouts_still, pinned_other}
use Rattle.tt_layout.specs.Chain as chain

-- ---- tables with the same versions

pub record SameVersions (old new : PlainTable) : Type 0 where
  pub number : new.number ≡ old.number
  pub made : new.made ≡ old.made
  pub versions : new.versions ≡ old.versions

abbrev pub IsQuietChange : TableChange → Type 0
IsQuietChange (Made table) = ⊥
IsQuietChange (Dropped number moment) = ⊤
IsQuietChange (Undropped number) = ⊤
IsQuietChange (Renamed names) = ⊤
IsQuietChange (NewVersion number moment rows) = ⊥
IsQuietChange (NewRegime number moment days) = ⊤
IsQuietChange (NewKey number key) = ⊤
IsQuietChange (Suspended number suspended) = ⊤

abbrev pub Was : List PlainTable → ℕ → PlainTable → Type 0
Was tables place new = (old : PlainTable) × (slice_get tables place ≡ Some old) × SameVersions old new

map_was : (f : PlainTable → PlainTable) (tables : List PlainTable) (place : ℕ) (new : PlainTable) → ((table : PlainTable) → SameVersions table (f table)) → slice_get (map f tables) place ≡ Some new → Was tables place new
map_was f tables place new same at = let was = get_unmap f tables place new at in (was.0, was.1, subst (SameVersions was.0) (sym was.2) (same was.0))

if_same : (test : Bool) (old new : PlainTable) → SameVersions old new → SameVersions old (if test then new else old)
if_same true old new same = same
if_same false old new same = record { number = refl; made = refl; versions = refl }

alike : (old new : PlainTable) → new.number ≡ old.number → new.made ≡ old.made → new.versions ≡ old.versions → SameVersions old new
alike old new number made versions = record { number = number; made = made; versions = versions }

quiet_was : (tables : List PlainTable) (change : TableChange) (place : ℕ) (new : PlainTable) → IsQuietChange change → slice_get (changed_table tables change) place ≡ Some new → Was tables place new
quiet_was tables (Made table) place new quiet at = absurd quiet
quiet_was tables (Dropped number moment) place new quiet at = map_was _ tables place new (λ t. if_same (t.number == number) t (record t { dropped = Some moment }) (alike t (record t { dropped = Some moment }) refl refl refl)) at
quiet_was tables (Undropped number) place new quiet at = map_was _ tables place new (λ t. if_same (t.number == number) t (record t { dropped = None }) (alike t (record t { dropped = None }) refl refl refl)) at
quiet_was tables (Renamed names) place new quiet at = map_was (renamed names) tables place new (λ t. alike t (renamed names t) refl refl refl) at
quiet_was tables (NewVersion number moment rows) place new quiet at = absurd quiet
quiet_was tables (NewRegime number moment days) place new quiet at =
    map_was _ tables place new (λ t. if_same (t.number == number) t (record t { regimes = with_regime t.regimes moment days }) (alike t (record t { regimes = with_regime t.regimes moment days }) refl refl refl)) at
quiet_was tables (NewKey number key) place new quiet at = map_was _ tables place new (λ t. if_same (t.number == number) t (record t { key = key }) (alike t (record t { key = key }) refl refl refl)) at
quiet_was tables (Suspended number suspended) place new quiet at = map_was _ tables place new (λ t. if_same (t.number == number) t (record t { suspended = suspended }) (alike t (record t { suspended = suspended }) refl refl refl)) at

pub quiet_fold : (tables : List PlainTable) (changes : List TableChange) (place : ℕ) (new : PlainTable) → Every IsQuietChange changes → slice_get (fold changed_table tables changes) place ≡ Some new → Was tables place new
quiet_fold tables [] place new quiet at = (new, at, record { number = refl; made = refl; versions = refl })
quiet_fold tables (change ∷ changes) place new quiet at =
    let mid = quiet_fold (changed_table tables change) changes place new quiet.1 at in
    let was = quiet_was tables change place mid.0 quiet.0 mid.1 in
    (was.0, was.1, record { number = mid.2.number ∙ was.2.number; made = mid.2.made ∙ was.2.made; versions = mid.2.versions ∙ was.2.versions })

quiet_one : (tables : List PlainTable) (change : TableChange) → IsQuietChange change → length (changed_table tables change) ≡ length tables
quiet_one tables (Made table) quiet = absurd quiet
quiet_one tables (Dropped number moment) quiet = length-map tables _
quiet_one tables (Undropped number) quiet = length-map tables _
quiet_one tables (Renamed names) quiet = length-map tables (renamed names)
quiet_one tables (NewVersion number moment rows) quiet = absurd quiet
quiet_one tables (NewRegime number moment days) quiet = length-map tables _
quiet_one tables (NewKey number key) quiet = length-map tables _
quiet_one tables (Suspended number suspended) quiet = length-map tables _

pub quiet_many : (tables : List PlainTable) (changes : List TableChange) → Every IsQuietChange changes → length (fold changed_table tables changes) ≡ length tables
quiet_many tables [] quiet = refl
quiet_many tables (change ∷ changes) quiet = quiet_many (changed_table tables change) changes quiet.1 ∙ quiet_one tables change quiet.0

-- ---- the tally

-- changes that leave the layouts, what is pending, and how many rows each part has
pub record IsQuietTally (before after : Tally) : Type 0 where
  pub count : length after.parts ≡ length before.parts
  pub rows : (k : ℕ) → rows_of_part (part_numbered after k) ≡ rows_of_part (part_numbered before k)
  pub layouts : after.layouts ≡ before.layouts
  pub pending : after.pending ≡ before.pending

taken_rows : (numbers : List ℕ) (parts : List TallyPart) (place : ℕ) → rows_of_part (slice_get (map (taken_away numbers) parts) place) ≡ rows_of_part (slice_get parts place)
taken_rows numbers parts place = ap rows_of_part (slice_get-map (taken_away numbers) parts place) ∙ by (slice_get parts place)
  where
    by : (o : Option TallyPart) → rows_of_part (option_map (taken_away numbers) o) ≡ rows_of_part o
    by None = refl
    by (Some part) = refl

pub taken_quiet : (tally : Tally) (numbers : List ℕ) → IsQuietTally tally (changed_tally tally (TakesAway numbers))
taken_quiet tally numbers = record { count = length-map tally.parts (taken_away numbers); rows = λ k. taken_rows numbers tally.parts (k - 1); layouts = refl; pending = refl }

pub same_quiet : (before after : Tally) → after.parts ≡ before.parts → after.layouts ≡ before.layouts → after.pending ≡ before.pending → IsQuietTally before after
same_quiet before after parts layouts pending =
    record { count = ap (λ (ps : List TallyPart). length ps) parts; rows = λ k. ap (λ (ps : List TallyPart). rows_of_part (slice_get ps (k - 1))) parts; layouts = layouts; pending = pending }

-- ---- the effect

pub record IsQuiet (carried : Carried) (program : Script) (contents : List (List Row)) (store : Plain) (effect : Effect) : Type 0 where
  pub tables : Every IsQuietChange effect.tables
  pub tally : IsQuietTally store.tally (applied store effect).tally
  pub known : Every (KnownChange (length (contents ++ []))) effect.tally
  pub own : (session : ℕ) (new : PlainSession) → effect.session ≡ Some (session, new) → (state : PlainSession) × (slice_get store.sessions session ≡ Some state) × (new.pending ≡ state.pending)
  pub pinned : (session : ℕ) (new : PlainSession) → effect.session ≡ Some (session, new) → IsPinned carried program (contents ++ []) (applied store effect).tally session new
  pub round : (round : TallyRound) → (applied store effect).tally.round ≡ Some round → round.table - 1 < length store.tables
  pub others : (other : ℕ) → ((new : PlainSession) → effect.session ≡ Some (other, new) → ⊥) → pins_of (applied store effect).tally other ≡ pins_of store.tally other

module _ (carried : Carried) (program : Script) (contents : List (List Row)) (store : Plain) (effect : Effect) (sound : IsSound carried program store) (backed : AreBacked carried program contents store)
    (quiet : IsQuiet carried program contents store effect) where
  abbrev next : Plain
  next = applied store effect

  same_lists : (session table : ℕ) → lists_now next.tally session table ≡ lists_now store.tally session table
  same_lists session table = ap (λ (all : List TallyPending). unwrap_or (find (is_pending_of session table) all) (no_lists session table)) quiet.tally.pending

  same_current : (table : ℕ) → current_parts next.tally table ≡ current_parts store.tally table
  same_current table = ap (λ (ls : List (List (ℕ × List ℕ))). chain.current_of (unwrap_or (slice_get ls (table - 1)) [])) quiet.tally.layouts

  same_many : length next.tables ≡ length store.tables
  unfolding applied
  same_many = quiet_many store.tables effect.tables quiet.tables

  balanced_by : (session : ℕ) (state new : PlainSession) → slice_get store.sessions session ≡ Some state → new.pending ≡ state.pending → (table : ℕ) → 1 ≤ table → table ≤ length next.tables
      → IsBalanced (contents ++ []) (current_parts next.tally table) (lists_now next.tally session table) (pending_now new table)
  balanced_by session state new at same table first within =
      let inside : table ≤ length store.tables = omega (arith, within, same_many) in
      let before = backed.balanced session state at table first inside in
      subst (λ (ns : List ℕ). IsBalanced (contents ++ []) ns (lists_now next.tally session table) (pending_now new table)) (sym (same_current table))
      (balanced_still carried program contents [] store effect sound backed session state new table (current_parts store.tally table) at first inside
      (ap (λ (all : List PlainPending). unwrap_or (find (λ (p : PlainPending). p.table == table) all) (nothing_pending table)) same) (same_lists session table) (λ some. before.inside) before.outside)

  same_find : (session table : ℕ) → lists_of next.tally session table ≡ lists_of store.tally session table
  same_find session table = ap (λ (all : List TallyPending). find (is_pending_of session table) all) quiet.tally.pending

  no_more : length (contents ++ []) ≡ length contents
  no_more = length-append contents [] ∙ omega arith

  table_same : (place : ℕ) (new : PlainTable) → slice_get next.tables place ≡ Some new → IsSame carried program contents [] store effect sound backed place new
  unfolding applied
  table_same place new at =
      let was = quiet_fold store.tables effect.tables place new quiet.tables at in
      record { old = was.0; was = was.1; number = was.2.number; made = was.2.made; versions = was.2.versions }

  pub quiet_backed : AreBacked carried program (contents ++ []) next
  quiet_backed = record {
    stored = no_more ∙ backed.stored ∙ sym quiet.tally.count;
    measured = λ k first within.
        let few : k ≤ length contents = omega (arith, within, no_more) in
        ap (λ (rows : List Row). length rows) (same_numbered contents [] k first few) ∙ backed.measured k first few ∙ sym (quiet.tally.rows k);
    known = known_next carried program contents [] store effect sound backed quiet.known;
    layouts = λ place new at. layouts_still carried program contents [] store effect sound backed place new (table_same place new at) quiet.tally.layouts;
    placed = subst (λ (all : List TallyPending). Every (λ (lists : TallyPending). lists.table ≤ length next.tables) all) (sym quiet.tally.pending)
        (every_on (λ (lists : TallyPending). lists.table ≤ length store.tables) (λ (lists : TallyPending). lists.table ≤ length next.tables) store.tally.pending (λ lists h. omega (arith, h, same_many)) backed.placed);
    empty = each_session store effect (λ session new. new.pending ≡ [] → (table : ℕ) → lists_of next.tally session table ≡ None)
        (λ session new e none table. let own = quiet.own session new e in same_find session table ∙ backed.empty session own.0 own.1 (sym own.2 ∙ none) table)
        (λ other state at apart none table. same_find other table ∙ backed.empty other state at none table);
    balanced = each_session store effect (λ session new. (table : ℕ) → 1 ≤ table → table ≤ length next.tables → IsBalanced (contents ++ []) (current_parts next.tally table) (lists_now next.tally session table) (pending_now new table))
        (λ session new e. let own = quiet.own session new e in balanced_by session own.0 new own.1 own.2)
        (λ other state at apart. balanced_by other state state at refl);
    apart = λ a b table other. subst (λ (l : TallyPending). Outside l.added (lists_now next.tally b table).added) (sym (same_lists a table))
        (subst (λ (l : TallyPending). Outside (lists_now store.tally a table).added l.added) (sym (same_lists b table)) (backed.apart a b table other));
    round = λ round e. omega (arith, quiet.round round e, same_many);
    pinned = each_session store effect (λ session new. IsPinned carried program (contents ++ []) next.tally session new)
        (λ session new e. quiet.pinned session new e)
        (λ other state at apart. pinned_other carried program contents [] store effect sound backed other state at (quiet.others other apart));
  }
