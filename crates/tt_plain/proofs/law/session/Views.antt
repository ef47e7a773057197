-- What a statement sees in a sound store: tables that are there, and bags of rows.
use Rattle.std.specs.List.{last_or, position_or_len}
use Rattle.std.specs.Prelude.{Bool, List, None, Option, Some, [], bytes_eq, false, filter, filter_map, find, length, nat_abs, nat_le, option_and_then, option_map, option_to_list, refl, slice_get, true, unwrap_or, ℕ, ◌&&◌, ◌++◌, ◌+◌, ◌-◌, ◌<◌, ◌∷◌, ◌≡◌, ◌≤◌}
use Rattle.std.proofs.Common.{ap, arith, cond, subst, sym, ◌∙◌}
use Rattle.std.proofs.lemmas.Bool.{and_parts}
use Rattle.std.proofs.lemmas.List.Folds.{find_at}
use Rattle.std.proofs.lemmas.Option.{none-some, same_Some, slice_get_within}
use Rattle.std.proofs.lemmas.Slice.Eq.{bytes_eq-Decides}
use Rattle.tt_layout.proofs.Ascending.{ascends-changed}
use Rattle.tt_layout.specs.Numbers.{IsAscending}
use Rattle.tt_plain.proofs.Tests.{none_is}
use Rattle.tt_plain.proofs.law.session.Alone.{IsDue}
use Rattle.tt_plain.proofs.law.Gives.{Gives, gives_at, gives_bind, gives_map}
use Rattle.tt_plain.proofs.law.Lists.{every-filter, every-filter_map, every-map, every_at, every_on}
use Rattle.tt_plain.proofs.law.entry.Rounds.{current_parts_ascend}
use Rattle.tt_plain.proofs.law.change.Tables.{table_at}
use Rattle.tt_plain.specs.asked.Asked.{Asked, state_asked, table_asked}
use Rattle.tt_plain.specs.asked.Carried.{Carried}
use Rattle.tt_plain.specs.declared.store.Plain.{Plain}
use Rattle.tt_plain.specs.declared.store.PlainPending.{PlainPending}
use Rattle.tt_plain.specs.declared.store.PlainSession.{PlainSession}
use Rattle.tt_plain.specs.declared.store.PlainTable.{PlainTable}
use Rattle.tt_plain.specs.declared.store.Version.{Version}
use Rattle.tt_plain.specs.declared.tally.TallyPending.{TallyPending}
use Rattle.tt_plain.specs.declared.tally.TallyPin.{TallyPin}
use Rattle.tt_plain.specs.law.Lists.{Every}
use Rattle.tt_plain.specs.law.Sound.{AreRowsOf, AreSoundLayouts, AreSoundLists, FollowFrom, IsSound, IsSoundTable}
use Rattle.tt_plain.specs.opening.Opened.{sources_seen}
use Rattle.tt_plain.specs.opening.Point.{At, NoStatement, NotEnded, Point, inserted_sources, point_of}
use Rattle.tt_plain.specs.opening.Seen.{changed_rows, pending_of, rows_at_point, rows_by_clause, rows_seen, rows_with, visible_rows}
use Rattle.tt_plain.specs.stored.Names.{table_named}
use Rattle.tt_plain.specs.stored.Tables.{current_rows, is_begun_at, is_live, rows_at, rows_of}
use Rattle.tt_plain.specs.tally.Layouts.{changed_parts, current_parts, is_pending_of, lists_of, parts_at, parts_at_point, parts_by_clause, parts_seen, source_parts}
use Rattle.tt_plain.specs.tally.Pins.{change_pins, pin_of, source_pins, target_pin}
use Rattle.tt_script.specs.declared.script.Script.{Script}
use Rattle.tt_sql.specs.declared.change.Dml.{Dml}
use Rattle.tt_sql.specs.declared.query.Clause.{Clause}
use Rattle.tt_sql.specs.declared.query.Source.{Source}
use Rattle.tt_value.proofs.values.Bags.{IsBag-bag_minus, IsBag-bag_of}
use Rattle.tt_value.specs.declared.name.TableName.{TableName}
use Rattle.tt_value.specs.declared.value.Row.{Row}
use Rattle.tt_value.specs.values.Bags.{IsBag, bag_plus}
use Rattle.tt_layout.specs.Chain as chain
use Rattle.tt_sql.specs.declared.change.Dml.TheVariants as dml

find_passes : {A : Type 0} (test : A → Bool) (xs : List A) (x : A) → find test xs ≡ Some x → test x ≡ true
find_passes test [] x e = absurd (none-some x e)
find_passes test (y ∷ xs) x e = passed (test y) refl (find_passes test xs x) e
  where
    passed : (b : Bool) → test y ≡ b → (find test xs ≡ Some x → test x ≡ true) → cond b (Some y) (find test xs) ≡ Some x → test x ≡ true
    passed true is rest f = ap test (sym (same_Some y x f)) ∙ is
    passed false is rest f = rest f

pub every_found : {A : Type 0} (P : A → Type 0) (test : A → Bool) (xs : List A) (x : A) → Every P xs → find test xs ≡ Some x → P x
every_found P test xs x all e = every_at P xs (position_or_len test xs) x all (sym (find_at test xs) ∙ e)

-- a table with its number
pub record IsTable (store : Plain) (table : PlainTable) : Type 0 where
  pub sound : IsSoundTable store.moment (length store.tables) table.number table
  pub there : slice_get store.tables (table.number - 1) ≡ Some table
  pub from_one : 1 ≤ table.number
  pub within : table.number ≤ length store.tables

pub is_table : (carried : Carried) (program : Script) (store : Plain) (place : ℕ) (table : PlainTable) → IsSound carried program store → slice_get store.tables place ≡ Some table → IsTable store table
is_table carried program store place table sound at =
    let here : IsSoundTable store.moment (length store.tables) (1 + place) table = table_at store.moment (length store.tables) 1 place store.tables table sound.tables at in
    let inside : place < length store.tables = slice_get_within store.tables place table at in
    record {
      sound = subst (λ (n : ℕ). IsSoundTable store.moment (length store.tables) n table) (sym here.numbered) here;
      there = ap (slice_get store.tables) (omega (arith, here.numbered)) ∙ at;
      from_one = omega (arith, here.numbered);
      within = omega (arith, here.numbered, inside);
    }

-- ---- rows

bags_of : (begun moment : ℕ) (versions : List Version) → FollowFrom begun moment versions → Every (λ (v : Version). IsBag v.rows) versions
bags_of begun moment [] all = tt
bags_of begun moment (version ∷ versions) all = (all.1, bags_of version.begun moment versions all.2)

last_bag : (before : Option Version) (versions : List Version) → IsBag (rows_of before) → Every (λ (v : Version). IsBag v.rows) versions → IsBag (rows_of (last_or before versions))
last_bag before [] here all = here
last_bag before (version ∷ versions) here all = last_bag (Some version) versions all.0 all.1

pub current_bag : (moment count number : ℕ) (table : PlainTable) → IsSoundTable moment count number table → IsBag (current_rows table)
current_bag moment count number table sound = last_bag None table.versions tt (bags_of table.made moment table.versions sound.versions)

pub rows_at_bag : (moment count number : ℕ) (table : PlainTable) (at : ℕ) → IsSoundTable moment count number table → IsBag (rows_at table at)
unfolding rows_at
rows_at_bag moment count number table at sound =
    last_bag None (filter (is_begun_at at) table.versions) tt
    (every-filter (λ (v : Version). IsBag v.rows) (is_begun_at at) table.versions (bags_of table.made moment table.versions sound.versions))

pub with_bag : (rows : List Row) (pending : PlainPending) → IsBag (rows_with rows pending)
with_bag rows pending = IsBag-bag_minus (bag_plus rows pending.added) pending.gone (IsBag-bag_of (rows ++ pending.added))

changed_bag : (rows : List Row) (pending : Option PlainPending) → IsBag rows → IsBag (changed_rows rows pending)
changed_bag rows None bag = bag
changed_bag rows (Some pending) bag = with_bag rows pending

pub visible_bag : (moment count number : ℕ) (state : PlainSession) (table : PlainTable) → IsSoundTable moment count number table → IsBag (visible_rows state table)
unfolding visible_rows
visible_bag moment count number state table sound = changed_bag (current_rows table) (pending_of state table.number) (current_bag moment count number table sound)

-- ---- what is named and seen

module _ (carried : Carried) (asked : Asked) (due : IsDue carried asked) where
  pub record IsNamed (name : TableName) (table : PlainTable) : Type 0 where
    pub is : IsTable asked.store table
    pub live : table.dropped ≡ None
    pub called : table.name ≡ name.name.text

  pub named : (name : TableName) (table : PlainTable) → table_asked asked name ≡ Some table → IsNamed name table
  unfolding table_named
  named name table e =
      let test = λ (t : PlainTable). is_live t && bytes_eq t.name name.name.text in
      let both = and_parts (is_live table) (bytes_eq table.name name.name.text) (find_passes test asked.store.tables table e) in
      record {
        is = is_table carried asked.program asked.store (position_or_len test asked.store.tables) table due.sound (sym (find_at test asked.store.tables) ∙ e);
        live = none_is table.dropped both.0;
        called = (bytes_eq-Decides table.name name.name.text).0 both.1;
      }

  point_bag : (table : PlainTable) (point : Point) → IsTable asked.store table → Gives IsBag (rows_at_point table point)
  point_bag table (At x) is = rows_at_bag asked.store.moment (length asked.store.tables) table.number table (nat_abs x) is.sound
  point_bag table NoStatement is = tt
  point_bag table NotEnded is = tt

  clause_bag : (table : PlainTable) (clause : Option Clause) → IsTable asked.store table → Gives IsBag (rows_by_clause asked table clause)
  clause_bag table None is = visible_bag asked.store.moment (length asked.store.tables) table.number (state_asked asked) table is.sound
  clause_bag table (Some clause) is = point_bag table (point_of asked clause) is

  pub seen_rows : (s : Source) → Gives (AreRowsOf (length asked.store.tables)) (rows_seen asked s)
  unfolding rows_seen
  seen_rows s =
      gives_bind (AreRowsOf (length asked.store.tables)) (table_asked asked s.table) _ (λ table e.
      gives_bind (AreRowsOf (length asked.store.tables)) (rows_by_clause asked table s.clause) _ (λ rows f.
      let is = (named s.table table e).is in
      (is.from_one, is.within, gives_at IsBag (rows_by_clause asked table s.clause) rows (clause_bag table s.clause is) f)))

  pub sources_rows : (sources : List Source) → Gives (Every (AreRowsOf (length asked.store.tables))) (sources_seen asked sources)
  sources_rows [] = tt
  sources_rows (s ∷ sources) = joined (rows_seen asked s) (sources_seen asked sources) (seen_rows s) (sources_rows sources)
    where
      joined : (first : Option (ℕ × List Row)) (rest : Option (List (ℕ × List Row))) → Gives (AreRowsOf (length asked.store.tables)) first → Gives (Every (AreRowsOf (length asked.store.tables))) rest
          → Gives (Every (AreRowsOf (length asked.store.tables))) (option_and_then (λ first. option_map (λ others. first ∷ others) rest) first)
      joined None rest here all = tt
      joined (Some x) None here all = tt
      joined (Some x) (Some xs) here all = (here, all)

  -- ---- parts

  pub seen_ascend : (session table : ℕ) → IsAscending (parts_seen asked.store.tally session table)
  seen_ascend session table = changed_up (lists_of asked.store.tally session table) refl
    where
      changed_up : (lists : Option TallyPending) → lists_of asked.store.tally session table ≡ lists → IsAscending (changed_parts (current_parts asked.store.tally table) lists)
      changed_up None e = current_parts_ascend asked.store.moment asked.store.tally table due.sound.tally
      changed_up (Some lists) e =
          ascends-changed (current_parts asked.store.tally table) lists.gone lists.added (current_parts_ascend asked.store.moment asked.store.tally table due.sound.tally)
          (every_found AreSoundLists (is_pending_of session table) asked.store.tally.pending lists due.sound.tally.lists e).1

  each_ascends : (begun : ℕ) (layouts : List (ℕ × List ℕ)) → chain.FollowFrom begun layouts → Every (λ (l : ℕ × List ℕ). IsAscending l.1) layouts
  each_ascends begun [] all = tt
  each_ascends begun (l ∷ layouts) all = (all.1, each_ascends l.0 layouts all.2)

  last_ascends : (layouts : List (ℕ × List ℕ)) → Every (λ (l : ℕ × List ℕ). IsAscending l.1) layouts → IsAscending (unwrap_or (option_map (λ (l : ℕ × List ℕ). l.1) (chain.last_of layouts)) [])
  last_ascends [] all = tt
  last_ascends (l ∷ []) all = all.0
  last_ascends (l ∷ m ∷ layouts) all = last_ascends (m ∷ layouts) all.1

  pub at_ascend : (table moment : ℕ) → IsAscending (parts_at asked.store.tally table moment)
  at_ascend table moment = found (slice_get asked.store.tally.layouts (table - 1)) refl
    where
      found : (layouts : Option (List (ℕ × List ℕ))) → slice_get asked.store.tally.layouts (table - 1) ≡ layouts → IsAscending (unwrap_or (chain.layout_at (unwrap_or layouts []) moment) [])
      found None e = tt
      found (Some layouts) e =
          let sound = every_at (AreSoundLayouts asked.store.moment) asked.store.tally.layouts (table - 1) layouts due.sound.tally.layouts e in
          last_ascends (filter (λ (l : ℕ × List ℕ). nat_le l.0 moment) layouts) (every-filter (λ (l : ℕ × List ℕ). IsAscending l.1) (λ (l : ℕ × List ℕ). nat_le l.0 moment) layouts (each_ascends 0 layouts sound.0.1))

  point_ascends : (table : ℕ) (point : Point) → IsAscending (parts_at_point asked.store.tally table point)
  point_ascends table (At x) = at_ascend table (nat_abs x)
  point_ascends table NoStatement = tt
  point_ascends table NotEnded = tt

  clause_ascends : (table : ℕ) (clause : Option Clause) → IsAscending (parts_by_clause asked table clause)
  clause_ascends table None = seen_ascend asked.session table
  clause_ascends table (Some clause) = point_ascends table (point_of asked clause)

  pub source_ascends : (s : Source) → Gives (λ (seen : ℕ × List ℕ). IsAscending seen.1) (source_parts asked s)
  source_ascends s = gives_map (λ (seen : ℕ × List ℕ). IsAscending seen.1) _ (table_asked asked s.table) (λ table e. clause_ascends table.number s.clause)

  abbrev pub GoodPin : TallyPin → Type 0
  GoodPin pin = (pin.session ≡ asked.session) × IsAscending pin.parts

  pub sources_pinned : (sources : List Source) → Every GoodPin (source_pins asked sources)
  sources_pinned sources =
      every-map GoodPin (pin_of asked.session) (filter_map (source_parts asked) sources)
      (every_on (λ (seen : ℕ × List ℕ). IsAscending seen.1) (λ (seen : ℕ × List ℕ). GoodPin (pin_of asked.session seen)) (filter_map (source_parts asked) sources) (λ seen up. (refl, up))
      (every-filter_map (λ (seen : ℕ × List ℕ). IsAscending seen.1) (source_parts asked) sources source_ascends))

  pub target_pinned : (name : TableName) → Every GoodPin (target_pin asked name)
  target_pinned name = one (source_parts asked (record { table = name; clause = None })) (source_ascends (record { table = name; clause = None }))
    where
      one : (seen : Option (ℕ × List ℕ)) → Gives (λ (seen : ℕ × List ℕ). IsAscending seen.1) seen → Every GoodPin (option_to_list (option_map (pin_of asked.session) seen))
      one None up = tt
      one (Some seen) up = ((refl, up), tt)

  pub change_pinned : (d : Dml) → Every GoodPin (change_pins asked d)
  change_pinned (dml.Insert i) = sources_pinned (inserted_sources i.source)
  change_pinned (dml.Update u) = target_pinned u.table
  change_pinned (dml.Delete d) = target_pinned d.table
  change_pinned (dml.Copy c) = tt
