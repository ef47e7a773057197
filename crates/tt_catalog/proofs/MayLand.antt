-- That the parts of a change may come to be kept, and what is kept then.
use Rattle.std.specs.List.{list_all, range_with_len}
use Rattle.std.specs.Prelude.{Bool, Err, List, None, Ok, OnOk, Option, Result, Some, [], false, if◌then◌else◌, length, map, not, refl, slice_get, slice_set, true, unwrap_or, zero, suc, ℕ, ◌++◌, ◌+◌, ◌-◌, ◌<◌, ◌==◌, ◌^◌, ◌∷◌, ◌≡◌, ◌≤◌}
use Rattle.std.proofs.Common.{ap, arith, subst, sym, ◌∙◌}
use Rattle.std.proofs.lemmas.Bool.{eqb-false, ne_eqb}
use Rattle.std.proofs.lemmas.Option.{none-some, same_Some}
use Rattle.tt_value.specs.declared.value.Row.{Row}
use Rattle.tt_history.specs.declared.history.Added.{Added}
use Rattle.tt_layout.specs.Chain.{current_of, last_begun}
use Rattle.tt_layout.specs.Numbers.{HasNone, IsAscending, has}
use Rattle.tt_partition.specs.Cuts.{kinds_of}
use Rattle.tt_partition.specs.Image.{image_of}
use Rattle.tt_partition.specs.Table.{Table}
use Rattle.tt_plain.proofs.law.Lists.{every_at}
use Rattle.tt_plain.proofs.law.change.Tables.{table_at}
use Rattle.tt_plain.proofs.law.session.Views.{is_table}
use Rattle.tt_plain.specs.declared.store.Plain.{Plain}
use Rattle.tt_plain.specs.declared.store.PlainTable.{PlainTable}
use Rattle.tt_plain.specs.law.Lists.{Every}
use Rattle.tt_plain.specs.law.Sound.{AreSoundLayouts, IsSound}
use Rattle.tt_plain.specs.tally.Layouts.{current_parts, layouts_of}
use Rattle.tt_plain_laws.proofs.parts.Numbers.{Within}
use Rattle.tt_built.specs.Built.{built}
use Rattle.tt_script.specs.declared.script.Script.{Script}
use Rattle.tt_state.proofs.Lookups.{number_tied}
use Rattle.tt_state.specs.Keeps.{AreKeptParts, ArePartNumbers, HasKeptParts, KeepsTables, table_of}
use Rattle.tt_state.specs.Kept.{Kept, table_kept}
use Rattle.tt_state.specs.declared.part.StoredPart.{StoredPart}
use Rattle.tt_state.specs.declared.state.TableState.{TableState}
use Rattle.tt_catalog.proofs.Landed.{current_kept, none_kept}
use Rattle.tt_catalog.proofs.Numbered.{both_true, range_ascends}
use Rattle.tt_catalog.proofs.Replaced.{all_within}
use Rattle.tt_catalog.specs.Changes.{changed_at, facts_from, numbers_behind, stored_from, tables_after, with_landed}
use Rattle.tt_catalog.specs.Landing.{MayBegin, MayLand, added_as, number_as}

-- ---- what is told of parts that are kept

pub told_as : (origin number : ℕ) (parts : List Table) → map added_as (stored_from origin number parts) ≡ facts_from number parts
told_as origin number [] = refl
told_as origin number (part ∷ parts) = ap (λ (fs : List Added). record { number = number; rows = length part.rows; bytes = length (image_of part) } ∷ fs) (told_as origin (number + 1) parts)

pub numbers_as : (origin number : ℕ) (parts : List Table) → map number_as (stored_from origin number parts) ≡ range_with_len number (length parts)
numbers_as origin number [] = refl
numbers_as origin number (part ∷ parts) = ap (λ ns. number ∷ ns) (numbers_as origin (number + 1) parts)

-- ---- the numbers that come are new

is_false : (b : Bool) → (b ≡ true → ⊥) → b ≡ false
is_false true never = absurd (never refl)
is_false false never = refl

none_new : (current : List ℕ) (count first many : ℕ) → ArePartNumbers count current → count < first → HasNone current (range_with_len first many)
none_new current count first zero known less = refl
none_new current count first (suc many) known less =
    both_true (not (has current first)) (list_all (λ n. not (has current n)) (range_with_len (first + 1) many))
    (ap not (is_false (has current first) (λ e. omega (arith, (known first e).1, less))))
    (none_new current count (first + 1) many known (omega (arith, less)))

pub may_begin : (kept : Kept) (table : ℕ) (gone : List ℕ) (parts : List Table) (stored : List StoredPart) → stored ≡ stored_from table (length kept.parts + 1) parts → MayLand kept table gone
    → MayBegin kept.tables table (kept.moment + 1) gone (map number_as stored)
may_begin kept table gone parts stored is may =
    subst (λ (ns : List ℕ). MayBegin kept.tables table (kept.moment + 1) gone ns) (sym (ap (map number_as) is ∙ numbers_as table (length kept.parts + 1) parts))
    (record {
      changed = may.changed;
      is = may.is;
      later = may.later;
      gone_ascends = may.ascends;
      added_ascends = range_ascends (length kept.parts + 1) (length parts) 0 (omega arith);
      among = may.among;
      apart = none_new (current_of may.changed.facts.layouts) (length kept.parts) (length kept.parts + 1) (length parts) may.known (omega arith);
    })

pub landed_is : (kept : Kept) (table : ℕ) (gone : List ℕ) (parts : List Table) (stored : List StoredPart) (tables : List TableState) (all : List StoredPart)
    → stored ≡ stored_from table (length kept.parts + 1) parts → tables ≡ tables_after table (kept.moment + 1) gone (map number_as stored) kept.tables → all ≡ kept.parts ++ stored
    → record kept { tables = tables; parts = all } ≡ with_landed kept table gone parts
landed_is kept table gone parts stored tables all is begun put =
    ap (λ (ts : List TableState). record kept { tables = ts; parts = all })
    (begun ∙ ap (λ (ns : List ℕ). tables_after table (kept.moment + 1) gone ns kept.tables) (ap (map number_as) is ∙ numbers_as table (length kept.parts + 1) parts))
    ∙ ap (λ (ps : List StoredPart). record kept { tables = tables_after table (kept.moment + 1) gone (numbers_behind (length kept.parts) parts) kept.tables; parts = ps })
    (put ∙ ap (λ (ps : List StoredPart). kept.parts ++ ps) is)

-- ---- the table of a number in its place

pub kept_at : (tables : List TableState) (table : ℕ) (x : TableState) → table_kept tables table ≡ Some x → (1 ≤ table) × (slice_get tables (table - 1) ≡ Some x)
kept_at tables table x e = by (table == 0) refl e
  where
    by : (b : Bool) → (table == 0) ≡ b → (if b then None else slice_get tables (table - 1)) ≡ Some x → (1 ≤ table) × (slice_get tables (table - 1) ≡ Some x)
    by true is f = absurd (none-some x f)
    by false is f = (omega (arith, eqb-false table 0 is), f)

set_changed : {A : Type 0} (f : A → A) (xs : List A) (place : ℕ) (x : A) → slice_get xs place ≡ Some x → slice_set xs place (f x) ≡ changed_at f xs place
set_changed f [] place x e = absurd (none-some x e)
set_changed f (first ∷ xs) zero x e = ap (λ y. f y ∷ xs) (sym (same_Some first x e))
set_changed f (first ∷ xs) (suc place) x e = ap (λ ys. first ∷ ys) (set_changed f xs place x e)

pub put_at : {A E : Type 0} (result : Result A E) (f : TableState → TableState) (tables : List TableState) (place : ℕ) (x old new : TableState) → slice_get tables place ≡ Some x → old ≡ x → OnOk result (new ≡ f old)
    → OnOk result (slice_set tables place new ≡ changed_at f tables place)
put_at (Ok a) f tables place x old new at is changed = ap (slice_set tables place) (changed ∙ ap f is) ∙ set_changed f tables place x at
put_at (Err e) f tables place x old new at is changed = tt

-- ---- a table of the store

begun_by : (moment : ℕ) (layouts : List (List (ℕ × List ℕ))) (place : ℕ) → Every (AreSoundLayouts moment) layouts → last_begun (unwrap_or (slice_get layouts place) []) ≤ moment
begun_by moment layouts place all = by (slice_get layouts place) refl
  where
    by : (found : Option (List (ℕ × List ℕ))) → slice_get layouts place ≡ found → last_begun (unwrap_or found []) ≤ moment
    by None e = omega arith
    by (Some ls) e = (every_at (AreSoundLayouts moment) layouts place ls all e).1

-- each number of a table's current parts is that of a kept part
pub current_numbers : (program : Script) (store : Plain) (contents : List (List Row)) (kept : Kept) (table : ℕ) (here : PlainTable) → IsSound built program store → KeepsTables store.tables store.tally contents kept
    → 1 ≤ table → slice_get store.tables (table - 1) ≡ Some here → AreKeptParts kept.parts (kinds_of here.schema) (current_parts store.tally table)
current_numbers program store contents kept table here sound keeps one at =
    let is = is_table built program store (table - 1) here sound at in
    let numbered : here.number ≡ table = omega (arith, (table_at store.moment (length store.tables) 1 (table - 1) store.tables here sound.tables at).numbered, one) in
    let found : table_kept kept.tables table ≡ Some (table_of store.tally here) = ap (table_kept kept.tables) (sym numbered) ∙ number_tied program store contents kept sound keeps here is in
    let kept_here : HasKeptParts kept.parts (table_of store.tally here) =
    every_at (HasKeptParts kept.parts) kept.tables (table - 1) (table_of store.tally here) keeps.layouts (sym (ap (λ b. if b then None else slice_get kept.tables (table - 1)) (ne_eqb table 0 (λ e. omega (arith, e, one)))) ∙ found) in
    subst (λ (n : ℕ). AreKeptParts kept.parts (kinds_of here.schema) (current_parts store.tally n)) numbered
    (current_kept (AreKeptParts kept.parts (kinds_of here.schema)) (layouts_of store.tally here.number) (none_kept kept.parts (kinds_of here.schema)) kept_here)

pub may_land : (program : Script) (store : Plain) (contents : List (List Row)) (kept : Kept) (table : ℕ) (here : PlainTable) (gone : List ℕ) → IsSound built program store → KeepsTables store.tables store.tally contents kept
    → kept.moment ≡ store.moment → kept.moment + 1 < 2 ^ 64 → 1 ≤ table → slice_get store.tables (table - 1) ≡ Some here → IsAscending gone → Within gone (current_parts store.tally table) → MayLand kept table gone
may_land program store contents kept table here gone sound keeps moment early one at ascends inside =
    let is = is_table built program store (table - 1) here sound at in
    let numbered : here.number ≡ table = omega (arith, (table_at store.moment (length store.tables) 1 (table - 1) store.tables here sound.tables at).numbered, one) in
    let found : table_kept kept.tables table ≡ Some (table_of store.tally here) = ap (table_kept kept.tables) (sym numbered) ∙ number_tied program store contents kept sound keeps here is in
    let known = current_numbers program store contents kept table here sound keeps one at in
    record {
      changed = table_of store.tally here;
      is = found;
      moment = early;
      later = omega (arith, begun_by store.moment store.tally.layouts (here.number - 1) sound.tally.layouts, moment);
      ascends = ascends;
      among = ap (λ n. list_all (has (current_parts store.tally n)) gone) numbered ∙ all_within gone (current_parts store.tally table) inside;
      known = λ number e. let k = known number (ap (λ n. has (current_parts store.tally n) number) (sym numbered) ∙ e) in (k.0, k.1);
    }
