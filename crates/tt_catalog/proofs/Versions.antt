-- Tables of which one has a further version: what is kept of them, their names and their schemas stay.
use Rattle.std.specs.Prelude.{Bool, List, None, Option, Some, [], false, find, if◌then◌else◌, length, map, option_map, refl, slice_get, true, zero, suc, ℕ, ◌&&◌, ◌+◌, ◌-◌, ◌<◌, ◌==◌, ◌∷◌, ◌≡◌, ◌≤◌, ◌≢◌}
use Rattle.std.proofs.Common.{ap, arith, cond, sym, ◌∙◌}
use Rattle.tt_value.specs.declared.value.Row.{Row}
use Rattle.tt_plain.specs.declared.store.PlainTable.{PlainTable}
use Rattle.tt_plain.specs.declared.store.Plain.{Plain}
use Rattle.tt_plain.specs.declared.store.PlainPending.{PlainPending}
use Rattle.tt_plain.specs.declared.tally.Tally.{Tally}
use Rattle.tt_plain.specs.effect.Apply.{changed_table, with_table, with_version}
use Rattle.tt_plain.specs.effect.Commit.{version_begun, version_committed}
use Rattle.tt_plain.specs.effect.Effect.{TableChange}
use Rattle.tt_plain.specs.law.Sound.{AreSoundTables}
use Rattle.tt_plain.specs.stored.Tables.{table_numbered}
use Rattle.tt_plain.specs.tally.Layouts.{layouts_of}
use Rattle.std.specs.List.{fold}
use Rattle.tt_names.specs.Registry.{Registry}
use Rattle.tt_state.specs.Keeps.{AreNames, is_live_as, schema_at, schema_of, table_of}
use Rattle.tt_state.specs.declared.state.TableState.{TableState}
use Rattle.tt_catalog.specs.Changes.{changed_at}

-- the same tables, but for their versions
abbrev pub IsVersioned : PlainTable → PlainTable → Type 0
IsVersioned old new = new ≡ record old { versions = new.versions }

pub data AreVersioned : List PlainTable → List PlainTable → Type 0 where
  none : AreVersioned [] []
  more : {old new : PlainTable} {olds news : List PlainTable} → IsVersioned old new → AreVersioned olds news → AreVersioned (old ∷ olds) (new ∷ news)

same_versions : (tables : List PlainTable) → AreVersioned tables tables
same_versions [] = none
same_versions (table ∷ tables) = more refl (same_versions tables)

one_versioned : (test : Bool) (moment : ℕ) (rows : List Row) (table : PlainTable) → IsVersioned table (if test then with_version moment rows table else table)
one_versioned true moment rows table = refl
one_versioned false moment rows table = refl

with_versions : (number moment : ℕ) (rows : List Row) (tables : List PlainTable) → AreVersioned tables (with_table number (with_version moment rows) tables)
with_versions number moment rows [] = none
with_versions number moment rows (table ∷ tables) = more (one_versioned (table.number == number) moment rows table) (with_versions number moment rows tables)

-- what a commit of one table begins, by whether it takes nothing away and adds nothing
abbrev begun_if : ℕ → PlainPending → (nothing_gone nothing_added : Bool) → Option PlainTable → List TableChange
begun_if moment pending none_gone none_added found = if none_gone && none_added then [] else version_begun moment pending found

begun_versions : (tables : List PlainTable) (moment : ℕ) (pending : PlainPending) (found : Option PlainTable) → AreVersioned tables (fold changed_table tables (version_begun moment pending found))
begun_versions tables moment pending None = same_versions tables
begun_versions tables moment pending (Some table) = with_versions table.number moment _ tables

if_begun : (tables : List PlainTable) (moment : ℕ) (pending : PlainPending) (a b : Bool) (found : Option PlainTable) → AreVersioned tables (fold changed_table tables (begun_if moment pending a b found))
if_begun tables moment pending true true found = same_versions tables
if_begun tables moment pending true false found = begun_versions tables moment pending found
if_begun tables moment pending false b found = begun_versions tables moment pending found

-- it begins at most a version of it
pub committed_versions : (store : Plain) (moment : ℕ) (pending : PlainPending) → AreVersioned store.tables (fold changed_table store.tables (version_committed store moment pending))
committed_versions store moment pending = if_begun store.tables moment pending (length pending.gone == 0) (length pending.added == 0) (table_numbered store pending.table)

-- ---- what stays

pub same_length : (olds news : List PlainTable) → AreVersioned olds news → length news ≡ length olds
same_length [] [] none = refl
same_length [] (new ∷ news) are = elim are [ ]
same_length (old ∷ olds) [] are = elim are [ ]
same_length (old ∷ olds) (new ∷ news) (more is rest) = ap suc (same_length olds news rest)

pub same_kept : (tally : Tally) (olds news : List PlainTable) → AreVersioned olds news → map (table_of tally) news ≡ map (table_of tally) olds
same_kept tally [] [] none = refl
same_kept tally [] (new ∷ news) are = elim are [ ]
same_kept tally (old ∷ olds) [] are = elim are [ ]
same_kept tally (old ∷ olds) (new ∷ news) (more is rest) =
    ap (λ (t : PlainTable). table_of tally t ∷ map (table_of tally) news) is ∙ ap (λ (ts : List TableState). table_of tally old ∷ ts) (same_kept tally olds news rest)

pub same_schema : (olds news : List PlainTable) (number : ℕ) → AreVersioned olds news → schema_at news number ≡ schema_at olds number
same_schema olds news number are = by olds news (number - 1) are
  where
    by : (olds news : List PlainTable) (place : ℕ) → AreVersioned olds news → schema_of (slice_get news place) ≡ schema_of (slice_get olds place)
    by [] [] place none = refl
    by [] (new ∷ news) place are = elim are [ ]
    by (old ∷ olds) [] place are = elim are [ ]
    by (old ∷ olds) (new ∷ news) zero (more is rest) = ap (λ (t : PlainTable). t.schema) is
    by (old ∷ olds) (new ∷ news) (suc place) (more is rest) = by olds news place rest

abbrev number_of : PlainTable → ℕ
number_of table = table.number

same_found : (name : List ℕ) (olds news : List PlainTable) → AreVersioned olds news → option_map number_of (find (is_live_as name) news) ≡ option_map number_of (find (is_live_as name) olds)
same_found name [] [] none = refl
same_found name [] (new ∷ news) are = elim are [ ]
same_found name (old ∷ olds) [] are = elim are [ ]
same_found name (old ∷ olds) (new ∷ news) (more is rest) =
    ap (λ (t : PlainTable). option_map number_of (cond (is_live_as name t) (Some t) (find (is_live_as name) news))) is
    ∙ by (is_live_as name old) (same_found name olds news rest)
  where
    by : (b : Bool) → option_map number_of (find (is_live_as name) news) ≡ option_map number_of (find (is_live_as name) olds)
        → option_map number_of (cond b (Some (record old { versions = new.versions })) (find (is_live_as name) news)) ≡ option_map number_of (cond b (Some old) (find (is_live_as name) olds))
    by true e = refl
    by false e = e

pub same_names : (olds news : List PlainTable) (names : Registry) → AreVersioned olds news → AreNames olds names → AreNames news names
same_names olds news names are keeps name = keeps name ∙ sym (same_found name olds news are)

-- ---- one table with other layouts

module _ (old new : Tally) (moment count : ℕ) (f : TableState → TableState) (number : ℕ)
    (others : (n : ℕ) → n ≢ number → 1 ≤ n → layouts_of new n ≡ layouts_of old n)
    (here : (table : PlainTable) → table.number ≡ number → table_of new table ≡ f (table_of old table)) where
  apart : (table : PlainTable) → table.number ≢ number → 1 ≤ table.number → table_of new table ≡ table_of old table
  apart table ne one = ap (λ (ls : List (ℕ × List ℕ)). record (table_of old table) { facts = record (table_of old table).facts { layouts = ls } }) (others table.number ne one)

  all_apart : (first : ℕ) (tables : List PlainTable) → 1 ≤ first → number < first → AreSoundTables moment count first tables → map (table_of new) tables ≡ map (table_of old) tables
  all_apart first [] one less sound = refl
  all_apart first (table ∷ tables) one less (is, sound) =
      let same : table.number ≡ first = is.numbered in
      ap (λ (t : TableState). t ∷ map (table_of new) tables) (apart table (λ e. omega (arith, e, same, less)) (omega (arith, same, one)))
      ∙ ap (λ (ts : List TableState). table_of old table ∷ ts) (all_apart (first + 1) tables (omega arith) (omega (arith, less)) sound)

  pub one_changed : (first place : ℕ) (tables : List PlainTable) → 1 ≤ first → number ≡ first + place → AreSoundTables moment count first tables
      → map (table_of new) tables ≡ changed_at f (map (table_of old) tables) place
  one_changed first place [] one at sound = refl
  one_changed first zero (table ∷ tables) one at (is, sound) =
      let same : table.number ≡ first = is.numbered in
      ap (λ (t : TableState). t ∷ map (table_of new) tables) (here table (omega (arith, same, at)))
      ∙ ap (λ (ts : List TableState). f (table_of old table) ∷ ts) (all_apart (first + 1) tables (omega arith) (omega (arith, at)) sound)
  one_changed first (suc place) (table ∷ tables) one at (is, sound) =
      let same : table.number ≡ first = is.numbered in
      ap (λ (t : TableState). t ∷ map (table_of new) tables) (apart table (λ e. omega (arith, e, same, at)) (omega (arith, same, one)))
      ∙ ap (λ (ts : List TableState). table_of old table ∷ ts) (one_changed (first + 1) place tables (omega arith) (omega (arith, at)) sound)
