-- A change of tables keeps the number of columns of each, and a table that is made has columns.
use Rattle.std.specs.Prelude.{Bool, List, None, Option, Some, [], false, fold, if◌then◌else◌, true, ℕ, ⊤, ◌==◌, ◌∷◌}
use Rattle.tt_plain.proofs.law.Lists.{every-append, every-map, every_on}
use Rattle.tt_plain.specs.declared.store.PlainPending.{PlainPending}
use Rattle.tt_plain.specs.declared.store.Plain.{Plain}
use Rattle.tt_plain.specs.declared.store.PlainTable.{PlainTable}
use Rattle.tt_plain.specs.effect.Apply.{applied, changed_table, renamed, with_table}
use Rattle.tt_plain.specs.effect.Commit.{version_begun, version_committed}
use Rattle.tt_plain.specs.effect.Effect.{Dropped, Effect, Made, NewKey, NewRegime, NewVersion, Renamed, Suspended, TableChange, Undropped}
use Rattle.tt_plain.specs.law.Lists.{Every}
use Rattle.tt_plain.specs.stored.Tables.{table_numbered}
use Rattle.std.specs.List.{flat_map}
use Rattle.tt_schema_laws.specs.Columns.{HasColumns}

-- only what is made is asked
abbrev pub Makes : TableChange → Type 0
Makes (Made table) = HasColumns table
Makes (Dropped number moment) = ⊤
Makes (Undropped number) = ⊤
Makes (Renamed names) = ⊤
Makes (NewVersion number moment rows) = ⊤
Makes (NewRegime number moment days) = ⊤
Makes (NewKey number key) = ⊤
Makes (Suspended number suspended) = ⊤

abbrev pub MakesColumns : Effect → Type 0
MakesColumns effect = Every Makes effect.tables

either_has : (test : Bool) (a b : PlainTable) → HasColumns a → HasColumns b → HasColumns (if test then a else b)
either_has true a b here there = here
either_has false a b here there = there

with_has : (number : ℕ) (f : PlainTable → PlainTable) (tables : List PlainTable) → ((table : PlainTable) → HasColumns table → HasColumns (f table)) → Every HasColumns tables → Every HasColumns (with_table number f tables)
with_has number f tables on all =
    every-map HasColumns (λ (table : PlainTable). if table.number == number then f table else table) tables
    (every_on HasColumns (λ (table : PlainTable). HasColumns (if table.number == number then f table else table)) tables
    (λ table has. either_has (table.number == number) (f table) table (on table has) has) all)

changed_has : (tables : List PlainTable) (change : TableChange) → Every HasColumns tables → Makes change → Every HasColumns (changed_table tables change)
changed_has tables (Made table) all made = every-append HasColumns tables (table ∷ []) all (made, tt)
changed_has tables (Dropped number moment) all made = with_has number _ tables (λ table has. has) all
changed_has tables (Undropped number) all made = with_has number _ tables (λ table has. has) all
changed_has tables (Renamed names) all made =
    every-map HasColumns (renamed names) tables (every_on HasColumns (λ (table : PlainTable). HasColumns (renamed names table)) tables (λ table has. has) all)
changed_has tables (NewVersion number moment rows) all made = with_has number _ tables (λ table has. has) all
changed_has tables (NewRegime number moment days) all made = with_has number _ tables (λ table has. has) all
changed_has tables (NewKey number key) all made = with_has number _ tables (λ table has. has) all
changed_has tables (Suspended number suspended) all made = with_has number _ tables (λ table has. has) all

all_changed : (tables : List PlainTable) (changes : List TableChange) → Every HasColumns tables → Every Makes changes → Every HasColumns (fold changed_table tables changes)
all_changed tables [] all made = all
all_changed tables (change ∷ changes) all made = all_changed (changed_table tables change) changes (changed_has tables change all made.0) made.1

pub applied_has : (store : Plain) (effect : Effect) → Every HasColumns store.tables → MakesColumns effect → Every HasColumns (applied store effect).tables
unfolding applied
applied_has store effect all made = all_changed store.tables effect.tables all made

-- ---- a commit makes no table

begun_makes : (moment : ℕ) (pending : PlainPending) (o : Option PlainTable) → Every Makes (version_begun moment pending o)
begun_makes moment pending None = tt
begun_makes moment pending (Some table) = (tt, tt)

unless_makes : (test : Bool) (changes : List TableChange) → Every Makes changes → Every Makes (if test then [] else changes)
unless_makes true changes all = tt
unless_makes false changes all = all

pub version_makes : (store : Plain) (moment : ℕ) (pending : PlainPending) → Every Makes (version_committed store moment pending)
version_makes store moment pending = unless_makes _ _ (begun_makes moment pending (table_numbered store pending.table))

pub versions_make : (store : Plain) (moment : ℕ) (all : List PlainPending) → Every Makes (flat_map (version_committed store moment) all)
versions_make store moment [] = tt
versions_make store moment (pending ∷ all) =
    every-append Makes (version_committed store moment pending) (flat_map (version_committed store moment) all) (version_makes store moment pending) (versions_make store moment all)
