-- Each sound change of tables keeps them sound.
use Rattle.std.specs.Prelude.{Bool, List, Option, Some, [], false, if◌then◌else◌, length, map, refl, slice_get, true, ℕ, ◌++◌, ◌+◌, ◌<◌, ◌==◌, ◌^◌, ◌∷◌, ◌≡◌, ◌≤◌}
use Rattle.std.proofs.Common.{arith, subst, suc, sym, zero}
use Rattle.std.proofs.lemmas.Option.{none-some, same_Some}
use Rattle.tt_plain.proofs.Tests.{same_number}
use Rattle.tt_plain.specs.declared.store.PlainTable.{PlainTable}
use Rattle.tt_plain.specs.declared.store.Version.{Version}
use Rattle.tt_plain.specs.effect.Apply.{renamed, with_table, with_version}
use Rattle.tt_plain.specs.law.Sound.{AreSoundTables, FollowFrom, IsKeyOf, IsSoundTable}
use Rattle.tt_retain.proofs.RegimesInOrder.{IsRetention-with_regime}
use Rattle.tt_retain.specs.Retention.{last_regime, with_regime}
use Rattle.tt_retain.specs.declared.regime.Regime.{Regime}
use Rattle.tt_value.specs.declared.value.Row.{Row}
use Rattle.tt_value.specs.values.Bags.{IsBag}

-- ---- one table

follow_later : (begun moment later : ℕ) (versions : List Version) → moment ≤ later → FollowFrom begun moment versions → FollowFrom begun later versions
follow_later begun moment later [] le all = omega (arith, all)
follow_later begun moment later (version ∷ versions) le all = (all.0, all.1, follow_later version.begun moment later versions le all.2)

follow-push : (begun moment : ℕ) (versions : List Version) (version : Version) → FollowFrom begun moment versions → version.begun ≡ moment → IsBag version.rows → FollowFrom begun moment (versions ++ version ∷ [])
follow-push begun moment [] version all now bag = (omega (arith, all), bag, omega arith)
follow-push begun moment (first ∷ versions) version all now bag = (all.0, all.1, follow-push first.begun moment versions version all.2 now bag)

table_later : (moment later count more number : ℕ) (table : PlainTable) → moment ≤ later → count ≤ more → IsSoundTable moment count number table → IsSoundTable later more number table
table_later moment later count more number table le longer sound = record {
  numbered = sound.numbered;
  group = (sound.group.0, omega (arith, sound.group.1));
  regimes = record { kind = sound.regimes.kind; made = sound.regimes.made; order = sound.regimes.order; begun = omega (arith, sound.regimes.begun) };
  columns = sound.columns;
  key = sound.key;
  versions = follow_later table.made moment later table.versions le sound.versions;
  some = sound.some;
}

pub tables_later : (moment later count more number : ℕ) (tables : List PlainTable) → moment ≤ later → count ≤ more → AreSoundTables moment count number tables → AreSoundTables later more number tables
tables_later moment later count more number [] le longer all = tt
tables_later moment later count more number (table ∷ tables) le longer all =
    (table_later moment later count more number table le longer all.0, tables_later moment later count more (number + 1) tables le longer all.1)

pub tables-push : (moment count number : ℕ) (tables : List PlainTable) (table : PlainTable) → AreSoundTables moment count number tables → IsSoundTable moment count (number + length tables) table → AreSoundTables moment count number (tables ++ table ∷ [])
tables-push moment count number [] table all here = (subst (λ (n : ℕ). IsSoundTable moment count n table) (omega arith) here, tt)
tables-push moment count number (first ∷ tables) table all here =
    (all.0, tables-push moment count (number + 1) tables table all.1 (subst (λ (n : ℕ). IsSoundTable moment count n table) (omega arith) here))

-- the table at a place
pub table_at : (moment count number place : ℕ) (tables : List PlainTable) (table : PlainTable) → AreSoundTables moment count number tables → slice_get tables place ≡ Some table → IsSoundTable moment count (number + place) table
table_at moment count number place [] table all at = absurd (none-some table at)
table_at moment count number zero (first ∷ tables) table all at =
    subst (λ (t : PlainTable). IsSoundTable moment count (number + 0) t) (same_Some first table at) (subst (λ (n : ℕ). IsSoundTable moment count n first) (omega arith) all.0)
table_at moment count number (suc place) (first ∷ tables) table all at =
    subst (λ (n : ℕ). IsSoundTable moment count n table) (omega arith) (table_at moment count (number + 1) place tables table all.1 at)

-- ---- all tables changed alike

abbrev Keeps : ℕ → ℕ → (PlainTable → PlainTable) → Type 0
Keeps moment count f = (number : ℕ) (table : PlainTable) → IsSoundTable moment count number table → IsSoundTable moment count number (f table)

pub tables-map : (moment count number : ℕ) (f : PlainTable → PlainTable) (tables : List PlainTable) → Keeps moment count f → AreSoundTables moment count number tables → AreSoundTables moment count number (map f tables)
tables-map moment count number f [] keeps all = tt
tables-map moment count number f (table ∷ tables) keeps all = (keeps number table all.0, tables-map moment count (number + 1) f tables keeps all.1)

pub keeps_if : (moment count number : ℕ) (test : Bool) (f : PlainTable → PlainTable) (table : PlainTable) → (IsSoundTable moment count number table → IsSoundTable moment count number (f table)) → IsSoundTable moment count number table → IsSoundTable moment count number (if test then f table else table)
keeps_if moment count number true f table keeps sound = keeps sound
keeps_if moment count number false f table keeps sound = sound

pub tables-with : (moment count number : ℕ) (f : PlainTable → PlainTable) (tables : List PlainTable) → Keeps moment count f → AreSoundTables moment count 1 tables → AreSoundTables moment count 1 (with_table number f tables)
tables-with moment count number f tables keeps all =
    tables-map moment count 1 (λ (table : PlainTable). if table.number == number then f table else table) tables
    (λ n table sound. keeps_if moment count n (table.number == number) f table (keeps n table) sound) all

pub keeps_dropped : (moment count : ℕ) (dropped : Option ℕ) → Keeps moment count (λ (table : PlainTable). record table { dropped = dropped })
keeps_dropped moment count dropped number table sound = record {
  numbered = sound.numbered;
  group = sound.group;
  columns = sound.columns;
  key = sound.key;
  versions = sound.versions;
  some = sound.some;
  regimes = record { kind = sound.regimes.kind; made = sound.regimes.made; order = sound.regimes.order; begun = sound.regimes.begun };
}

pub keeps_suspended : (moment count : ℕ) (suspended : Bool) → Keeps moment count (λ (table : PlainTable). record table { suspended = suspended })
keeps_suspended moment count suspended number table sound = record {
  numbered = sound.numbered;
  group = sound.group;
  columns = sound.columns;
  key = sound.key;
  versions = sound.versions;
  some = sound.some;
  regimes = record { kind = sound.regimes.kind; made = sound.regimes.made; order = sound.regimes.order; begun = sound.regimes.begun };
}

pub keeps_renamed : (moment count : ℕ) (names : List (ℕ × List ℕ)) → Keeps moment count (renamed names)
keeps_renamed moment count names number table sound = record {
  numbered = sound.numbered;
  group = sound.group;
  columns = sound.columns;
  key = sound.key;
  versions = sound.versions;
  some = sound.some;
  regimes = record { kind = sound.regimes.kind; made = sound.regimes.made; order = sound.regimes.order; begun = sound.regimes.begun };
}

none_pushed : {A : Type 0} (xs : List A) (x : A) → xs ++ x ∷ [] ≡ [] → ⊥
none_pushed [] x e = cc
none_pushed (y ∷ xs) x e = cc

pub keeps_version : (moment count : ℕ) (rows : List Row) → IsBag rows → Keeps moment count (with_version moment rows)
keeps_version moment count rows bag number table sound = record {
  numbered = sound.numbered;
  group = sound.group;
  columns = sound.columns;
  key = sound.key;
  regimes = record { kind = sound.regimes.kind; made = sound.regimes.made; order = sound.regimes.order; begun = sound.regimes.begun };
  versions = follow-push table.made moment table.versions (record { begun = moment; rows = rows }) sound.versions refl bag;
  some = none_pushed table.versions (record { begun = moment; rows = rows });
}

-- where the first regime begins
abbrev first_begun : List Regime → ℕ
first_begun regimes = elim regimes [ [] ↦ 0 | r ∷ _ ↦ r.begun ]

made_stays : (regimes : List Regime) (r : Regime) (made : ℕ) → (regimes ≡ [] → ⊥) → first_begun regimes ≡ made → first_begun (regimes ++ r ∷ []) ≡ made
made_stays [] r made some e = absurd (some refl)
made_stays (first ∷ regimes) r made some e = e

last_is : (before : Regime) (regimes : List Regime) (r : Regime) → last_regime before (regimes ++ r ∷ []) ≡ r
last_is before [] r = refl
last_is before (first ∷ regimes) r = last_is first regimes r

pub keeps_regime : (moment count days : ℕ) → moment < 2 ^ 62 → days ≤ 90 → Keeps moment count (λ (table : PlainTable). record table { regimes = with_regime table.regimes moment days })
keeps_regime moment count days time few number table sound =
    let regime : Regime = record { begun = moment; days = days } in
    record {
      numbered = sound.numbered;
      group = sound.group;
      columns = sound.columns;
      key = sound.key;
      versions = sound.versions;
      some = sound.some;
      regimes = record {
        kind = sound.regimes.kind;
        made = made_stays table.regimes.regimes regime table.made sound.regimes.order.0 sound.regimes.made;
        order = IsRetention-with_regime table.regimes moment days sound.regimes.order sound.regimes.begun time few;
        begun = subst (λ (r : Regime). r.begun ≤ moment) (sym (last_is (record { begun = 0; days = 0 }) table.regimes.regimes regime)) (omega arith);
      };
    }

-- a key is given to the table of a number alone
pub keys-map : (moment count first number : ℕ) (key : Option ℕ) (tables : List PlainTable) → AreSoundTables moment count first tables
    → ((table : PlainTable) (place : ℕ) → slice_get tables place ≡ Some table → first + place ≡ number → IsKeyOf table.schema key)
    → AreSoundTables moment count first (with_table number (λ (table : PlainTable). record table { key = key }) tables)
keys-map moment count first number key [] all fits = tt
keys-map moment count first number key (table ∷ tables) all fits =
    (here (table.number == number) refl, keys-map moment count (first + 1) number key tables all.1 (λ other place at e. fits other (suc place) at (omega (arith, e))))
  where
    here : (test : Bool) → (table.number == number) ≡ test → IsSoundTable moment count first (if test then record table { key = key } else table)
    here true e = record {
      numbered = all.0.numbered;
      group = all.0.group;
      columns = all.0.columns;
      versions = all.0.versions;
      some = all.0.some;
      regimes = record { kind = all.0.regimes.kind; made = all.0.regimes.made; order = all.0.regimes.order; begun = all.0.regimes.begun };
      key = fits table 0 refl (omega (arith, same_number table.number number e, all.0.numbered));
    }
    here false e = all.0
