-- Tables that are made keep the store sound: by CREATE TABLE and by a clone.
use Rattle.std.specs.Prelude.{Bool, List, None, Option, Some, [], bytes_eq, false, if◌then◌else◌, is_none, length, map, option_to_list, refl, slice_get, true, ℕ, ◌&&◌, ◌++◌, ◌+◌, ◌-◌, ◌<◌, ◌==◌, ◌^◌, ◌∷◌, ◌≡◌, ◌≢◌, ◌≤◌}
use Rattle.std.proofs.Common.{ap, arith, subst, sym, ◌∙◌}
use Rattle.std.proofs.lemmas.Bool.{eq-eqb, false≢true}
use Rattle.std.proofs.lemmas.List.{length-map, length_push}
use Rattle.std.proofs.lemmas.Slice.Eq.{bytes_eq-Decides}
use Rattle.tt_layout.specs.Numbers.{IsAscending}
use Rattle.tt_plain.proofs.law.session.Alone.{IsDue}
use Rattle.tt_plain.proofs.law.change.Apart.{apart_to, find_misses, free_from, get_unmap}
use Rattle.tt_plain.proofs.law.entry.Defines.{define_sound_by, drop_marks, marks_all_live, marks_live}
use Rattle.tt_plain.proofs.law.Past.{get_push}
use Rattle.tt_plain.proofs.law.entry.SessionAlone.{SoundIn}
use Rattle.tt_plain.proofs.law.change.Tables.{table_at}
use Rattle.tt_plain.proofs.law.session.Views.{named, IsNamed}
use Rattle.tt_plain.specs.ValueKinds.{IsFoundByName}
use Rattle.tt_plain.specs.asked.Asked.{Asked, state_asked, table_asked}
use Rattle.tt_plain.specs.asked.Carried.{Carried}
use Rattle.tt_plain.specs.declared.store.PlainTable.{PlainTable}
use Rattle.tt_plain.specs.definition.Create.{replaced}
use Rattle.tt_plain.specs.effect.Apply.{with_table}
use Rattle.tt_plain.specs.effect.Define.{defined}
use Rattle.tt_plain.specs.effect.Effect.{Dropped, Made, TableChange}
use Rattle.tt_plain.specs.law.Changes.{IsFreeName}
use Rattle.tt_plain.specs.law.Sound.{FollowFrom, IsKeyOf, IsSoundTable}
use Rattle.tt_plain.specs.stored.Names.{table_named}
use Rattle.tt_plain.specs.stored.Sessions.{has_mark, others_with}
use Rattle.tt_plain.specs.stored.Tables.{is_live}
use Rattle.tt_plain.specs.tally.Changes.{MakesTable, TallyChange}
use Rattle.tt_retain.specs.Retention.{FollowsFrom, IsRetention, Retention, clone_days, days_of, first_retention, last_begun, last_regime, made_of}
use Rattle.tt_retain.specs.declared.regime.Regime.{Regime}
use Rattle.tt_value.specs.declared.name.TableName.{TableName}
use Rattle.tt_value.specs.declared.value.Row.{Row}
use Rattle.tt_value.specs.values.Bags.{IsBag}

last_days : (before : Regime) (regimes : List Regime) (begun : ℕ) → before.days ≤ 90 → FollowsFrom begun regimes → (last_regime before regimes).days ≤ 90
last_days before [] begun few all = few
last_days before (r ∷ regimes) begun few all = last_days r regimes r.begun all.2 all.3

pub days_few : (table : Retention) → IsRetention table → days_of table ≤ 90
days_few table order = last_days (record { begun = 0; days = 0 }) table.regimes 0 (omega arith) order.1

pub clone_few : (table : Retention) (transient : Bool) → IsRetention table → clone_days table transient ≤ 90
clone_few table true order = omega (arith, days_few table order)
clone_few table false order = days_few table order

first_regimes : (moment days : ℕ) (transient : Bool) → moment < 2 ^ 62 → days ≤ 90 → IsRetention (first_retention moment days transient)
first_regimes moment days transient time few = ((λ e. absurd cc), (omega arith, time, few, tt))

one_version : {A : Type 0} (x : A) → x ∷ [] ≡ [] → ⊥
one_version x e = cc

-- a table that is made at the moment is sound
pub made_sound : (moment count number days : ℕ) (transient : Bool) (rows : List Row) (table : PlainTable) → moment < 2 ^ 62 → days ≤ 90
    → table.number ≡ number → (1 ≤ table.group) × (table.group ≤ count) → table.regimes ≡ first_retention moment days transient → table.transient ≡ transient → table.made ≡ moment
    → table.versions ≡ record { begun = moment; rows = rows } ∷ [] → IsBag rows → IsFoundByName table.schema → IsKeyOf table.schema table.key → IsSoundTable moment count number table
made_sound moment count number days transient rows table time few numbered group regimes kind made versions bag columns key = record {
  numbered = numbered;
  group = group;
  columns = columns;
  key = key;
  regimes = record {
    kind = ap (λ (r : Retention). r.transient) regimes ∙ sym kind;
    made = ap made_of regimes ∙ sym made;
    order = subst IsRetention (sym regimes) (first_regimes moment days transient time few);
    begun = subst (λ (r : Retention). last_begun r ≤ moment) (sym regimes) (omega arith);
  };
  versions = subst (λ (m : ℕ). FollowFrom m moment table.versions) (sym made) (subst (FollowFrom moment moment) (sym versions) (omega arith, bag, omega arith));
  some = λ e. one_version (record { begun = moment; rows = rows }) (sym versions ∙ e);
}

module _ (carried : Carried) (asked : Asked) (due : IsDue carried asked) (closed : (state_asked asked).transaction ≡ false) (idle : (state_asked asked).running ≡ None) where
  abbrev SoundDefined : List TableChange × List TallyChange → Type 0
  SoundDefined changes = SoundIn carried asked.program asked.store (defined asked changes)

  -- the name is free where no live table has it
  pub free_name : (name : TableName) → table_asked asked name ≡ None → IsFreeName asked.store.tables name.name.text
  unfolding table_named
  free_name name e =
      free_from (λ (t : PlainTable). t.name ≢ name.name.text) asked.store.tables (λ place table at live same.
      let missed : (is_live table && bytes_eq table.name name.name.text) ≡ false = find_misses (λ (t : PlainTable). is_live t && bytes_eq t.name name.name.text) asked.store.tables place table e at in
      let there : bytes_eq table.name name.name.text ≡ true = (bytes_eq-Decides table.name name.name.text).1 same in
      false≢true (sym missed ∙ rw (live, there) refl))

  -- the name is free once its table is dropped
  freed_name : (name : TableName) (old : PlainTable) → table_asked asked name ≡ Some old → IsFreeName (with_table old.number (λ (t : PlainTable). record t { dropped = Some asked.moment }) asked.store.tables) name.name.text
  freed_name name old e =
      let n = named carried asked due name old e in
      let f = λ (t : PlainTable). if t.number == old.number then record t { dropped = Some asked.moment } else t in
      free_from (λ (t : PlainTable). t.name ≢ name.name.text) (map f asked.store.tables) (λ place table at live.
      let was = get_unmap f asked.store.tables place table at in other n place was.0 table was.1 was.2 live)
    where
      other : IsNamed carried asked due name old → (place : ℕ) (was table : PlainTable) → slice_get asked.store.tables place ≡ Some was
          → table ≡ (if was.number == old.number then record was { dropped = Some asked.moment } else was) → is_live table ≡ true → table.name ≢ name.name.text
      other n place was table at is live = by (was.number == old.number) refl is
        where
          by : (b : Bool) → (was.number == old.number) ≡ b → table ≡ (if b then record was { dropped = Some asked.moment } else was) → table.name ≢ name.name.text
          by true same f = absurd (false≢true (sym (ap is_live f) ∙ live))
          by false same f =
              let numbered = (table_at asked.store.moment (length asked.store.tables) 1 place asked.store.tables was due.sound.tables at).numbered in
              let apart = apart_to asked.store.tables due.sound.names place (old.number - 1) was old
              (λ g. false≢true (sym same ∙ eq-eqb was.number old.number (omega (arith, g, numbered, n.is.from_one)))) at n.is.there (sym (ap is_live f) ∙ live) (ap (λ (d : Option ℕ). is_none d) n.live) in
              λ g. apart (ap (λ (t : PlainTable). t.name) (sym f) ∙ g ∙ sym n.called)

  -- ---- a table made under a free name, or in the place of another

  new_alone : (table : PlainTable) (parts : List ℕ) → IsSoundTable asked.moment (length asked.store.tables + 1) (length asked.store.tables + 1) table → IsFreeName asked.store.tables table.name → IsAscending parts
      → SoundDefined (Made table ∷ [], MakesTable asked.moment parts ∷ [])
  new_alone table parts good free up =
      define_sound_by carried asked due closed idle (Made table ∷ []) (MakesTable asked.moment parts ∷ []) ((good, free), tt) ((refl, up), tt)
      (length_push asked.store.tally.layouts ((asked.moment, parts) ∷ []) ∙ ap (λ (n : ℕ). n + 1) due.sound.layouts ∙ sym (length_push asked.store.tables table))
      (omega (arith, length_push asked.store.tables table))
      (marks_all_live carried asked due closed idle (asked.store.tables ++ table ∷ []) (λ place old at live. (old, get_push asked.store.tables place old table at, live)))

  new_instead : (old table : PlainTable) (name : TableName) (parts : List ℕ) → table_asked asked name ≡ Some old → others_with (has_mark old.number) asked.store asked.session ≡ [] → table.name ≡ name.name.text
      → IsSoundTable asked.moment (length asked.store.tables + 1) (length asked.store.tables + 1) table → IsAscending parts
      → SoundDefined (Dropped old.number asked.moment ∷ Made table ∷ [], MakesTable asked.moment parts ∷ [])
  new_instead old table name parts e free called good up =
      let later : List PlainTable = with_table old.number (λ (t : PlainTable). record t { dropped = Some asked.moment }) asked.store.tables in
      let many : length later ≡ length asked.store.tables = length-map asked.store.tables (λ (t : PlainTable). if t.number == old.number then record t { dropped = Some asked.moment } else t) in
      define_sound_by carried asked due closed idle (Dropped old.number asked.moment ∷ Made table ∷ []) (MakesTable asked.moment parts ∷ [])
      (refl, ((subst (λ (n : ℕ). IsSoundTable asked.moment (n + 1) (n + 1) table) (sym many) good, subst (IsFreeName later) (sym called) (freed_name name old e)), tt)) ((refl, up), tt)
      (length_push asked.store.tally.layouts ((asked.moment, parts) ∷ []) ∙ ap (λ (n : ℕ). n + 1) (due.sound.layouts ∙ sym many) ∙ sym (length_push later table))
      (omega (arith, many, length_push later table))
      (λ session state at.
      marks_live later (later ++ table ∷ []) state.marks (λ place t there live. (t, get_push later place t table there, live)) (drop_marks carried asked due closed idle old.number free session state at))

  pub new_table : (replaces : Bool) (name : TableName) (table : PlainTable) (parts : List ℕ) → (replaces ≡ false → table_asked asked name ≡ None)
      → ((old : PlainTable) → replaces ≡ true → table_asked asked name ≡ Some old → others_with (has_mark old.number) asked.store asked.session ≡ []) → table.name ≡ name.name.text
      → IsSoundTable asked.moment (length asked.store.tables + 1) (length asked.store.tables + 1) table → IsAscending parts
      → SoundDefined (replaced asked replaces name ++ Made table ∷ [], MakesTable asked.moment parts ∷ [])
  new_table false name table parts free held called good up = new_alone table parts good (subst (IsFreeName asked.store.tables) (sym called) (free_name name (free refl))) up
  new_table true name table parts free held called good up = by (table_asked asked name) refl
    where
      by : (old : Option PlainTable) → table_asked asked name ≡ old
          → SoundDefined (map (λ (t : PlainTable). Dropped t.number asked.moment) (option_to_list old) ++ Made table ∷ [], MakesTable asked.moment parts ∷ [])
      by None e = new_alone table parts good (subst (IsFreeName asked.store.tables) (sym called) (free_name name e)) up
      by (Some old) e = new_instead old table name parts e (held old refl e) called good up
