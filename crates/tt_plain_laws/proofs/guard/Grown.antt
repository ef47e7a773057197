-- Changes of tables under which no table that a session has marked for itself loses a row.
use Rattle.std.specs.List.{last_or}
use Rattle.std.specs.Prelude.{Bool, List, None, Option, Some, [], false, fold, if◌then◌else◌, length, map, refl, slice_get, true, ℕ, ⊤, ◌++◌, ◌+◌, ◌-◌, ◌<◌, ◌==◌, ◌∷◌, ◌≡◌, ◌≤◌}
use Rattle.std.proofs.Common.{ap, arith, subst, suc, sym, zero, ◌∙◌}
use Rattle.std.proofs.lemmas.List.{length-map, length_push}
use Rattle.tt_plain.proofs.Tests.{same_number}
use Rattle.tt_plain.proofs.law.change.Apart.{get_unmap}
use Rattle.tt_plain.specs.declared.store.PlainSession.{PlainSession}
use Rattle.tt_plain.specs.declared.store.PlainTable.{PlainTable}
use Rattle.tt_plain.specs.effect.Apply.{changed_table, renamed, with_version}
use Rattle.tt_plain.specs.effect.Effect.{Dropped, Made, NewKey, NewRegime, NewVersion, Renamed, Suspended, TableChange, Undropped}
use Rattle.tt_plain.specs.law.Isolated.{AreAmong}
use Rattle.tt_plain.specs.law.Lists.{Every}
use Rattle.tt_plain.specs.stored.Sessions.{has_exclusive_mark}
use Rattle.tt_plain.specs.stored.Tables.{current_rows}
use Rattle.tt_retain.specs.Retention.{with_regime}
use Rattle.tt_value.specs.declared.value.Row.{Row}
use Rattle.tt_plain_laws.proofs.guard.Among.{among_itself}

-- a table after some changes: what it was, and that it has lost no row where the session has it for itself
pub record Grown (state : PlainSession) (tables : List PlainTable) (number : ℕ) (new : PlainTable) : Type 0 where
  pub old : PlainTable
  pub was : slice_get tables (number - 1) ≡ Some old
  pub same : new.number ≡ old.number
  pub more : has_exclusive_mark number state ≡ true → AreAmong (current_rows old) (current_rows new)

pub record Grows (state : PlainSession) (tables later : List PlainTable) : Type 0 where
  pub many : length tables ≤ length later
  pub each : (number : ℕ) (new : PlainTable) → 1 ≤ number → number ≤ length tables → slice_get later (number - 1) ≡ Some new → Grown state tables number new

-- a version that begins has lost no row, where the session has the table for itself
abbrev pub Spares : List PlainTable → PlainSession → TableChange → Type 0
Spares tables state (Made table) = ⊤
Spares tables state (Dropped number moment) = ⊤
Spares tables state (Undropped number) = ⊤
Spares tables state (Renamed names) = ⊤
Spares tables state (NewVersion number moment rows) =
    (old : PlainTable) → slice_get tables (number - 1) ≡ Some old → has_exclusive_mark number state ≡ true → AreAmong (current_rows old) rows
Spares tables state (NewRegime number moment days) = ⊤
Spares tables state (NewKey number key) = ⊤
Spares tables state (Suspended number suspended) = ⊤

-- each table has the number of its place
abbrev pub AreNumbered : List PlainTable → Type 0
AreNumbered tables = (place : ℕ) (table : PlainTable) → slice_get tables place ≡ Some table → table.number ≡ place + 1

pub last_pushed : {A : Type 0} (before : Option A) (xs : List A) (x : A) → last_or before (xs ++ x ∷ []) ≡ Some x
last_pushed before [] x = refl
last_pushed before (y ∷ xs) x = last_pushed (Some y) xs x

pub push_get : {A : Type 0} (xs : List A) (x : A) (k : ℕ) → k < length xs → slice_get (xs ++ x ∷ []) k ≡ slice_get xs k
push_get [] x k within = absurd (omega (arith, within))
push_get (y ∷ xs) x zero within = refl
push_get (y ∷ xs) x (suc k) within = push_get xs x k (omega (arith, within))

-- what a change makes of a table
record Turns (state : PlainSession) (tables : List PlainTable) (number : ℕ) (before after : PlainTable) : Type 0 where
  numbered : after.number ≡ before.number
  rows : (old : PlainTable) → slice_get tables (number - 1) ≡ Some old → before.number ≡ old.number → has_exclusive_mark number state ≡ true
      → AreAmong (current_rows old) (current_rows before) → AreAmong (current_rows old) (current_rows after)

module _ (state : PlainSession) (tables : List PlainTable) where
  grows_map : (f : PlainTable → PlainTable) (now : List PlainTable) → ((number : ℕ) (table : PlainTable) → 1 ≤ number → Turns state tables number table (f table))
      → Grows state tables now → Grows state tables (map f now)
  grows_map f now turns grows = record {
    many = omega (arith, grows.many, length-map now f);
    each = λ number new from_one within at.
        let was = get_unmap f now (number - 1) new at in
        let before = grows.each number was.0 from_one within was.1 in
        let turn = turns number was.0 from_one in
        subst (Grown state tables number) (sym was.2) (record {
          old = before.old;
          was = before.was;
          same = turn.numbered ∙ before.same;
          more = λ held. turn.rows before.old before.was before.same held (before.more held);
        });
  }

  same_turn : (number : ℕ) (before after : PlainTable) → after.number ≡ before.number → current_rows after ≡ current_rows before → Turns state tables number before after
  same_turn number before after numbered rows =
      record { numbered = numbered; rows = λ old at same held among. subst (AreAmong (current_rows old)) (sym rows) among }

  turn_if : (test : Bool) (number : ℕ) (before after : PlainTable) → (test ≡ true → Turns state tables number before after) → Turns state tables number before (if test then after else before)
  turn_if true number before after turn = turn refl
  turn_if false number before after turn = same_turn number before before refl refl

  grows_with : (changed : ℕ) (f : PlainTable → PlainTable) (now : List PlainTable) → ((table : PlainTable) → (f table).number ≡ table.number) → ((table : PlainTable) → current_rows (f table) ≡ current_rows table)
      → Grows state tables now → Grows state tables (map (λ (table : PlainTable). if table.number == changed then f table else table) now)
  grows_with changed f now numbered rows grows =
      grows_map (λ (table : PlainTable). if table.number == changed then f table else table) now
      (λ number table from_one. turn_if (table.number == changed) number table (f table) (λ test. same_turn number table (f table) (numbered table) (rows table))) grows

  grows_version : (changed moment : ℕ) (rows : List Row) (now : List PlainTable) → AreNumbered tables → Spares tables state (NewVersion changed moment rows)
      → Grows state tables now → Grows state tables (map (λ (table : PlainTable). if table.number == changed then with_version moment rows table else table) now)
  grows_version changed moment rows now numbered spares grows =
      grows_map (λ (table : PlainTable). if table.number == changed then with_version moment rows table else table) now
      (λ number table from_one. turn_if (table.number == changed) number table (with_version moment rows table) (λ test. record {
        numbered = refl;
        rows = λ old at same held among.
            let is : changed ≡ number = omega (arith, same_number table.number changed test, same, numbered (number - 1) old at, from_one) in
            subst (AreAmong (current_rows old)) (sym (version_rows table))
            (spares old (ap (λ (n : ℕ). slice_get tables (n - 1)) is ∙ at) (subst (λ (n : ℕ). has_exclusive_mark n state ≡ true) (sym is) held));
      })) grows
    where
      version_rows : (table : PlainTable) → current_rows (with_version moment rows table) ≡ rows
      version_rows table = rw (last_pushed None table.versions (record { begun = moment; rows = rows })) refl

  grows_changed : (now : List PlainTable) (change : TableChange) → AreNumbered tables → Spares tables state change → Grows state tables now → Grows state tables (changed_table now change)
  grows_changed now (Made table) numbered spares grows = record {
    many = omega (arith, grows.many, length_push now table);
    each = λ number new from_one within at. grows.each number new from_one within (sym (push_get now table (number - 1) (omega (arith, from_one, within, grows.many))) ∙ at);
  }
  grows_changed now (Dropped number moment) numbered spares grows = grows_with number (λ (t : PlainTable). record t { dropped = Some moment }) now (λ t. refl) (λ t. refl) grows
  grows_changed now (Undropped number) numbered spares grows = grows_with number (λ (t : PlainTable). record t { dropped = None }) now (λ t. refl) (λ t. refl) grows
  grows_changed now (Renamed names) numbered spares grows = grows_map (renamed names) now (λ number table from_one. same_turn number table (renamed names table) refl refl) grows
  grows_changed now (NewVersion number moment rows) numbered spares grows = grows_version number moment rows now numbered spares grows
  grows_changed now (NewRegime number moment days) numbered spares grows =
      grows_with number (λ (t : PlainTable). record t { regimes = with_regime t.regimes moment days }) now (λ t. refl) (λ t. refl) grows
  grows_changed now (NewKey number key) numbered spares grows = grows_with number (λ (t : PlainTable). record t { key = key }) now (λ t. refl) (λ t. refl) grows
  grows_changed now (Suspended number suspended) numbered spares grows = grows_with number (λ (t : PlainTable). record t { suspended = suspended }) now (λ t. refl) (λ t. refl) grows

  grows_fold : (now : List PlainTable) (changes : List TableChange) → AreNumbered tables → Every (Spares tables state) changes → Grows state tables now → Grows state tables (fold changed_table now changes)
  grows_fold now [] numbered spares grows = grows
  grows_fold now (change ∷ changes) numbered spares grows =
      grows_fold (changed_table now change) changes numbered spares.1 (grows_changed now change numbered spares.0 grows)

  grows_itself : Grows state tables tables
  grows_itself = record {
    many = omega arith;
    each = λ number new from_one within at. record { old = new; was = at; same = refl; more = λ held. among_itself (current_rows new) };
  }

  pub grows_by : (changes : List TableChange) → AreNumbered tables → Every (Spares tables state) changes → Grows state tables (fold changed_table tables changes)
  grows_by changes numbered spares = grows_fold tables changes numbered spares grows_itself
