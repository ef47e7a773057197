-- Effects that begin versions of tables: what is pending becomes theirs.
use Rattle.std.specs.Prelude.{Bool, List, None, Option, Some, [], false, flat_map, fold, if◌then◌else◌, length, map, option_to_list, refl, slice_get, true, ℕ, ◌&&◌, ◌-◌, ◌<◌, ◌==◌, ◌^◌, ◌∷◌, ◌≡◌, ◌≤◌}
use Rattle.std.proofs.Common.{ap, arith, inl, inr, subst, suc, sym, zero, ◌∙◌}
use Rattle.std.proofs.lemmas.List.{length-map}
use Rattle.std.proofs.lemmas.Option.{none-some, same_Some}
use Rattle.tt_history.specs.declared.reply.Reply.{Reply}
use Rattle.tt_plain.proofs.law.session.Alone.{IsDue, StandsAlone, holders_set, set_at}
use Rattle.tt_plain.proofs.law.Lists.{every-append, every_on}
use Rattle.tt_plain.proofs.law.session.Views.{with_bag}
use Rattle.tt_plain.specs.asked.Asked.{Asked}
use Rattle.tt_plain.specs.asked.Carried.{Carried}
use Rattle.tt_plain.specs.declared.store.Plain.{Plain}
use Rattle.tt_plain.specs.declared.store.PlainMark.{PlainMark}
use Rattle.tt_plain.specs.declared.store.PlainPending.{PlainPending}
use Rattle.tt_plain.specs.declared.store.PlainSession.{PlainSession}
use Rattle.tt_plain.specs.declared.store.PlainTable.{PlainTable}
use Rattle.tt_plain.specs.effect.Apply.{applied, changed_table, with_table, with_version}
use Rattle.tt_plain.specs.effect.Commit.{version_begun, version_committed}
use Rattle.tt_plain.specs.effect.Effect.{NewVersion, TableChange}
use Rattle.tt_plain.specs.law.Changes.{AreSoundTableChanges, AreSoundTallyChanges, IsSoundEffect}
use Rattle.tt_plain.specs.law.Lists.{Every}
use Rattle.tt_plain.specs.law.Sound.{AreRowsOf, IsSoundMark, IsSoundPending, IsSoundSession}
use Rattle.tt_plain.specs.stored.Tables.{current_rows, table_numbered}
use Rattle.tt_plain.specs.tally.Changes.{TallyChange, changed_tally}
use Rattle.tt_script.specs.declared.script.Script.{Script}
use Rattle.tt_value.specs.declared.value.Row.{Row}
use Rattle.tt_value.specs.values.Bags.{IsBag}

-- ---- a session over more tables

rows_more : (count more : ℕ) (seen : ℕ × List Row) → count ≤ more → AreRowsOf count seen → AreRowsOf more seen
rows_more count more seen le rows = (rows.0, omega (arith, rows.1), rows.2)

pub session_over : (carried : Carried) (program : Script) (tables later : List PlainTable) (session : ℕ) (state : PlainSession) → length tables ≤ length later → Every (IsSoundMark later) state.marks
    → IsSoundSession carried program tables session state → IsSoundSession carried program later session state
session_over carried program tables later session state le marked sound = record {
  pending = sound.pending;
  marks = sound.marks;
  marked = marked;
  closed = sound.closed;
  unmarked = sound.unmarked;
  rows = every_on (IsSoundPending (length tables)) (IsSoundPending (length later)) state.pending (λ pending h. (rows_more (length tables) (length later) (pending.table, pending.gone) le h.0, h.1)) sound.rows;
  running = λ seen e.
      let opened = sound.running seen e in
      record {
        counted = opened.counted;
        before = opened.before;
        kept = opened.kept;
        alone = opened.alone;
        query = opened.query;
        sources = every_on (AreRowsOf (length tables)) (AreRowsOf (length later)) seen.sources (λ s h. rows_more (length tables) (length later) s le h) opened.sources;
        target = every_on (AreRowsOf (length tables)) (AreRowsOf (length later)) (option_to_list seen.target) (λ s h. rows_more (length tables) (length later) s le h) opened.target;
      };
}

-- ---- tables with more versions

-- as many tables, and each live one still live
pub record Stays (tables later : List PlainTable) : Type 0 where
  pub many : length later ≡ length tables
  pub lives : (place : ℕ) (table : PlainTable) → slice_get tables place ≡ Some table → table.dropped ≡ None → (t : PlainTable) × (slice_get later place ≡ Some t) × (t.dropped ≡ None)

pub get_map : (f : PlainTable → PlainTable) (tables : List PlainTable) (place : ℕ) (table : PlainTable) → slice_get tables place ≡ Some table → slice_get (map f tables) place ≡ Some (f table)
get_map f [] place table e = absurd (none-some table e)
get_map f (first ∷ tables) zero table e = ap (λ (t : PlainTable). Some (f t)) (same_Some first table e)
get_map f (first ∷ tables) (suc place) table e = get_map f tables place table e

if_dropped : (test : Bool) (moment : ℕ) (rows : List Row) (table : PlainTable) → table.dropped ≡ None → (if test then with_version moment rows table else table).dropped ≡ None
if_dropped true moment rows table e = e
if_dropped false moment rows table e = e

version_stays : (number moment : ℕ) (rows : List Row) (tables : List PlainTable) → Stays tables (with_table number (with_version moment rows) tables)
version_stays number moment rows tables =
    let f = λ (table : PlainTable). if table.number == number then with_version moment rows table else table in
    record {
      many = length-map tables f;
      lives = λ place table e live. (f table, get_map f tables place table e, if_dropped (table.number == number) moment rows table live);
    }

stays_on : (a b c : List PlainTable) → Stays a b → Stays b c → Stays a c
stays_on a b c left right = record {
  many = right.many ∙ left.many;
  lives = λ place table e live. let t = left.lives place table e live in right.lives place t.0 t.1 t.2;
}

pub marks_stay : (tables later : List PlainTable) (marks : List PlainMark) → Stays tables later → Every (IsSoundMark tables) marks → Every (IsSoundMark later) marks
marks_stay tables later marks stays all =
    every_on (IsSoundMark tables) (IsSoundMark later) marks (λ mark there.
    let t = stays.lives (mark.table - 1) there.table there.table_is there.so in
    record { table = t.0; from_one = there.from_one; table_is = t.1; so = t.2 }) all

-- changes that only begin versions, of bags, at the moment
abbrev pub BeginsVersion : ℕ → TableChange → Type 0
BeginsVersion moment (NewVersion number begun rows) = (begun ≡ moment) × IsBag rows
BeginsVersion moment _ = ⊥

pub versions_sound : (moment : ℕ) (tables : List PlainTable) (changes : List TableChange) → Every (BeginsVersion moment) changes → AreSoundTableChanges moment tables changes × Stays tables (fold changed_table tables changes)
versions_sound moment tables [] all = (tt, record { many = refl; lives = λ place table e live. (table, e, live) })
versions_sound moment tables (NewVersion number begun rows ∷ changes) all =
    let rest = versions_sound moment (with_table number (with_version begun rows) tables) changes all.1 in
    ((all.0, rest.0), stays_on tables (with_table number (with_version begun rows) tables) (fold changed_table (with_table number (with_version begun rows) tables) changes) (version_stays number begun rows tables) rest.1)
versions_sound moment tables (_ ∷ changes) all = absurd all.0

-- what is pending of a table begins as a version of it
version_of : (moment : ℕ) (pending : PlainPending) (table : Option PlainTable) → Every (BeginsVersion moment) (version_begun moment pending table)
version_of moment pending None = tt
version_of moment pending (Some table) = ((refl, with_bag (current_rows table) pending), tt)

version_unless : (test : Bool) (moment : ℕ) (changes : List TableChange) → Every (BeginsVersion moment) changes → Every (BeginsVersion moment) (if test then [] else changes)
version_unless true moment changes all = tt
version_unless false moment changes all = all

pub committed_version : (store : Plain) (moment : ℕ) (pending : PlainPending) → Every (BeginsVersion moment) (version_committed store moment pending)
committed_version store moment pending =
    version_unless (length pending.gone == 0 && length pending.added == 0) moment (version_begun moment pending (table_numbered store pending.table)) (version_of moment pending (table_numbered store pending.table))

pub committed_versions : (store : Plain) (moment : ℕ) (pendings : List PlainPending) → Every (BeginsVersion moment) (flat_map (version_committed store moment) pendings)
committed_versions store moment [] = tt
committed_versions store moment (pending ∷ pendings) =
    every-append (BeginsVersion moment) (version_committed store moment pending) (flat_map (version_committed store moment) pendings) (committed_version store moment pending) (committed_versions store moment pendings)

-- ---- an effect that begins versions

module _ (carried : Carried) (asked : Asked) (due : IsDue carried asked) where
  pub versions_effect : (new : PlainSession) (changes : List TableChange) (points : List (ℕ × ℕ)) (tally : List TallyChange) (reply : Option Reply)
      → asked.moment < 2 ^ 62 → IsSoundSession carried asked.program asked.store.tables asked.session new → StandsAlone asked new → Every (BeginsVersion asked.moment) changes
      → AreSoundTallyChanges asked.moment asked.store.tally tally → length (fold changed_tally asked.store.tally tally).layouts ≡ length asked.store.tally.layouts
      → IsSoundEffect carried asked.program asked.store (record { session = Some (asked.session, new); tables = changes; points = points; tally = tally; moment = asked.moment; reply = reply })
  unfolding applied
  versions_effect new changes points tally reply time sound apart versions talled layouts =
      let both = versions_sound asked.moment asked.store.tables changes versions in
      let later : List PlainTable = fold changed_table asked.store.tables changes in
      let le : length asked.store.tables ≤ length later = omega (arith, both.1.many) in
      record {
        later = omega (arith, due.next);
        time = time;
        tables = both.0;
        tally = talled;
        paired = layouts ∙ due.sound.layouts ∙ sym both.1.many;
        each = λ session state at. elim (set_at asked.store.sessions asked.session new session state at) [
          | inl h ↦ subst (λ (s : PlainSession). IsSoundSession carried asked.program later session s) (sym h.1)
              (subst (λ (n : ℕ). IsSoundSession carried asked.program later n new) (sym h.0)
              (session_over carried asked.program asked.store.tables later asked.session new le (marks_stay asked.store.tables later new.marks both.1 sound.marked) sound))
          | inr h ↦ session_over carried asked.program asked.store.tables later session state le (marks_stay asked.store.tables later state.marks both.1 (due.sound.each session state h).marked) (due.sound.each session state h)
        ];
        holders = holders_set carried asked due new apart;
      }
