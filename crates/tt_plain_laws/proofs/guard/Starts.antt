-- The start of a query or a change keeps the guards.
use Rattle.std.specs.List.{list_any}
use Rattle.std.specs.Prelude.{Bool, List, None, Option, Some, [], false, filter, nat_lt, not, option_map, option_to_list, refl, true, ℕ, ◌==◌, ◌||◌, ◌∷◌, ◌≡◌, ◌≢◌}
use Rattle.std.proofs.Common.{inl, inr, subst, sym, ◌∙◌}
use Rattle.std.proofs.Math.Bool.{or-true}
use Rattle.std.proofs.lemmas.Bool.{and_parts, eq-eqb, false≢true, or_cases}
use Rattle.std.proofs.lemmas.List.Folds.{list_any-append}
use Rattle.std.proofs.lemmas.Option.{same_Some}
use Rattle.tt_history.specs.declared.history.Told.{Told}
use Rattle.tt_plain.proofs.Tests.{same_number, same_test}
use Rattle.tt_plain.proofs.law.Gives.{Gives}
use Rattle.tt_plain.proofs.law.Lists.{every_on}
use Rattle.tt_plain.proofs.law.Turns.{due_gives}
use Rattle.tt_plain.proofs.law.session.Alone.{IsDue}
use Rattle.tt_plain.proofs.law.session.Marks.{kept_put}
use Rattle.tt_plain.proofs.law.session.Views.{named}
use Rattle.tt_plain.specs.Answers.{◌>>=◌}
use Rattle.tt_plain.specs.asked.Asked.{Asked, own_point, request_asked, state_asked, table_asked}
use Rattle.tt_plain.specs.asked.Carried.{Carried}
use Rattle.tt_plain.specs.asked.Request.{Reads, Request, Writes}
use Rattle.tt_plain.specs.declared.store.PlainMark.{PlainMark}
use Rattle.tt_plain.specs.declared.store.PlainOpen.{PlainOpen}
use Rattle.tt_plain.specs.declared.store.PlainSession.{PlainSession}
use Rattle.tt_plain.specs.declared.store.PlainTable.{PlainTable}
use Rattle.tt_plain.specs.declared.tally.TallyPin.{TallyPin}
use Rattle.tt_plain.specs.effect.Effect.{Effect}
use Rattle.tt_plain.specs.effect.Ending.{memory_effect}
use Rattle.tt_plain.specs.effect.Start.{begun, begun_by, start_effect}
use Rattle.tt_plain.specs.law.Isolated.{AreAmong, IsIsolatedPending, IsIsolatedTarget}
use Rattle.tt_plain.specs.law.Lists.{Every}
use Rattle.tt_plain.specs.law.Sound.{AreKept, is_kept_by}
use Rattle.tt_plain.specs.opening.Marks.{is_exclusive_on, marks_exclusively, with_mark}
use Rattle.tt_plain.specs.opening.Opened.{change_opened, opened, query_opened, sources_seen, target_of, target_rows}
use Rattle.tt_plain.specs.opening.Point.{change_sources, query_sources}
use Rattle.tt_plain.specs.opening.Seen.{visible_rows}
use Rattle.tt_plain.specs.stored.Points.{no_point_yet}
use Rattle.tt_plain.specs.stored.Tables.{table_numbered}
use Rattle.tt_plain.specs.tally.Changes.{Pins}
use Rattle.tt_plain.specs.tally.Pins.{change_pins, source_pins}
use Rattle.tt_sql.specs.declared.change.Dml.{Dml}
use Rattle.tt_sql.specs.declared.query.Query.{Query}
use Rattle.tt_value.proofs.values.Bags.{minus_none}
use Rattle.tt_value.specs.declared.value.Row.{Row}
use Rattle.tt_plain_laws.proofs.guard.Among.{among_itself}
use Rattle.tt_plain_laws.proofs.guard.Kept.{KeepsGuards, Rests}
use Rattle.tt_plain_laws.proofs.guard.Sessions.{alone_keeps, memory_keeps, own_rests, told_keeps}
use Rattle.tt_plain_laws.specs.Guarded.{AreGuarded, IsGuarded, IsGuardedBy}
use Rattle.tt_plain.specs.asked.Event as event
use Rattle.tt_sql.specs.declared.change.Dml.TheVariants as dml

-- ---- marks that are kept, and the new one

covered_by : (test : PlainMark → Bool) (mark : PlainMark) (marks : List PlainMark) → ((other : PlainMark) → is_kept_by mark other ≡ true → test other ≡ true) → list_any (is_kept_by mark) marks ≡ true → list_any test marks ≡ true
covered_by test mark [] on e = absurd (false≢true e)
covered_by test mark (other ∷ marks) on e = elim (or_cases (is_kept_by mark other) (list_any (is_kept_by mark) marks) e) [
  | inl h ↦ rw (on other h) refl
  | inr h ↦ rw (covered_by test mark marks on h) (or-true (test other))
]

pub any_covered : (test : PlainMark → Bool) (before marks : List PlainMark) → ((mark other : PlainMark) → test mark ≡ true → is_kept_by mark other ≡ true → test other ≡ true) → AreKept before marks
    → list_any test before ≡ true → list_any test marks ≡ true
any_covered test [] marks on all e = absurd (false≢true e)
any_covered test (mark ∷ before) marks on all e = elim (or_cases (test mark) (list_any test before) e) [
  | inl h ↦ covered_by test mark marks (λ other k. on mark other h k) all.0
  | inr h ↦ any_covered test before marks on all.1 h
]

pub same_table : (table : ℕ) (mark other : PlainMark) → (mark.table == table) ≡ true → is_kept_by mark other ≡ true → (other.table == table) ≡ true
same_table table mark other on kept =
    let both = and_parts (other.table == mark.table) (other.exclusive || not mark.exclusive) kept in
    eq-eqb other.table table (same_number other.table mark.table both.0 ∙ same_number mark.table table on)

stays_exclusive : (b c : Bool) → c ≡ true → (b || not c) ≡ true → b ≡ true
stays_exclusive b true e f = elim (or_cases b (not true) f) [ inl h ↦ h | inr h ↦ absurd (false≢true h) ]
stays_exclusive b false e f = absurd (false≢true e)

pub same_exclusive : (table : ℕ) (mark other : PlainMark) → is_exclusive_on table mark ≡ true → is_kept_by mark other ≡ true → is_exclusive_on table other ≡ true
same_exclusive table mark other on kept =
    let mine = and_parts (mark.table == table) mark.exclusive on in
    let both = and_parts (other.table == mark.table) (other.exclusive || not mark.exclusive) kept in
    rw (same_table table mark other mine.0 kept, stays_exclusive other.exclusive mark.exclusive mine.1 both.1) refl

pub guard_put : (table : ℕ) (exclusive : Bool) (marks : List PlainMark) (t : ℕ) → list_any (λ (mark : PlainMark). mark.table == t) marks ≡ true → list_any (λ (mark : PlainMark). mark.table == t) (with_mark table exclusive marks) ≡ true
guard_put table exclusive marks t e = any_covered (λ (mark : PlainMark). mark.table == t) marks (with_mark table exclusive marks) (same_table t) (kept_put table exclusive marks) e

pub exclusive_stays : (table : ℕ) (exclusive : Bool) (marks : List PlainMark) (t : ℕ) → list_any (is_exclusive_on t) marks ≡ true → list_any (is_exclusive_on t) (with_mark table exclusive marks) ≡ true
exclusive_stays table exclusive marks t e = any_covered (is_exclusive_on t) marks (with_mark table exclusive marks) (same_exclusive t) (kept_put table exclusive marks) e

pub new_there : (test : PlainMark → Bool) (table : ℕ) (exclusive : Bool) (marks : List PlainMark) → test (record { table = table; exclusive = exclusive || list_any (is_exclusive_on table) marks }) ≡ true
    → list_any test (with_mark table exclusive marks) ≡ true
new_there test table exclusive marks e =
    list_any-append test (filter (λ (mark : PlainMark). nat_lt mark.table table) marks)
    (record { table = table; exclusive = exclusive || list_any (is_exclusive_on table) marks } ∷ filter (λ (mark : PlainMark). nat_lt table mark.table) marks)
    ∙ rw e (or-true (list_any test (filter (λ (mark : PlainMark). nat_lt mark.table table) marks)))

module _ (carried : Carried) (asked : Asked) (due : IsDue carried asked) (guarded : AreGuarded asked.store) where
  abbrev Keeps : Effect → Type 0
  Keeps effect = KeepsGuards asked.store effect

  abbrev state : PlainSession
  state = state_asked asked

  begun_keeps : (new : PlainSession) (pins : List TallyPin) → IsGuarded asked.store new → Keeps (begun asked new pins)
  begun_keeps new pins good =
      alone_keeps carried asked due guarded new ((own_point asked, no_point_yet) ∷ []) (Pins asked.session pins ∷ []) asked.moment None good

  lasting_now : Every (IsGuardedBy state.marks) state.pending
  lasting_now = every_on (Rests asked.store state.marks) (IsGuardedBy state.marks) state.pending (λ pending rests. rests.0) (own_rests carried asked due guarded)

  -- ---- queries

  abbrev reading : List (ℕ × List Row) → PlainSession
  reading sources = record state { running = Some (opened asked sources None) }

  query_guarded : (sources : List (ℕ × List Row)) → IsGuarded asked.store (reading sources)
  query_guarded sources = record {
    isolated = record {
      pending = every_on (Rests asked.store state.marks) (IsIsolatedPending asked.store (reading sources)) state.pending
          (λ pending rests. record { marked = rests.0.0; exclusive = rests.0.1; among = rests.1 }) (own_rests carried asked due guarded);
      target = λ seen e. subst (λ (s : PlainOpen). Every (IsIsolatedTarget asked.store (reading sources)) (option_to_list s.target)) (same_Some (opened asked sources None) seen e) tt;
    };
    lasting = lasting_now;
  }

  query_begun : (q : Query) → Gives Keeps (option_map (λ new. begun asked new (source_pins asked (query_sources q))) (query_opened asked q))
  unfolding query_opened
  query_begun q = seen (sources_seen asked (query_sources q))
    where
      seen : (sources : Option (List (ℕ × List Row)))
          → Gives Keeps (option_map (λ new. begun asked new (source_pins asked (query_sources q))) (sources >>= λ sources. Some (record (state_asked asked) { running = Some (opened asked sources None) })))
      seen None = tt
      seen (Some sources) = begun_keeps (reading sources) (source_pins asked (query_sources q)) (query_guarded sources)

  -- ---- changes

  abbrev changing : PlainTable → Dml → List (ℕ × List Row) → PlainSession
  changing table d sources = record (state_asked asked) {
    running = Some (opened asked sources (Some (table.number, target_rows (state_asked asked) table d)));
    marks = with_mark table.number (marks_exclusively d) (state_asked asked).marks;
  }

  exclusive_rows : (table : PlainTable) (d : Dml) → target_rows state table d ≢ [] → marks_exclusively d ≡ true
  exclusive_rows table (dml.Insert i) some = absurd (some refl)
  exclusive_rows table (dml.Update u) some = refl
  exclusive_rows table (dml.Delete d) some = refl
  exclusive_rows table (dml.Copy c) some = absurd (some refl)

  still_visible : (table : PlainTable) (d e : Dml) (sources : List (ℕ × List Row)) → AreAmong (target_rows state table d) (visible_rows (changing table e sources) table)
  unfolding visible_rows
  still_visible table (dml.Insert i) e sources = minus_none (visible_rows (changing table e sources) table)
  still_visible table (dml.Update u) e sources = among_itself (visible_rows state table)
  still_visible table (dml.Delete d) e sources = among_itself (visible_rows state table)
  still_visible table (dml.Copy c) e sources = minus_none (visible_rows (changing table e sources) table)

  target_isolated : (table : PlainTable) (d : Dml) (sources : List (ℕ × List Row)) → table_numbered asked.store table.number ≡ Some table
      → IsIsolatedTarget asked.store (changing table d sources) (table.number, target_rows state table d)
  target_isolated table d sources there = record {
    marked = new_there (λ (mark : PlainMark). mark.table == table.number) table.number (marks_exclusively d) state.marks (same_test table.number);
    exclusive = λ some. new_there (is_exclusive_on table.number) table.number (marks_exclusively d) state.marks (rw (same_test table.number, exclusive_rows table d some) refl);
    among = λ other at. subst (λ (t : PlainTable). AreAmong (target_rows state table d) (visible_rows (changing table d sources) t)) (same_Some table other (sym there ∙ at)) (still_visible table d d sources);
  }

  change_guarded : (table : PlainTable) (d : Dml) (sources : List (ℕ × List Row)) → table_numbered asked.store table.number ≡ Some table → IsGuarded asked.store (changing table d sources)
  change_guarded table d sources there = record {
    isolated = record {
      pending = every_on (Rests asked.store state.marks) (IsIsolatedPending asked.store (changing table d sources)) state.pending (λ pending rests. record {
        marked = guard_put table.number (marks_exclusively d) state.marks pending.table rests.0.0;
        exclusive = λ some. exclusive_stays table.number (marks_exclusively d) state.marks pending.table (rests.0.1 some);
        among = rests.1;
      }) (own_rests carried asked due guarded);
      target = λ seen e. subst (λ (s : PlainOpen). Every (IsIsolatedTarget asked.store (changing table d sources)) (option_to_list s.target))
          (same_Some (opened asked sources (Some (table.number, target_rows state table d))) seen e) (target_isolated table d sources there, tt);
    };
    lasting = lasting_now;
  }

  change_begun : (d : Dml) → Gives Keeps (option_map (λ new. begun asked new (change_pins asked d)) (change_opened asked d))
  unfolding change_opened
  change_begun d = found (table_asked asked (target_of d)) refl
    where
      seen : (table : PlainTable) → table_asked asked (target_of d) ≡ Some table → (sources : Option (List (ℕ × List Row)))
          → Gives Keeps (option_map (λ new. begun asked new (change_pins asked d)) (sources >>= λ sources. Some (changing table d sources)))
      seen table e None = tt
      seen table e (Some sources) =
          begun_keeps (changing table d sources) (change_pins asked d) (change_guarded table d sources (named carried asked due (target_of d) table e).is.there)

      found : (table : Option PlainTable) → table_asked asked (target_of d) ≡ table
          → Gives Keeps (option_map (λ new. begun asked new (change_pins asked d)) (table >>= λ table. sources_seen asked (change_sources d) >>= λ sources. Some (changing table d sources)))
      found None e = tt
      found (Some table) e = seen table e (sources_seen asked (change_sources d))

  -- ---- the entry

  request_begun : (request : Request) → Gives Keeps (begun_by asked request)
  request_begun (Reads q) = query_begun q
  request_begun (Writes d) = change_begun d
  request_begun _ = tt

  pub start_keeps : (t : Told) → Gives Keeps (start_effect asked t)
  unfolding start_effect
  start_keeps t =
      due_gives Keeps event.Start asked _ (λ test.
      told_keeps carried asked due guarded (begun_by asked (request_asked asked)) (memory_effect asked) t (λ free. request_begun (request_asked asked)) (memory_keeps carried asked due guarded))
