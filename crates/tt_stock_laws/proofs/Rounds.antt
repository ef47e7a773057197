-- Rounds of reclustering, and purges.
use Rattle.std.specs.List.{list_all}
use Rattle.std.specs.Prelude.{Bool, List, None, Option, Some, [], false, filter, fold, is_none, is_some, length, nat_le, not, option_map, refl, slice_get, true, unwrap_or, ℕ, ◌&&◌, ◌++◌, ◌+◌, ◌-◌, ◌==◌, ◌∷◌, ◌≡◌, ◌≤◌}
use Rattle.std.proofs.Common.{ap, arith, subst, suc, sym, zero, ◌∙◌}
use Rattle.std.proofs.lemmas.Bool.{and_parts, false≢true}
use Rattle.std.proofs.lemmas.Option.{none-some}
use Rattle.tt_history.specs.declared.history.Added.{Added}
use Rattle.tt_history.specs.declared.history.EntryKind.TheVariants as kind
use Rattle.tt_history.specs.declared.history.EntryKind.{EntryKind}
use Rattle.tt_history.specs.declared.history.Miss.TheVariants as miss
use Rattle.tt_layout.specs.Chain.{current_of}
use Rattle.tt_layout.specs.Numbers.{has}
use Rattle.tt_plain.proofs.Answers.{bind_some, only_if_some}
use Rattle.tt_plain.proofs.Tests.{none_is, same_number}
use Rattle.tt_plain.proofs.law.Gives.{Gives, gives_bind, gives_tested}
use Rattle.tt_plain.proofs.law.Lists.{every_on}
use Rattle.tt_plain.proofs.law.session.Marks.{others_free}
use Rattle.tt_script.specs.Lines.{only_if}
use Rattle.tt_plain.specs.Answers.{◌>>=◌}
use Rattle.tt_plain.specs.asked.Carried.{Carried}
use Rattle.tt_plain.specs.declared.store.Plain.{Plain}
use Rattle.tt_plain.specs.declared.store.PlainSession.{PlainSession}
use Rattle.tt_plain.specs.declared.store.PlainTable.{PlainTable}
use Rattle.tt_plain.specs.declared.tally.Tally.{Tally}
use Rattle.tt_plain.specs.declared.tally.TallyPending.{TallyPending}
use Rattle.tt_plain.specs.declared.tally.TallyRound.{TallyRound}
use Rattle.tt_plain.specs.effect.Effect.{Effect}
use Rattle.tt_plain.specs.effect.Landing.{lands_with, round_end_effect}
use Rattle.tt_plain.specs.effect.Miss.{may_miss, round_miss_effect}
use Rattle.tt_plain.specs.effect.Round.{has_changed, has_exclusive, may_be_reclustered, miss_of, misses, round_of, worker_effect}
use Rattle.tt_plain.specs.effect.RoundStart.{may_take, round_start_effect}
use Rattle.tt_plain.specs.history.Step.{round_entry}
use Rattle.tt_plain.specs.law.Lists.{Every}
use Rattle.tt_plain.specs.law.Sound.{IsSound}
use Rattle.tt_plain.specs.law.Stocked.{AreStored}
use Rattle.tt_plain.specs.refusal.{first_some, head_of}
use Rattle.tt_plain.specs.stored.Sessions.{has_exclusive_mark, sessions_with}
use Rattle.tt_plain.specs.stored.Tables.{is_live, table_numbered}
use Rattle.tt_plain.specs.tally.Changes.{AddsParts, EndsRound, StartsRound, TallyChange, changed_tally}
use Rattle.tt_plain.specs.tally.Layouts.{current_parts, is_ascending}
use Rattle.tt_plain.specs.tally.Parts.{is_stored, numbers_added}
use Rattle.tt_plain.specs.tally.Pending.{layout_begun}
use Rattle.tt_plain_laws.proofs.guard.Kept.{are_numbered}
use Rattle.tt_script.specs.declared.script.Script.{Script}
use Rattle.tt_stock_laws.proofs.Layouts.{Spares, all_has, begun_given, begun_pending, begun_there, next_layout, owned, place_stored, round_quiet, some_there}
use Rattle.tt_stock_laws.proofs.Sources.{changed_stored}
use Rattle.tt_stock_laws.proofs.Stock.{AreGiven, added_stored, stored_from, stored_has, stored_more}
use Rattle.tt_stock_laws.proofs.Supplied.{AreThere, IsMarked, Stocks, Supplies}

first_none : {A : Type 0} (first : Option A) (others : List (Option A)) → first_some (first ∷ others) ≡ None → (first ≡ None) × (first_some others ≡ None)
first_none None others e = (refl, e)
first_none (Some x) others e = absurd (none-some x (sym e))

unless_none : {A : Type 0} (b : Bool) (x : A) → only_if b x ≡ None → b ≡ false
unless_none true x e = absurd (none-some x (sym e))
unless_none false x e = refl

not_false : (b : Bool) → not b ≡ false → b ≡ true
not_false true e = refl
not_false false e = sym e

no_holder : (xs : List ℕ) → option_map miss.Held (head_of xs) ≡ None → xs ≡ []
no_holder [] e = refl
no_holder (x ∷ xs) e = absurd (none-some (miss.Held x) (sym e))

get_none : {A : Type 0} (xs : List A) (place : ℕ) → slice_get xs place ≡ None → length xs ≤ place
get_none [] place e = omega arith
get_none (x ∷ xs) zero e = absurd (none-some x (sym e))
get_none (x ∷ xs) (suc place) e = omega (arith, get_none xs place e)

none_beyond : {A : Type 0} (xs : List A) (place : ℕ) → length xs ≤ place → slice_get xs place ≡ None
none_beyond [] place le = refl
none_beyond (x ∷ xs) zero le = absurd (omega (arith, le))
none_beyond (x ∷ xs) (suc place) le = none_beyond xs place (omega (arith, le))

module _ (carried : Carried) (program : Script) (store : Plain) (sound : IsSound carried program store) (stocks : Stocks carried program store) where
  abbrev SuppliedHere : Effect → Type 0
  SuppliedHere effect = Supplies carried program store effect

  abbrev tally : Tally
  tally = store.tally

  worker_supplies : (changes : List TallyChange) → AreGiven store.tables tally changes → Every (AreThere (fold changed_tally tally changes)) (fold changed_tally tally changes).pending → (fold changed_tally tally changes).pending ≡ tally.pending → SuppliedHere (worker_effect store changes)
  worker_supplies changes given there same = record {
    fair = tt;
    given = given;
    there = there;
    marked = subst (Every (IsMarked store.sessions)) (sym same) stocks.marked;
    held = λ session new e. absurd (none-some (session, new) e);
  }

  -- ---- starts and misses

  taken_stored : (number : ℕ) (table : PlainTable) (parts : List ℕ) → slice_get store.tables (number - 1) ≡ Some table → may_be_reclustered store table ≡ true → may_take tally number parts ≡ true → AreStored tally parts
  taken_stored number table parts at free takes =
      let live = none_is table.dropped (and_parts (is_live table) (is_some table.key) (and_parts (is_live table && is_some table.key) (not table.suspended) (and_parts (is_live table && is_some table.key && not table.suspended) (not (has_exclusive store table.number)) free).0).0).0 in
      let there = (and_parts (nat_le 1 number && is_ascending parts && nat_le 2 (length parts) && nat_le (length parts) 16) (list_all (has (current_parts tally number)) parts) takes).1 in
      stored_from tally parts (λ n h. place_stored carried program store sound stocks number table at live n (all_has (has (current_parts tally number)) parts n there h))

  -- ---- landings

  nobody : (number : ℕ) → sessions_with (has_exclusive_mark number) store ≡ [] → (other : ℕ) (state : PlainSession) → slice_get store.sessions other ≡ Some state → has_exclusive_mark number state ≡ true → ⊥
  nobody number none other state at e =
      absurd (omega (arith, others_free (has_exclusive_mark number) store (other + 1) other state (ap (filter (λ n. not (n == other + 1))) none) at e))

  module _ (round : TallyRound) (table : ℕ) (is : table ≡ round.table) (gone : List ℕ) (added : List Added) (free : miss_of store round ≡ None) where
    abbrev grown : Tally
    grown = changed_tally tally (AddsParts table added)

    clear_of : (t : PlainTable) → table_numbered store round.table ≡ Some t → (t.dropped ≡ None) × (sessions_with (has_exclusive_mark t.number) store ≡ [])
    unfolding miss_of
    clear_of t at =
        let all : first_some (misses store round t) ≡ None = sym (ap (λ (o : Option PlainTable). o >>= λ table. first_some (misses store round table)) at) ∙ free in
        let first = first_none (only_if (not (is_live t)) miss.Dropped) _ all in
        let second = first_none (only_if (has_changed t round) miss.Suspended) _ first.1 in
        let third = first_none (option_map miss.Held (head_of (sessions_with (has_exclusive_mark t.number) store))) _ second.1 in
        (none_is t.dropped (not_false (is_live t) (unless_none (not (is_live t)) miss.Dropped first.0)), no_holder (sessions_with (has_exclusive_mark t.number) store) third.0)

    current_here : (found : Option PlainTable) → slice_get store.tables (table - 1) ≡ found → (n : ℕ) → has (current_parts tally table) n ≡ true → is_stored tally n ≡ true
    current_here None e n h =
        absurd (false≢true (sym (ap (λ (o : Option (List (ℕ × List ℕ))). has (current_of (unwrap_or o [])) n) (none_beyond tally.layouts (table - 1) (omega (arith, sound.layouts, get_none store.tables (table - 1) e)))) ∙ h))
    current_here (Some t) e n h = place_stored carried program store sound stocks table t e (clear_of t (ap (table_numbered store) (sym is) ∙ e)).0 n h

    live_here : (t : PlainTable) → slice_get store.tables (table - 1) ≡ Some t → t.dropped ≡ None
    live_here t e = (clear_of t (ap (table_numbered store) (sym is) ∙ e)).0

    spares : (lists : TallyPending) → IsMarked store.sessions lists → Spares lists table (next_layout store.tables tally (store.moment + 1) table gone (numbers_added added))
    spares lists marked same part e =
        let own = owned carried program store sound lists marked in
        let at : slice_get store.tables (table - 1) ≡ Some own.live.table = ap (slice_get store.tables) same ∙ own.live.table_is in
        let number : own.live.table.number ≡ lists.table = omega (arith, are_numbered carried program store sound (lists.table - 1) own.live.table own.live.table_is, own.live.from_one) in
        absurd (nobody lists.table (subst (λ (n : ℕ). sessions_with (has_exclusive_mark n) store ≡ []) number (clear_of own.live.table (ap (table_numbered store) (sym is) ∙ at)).1) lists.session own.state own.at
        (own.marked.1 (some_there lists.gone part e)))

    landed : SuppliedHere (worker_effect store (AddsParts table added ∷ layout_begun tally (store.moment + 1) table gone (numbers_added added) ++ EndsRound ∷ []))
    landed =
        worker_supplies (AddsParts table added ∷ layout_begun tally (store.moment + 1) table gone (numbers_added added) ++ EndsRound ∷ []) (
          tt,
          begun_given store.tables tally (store.moment + 1) grown table gone (numbers_added added) (EndsRound ∷ []) (
            changed_stored grown (current_parts tally table) gone (numbers_added added) (λ n h. stored_more tally table added n (current_here (slice_get store.tables (table - 1)) refl n h)) (λ n h. stored_has grown (numbers_added added) n (added_stored tally table added) h),
            live_here,
          )
              (λ t e. (tt, tt)),
        )
        (begun_there store.tables tally (store.moment + 1) grown table gone (numbers_added added) EndsRound (round_quiet store.tables tally (store.moment + 1)) stocks.there
        (every_on (IsMarked store.sessions) (λ (lists : TallyPending). Spares lists table (next_layout store.tables tally (store.moment + 1) table gone (numbers_added added))) tally.pending spares stocks.marked))
        (begun_pending store.tables tally (store.moment + 1) grown table gone (numbers_added added) EndsRound (round_quiet store.tables tally (store.moment + 1)))

  table_of_round : (index table : ℕ) (round : TallyRound) → round_of store index table ≡ Some round → table ≡ round.table
  table_of_round index table round e =
      let found = bind_some tally.round _ round e in
      let same = only_if_some (index == tally.rounds && table == found.0.table) found.0 round found.2 in
      subst (λ (r : TallyRound). table ≡ r.table) same.1 (same_number table found.0.table (and_parts (index == tally.rounds) (table == found.0.table) same.0).1)

  -- ---- the entries

  pub round_supplies : (index : ℕ) (k : EntryKind) → Gives SuppliedHere (round_entry store index k)
  unfolding round_entry round_start_effect round_end_effect round_miss_effect
  round_supplies index (kind.RecluStart number parts) =
      gives_tested SuppliedHere (is_none tally.round && index == tally.rounds + 1) index _ (λ next.
      gives_bind SuppliedHere (table_numbered store number) _ (λ table there.
      gives_tested SuppliedHere (may_be_reclustered store table && may_take tally number parts) table _ (λ free.
      gives_bind SuppliedHere table.key _ (λ key has_key.
      let both = and_parts (may_be_reclustered store table) (may_take tally number parts) free in
      worker_supplies (StartsRound (record { table = number; key = key; parts = parts }) ∷ []) (taken_stored number table parts there both.0 both.1, tt) stocks.there refl))))
  round_supplies index (kind.RecluEnd table gone added) =
      gives_bind SuppliedHere (round_of store index table) _ (λ round there.
      gives_tested SuppliedHere (is_none (miss_of store round) && lands_with tally round gone added) round _ (λ lands.
      landed round table (table_of_round index table round there) gone added (none_is (miss_of store round) (and_parts (is_none (miss_of store round)) (lands_with tally round gone added) lands).0)))
  round_supplies index (kind.RecluMiss table why) =
      gives_bind SuppliedHere (round_of store index table) _ (λ round there.
      gives_tested SuppliedHere (may_miss (miss_of store round) why) round _ (λ missed. worker_supplies (EndsRound ∷ []) (tt, tt) stocks.there refl))
  round_supplies index _ = tt
