-- What each effect has to meet so that what is named stays stored.
use Rattle.std.specs.List.{list_any}
use Rattle.std.specs.Prelude.{Bool, List, None, Option, Some, [], filter, fold, length, not, option_map, refl, slice_get, slice_set, true, unwrap_or, ℕ, ◌==◌, ◌∷◌, ◌≡◌, ◌≢◌}
use Rattle.std.proofs.Common.{ap, arith, inl, inr, subst, sym, ◌∙◌}
use Rattle.std.proofs.lemmas.Bool.{eq-eqb, false≢true, or_cases}
use Rattle.std.proofs.lemmas.Option.{none-some}
use Rattle.tt_layout.specs.Numbers.{has}
use Rattle.tt_plain.proofs.Tests.{same_number}
use Rattle.tt_plain.proofs.law.Lists.{every-filter, every_kept, every_on}
use Rattle.tt_plain.proofs.law.change.Applied.{Stand}
use Rattle.tt_plain.proofs.law.change.Tables.{tables_later}
use Rattle.tt_plain.proofs.law.session.Alone.{set_at}
use Rattle.tt_plain.specs.asked.Carried.{Carried}
use Rattle.tt_plain.specs.asked.Request.{Writes, request_of}
use Rattle.tt_plain.specs.asked.Turns.{statement_read}
use Rattle.tt_plain.specs.declared.store.Plain.{Plain}
use Rattle.tt_plain.specs.declared.store.PlainMark.{PlainMark}
use Rattle.tt_plain.specs.declared.store.PlainOpen.{PlainOpen}
use Rattle.tt_plain.specs.declared.store.PlainSession.{PlainSession}
use Rattle.tt_plain.specs.declared.store.PlainTable.{PlainTable}
use Rattle.tt_plain.specs.declared.tally.Tally.{Tally}
use Rattle.tt_plain.specs.declared.tally.TallyPending.{TallyPending}
use Rattle.tt_plain.specs.effect.Apply.{applied, changed_session, changed_table}
use Rattle.tt_plain.specs.effect.Effect.{Effect}
use Rattle.tt_plain.specs.law.Changes.{IsSoundEffect}
use Rattle.tt_plain.specs.law.Lists.{Every}
use Rattle.tt_plain.specs.law.Sound.{AreKept, IsSound, IsSoundMark, IsThere}
use Rattle.tt_plain.specs.opening.Marks.{is_exclusive_on, marks_exclusively}
use Rattle.tt_plain.specs.stored.Sessions.{new_session}
use Rattle.tt_plain.specs.tally.Changes.{changed_tally}
use Rattle.tt_plain.specs.tally.Layouts.{current_parts}
use Rattle.tt_plain_laws.proofs.guard.Kept.{every_two}
use Rattle.tt_plain_laws.proofs.guard.Starts.{any_covered, same_exclusive, same_table}
use Rattle.tt_plain_laws.specs.Guarded.{lasting_marks}
use Rattle.tt_script.specs.declared.script.Script.{Script}
use Rattle.tt_sql.specs.declared.change.Dml.{Dml}
use Rattle.tt_stock_laws.proofs.Stock.{AreFair, AreGiven, Stock, all_given, get_set, stock_later, tables_stored}
use Rattle.tt_value.specs.declared.value.Row.{Row}

-- ---- what transactions remove

-- the parts that are gone for a transaction stand in the current layout still
abbrev pub AreThere : Tally → TallyPending → Type 0
AreThere tally lists = (part : ℕ) → has lists.gone part ≡ true → has (current_parts tally lists.table) part ≡ true

-- a mark on the table, and an exclusive one where anything is gone
abbrev pub IsMarkedBy : List PlainMark → TallyPending → Type 0
IsMarkedBy marks lists = (list_any (λ (mark : PlainMark). mark.table == lists.table) marks ≡ true) × (lists.gone ≢ [] → list_any (is_exclusive_on lists.table) marks ≡ true)

abbrev pub state_in : List PlainSession → ℕ → PlainSession
state_in sessions session = unwrap_or (slice_get sessions session) new_session

abbrev pub IsMarked : List PlainSession → TallyPending → Type 0
IsMarked sessions lists = IsMarkedBy (lasting_marks (state_in sessions lists.session)) lists

-- an UPDATE or a DELETE that is open has its table for itself
abbrev pub IsHeld : Carried → Script → ℕ → PlainSession → Type 0
IsHeld carried program session state =
    (seen : PlainOpen) (d : Dml) (target : ℕ × List Row) → state.running ≡ Some seen → option_map request_of (statement_read carried program session seen.index) ≡ Some (Writes d) →
    seen.target ≡ Some target → marks_exclusively d ≡ true → list_any (is_exclusive_on target.0) state.marks ≡ true

pub held_idle : (carried : Carried) (program : Script) (session : ℕ) (state : PlainSession) → state.running ≡ None → IsHeld carried program session state
held_idle carried program session state idle seen d target e said there exclusive = absurd (none-some seen (sym idle ∙ e))

pub record Stocks (carried : Carried) (program : Script) (store : Plain) : Type 0 where
  pub stock : Stock store.moment store.tables store.tally
  pub there : Every (AreThere store.tally) store.tally.pending
  pub marked : Every (IsMarked store.sessions) store.tally.pending
  pub held : (session : ℕ) (state : PlainSession) → slice_get store.sessions session ≡ Some state → IsHeld carried program session state

-- ---- effects

abbrev pub tables_after : Plain → Effect → List PlainTable
tables_after store effect = fold changed_table store.tables effect.tables

abbrev pub tally_after : Plain → Effect → Tally
tally_after store effect = fold changed_tally store.tally effect.tally

pub record Supplies (carried : Carried) (program : Script) (store : Plain) (effect : Effect) : Type 0 where
  pub fair : AreFair effect.moment store.tables effect.tables
  pub given : AreGiven (tables_after store effect) store.tally effect.tally
  pub there : Every (AreThere (tally_after store effect)) (tally_after store effect).pending
  pub marked : Every (IsMarked (changed_session store.sessions effect.session)) (tally_after store effect).pending
  pub held : (session : ℕ) (new : PlainSession) → effect.session ≡ Some (session, new) → IsHeld carried program session new

module _ (carried : Carried) (program : Script) (store : Plain) (effect : Effect) (sound : IsSound carried program store) (ok : IsSoundEffect carried program store effect) (stocks : Stocks carried program store) (supplies : Supplies carried program store effect) where
  stand_now : Stand effect.moment store.tables
  stand_now = (tables_later store.moment effect.moment (length store.tables) (length store.tables) 1 store.tables (omega (arith, ok.later)) (omega arith) sound.tables, sound.names)

  stock_now : Stock effect.moment store.tables store.tally
  stock_now = stock_later store.moment effect.moment (length store.tables) store.tables store.tally (omega (arith, ok.later)) sound.tables stocks.stock

  over_tables : Stock effect.moment (tables_after store effect) store.tally
  over_tables = record {
    used = tables_stored effect.moment store.tally store.tables effect.tables ok.time stand_now ok.tables supplies.fair (omega (arith, sound.layouts)) stock_now.used;
    pins = stock_now.pins;
    round = stock_now.round;
    added = stock_now.added;
  }

  held_after : (change : Option (ℕ × PlainSession)) → effect.session ≡ change → (session : ℕ) (state : PlainSession) → slice_get (changed_session store.sessions change) session ≡ Some state → IsHeld carried program session state
  held_after None e session state at = stocks.held session state at
  held_after (Some change) e session state at = elim (set_at store.sessions change.0 change.1 session state at) [
    | inl h ↦ subst (λ (n : ℕ). IsHeld carried program n state) (sym h.0) (subst (IsHeld carried program change.0) (sym h.1) (supplies.held change.0 change.1 e))
    | inr h ↦ stocks.held session state h
  ]

  pub effect_stocks : Stocks carried program (applied store effect)
  unfolding applied
  effect_stocks = record {
    stock = all_given effect.moment (tables_after store effect) store.tally effect.tally supplies.given over_tables;
    there = supplies.there;
    marked = supplies.marked;
    held = held_after effect.session refl;
  }

-- ---- marks that last

any_found : {A : Type 0} (P : A → Type 0) (test : A → Bool) (xs : List A) → list_any test xs ≡ true → Every P xs → (x : A) × (test x ≡ true) × P x
any_found P test [] e all = absurd (false≢true e)
any_found P test (x ∷ xs) e all = elim (or_cases (test x) (list_any test xs) e) [
  | inl h ↦ (x, h, all.0)
  | inr h ↦ any_found P test xs h all.1
]

pub kept_marked : (before marks : List PlainMark) (lists : TallyPending) → AreKept before marks → IsMarkedBy before lists → IsMarkedBy marks lists
kept_marked before marks lists kept marked = (
  any_covered (λ (mark : PlainMark). mark.table == lists.table) before marks (same_table lists.table) kept marked.0,
  λ some. any_covered (is_exclusive_on lists.table) before marks (same_exclusive lists.table) kept (marked.1 some),
)

-- a table that is marked is there and live
pub marked_live : (tables : List PlainTable) (marks : List PlainMark) (number : ℕ) → Every (IsSoundMark tables) marks → list_any (λ (mark : PlainMark). mark.table == number) marks ≡ true → IsThere tables number (λ (table : PlainTable). table.dropped ≡ None)
marked_live tables marks number sound e =
    let found = any_found (IsSoundMark tables) (λ (mark : PlainMark). mark.table == number) marks e sound in
    subst (λ (n : ℕ). IsThere tables n (λ (table : PlainTable). table.dropped ≡ None)) (same_number found.0.table number found.1) found.2

-- ---- sessions

module _ (sessions : List PlainSession) (session : ℕ) (old new : PlainSession) (at : slice_get sessions session ≡ Some old) where
  state_is : (k : ℕ) → k ≡ session → state_in sessions k ≡ old
  state_is k e = ap (λ (n : ℕ). state_in sessions n) e ∙ ap (λ (o : Option PlainSession). unwrap_or o new_session) at

  one_marked : (lists : TallyPending) → (lists.session ≡ session → IsMarkedBy (lasting_marks old) lists → IsMarkedBy (lasting_marks new) lists) → IsMarked sessions lists → IsMarked (slice_set sessions session new) lists
  one_marked lists wider marked = elim (get_set sessions session new lists.session) [
    | inl h ↦ subst (λ (o : Option PlainSession). IsMarkedBy (lasting_marks (unwrap_or o new_session)) lists) (sym h) marked
    | inr h ↦ subst (λ (o : Option PlainSession). IsMarkedBy (lasting_marks (unwrap_or o new_session)) lists) (sym h.1)
        (wider h.0 (subst (λ (s : PlainSession). IsMarkedBy (lasting_marks s) lists) (state_is lists.session h.0) marked))
  ]

  pub all_marked : (all : List TallyPending) → ((lists : TallyPending) → lists.session ≡ session → IsMarkedBy (lasting_marks old) lists → IsMarkedBy (lasting_marks new) lists) → Every (IsMarked sessions) all → Every (IsMarked (slice_set sessions session new)) all
  all_marked all wider marked = every_on (IsMarked sessions) (IsMarked (slice_set sessions session new)) all (λ lists m. one_marked lists (wider lists) m) marked

  -- where the lists of the session end
  pub others_marked : (all : List TallyPending) → Every (IsMarked sessions) all → Every (IsMarked (slice_set sessions session new)) (filter (λ (lists : TallyPending). not (lists.session == session)) all)
  others_marked all marked =
      every_two (IsMarked sessions) (λ (lists : TallyPending). not (lists.session == session) ≡ true) (IsMarked (slice_set sessions session new)) (filter (λ (lists : TallyPending). not (lists.session == session)) all)
      (λ lists m other. one_marked lists (λ e. absurd (false≢true (sym (ap not (eq-eqb lists.session session e)) ∙ other))) m)
      (every-filter (IsMarked sessions) (λ (lists : TallyPending). not (lists.session == session)) all marked)
      (every_kept (λ (lists : TallyPending). not (lists.session == session)) all)
