-- What is gone for a transaction stays in the layout while others begin layouts.
use Rattle.std.specs.List.{list_all, list_any}
use Rattle.std.specs.Prelude.{Bool, List, None, Option, Some, [], filter, flat_map, fold, not, refl, slice_get, true, unwrap_or, ℕ, ◌&&◌, ◌++◌, ◌-◌, ◌==◌, ◌∷◌, ◌≡◌, ◌≢◌, ◌≤◌}
use Rattle.std.proofs.Common.{ap, arith, inl, inr, subst, sym, ◌∙◌}
use Rattle.std.proofs.lemmas.Bool.{and_parts, false≢true, or_cases}
use Rattle.tt_layout.proofs.Members.{has-changed}
use Rattle.tt_layout.specs.Chain.{current_of}
use Rattle.tt_layout.specs.Numbers.{changed, has}
use Rattle.tt_plain.proofs.Tests.{same_number}
use Rattle.tt_plain.specs.asked.Carried.{Carried}
use Rattle.tt_plain.specs.declared.store.Plain.{Plain}
use Rattle.tt_plain.specs.declared.store.PlainMark.{PlainMark}
use Rattle.tt_plain.specs.declared.store.PlainOpen.{PlainOpen}
use Rattle.tt_plain.specs.declared.store.PlainSession.{PlainSession}
use Rattle.tt_plain.specs.declared.store.PlainTable.{PlainTable}
use Rattle.tt_plain.specs.declared.tally.Tally.{Tally}
use Rattle.tt_plain.specs.declared.tally.TallyPart.{TallyPart}
use Rattle.tt_plain.specs.declared.tally.TallyPending.{TallyPending}
use Rattle.tt_plain.specs.law.Lists.{Every}
use Rattle.tt_plain.specs.law.Sound.{IsSound, IsThere}
use Rattle.tt_plain.specs.law.Stocked.{AreStored}
use Rattle.tt_plain.specs.opening.Marks.{is_exclusive_on}
use Rattle.tt_plain.specs.stored.Sessions.{has_exclusive_mark, new_session}
use Rattle.tt_plain.specs.tally.Changes.{BeginsLayout, EndsPending, EndsRound, TallyChange, Unpins, changed_tally}
use Rattle.tt_plain.specs.tally.Layouts.{current_parts}
use Rattle.tt_plain.specs.tally.Parts.{is_stored}
use Rattle.tt_plain.specs.tally.Pending.{layout_begun}
use Rattle.tt_plain_laws.proofs.guard.Kept.{every_two}
use Rattle.tt_plain_laws.specs.Guarded.{lasting_marks, marks_lasting}
use Rattle.tt_script.specs.declared.script.Script.{Script}
use Rattle.tt_stock_laws.proofs.Stock.{AreGiven, IsGiven, get_set, layouts_in}
use Rattle.tt_stock_laws.proofs.Supplied.{AreThere, IsMarked, IsMarkedBy, Stocks, kept_marked, marked_live}
use Rattle.tt_stock_laws.proofs.Used.{current_used, uses}

pub all_has : (test : ℕ → Bool) (numbers : List ℕ) (k : ℕ) → list_all test numbers ≡ true → has numbers k ≡ true → test k ≡ true
all_has test [] k all e = absurd (false≢true e)
all_has test (m ∷ numbers) k all e =
    let both = and_parts (test m) (list_all test numbers) all in
    elim (or_cases (m == k) (has numbers k) e) [
      | inl h ↦ subst (λ (n : ℕ). test n ≡ true) (same_number m k h) both.0
      | inr h ↦ all_has test numbers k both.1 h
    ]

pub some_there : (numbers : List ℕ) (k : ℕ) → has numbers k ≡ true → numbers ≢ []
some_there numbers k e none = false≢true (sym (ap (λ (ns : List ℕ). has ns k) none) ∙ e)

-- ---- layouts that begin

last_pushed : (layouts : List (ℕ × List ℕ)) (l : ℕ × List ℕ) → current_of (layouts ++ l ∷ []) ≡ l.1
last_pushed [] l = refl
last_pushed (a ∷ []) l = refl
last_pushed (a ∷ b ∷ layouts) l = last_pushed (b ∷ layouts) l

-- a layout that begins has what is gone for the lists, where it is of their table
abbrev pub Spares : TallyPending → ℕ → List ℕ → Type 0
Spares lists number parts = number - 1 ≡ lists.table - 1 → (part : ℕ) → has lists.gone part ≡ true → has parts part ≡ true

pub one_there : (tally : Tally) (lists : TallyPending) (number begun : ℕ) (parts : List ℕ) → Spares lists number parts → AreThere tally lists → AreThere (changed_tally tally (BeginsLayout number begun parts)) lists
one_there tally lists number begun parts spares there part e =
    let more = layouts_in tally (number - 1) ++ (begun, parts) ∷ [] in
    elim (get_set tally.layouts (number - 1) more (lists.table - 1)) [
      | inl h ↦ ap (λ (o : Option (List (ℕ × List ℕ))). has (current_of (unwrap_or o [])) part) h ∙ there part e
      | inr h ↦ ap (λ (o : Option (List (ℕ × List ℕ))). has (current_of (unwrap_or o [])) part) h.1
          ∙ ap (λ (ns : List ℕ). has ns part) (last_pushed (layouts_in tally (number - 1)) (begun, parts)) ∙ spares (sym h.0) part e
    ]

append_three : {A : Type 0} (xs ys zs : List A) → (xs ++ ys) ++ zs ≡ xs ++ (ys ++ zs)
append_three [] ys zs = refl
append_three (x ∷ xs) ys zs = ap (λ rest. x ∷ rest) (append_three xs ys zs)

module _ (tables : List PlainTable) (base : Tally) (moment : ℕ) where
  abbrev pub next_layout : ℕ → List ℕ → List ℕ → List ℕ
  next_layout number gone added = changed (current_parts base number) gone added

  pub begun_given : (now : Tally) (number : ℕ) (gone added : List ℕ) (later : List TallyChange) → IsGiven tables now (BeginsLayout number moment (next_layout number gone added)) → ((t : Tally) → t.parts ≡ now.parts → AreGiven tables t later)
      → AreGiven tables now (layout_begun base moment number gone added ++ later)
  begun_given now number [] [] later given rest = rest now refl
  begun_given now number [] (n ∷ added) later given rest = (given, rest _ refl)
  begun_given now number (n ∷ gone) added later given rest = (given, rest _ refl)

  -- behind it nothing but a change that leaves layouts and lists
  pub record IsQuiet (change : TallyChange) : Type 0 where
    pub lists : (t : Tally) → (changed_tally t change).pending ≡ t.pending
    pub layouts : (t : Tally) → (changed_tally t change).layouts ≡ t.layouts

  abbrev In : List (List (ℕ × List ℕ)) → TallyPending → Type 0
  In layouts lists = (part : ℕ) → has lists.gone part ≡ true → has (current_of (unwrap_or (slice_get layouts (lists.table - 1)) [])) part ≡ true

  quiet_there : (now : Tally) (change : TallyChange) → IsQuiet change → (all : List TallyPending) → now.pending ≡ all → Every (AreThere now) all → Every (AreThere (changed_tally now change)) (changed_tally now change).pending
  quiet_there now change quiet all same there =
      subst (λ (ls : List TallyPending). Every (AreThere (changed_tally now change)) ls) (sym (quiet.lists now ∙ same))
      (subst (λ (layouts : List (List (ℕ × List ℕ))). Every (In layouts) all) (sym (quiet.layouts now)) there)

  pub begun_there : (now : Tally) (number : ℕ) (gone added : List ℕ) (change : TallyChange) → IsQuiet change → Every (AreThere now) now.pending → Every (λ (lists : TallyPending). Spares lists number (next_layout number gone added)) now.pending
      → Every (AreThere (fold changed_tally now (layout_begun base moment number gone added ++ change ∷ []))) (fold changed_tally now (layout_begun base moment number gone added ++ change ∷ [])).pending
  begun_there now number [] [] change quiet there spares = quiet_there now change quiet now.pending refl there
  begun_there now number [] (n ∷ added) change quiet there spares =
      quiet_there (changed_tally now (BeginsLayout number moment (next_layout number [] (n ∷ added)))) change quiet now.pending refl
      (every_two (λ (lists : TallyPending). Spares lists number (next_layout number [] (n ∷ added))) (AreThere now) (AreThere (changed_tally now (BeginsLayout number moment (next_layout number [] (n ∷ added))))) now.pending
      (λ lists s t. one_there now lists number moment (next_layout number [] (n ∷ added)) s t) spares there)
  begun_there now number (n ∷ gone) added change quiet there spares =
      quiet_there (changed_tally now (BeginsLayout number moment (next_layout number (n ∷ gone) added))) change quiet now.pending refl
      (every_two (λ (lists : TallyPending). Spares lists number (next_layout number (n ∷ gone) added)) (AreThere now) (AreThere (changed_tally now (BeginsLayout number moment (next_layout number (n ∷ gone) added)))) now.pending
      (λ lists s t. one_there now lists number moment (next_layout number (n ∷ gone) added) s t) spares there)

  pub begun_pending : (now : Tally) (number : ℕ) (gone added : List ℕ) (change : TallyChange) → IsQuiet change → (fold changed_tally now (layout_begun base moment number gone added ++ change ∷ [])).pending ≡ now.pending
  begun_pending now number [] [] change quiet = quiet.lists now
  begun_pending now number [] (n ∷ added) change quiet = quiet.lists _
  begun_pending now number (n ∷ gone) added change quiet = quiet.lists _

  pub unpins_quiet : (session : ℕ) → IsQuiet (Unpins session)
  unpins_quiet session = record { lists = λ t. refl; layouts = λ t. refl }

  pub round_quiet : IsQuiet EndsRound
  round_quiet = record { lists = λ t. refl; layouts = λ t. refl }

  -- ---- the layouts that a commit begins

  abbrev pub begun_all : List TallyPending → List TallyChange
  begun_all all = flat_map (λ (lists : TallyPending). layout_begun base moment lists.table lists.gone lists.added) all

  abbrev pub GivenNext : TallyPending → Type 0
  GivenNext lists = AreStored base (next_layout lists.table lists.gone lists.added) × ((table : PlainTable) → slice_get tables (lists.table - 1) ≡ Some table → table.dropped ≡ None)

  over_parts : (now : Tally) → now.parts ≡ base.parts → (numbers : List ℕ) → AreStored base numbers → AreStored now numbers
  over_parts now same numbers all = subst (λ (parts : List TallyPart). Every (λ (n : ℕ). list_any (λ (part : TallyPart). part.number == n && part.stored) parts ≡ true) numbers) (sym same) all

  next_given : (gone added : List ℕ) (number : ℕ) (now : Tally) (later : List TallyChange) → now.parts ≡ base.parts → AreStored base (next_layout number gone added) × ((table : PlainTable) → slice_get tables (number - 1) ≡ Some table → table.dropped ≡ None)
      → ((t : Tally) → t.parts ≡ base.parts → AreGiven tables t later) → AreGiven tables now (layout_begun base moment number gone added ++ later)
  next_given gone added number now later same given rest = begun_given now number gone added later (over_parts now same (next_layout number gone added) given.0, given.1) (λ t e. rest t (e ∙ same))

  pub commits_given : (all : List TallyPending) (session : ℕ) (now : Tally) → now.parts ≡ base.parts → Every GivenNext all → AreGiven tables now (begun_all all ++ EndsPending session ∷ [])
  commits_given [] session now same given = (tt, tt)
  commits_given (lists ∷ all) session now same given =
      subst (AreGiven tables now) (sym (append_three (layout_begun base moment lists.table lists.gone lists.added) (begun_all all) (EndsPending session ∷ [])))
      (next_given lists.gone lists.added lists.table now (begun_all all ++ EndsPending session ∷ []) same given.0 (λ t e. commits_given all session t e given.1))

  next_there : (gone added : List ℕ) (number : ℕ) (now : Tally) (lists : TallyPending) → Spares lists number (next_layout number gone added) → AreThere now lists → AreThere (fold changed_tally now (layout_begun base moment number gone added)) lists
  next_there [] [] number now lists spares there = there
  next_there [] (n ∷ added) number now lists spares there = one_there now lists number moment (next_layout number [] (n ∷ added)) spares there
  next_there (n ∷ gone) added number now lists spares there = one_there now lists number moment (next_layout number (n ∷ gone) added) spares there

  next_pending : (gone added : List ℕ) (number : ℕ) (now : Tally) → (fold changed_tally now (layout_begun base moment number gone added)).pending ≡ now.pending
  next_pending [] [] number now = refl
  next_pending [] (n ∷ added) number now = refl
  next_pending (n ∷ gone) added number now = refl

  fold_two : (now : Tally) (first second : List TallyChange) → fold changed_tally now (first ++ second) ≡ fold changed_tally (fold changed_tally now first) second
  fold_two now [] second = refl
  fold_two now (c ∷ first) second = fold_two (changed_tally now c) first second

  pub commits_there : (all : List TallyPending) (now : Tally) (lists : TallyPending) → Every (λ (own : TallyPending). Spares lists own.table (next_layout own.table own.gone own.added)) all → AreThere now lists → AreThere (fold changed_tally now (begun_all all)) lists
  commits_there [] now lists spares there = there
  commits_there (own ∷ all) now lists spares there =
      subst (λ (t : Tally). AreThere t lists) (sym (fold_two now (layout_begun base moment own.table own.gone own.added) (begun_all all)))
      (commits_there all (fold changed_tally now (layout_begun base moment own.table own.gone own.added)) lists spares.1 (next_there own.gone own.added own.table now lists spares.0 there))

  commits_pending : (all : List TallyPending) (now : Tally) → (fold changed_tally now (begun_all all)).pending ≡ now.pending
  commits_pending [] now = refl
  commits_pending (own ∷ all) now =
      ap (λ (t : Tally). t.pending) (fold_two now (layout_begun base moment own.table own.gone own.added) (begun_all all))
      ∙ commits_pending all (fold changed_tally now (layout_begun base moment own.table own.gone own.added)) ∙ next_pending own.gone own.added own.table now

  abbrev pub others_of : ℕ → List TallyPending → List TallyPending
  others_of session all = filter (λ (lists : TallyPending). not (lists.session == session)) all

  pub committed_pending : (all : List TallyPending) (session : ℕ) (now : Tally) → (fold changed_tally now (begun_all all ++ EndsPending session ∷ [])).pending ≡ others_of session now.pending
  committed_pending all session now =
      ap (λ (t : Tally). t.pending) (fold_two now (begun_all all) (EndsPending session ∷ [])) ∙ ap (others_of session) (commits_pending all now)

  pub committed_there : (all : List TallyPending) (session : ℕ) (now : Tally) → Every (AreThere (fold changed_tally now (begun_all all))) (others_of session now.pending)
      → Every (AreThere (fold changed_tally now (begun_all all ++ EndsPending session ∷ []))) (fold changed_tally now (begun_all all ++ EndsPending session ∷ [])).pending
  committed_there all session now there =
      subst (λ (ls : List TallyPending). Every (AreThere (fold changed_tally now (begun_all all ++ EndsPending session ∷ []))) ls) (sym (committed_pending all session now))
      (subst (λ (t : Tally). Every (AreThere t) (others_of session now.pending)) (sym (fold_two now (begun_all all) (EndsPending session ∷ []))) there)

-- ---- who has a table for itself

module _ (carried : Carried) (program : Script) (store : Plain) (sound : IsSound carried program store) where
  lasting_in : (session : ℕ) (state : PlainSession) → slice_get store.sessions session ≡ Some state → (lists : TallyPending) → (running : Option PlainOpen) → state.running ≡ running → IsMarkedBy (lasting_marks state) lists → IsMarkedBy state.marks lists
  lasting_in session state at lists None e marked = subst (λ (marks : List PlainMark). IsMarkedBy marks lists) (ap (marks_lasting state.marks) e) marked
  lasting_in session state at lists (Some seen) e marked =
      kept_marked seen.marks_before state.marks lists ((sound.each session state at).running seen e).kept (subst (λ (marks : List PlainMark). IsMarkedBy marks lists) (ap (marks_lasting state.marks) e) marked)

  pub record IsOwned (lists : TallyPending) : Type 0 where
    pub state : PlainSession
    pub at : slice_get store.sessions lists.session ≡ Some state
    pub marked : IsMarkedBy state.marks lists
    pub live : IsThere store.tables lists.table (λ (table : PlainTable). table.dropped ≡ None)

  pub owned : (lists : TallyPending) → IsMarked store.sessions lists → IsOwned lists
  owned lists marked = by (slice_get store.sessions lists.session) refl marked
    where
      by : (o : Option PlainSession) → slice_get store.sessions lists.session ≡ o → IsMarkedBy (lasting_marks (unwrap_or o new_session)) lists → IsOwned lists
      by None e m = absurd (false≢true m.0)
      by (Some state) e m =
          let now = lasting_in lists.session state e lists state.running refl m in
          record { state = state; at = e; marked = now; live = marked_live store.tables state.marks lists.table (sound.each lists.session state e).marked now.0 }

  -- a session that takes parts off a layout has the table for itself, so that nothing else is gone of it
  pub other_spared : (lists : TallyPending) (session number : ℕ) (state : PlainSession) (gone added : List ℕ) → slice_get store.sessions session ≡ Some state → (lists.session ≡ session → ⊥) → 1 ≤ number
      → (gone ≢ [] → list_any (is_exclusive_on number) state.marks ≡ true) → IsMarked store.sessions lists → AreThere store.tally lists → Spares lists number (changed (current_parts store.tally number) gone added)
  other_spared lists session number state [] added at apart first alone marked there same part e =
      has-changed (current_parts store.tally number) [] added part
      ∙ rw (ap (λ (n : ℕ). has (current_of (layouts_in store.tally n)) part) same ∙ there part e) refl
  other_spared lists session number state (g ∷ gone) added at apart first alone marked there same part e =
      let own = owned lists marked in
      let one : number ≡ lists.table = omega (arith, same, first, own.live.from_one) in
      absurd (apart (sound.holders number lists.session session own.state state own.at at
      (subst (λ (n : ℕ). has_exclusive_mark n own.state ≡ true) (sym one) (own.marked.1 (some_there lists.gone part e))) (alone (λ f. absurd cc))))

  -- the current parts of a table that is live
  pub place_stored : (stocks : Stocks carried program store) (number : ℕ) (table : PlainTable) → slice_get store.tables (number - 1) ≡ Some table → table.dropped ≡ None → (n : ℕ) → has (current_parts store.tally number) n ≡ true → is_stored store.tally n ≡ true
  place_stored stocks number table at live n e =
      stocks.stock.used (number - 1) table at n
      (subst (λ (d : Option ℕ). uses store.moment table.regimes d (layouts_in store.tally (number - 1)) n ≡ true) (sym live) (current_used store.moment table.regimes n (layouts_in store.tally (number - 1)) e))

  pub there_stored : (stocks : Stocks carried program store) (number : ℕ) → IsThere store.tables number (λ (table : PlainTable). table.dropped ≡ None) → (n : ℕ) → has (current_parts store.tally number) n ≡ true → is_stored store.tally n ≡ true
  there_stored stocks number live n e = place_stored stocks number live.table live.table_is live.so n e
