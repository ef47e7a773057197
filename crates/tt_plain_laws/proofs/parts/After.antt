-- The current rows and parts of each table, after what is pending of some tables has begun.
use Rattle.std.specs.Prelude.{Bool, List, None, Option, Some, [], false, find, flat_map, fold, if◌then◌else◌, length, option_map, refl, slice_get, slice_set, true, unwrap_or, ℕ, ◌&&◌, ◌++◌, ◌-◌, ◌<◌, ◌==◌, ◌∷◌, ◌≡◌, ◌≤◌}
use Rattle.std.proofs.Common.{ap, append_assoc, arith, length-set, subst, suc, sym, zero, ◌∙◌}
use Rattle.std.proofs.lemmas.Bool.{eq-eqb, false≢true}
use Rattle.std.proofs.lemmas.Bool.Decides.{nat_tests}
use Rattle.std.proofs.lemmas.Option.{none-some, same_Some}
use Rattle.tt_layout.proofs.NetLaws.{unchanged}
use Rattle.tt_layout.specs.Numbers.{changed}
use Rattle.tt_plain.proofs.Tests.{same_number}
use Rattle.tt_plain.proofs.law.change.Apart.{get_unmap}
use Rattle.tt_plain.specs.declared.store.Plain.{Plain}
use Rattle.tt_plain.specs.declared.store.PlainPending.{PlainPending}
use Rattle.tt_plain.specs.declared.store.PlainTable.{PlainTable}
use Rattle.tt_plain.specs.declared.tally.Tally.{Tally}
use Rattle.tt_plain.specs.declared.tally.TallyPending.{TallyPending}
use Rattle.tt_plain.specs.effect.Apply.{changed_table, with_version}
use Rattle.tt_plain.specs.effect.Commit.{version_begun, version_committed}
use Rattle.tt_plain.specs.effect.Effect.{TableChange}
use Rattle.tt_plain.specs.effect.End.{nothing_pending}
use Rattle.tt_plain.specs.law.Lists.{EachTwo, Every}
use Rattle.tt_plain.specs.opening.Seen.{rows_with}
use Rattle.tt_plain.specs.stored.Tables.{current_rows, table_numbered}
use Rattle.tt_plain.specs.tally.Changes.{TallyChange, changed_tally, with_layout}
use Rattle.tt_plain.specs.tally.Layouts.{current_parts}
use Rattle.tt_plain.specs.tally.Pending.{layout_begun, no_lists}
use Rattle.tt_value.proofs.values.Bags.{bag_plus-nil}
use Rattle.tt_value.specs.declared.value.Row.{Row}
use Rattle.tt_value.specs.values.Bags.{IsBag}
use Rattle.tt_plain_laws.proofs.guard.Grown.{AreNumbered, last_pushed}
use Rattle.tt_plain_laws.proofs.parts.Views.{find-append, or_none}
use Rattle.tt_layout.specs.Chain as chain

not_same : (m n : ℕ) → (m ≡ n → ⊥) → (m == n) ≡ false
not_same m n h = grind (arith, nat_tests)

-- ---- one for each table

abbrev pub Distinct : {A : Type 0} → (A → ℕ) → List A → Type 0
Distinct key items = EachTwo (λ a b. key a ≡ key b → ⊥) items

-- what is found for a table, or else nothing
abbrev pub found_for : {A : Type 0} → (A → ℕ) → (ℕ → A) → List A → ℕ → A
found_for key none items table = unwrap_or (find (λ a. key a == table) items) (none table)

module _ {A : Type 0} (key : A → ℕ) (none : ℕ → A) where
  no_other : (x : A) (items : List A) → Every (λ a. key x ≡ key a → ⊥) items → find (λ a. key a == key x) items ≡ None
  no_other x [] apart = refl
  no_other x (a ∷ items) apart = rw (not_same (key a) (key x) (λ e. apart.0 (sym e))) (no_other x items apart.1)

  apart_before : (x : A) (done rest : List A) → Distinct key (done ++ x ∷ rest) → Every (λ a. key x ≡ key a → ⊥) done
  apart_before x [] rest two = tt
  apart_before x (a ∷ done) rest two = ((λ e. seam done two.0 (sym e)), apart_before x done rest two.1)
    where
      seam : (items : List A) → Every (λ b. key a ≡ key b → ⊥) (items ++ x ∷ rest) → key a ≡ key x → ⊥
      seam [] all = all.0
      seam (b ∷ items) all = seam items all.1

  pub before_none : (x : A) (done rest : List A) → Distinct key (done ++ x ∷ rest) → found_for key none done (key x) ≡ none (key x)
  before_none x done rest two = ap (λ o. unwrap_or o (none (key x))) (no_other x done (apart_before x done rest two))

  pub found_here : (x : A) (done rest : List A) → Distinct key (done ++ x ∷ rest) → found_for key none (done ++ x ∷ []) (key x) ≡ x
  found_here x done rest two =
      ap (λ o. unwrap_or o (none (key x))) (find-append (λ a. key a == key x) done (x ∷ [])) ∙ rw (no_other x done (apart_before x done rest two), eq-eqb (key x) (key x) refl) refl

  pub found_there : (x : A) (done : List A) (table : ℕ) → (key x ≡ table → ⊥) → found_for key none (done ++ x ∷ []) table ≡ found_for key none done table
  found_there x done table apart =
      ap (λ o. unwrap_or o (none table)) (find-append (λ a. key a == table) done (x ∷ [])) ∙ rw (not_same (key x) table apart) (ap (λ o. unwrap_or o (none table)) (or_none (find (λ a. key a == table) done)))

-- ---- versions

abbrev pub pending_key : PlainPending → ℕ
pending_key pending = pending.table

-- what a table was, and its rows after what is pending of it
pub record IsRisen (tables : List PlainTable) (done : List PlainPending) (place : ℕ) (new : PlainTable) : Type 0 where
  pub old : PlainTable
  pub was : slice_get tables place ≡ Some old
  pub number : new.number ≡ old.number
  pub made : new.made ≡ old.made
  pub rows : current_rows new ≡ rows_with (current_rows old) (found_for pending_key nothing_pending done old.number)

abbrev pub AreRisen : List PlainTable → List PlainPending → List PlainTable → Type 0
AreRisen tables done now = (place : ℕ) (new : PlainTable) → slice_get now place ≡ Some new → IsRisen tables done place new

no_length : {A : Type 0} (xs : List A) → (length xs == 0) ≡ true → xs ≡ []
no_length [] e = refl
no_length (x ∷ xs) e = absurd (omega (arith, same_number (length (x ∷ xs)) 0 e))

module _ (store : Plain) (moment : ℕ) (numbered : AreNumbered store.tables) (bags : (place : ℕ) (table : PlainTable) → slice_get store.tables place ≡ Some table → IsBag (current_rows table)) where
  -- of another table nothing changes
  same_risen : (done : List PlainPending) (pending : PlainPending) (place : ℕ) (new : PlainTable) → (risen : IsRisen store.tables done place new) → (pending.table ≡ risen.old.number → ⊥) → IsRisen store.tables (done ++ pending ∷ []) place new
  same_risen done pending place new risen apart = record {
    old = risen.old;
    was = risen.was;
    number = risen.number;
    made = risen.made;
    rows = risen.rows ∙ ap (rows_with (current_rows risen.old)) (sym (found_there pending_key nothing_pending pending done risen.old.number apart));
  }

  -- of its table, where nothing is pending
  empty_risen : (done rest : List PlainPending) (pending : PlainPending) (place : ℕ) (new : PlainTable) → Distinct pending_key (done ++ pending ∷ rest) → pending.gone ≡ [] → pending.added ≡ []
      → (risen : IsRisen store.tables done place new) → pending.table ≡ risen.old.number → IsRisen store.tables (done ++ pending ∷ []) place new
  empty_risen done rest pending place new two gone added risen same = record {
    old = risen.old;
    was = risen.was;
    number = risen.number;
    made = risen.made;
    rows = risen.rows ∙ ap (rows_with (current_rows risen.old)) (ap (found_for pending_key nothing_pending done) (sym same) ∙ before_none pending_key nothing_pending pending done rest two)
        ∙ nothing_with (current_rows risen.old) ∙ ap (rows_with (current_rows risen.old)) (sym (found_here pending_key nothing_pending pending done rest two) ∙ ap (found_for pending_key nothing_pending (done ++ pending ∷ [])) same);
  }
    where
      nothing_with : (rows : List Row) → rows_with rows (nothing_pending pending.table) ≡ rows_with rows pending
      nothing_with rows = rw (gone, added) refl

  -- and where a version begins
  new_risen : (done rest : List PlainPending) (pending : PlainPending) (place : ℕ) (table old new : PlainTable) → Distinct pending_key (done ++ pending ∷ rest) → table_numbered store pending.table ≡ Some table → table.number ≡ pending.table
      → (risen : IsRisen store.tables done place old) → (old.number == table.number) ≡ true → new ≡ with_version moment (rows_with (current_rows table) pending) old → IsRisen store.tables (done ++ pending ∷ []) place new
  new_risen done rest pending place table old new two there own risen test is =
      let same : pending.table ≡ risen.old.number = sym own ∙ sym (same_number old.number table.number test) ∙ risen.number in
      let both : table ≡ risen.old =
      same_Some table risen.old (sym there ∙ ap (λ (n : ℕ). slice_get store.tables (n - 1)) same ∙ ap (slice_get store.tables) (omega (arith, numbered place risen.old risen.was)) ∙ risen.was) in
      subst (IsRisen store.tables (done ++ pending ∷ []) place) (sym is) (record {
        old = risen.old;
        was = risen.was;
        number = risen.number;
        made = risen.made;
        rows = rw (last_pushed None old.versions (record { begun = moment; rows = rows_with (current_rows table) pending })) refl
            ∙ ap (λ (t : PlainTable). rows_with (current_rows t) pending) both
            ∙ ap (rows_with (current_rows risen.old)) (sym (found_here pending_key nothing_pending pending done rest two) ∙ ap (found_for pending_key nothing_pending (done ++ pending ∷ [])) same);
      })

  -- one more that is pending
  one_risen : (done rest : List PlainPending) (pending : PlainPending) (now : List PlainTable) → Distinct pending_key (done ++ pending ∷ rest) → 1 ≤ pending.table → pending.table ≤ length store.tables → AreRisen store.tables done now
      → AreRisen store.tables (done ++ pending ∷ []) (fold changed_table now (version_committed store moment pending))
  one_risen done rest pending now two first within risen = by (length pending.gone == 0) refl (length pending.added == 0) refl
    where
      either : (place : ℕ) (new : PlainTable) → (risen : IsRisen store.tables done place new) → ((pending.table ≡ risen.old.number) → IsRisen store.tables (done ++ pending ∷ []) place new) → IsRisen store.tables (done ++ pending ∷ []) place new
      either place new here there = test (pending.table == here.old.number) refl
        where
          test : (b : Bool) → (pending.table == here.old.number) ≡ b → IsRisen store.tables (done ++ pending ∷ []) place new
          test true e = there (same_number pending.table here.old.number e)
          test false e = same_risen done pending place new here (λ f. false≢true (sym e ∙ eq-eqb pending.table here.old.number f))

      begun : (o : Option PlainTable) → table_numbered store pending.table ≡ o → AreRisen store.tables (done ++ pending ∷ []) (fold changed_table now (version_begun moment pending o))
      begun None e place new at =
          either place new (risen place new at) (λ same.
          absurd (none-some (risen place new at).old (sym e ∙ ap (slice_get store.tables) (omega (arith, same, numbered place (risen place new at).old (risen place new at).was)) ∙ (risen place new at).was)))
      begun (Some table) e place new at =
          let f : PlainTable → PlainTable = λ (t : PlainTable). if t.number == table.number then with_version moment (rows_with (current_rows table) pending) t else t in
          let was = get_unmap f now place new at in
          let before = risen place was.0 was.1 in
          let own : table.number ≡ pending.table = omega (arith, numbered (pending.table - 1) table e, first) in
          test before was.2 own (was.0.number == table.number) refl
        where
          test : {old : PlainTable} → IsRisen store.tables done place old → new ≡ (if old.number == table.number then with_version moment (rows_with (current_rows table) pending) old else old) → table.number ≡ pending.table
              → (b : Bool) → (old.number == table.number) ≡ b → IsRisen store.tables (done ++ pending ∷ []) place new
          test {old} before is own true f = new_risen done rest pending place table old new two e own before f (is ∙ rw f refl)
          test {old} before is own false f =
              subst (IsRisen store.tables (done ++ pending ∷ []) place) (sym (is ∙ rw f refl))
              (same_risen done pending place old before (λ g. false≢true (sym f ∙ eq-eqb old.number table.number (before.number ∙ sym g ∙ sym own))))

      by : (g : Bool) → (length pending.gone == 0) ≡ g → (a : Bool) → (length pending.added == 0) ≡ a
          → AreRisen store.tables (done ++ pending ∷ []) (fold changed_table now (if g && a then [] else version_begun moment pending (table_numbered store pending.table)))
      by true g true a = λ place new at.
          either place new (risen place new at) (λ same. empty_risen done rest pending place new two (no_length pending.gone g) (no_length pending.added a) (risen place new at) same)
      by true g false a = begun (table_numbered store pending.table) refl
      by false g a b = begun (table_numbered store pending.table) refl

  fold-append : (now : List PlainTable) (xs ys : List TableChange) → fold changed_table now (xs ++ ys) ≡ fold changed_table (fold changed_table now xs) ys
  fold-append now [] ys = refl
  fold-append now (x ∷ xs) ys = fold-append (changed_table now x) xs ys

  all_risen : (done rest : List PlainPending) (now : List PlainTable) → Distinct pending_key (done ++ rest) → Every (λ (p : PlainPending). (1 ≤ p.table) × (p.table ≤ length store.tables)) rest → AreRisen store.tables done now
      → AreRisen store.tables (done ++ rest) (fold changed_table now (flat_map (version_committed store moment) rest))
  all_risen done [] now two within risen = subst (λ (d : List PlainPending). AreRisen store.tables d now) (sym (append_nil done)) risen
    where
      append_nil : (ps : List PlainPending) → ps ++ [] ≡ ps
      append_nil [] = refl
      append_nil (p ∷ ps) = ap (λ qs. p ∷ qs) (append_nil ps)
  all_risen done (pending ∷ rest) now two within risen =
      subst (λ (ts : List PlainTable). AreRisen store.tables (done ++ pending ∷ rest) ts) (sym (fold-append now (version_committed store moment pending) (flat_map (version_committed store moment) rest)))
      (subst (λ (d : List PlainPending). AreRisen store.tables d (fold changed_table (fold changed_table now (version_committed store moment pending)) (flat_map (version_committed store moment) rest))) (append_assoc done (pending ∷ []) rest)
      (all_risen (done ++ pending ∷ []) rest (fold changed_table now (version_committed store moment pending)) (subst (Distinct pending_key) (sym (append_assoc done (pending ∷ []) rest)) two) within.1
      (one_risen done rest pending now two within.0.0 within.0.1 risen)))

  none_risen : AreRisen store.tables [] store.tables
  none_risen place new at = record { old = new; was = at; number = refl; made = refl; rows = sym (bag_plus-nil (current_rows new) (bags place new at)) }

  pub versions_risen : (all : List PlainPending) → Distinct pending_key all → Every (λ (p : PlainPending). (1 ≤ p.table) × (p.table ≤ length store.tables)) all
      → AreRisen store.tables all (fold changed_table store.tables (flat_map (version_committed store moment) all))
  versions_risen all two within = all_risen [] all store.tables two within none_risen

-- ---- layouts

abbrev pub lists_key : TallyPending → ℕ
lists_key lists = lists.table

set_same : {A : Type 0} (xs : List A) (place : ℕ) (y : A) → place < length xs → slice_get (slice_set xs place y) place ≡ Some y
set_same [] place y within = absurd (omega (arith, within))
set_same (x ∷ xs) zero y within = refl
set_same (x ∷ xs) (suc place) y within = set_same xs place y (omega (arith, within))

set_apart : {A : Type 0} (xs : List A) (place : ℕ) (y : A) (k : ℕ) → (k ≡ place → ⊥) → slice_get (slice_set xs place y) k ≡ slice_get xs k
set_apart [] place y k apart = refl
set_apart (x ∷ xs) zero y zero apart = absurd (apart refl)
set_apart (x ∷ xs) zero y (suc k) apart = refl
set_apart (x ∷ xs) (suc place) y zero apart = refl
set_apart (x ∷ xs) (suc place) y (suc k) apart = set_apart xs place y k (λ e. apart (ap suc e))

last_layout : (layouts : List (ℕ × List ℕ)) (l : ℕ × List ℕ) → chain.last_of (layouts ++ l ∷ []) ≡ Some l
last_layout [] l = refl
last_layout (m ∷ []) l = refl
last_layout (m ∷ n ∷ layouts) l = last_layout (n ∷ layouts) l

abbrev pub current_in : List (List (ℕ × List ℕ)) → ℕ → List ℕ
current_in layouts table = chain.current_of (unwrap_or (slice_get layouts (table - 1)) [])

pub layout_here : (layouts : List (List (ℕ × List ℕ))) (table moment : ℕ) (parts : List ℕ) → 1 ≤ table → table ≤ length layouts → current_in (with_layout layouts table (moment, parts)) table ≡ parts
layout_here layouts table moment parts first within =
    ap (λ (o : Option (List (ℕ × List ℕ))). chain.current_of (unwrap_or o [])) (set_same layouts (table - 1) (unwrap_or (slice_get layouts (table - 1)) [] ++ (moment, parts) ∷ []) (omega (arith, first, within)))
    ∙ ap (λ (o : Option (ℕ × List ℕ)). unwrap_or (option_map (λ (l : ℕ × List ℕ). l.1) o) []) (last_layout (unwrap_or (slice_get layouts (table - 1)) []) (moment, parts))

pub layout_there : (layouts : List (List (ℕ × List ℕ))) (table other moment : ℕ) (parts : List ℕ) → 1 ≤ table → 1 ≤ other → (other ≡ table → ⊥) → current_in (with_layout layouts table (moment, parts)) other ≡ current_in layouts other
layout_there layouts table other moment parts first second apart =
    ap (λ (o : Option (List (ℕ × List ℕ))). chain.current_of (unwrap_or o []))
    (set_apart layouts (table - 1) (unwrap_or (slice_get layouts (table - 1)) [] ++ (moment, parts) ∷ []) (other - 1) (λ e. apart (omega (arith, e, first, second))))

-- the layouts of the tables after those of the lists that are done
abbrev pub none_for : ℕ → ℕ → TallyPending
none_for session table = no_lists session table

abbrev pub AreLaid : Tally → ℕ → List TallyPending → List (List (ℕ × List ℕ)) → Type 0
AreLaid tally session done layouts = (table : ℕ) → 1 ≤ table → table ≤ length tally.layouts →
    current_in layouts table ≡ changed (current_parts tally table) (found_for lists_key (none_for session) done table).gone (found_for lists_key (none_for session) done table).added

module _ (tally : Tally) (moment session : ℕ) where
  one_laid : (done rest : List TallyPending) (l : TallyPending) (now : Tally) → Distinct lists_key (done ++ l ∷ rest) → 1 ≤ l.table → length now.layouts ≡ length tally.layouts → AreLaid tally session done now.layouts
      → AreLaid tally session (done ++ l ∷ []) (fold changed_tally now (layout_begun tally moment l.table l.gone l.added)).layouts
  one_laid done rest l now two first many laid table from_one within = by l.gone refl l.added refl
    where
      -- of another table
      there : (l.table ≡ table → ⊥) → (layouts : List (List (ℕ × List ℕ))) → current_in layouts table ≡ current_in now.layouts table
          → current_in layouts table ≡ changed (current_parts tally table) (found_for lists_key (none_for session) (done ++ l ∷ []) table).gone (found_for lists_key (none_for session) (done ++ l ∷ []) table).added
      there apart layouts e =
          subst (λ (x : TallyPending). current_in layouts table ≡ changed (current_parts tally table) x.gone x.added) (sym (found_there lists_key (none_for session) l done table apart)) (e ∙ laid table from_one within)

      -- of its own
      here : l.table ≡ table → (layouts : List (List (ℕ × List ℕ))) → current_in layouts table ≡ changed (current_parts tally table) l.gone l.added
          → current_in layouts table ≡ changed (current_parts tally table) (found_for lists_key (none_for session) (done ++ l ∷ []) table).gone (found_for lists_key (none_for session) (done ++ l ∷ []) table).added
      here is layouts e =
          subst (λ (x : TallyPending). current_in layouts table ≡ changed (current_parts tally table) x.gone x.added)
          (sym (found_here lists_key (none_for session) l done rest two) ∙ ap (found_for lists_key (none_for session) (done ++ l ∷ [])) is) e

      nothing : l.gone ≡ [] → l.added ≡ [] → l.table ≡ table → current_in now.layouts table ≡ changed (current_parts tally table) l.gone l.added
      nothing gone added is =
          laid table from_one within
          ∙ ap (λ (x : TallyPending). changed (current_parts tally table) x.gone x.added) (ap (found_for lists_key (none_for session) done) (sym is) ∙ before_none lists_key (none_for session) l done rest two)
          ∙ unchanged (current_parts tally table) [] [] refl refl ∙ sym (unchanged (current_parts tally table) l.gone l.added gone added)

      begun : (gone added : List ℕ) → l.gone ≡ gone → l.added ≡ added
          → current_in (with_layout now.layouts l.table (moment, changed (current_parts tally l.table) gone added)) table
          ≡ changed (current_parts tally table) (found_for lists_key (none_for session) (done ++ l ∷ []) table).gone (found_for lists_key (none_for session) (done ++ l ∷ []) table).added
      begun gone added e f = test (l.table == table) refl
        where
          test : (b : Bool) → (l.table == table) ≡ b → current_in (with_layout now.layouts l.table (moment, changed (current_parts tally l.table) gone added)) table
              ≡ changed (current_parts tally table) (found_for lists_key (none_for session) (done ++ l ∷ []) table).gone (found_for lists_key (none_for session) (done ++ l ∷ []) table).added
          test true g =
              let is : l.table ≡ table = same_number l.table table g in
              here is (with_layout now.layouts l.table (moment, changed (current_parts tally l.table) gone added))
              (ap (current_in (with_layout now.layouts l.table (moment, changed (current_parts tally l.table) gone added))) (sym is)
              ∙ layout_here now.layouts l.table moment (changed (current_parts tally l.table) gone added) first (omega (arith, is, within, many))
              ∙ ap (λ (n : ℕ). changed (current_parts tally n) gone added) is ∙ sym (ap (changed (current_parts tally table) gone) f) ∙ sym (ap (λ (h : List ℕ). changed (current_parts tally table) h l.added) e))
          test false g =
              let apart : l.table ≡ table → ⊥ = λ h. false≢true (sym g ∙ eq-eqb l.table table h) in
              there apart (with_layout now.layouts l.table (moment, changed (current_parts tally l.table) gone added))
              (layout_there now.layouts l.table table moment (changed (current_parts tally l.table) gone added) first from_one (λ h. apart (sym h)))

      by : (gone : List ℕ) → l.gone ≡ gone → (added : List ℕ) → l.added ≡ added → current_in (fold changed_tally now (layout_begun tally moment l.table gone added)).layouts table
          ≡ changed (current_parts tally table) (found_for lists_key (none_for session) (done ++ l ∷ []) table).gone (found_for lists_key (none_for session) (done ++ l ∷ []) table).added
      by [] e [] f = test (l.table == table) refl
        where
          test : (b : Bool) → (l.table == table) ≡ b → current_in now.layouts table
              ≡ changed (current_parts tally table) (found_for lists_key (none_for session) (done ++ l ∷ []) table).gone (found_for lists_key (none_for session) (done ++ l ∷ []) table).added
          test true g = here (same_number l.table table g) now.layouts (nothing e f (same_number l.table table g))
          test false g = there (λ h. false≢true (sym g ∙ eq-eqb l.table table h)) now.layouts refl
      by [] e (n ∷ added) f = begun [] (n ∷ added) e f
      by (n ∷ gone) e added f = begun (n ∷ gone) added e f

  -- only layouts begin
  pub record OnlyLayouts (before after : Tally) : Type 0 where
    pub parts : after.parts ≡ before.parts
    pub pending : after.pending ≡ before.pending
    pub pins : after.pins ≡ before.pins
    pub round : after.round ≡ before.round
    pub many : length after.layouts ≡ length before.layouts

  pub only_begun : (now : Tally) (table : ℕ) (gone added : List ℕ) → OnlyLayouts now (fold changed_tally now (layout_begun tally moment table gone added))
  only_begun now table [] [] = record { parts = refl; pending = refl; pins = refl; round = refl; many = refl }
  only_begun now table [] (n ∷ added) = record { parts = refl; pending = refl; pins = refl; round = refl; many = length-set now.layouts (table - 1) _ }
  only_begun now table (n ∷ gone) added = record { parts = refl; pending = refl; pins = refl; round = refl; many = length-set now.layouts (table - 1) _ }

  only_on : (a b c : Tally) → OnlyLayouts a b → OnlyLayouts b c → OnlyLayouts a c
  only_on a b c left right = record { parts = right.parts ∙ left.parts; pending = right.pending ∙ left.pending; pins = right.pins ∙ left.pins; round = right.round ∙ left.round; many = right.many ∙ left.many }

  pub fold_tally-append : (now : Tally) (xs ys : List TallyChange) → fold changed_tally now (xs ++ ys) ≡ fold changed_tally (fold changed_tally now xs) ys
  fold_tally-append now [] ys = refl
  fold_tally-append now (x ∷ xs) ys = fold_tally-append (changed_tally now x) xs ys

  abbrev pub begun_by_lists : TallyPending → List TallyChange
  begun_by_lists l = layout_begun tally moment l.table l.gone l.added

  pub only_lists : (now : Tally) (rest : List TallyPending) → OnlyLayouts now (fold changed_tally now (flat_map begun_by_lists rest))
  only_lists now [] = record { parts = refl; pending = refl; pins = refl; round = refl; many = refl }
  only_lists now (l ∷ rest) =
      subst (OnlyLayouts now) (sym (fold_tally-append now (begun_by_lists l) (flat_map begun_by_lists rest)))
      (only_on now (fold changed_tally now (begun_by_lists l)) (fold changed_tally (fold changed_tally now (begun_by_lists l)) (flat_map begun_by_lists rest)) (only_begun now l.table l.gone l.added)
      (only_lists (fold changed_tally now (begun_by_lists l)) rest))

  all_laid : (done rest : List TallyPending) (now : Tally) → Distinct lists_key (done ++ rest) → Every (λ (l : TallyPending). 1 ≤ l.table) rest → length now.layouts ≡ length tally.layouts → AreLaid tally session done now.layouts
      → AreLaid tally session (done ++ rest) (fold changed_tally now (flat_map begun_by_lists rest)).layouts
  all_laid done [] now two first many laid = subst (λ (d : List TallyPending). AreLaid tally session d now.layouts) (sym (append_nil done)) laid
    where
      append_nil : (ls : List TallyPending) → ls ++ [] ≡ ls
      append_nil [] = refl
      append_nil (l ∷ ls) = ap (λ ms. l ∷ ms) (append_nil ls)
  all_laid done (l ∷ rest) now two first many laid =
      subst (λ (t : Tally). AreLaid tally session (done ++ l ∷ rest) t.layouts) (sym (fold_tally-append now (begun_by_lists l) (flat_map begun_by_lists rest)))
      (subst (λ (d : List TallyPending). AreLaid tally session d (fold changed_tally (fold changed_tally now (begun_by_lists l)) (flat_map begun_by_lists rest)).layouts) (append_assoc done (l ∷ []) rest)
      (all_laid (done ++ l ∷ []) rest (fold changed_tally now (begun_by_lists l)) (subst (Distinct lists_key) (sym (append_assoc done (l ∷ []) rest)) two) first.1
      ((only_begun now l.table l.gone l.added).many ∙ many) (one_laid done rest l now two first.0 many laid)))

  pub none_laid : (layouts : List (List (ℕ × List ℕ))) → layouts ≡ tally.layouts → AreLaid tally session [] layouts
  none_laid layouts same table first within = ap (λ (ls : List (List (ℕ × List ℕ))). current_in ls table) same ∙ sym (unchanged (current_parts tally table) [] [] refl refl)

  pub layouts_laid : (all : List TallyPending) (now : Tally) → Distinct lists_key all → Every (λ (l : TallyPending). 1 ≤ l.table) all → now.layouts ≡ tally.layouts → AreLaid tally session all (fold changed_tally now (flat_map begun_by_lists all)).layouts
  layouts_laid all now two first same = all_laid [] all now two first (ap (λ (ls : List (List (ℕ × List ℕ))). length ls) same) (none_laid now.layouts same)
