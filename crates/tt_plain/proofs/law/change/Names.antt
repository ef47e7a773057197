-- Each sound change of tables keeps the names of live tables apart.
use Rattle.std.specs.Prelude.{Bool, List, None, Some, [], false, filter, if◌then◌else◌, map, refl, slice_get, true, ℕ, ◌++◌, ◌+◌, ◌<◌, ◌==◌, ◌∷◌, ◌≡◌, ◌≢◌}
use Rattle.std.proofs.Common.{arith, cond, subst, suc, sym, ◌∙◌}
use Rattle.std.proofs.lemmas.Bool.{false≢true, ne_eqb}
use Rattle.tt_plain.proofs.Tests.{same_number}
use Rattle.tt_plain.proofs.law.Lists.{every-filter, every_on, two-filter}
use Rattle.tt_plain.specs.declared.store.PlainTable.{PlainTable}
use Rattle.tt_plain.specs.effect.Apply.{with_table}
use Rattle.tt_plain.specs.law.Changes.{IsFreeName}
use Rattle.tt_plain.specs.law.Lists.{EachTwo, Every}
use Rattle.tt_plain.specs.law.Sound.{AreSoundTables, HaveOwnNames}
use Rattle.tt_plain.specs.stored.Tables.{is_live}

abbrev pub Differ : PlainTable → PlainTable → Type 0
Differ a b = a.name ≢ b.name

-- ---- one table more

behind_first : (P : PlainTable → Type 0) (test : Bool) (first : PlainTable) (xs ys : List PlainTable) → (Every P xs → Every P ys) → Every P (cond test (first ∷ xs) xs) → Every P (cond test (first ∷ ys) ys)
behind_first P true first xs ys on all = (all.0, on all.1)
behind_first P false first xs ys on all = on all

live_push : (P : PlainTable → Type 0) (tables : List PlainTable) (table : PlainTable) → P table → Every P (filter is_live tables) → Every P (filter is_live (tables ++ table ∷ []))
live_push P [] table here all = every-filter P is_live (table ∷ []) (here, tt)
live_push P (first ∷ tables) table here all =
    behind_first P (is_live first) first (filter is_live tables) (filter is_live (tables ++ table ∷ [])) (live_push P tables table here) all

tail_free : (P : PlainTable → Type 0) (test : Bool) (first : PlainTable) (xs : List PlainTable) → Every P (cond test (first ∷ xs) xs) → Every P xs
tail_free P true first xs all = all.1
tail_free P false first xs all = all

head_free : (P : PlainTable → Type 0) (test : Bool) (first : PlainTable) (xs : List PlainTable) → test ≡ true → Every P (cond test (first ∷ xs) xs) → P first
head_free P true first xs e all = all.0
head_free P false first xs e all = absurd (false≢true e)

-- the first stays, and the others change as is told
two_on : (test : Bool) (first : PlainTable) (xs ys : List PlainTable) → (test ≡ true → Every (Differ first) xs → Every (Differ first) ys) → (EachTwo Differ xs → EachTwo Differ ys)
    → EachTwo Differ (cond test (first ∷ xs) xs) → EachTwo Differ (cond test (first ∷ ys) ys)
two_on true first xs ys each on all = (each refl all.0, on all.1)
two_on false first xs ys each on all = on all

pub names-push : (tables : List PlainTable) (table : PlainTable) → IsFreeName tables table.name → HaveOwnNames tables → HaveOwnNames (tables ++ table ∷ [])
names-push [] table free all = two-filter Differ is_live (table ∷ []) (tt, tt)
names-push (first ∷ tables) table free all =
    two_on (is_live first) first (filter is_live tables) (filter is_live (tables ++ table ∷ []))
    (λ e each. live_push (Differ first) tables table (head_free (λ (t : PlainTable). t.name ≢ table.name) (is_live first) first (filter is_live tables) e free) each)
    (λ rest. names-push tables table (tail_free (λ (t : PlainTable). t.name ≢ table.name) (is_live first) first (filter is_live tables) free) rest) all

-- ---- all tables changed alike, none of them named anew or brought back

pub record IsQuiet (f : PlainTable → PlainTable) : Type 0 where
  pub name : (table : PlainTable) → (f table).name ≡ table.name
  pub live : (table : PlainTable) → is_live (f table) ≡ true → is_live table ≡ true

quiet_one : (P : PlainTable → Type 0) (old new : Bool) (a b : PlainTable) (xs ys : List PlainTable) → (new ≡ true → old ≡ true) → (P a → P b) → (Every P xs → Every P ys) → Every P (cond old (a ∷ xs) xs) → Every P (cond new (b ∷ ys) ys)
quiet_one P true true a b xs ys live here on all = (here all.0, on all.1)
quiet_one P true false a b xs ys live here on all = on all.1
quiet_one P false true a b xs ys live here on all = absurd (false≢true (live refl))
quiet_one P false false a b xs ys live here on all = on all

quiet_others : (f : PlainTable → PlainTable) (name : List ℕ) (tables : List PlainTable) → IsQuiet f → Every (λ (t : PlainTable). name ≢ t.name) (filter is_live tables) → Every (λ (t : PlainTable). name ≢ t.name) (filter is_live (map f tables))
quiet_others f name [] quiet all = tt
quiet_others f name (table ∷ tables) quiet all =
    quiet_one (λ (t : PlainTable). name ≢ t.name) (is_live table) (is_live (f table)) table (f table) (filter is_live tables) (filter is_live (map f tables)) (quiet.live table)
    (λ differs. subst (λ (n : List ℕ). name ≢ n) (sym (quiet.name table)) differs) (quiet_others f name tables quiet) all

quiet_two : (old new : Bool) (a b : PlainTable) (xs ys : List PlainTable) → (new ≡ true → old ≡ true) → (Every (Differ a) xs → Every (Differ b) ys) → (EachTwo Differ xs → EachTwo Differ ys) → EachTwo Differ (cond old (a ∷ xs) xs) → EachTwo Differ (cond new (b ∷ ys) ys)
quiet_two true true a b xs ys live each on all = (each all.0, on all.1)
quiet_two true false a b xs ys live each on all = on all.1
quiet_two false true a b xs ys live each on all = absurd (false≢true (live refl))
quiet_two false false a b xs ys live each on all = on all

pub names-map : (f : PlainTable → PlainTable) (tables : List PlainTable) → IsQuiet f → HaveOwnNames tables → HaveOwnNames (map f tables)
names-map f [] quiet all = tt
names-map f (table ∷ tables) quiet all =
    quiet_two (is_live table) (is_live (f table)) table (f table) (filter is_live tables) (filter is_live (map f tables)) (quiet.live table)
    (λ each. quiet_others f (f table).name tables quiet (subst (λ (n : List ℕ). Every (λ (t : PlainTable). n ≢ t.name) (filter is_live tables)) (sym (quiet.name table)) each))
    (names-map f tables quiet) all

if_name : (test : Bool) (f : PlainTable → PlainTable) (table : PlainTable) → IsQuiet f → (if test then f table else table).name ≡ table.name
if_name true f table quiet = quiet.name table
if_name false f table quiet = refl

if_live : (test : Bool) (f : PlainTable → PlainTable) (table : PlainTable) → IsQuiet f → is_live (if test then f table else table) ≡ true → is_live table ≡ true
if_live true f table quiet e = quiet.live table e
if_live false f table quiet e = e

pub names-with : (number : ℕ) (f : PlainTable → PlainTable) (tables : List PlainTable) → IsQuiet f → HaveOwnNames tables → HaveOwnNames (with_table number f tables)
names-with number f tables quiet all =
    names-map (λ (table : PlainTable). if table.number == number then f table else table) tables
    (record { name = λ table. if_name (table.number == number) f table quiet; live = λ table e. if_live (table.number == number) f table quiet e }) all

-- ---- a dropped table brought back under a name that is free

abbrev live_again : PlainTable → PlainTable
live_again table = record table { dropped = None }

-- behind the table of the number none is changed
untouched : (moment count first number : ℕ) (tables : List PlainTable) → number < first → AreSoundTables moment count first tables → with_table number live_again tables ≡ tables
untouched moment count first number [] below all = refl
untouched moment count first number (table ∷ tables) below all =
    let other : (table.number == number) ≡ false = ne_eqb table.number number (λ e. omega (arith, all.0.numbered)) in
    let rest = untouched moment count (first + 1) number tables (omega arith) all.1 in
    rw (other, rest) refl

back_one : (a table : PlainTable) (test : Bool) (xs ys : List PlainTable) → (test ≡ true → Differ a table) → (Every (Differ a) xs → Every (Differ a) ys) → Every (Differ a) (cond (is_live table) (table ∷ xs) xs)
    → Every (Differ a) (cond (is_live (if test then live_again table else table)) ((if test then live_again table else table) ∷ ys) ys)
back_one a table true xs ys differs on all = (differs refl, on (tail_free (Differ a) (is_live table) table xs all))
back_one a table false xs ys differs on all = behind_first (Differ a) (is_live table) table xs ys on all

-- the tables of the number have the name
abbrev Named : ℕ → ℕ → List ℕ → List PlainTable → Type 0
Named first number name tables = (table : PlainTable) (place : ℕ) → slice_get tables place ≡ Some table → first + place ≡ number → table.name ≡ name

named_behind : (first number : ℕ) (name : List ℕ) (table : PlainTable) (tables : List PlainTable) → Named first number name (table ∷ tables) → Named (first + 1) number name tables
named_behind first number name table tables named other place at e = named other (suc place) at (omega (arith, e))

-- one that differs from the name differs from the others still
back_others : (moment count first number : ℕ) (name : List ℕ) (a : PlainTable) (tables : List PlainTable) → AreSoundTables moment count first tables
    → Named first number name tables → a.name ≢ name → Every (Differ a) (filter is_live tables) → Every (Differ a) (filter is_live (with_table number live_again tables))
back_others moment count first number name a [] all named differs each = tt
back_others moment count first number name a (table ∷ tables) all named differs each =
    back_one a table (table.number == number) (filter is_live tables) (filter is_live (with_table number live_again tables))
    (λ test same. differs (same ∙ named table 0 refl (omega (arith, same_number table.number number test, all.0.numbered))))
    (back_others moment count (first + 1) number name a tables all.1 (named_behind first number name table tables named) differs) each

two_tail : (test : Bool) (first : PlainTable) (xs : List PlainTable) → EachTwo Differ (cond test (first ∷ xs) xs) → EachTwo Differ xs
two_tail true first xs all = all.1
two_tail false first xs all = all

pub names_back : (moment count first number : ℕ) (name : List ℕ) (tables : List PlainTable) → AreSoundTables moment count first tables → Named first number name tables
    → IsFreeName tables name → HaveOwnNames tables → HaveOwnNames (with_table number live_again tables)
names_back moment count first number name [] all named free two = tt
names_back moment count first number name (table ∷ tables) all named free two =
    here (table.number == number) refl (names_back moment count (first + 1) number name tables all.1 (named_behind first number name table tables named)
    (tail_free (λ (t : PlainTable). t.name ≢ name) (is_live table) table (filter is_live tables) free) (two_tail (is_live table) table (filter is_live tables) two))
  where
    free_behind : IsFreeName tables name
    free_behind = tail_free (λ (t : PlainTable). t.name ≢ name) (is_live table) table (filter is_live tables) free

    here : (test : Bool) → (table.number == number) ≡ test → HaveOwnNames (with_table number live_again tables) → HaveOwnNames ((if test then live_again table else table) ∷ with_table number live_again tables)
    here true e rest =
        let is_name : table.name ≡ name = named table 0 refl (omega (arith, same_number table.number number e, all.0.numbered)) in
        let same : with_table number live_again tables ≡ tables = untouched moment count (first + 1) number tables (omega (arith, same_number table.number number e, all.0.numbered)) all.1 in (
          subst (λ (ts : List PlainTable). Every (Differ (live_again table)) (filter is_live ts)) (sym same)
              (every_on (λ (t : PlainTable). t.name ≢ name) (Differ (live_again table)) (filter is_live tables) (λ t differs f. differs (sym f ∙ is_name)) free_behind),
          rest,
        )
    here false e rest =
        two_on (is_live table) table (filter is_live tables) (filter is_live (with_table number live_again tables))
        (λ live each. back_others moment count (first + 1) number name table tables all.1 (named_behind first number name table tables named) (head_free (λ (t : PlainTable). t.name ≢ name) (is_live table) table (filter is_live tables) live free) each)
        (λ old. rest) two
