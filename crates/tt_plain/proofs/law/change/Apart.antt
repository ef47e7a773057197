-- Names that stand apart, and names that are free, told place by place.
use Rattle.std.specs.Prelude.{Bool, List, None, Some, [], false, filter, find, map, refl, slice_get, true, ℕ, ◌∷◌, ◌≡◌, ◌≢◌}
use Rattle.std.proofs.Common.{ap, arith, cond, subst, suc, sym, zero, ◌∙◌}
use Rattle.std.proofs.lemmas.Bool.{false≢true}
use Rattle.std.proofs.lemmas.Option.{none-some, same_Some}
use Rattle.tt_plain.proofs.law.change.Names.{Differ}
use Rattle.tt_plain.specs.declared.store.PlainTable.{PlainTable}
use Rattle.tt_plain.specs.law.Lists.{EachTwo, Every}
use Rattle.tt_plain.specs.law.Sound.{HaveOwnNames}
use Rattle.tt_plain.specs.stored.Tables.{is_live}

pub free_from : (P : PlainTable → Type 0) (tables : List PlainTable) → ((place : ℕ) (table : PlainTable) → slice_get tables place ≡ Some table → is_live table ≡ true → P table) → Every P (filter is_live tables)
free_from P [] at = tt
free_from P (first ∷ tables) at = here (is_live first) refl (free_from P tables (λ place table e live. at (suc place) table e live))
  where
    here : (b : Bool) → is_live first ≡ b → Every P (filter is_live tables) → Every P (cond b (first ∷ filter is_live tables) (filter is_live tables))
    here true e rest = (at 0 first refl e, rest)
    here false e rest = rest

pub free_to : (P : PlainTable → Type 0) (tables : List PlainTable) (place : ℕ) (table : PlainTable) → Every P (filter is_live tables) → slice_get tables place ≡ Some table → is_live table ≡ true → P table
free_to P [] place table all e live = absurd (none-some table e)
free_to P (first ∷ tables) zero table all e live = here (is_live first) (ap is_live (same_Some first table e) ∙ live) all
  where
    here : (b : Bool) → b ≡ true → Every P (cond b (first ∷ filter is_live tables) (filter is_live tables)) → P table
    here true f each = subst P (same_Some first table e) each.0
    here false f each = absurd (false≢true f)
free_to P (first ∷ tables) (suc place) table all e live = free_to P tables place table (behind (is_live first) all) e live
  where
    behind : (b : Bool) → Every P (cond b (first ∷ filter is_live tables) (filter is_live tables)) → Every P (filter is_live tables)
    behind true each = each.1
    behind false each = each

-- of two live tables at different places
abbrev pub Apart : List PlainTable → Type 0
Apart tables = (i j : ℕ) (a b : PlainTable) → (i ≡ j → ⊥) → slice_get tables i ≡ Some a → slice_get tables j ≡ Some b → is_live a ≡ true → is_live b ≡ true → a.name ≢ b.name

pub apart_from : (tables : List PlainTable) → Apart tables → HaveOwnNames tables
apart_from [] apart = tt
apart_from (first ∷ tables) apart =
    here (is_live first) refl (apart_from tables (λ i j a b other at there left right. apart (suc i) (suc j) a b (λ e. other (omega (arith, e))) at there left right))
  where
    here : (b : Bool) → is_live first ≡ b → HaveOwnNames tables → EachTwo Differ (cond b (first ∷ filter is_live tables) (filter is_live tables))
    here true e rest = (free_from (Differ first) tables (λ place table at live. apart 0 (suc place) first table (λ f. absurd (omega (arith, f))) refl at e live), rest)
    here false e rest = rest

first_apart : (test : Bool) (first : PlainTable) (tables : List PlainTable) → test ≡ true → EachTwo Differ (cond test (first ∷ filter is_live tables) (filter is_live tables)) → Every (Differ first) (filter is_live tables)
first_apart true first tables e all = all.0
first_apart false first tables e all = absurd (false≢true e)

rest_apart : (test : Bool) (first : PlainTable) (tables : List PlainTable) → EachTwo Differ (cond test (first ∷ filter is_live tables) (filter is_live tables)) → HaveOwnNames tables
rest_apart true first tables all = all.1
rest_apart false first tables all = all

pub apart_to : (tables : List PlainTable) → HaveOwnNames tables → Apart tables
apart_to [] all i j a b other at there left right = absurd (none-some a at)
apart_to (first ∷ tables) all zero zero a b other at there left right = absurd (other refl)
apart_to (first ∷ tables) all zero (suc j) a b other at there left right =
    subst (λ (t : PlainTable). t.name ≢ b.name) (same_Some first a at)
    (free_to (Differ first) tables j b (first_apart (is_live first) first tables (ap is_live (same_Some first a at) ∙ left) all) there right)
apart_to (first ∷ tables) all (suc i) zero a b other at there left right =
    λ e. free_to (Differ first) tables i a (first_apart (is_live first) first tables (ap is_live (same_Some first b there) ∙ right) all) at left
    (ap (λ (t : PlainTable). t.name) (same_Some first b there) ∙ sym e)
apart_to (first ∷ tables) all (suc i) (suc j) a b other at there left right =
    apart_to tables (rest_apart (is_live first) first tables all) i j a b (λ e. other (ap suc e)) at there left right

pub get_unmap : (f : PlainTable → PlainTable) (tables : List PlainTable) (place : ℕ) (new : PlainTable) → slice_get (map f tables) place ≡ Some new → (old : PlainTable) × (slice_get tables place ≡ Some old) × (new ≡ f old)
get_unmap f [] place new e = absurd (none-some new e)
get_unmap f (first ∷ tables) zero new e = (first, refl, sym (same_Some (f first) new e))
get_unmap f (first ∷ tables) (suc place) new e = get_unmap f tables place new e

pub find_misses : {A : Type 0} (test : A → Bool) (xs : List A) (place : ℕ) (x : A) → find test xs ≡ None → slice_get xs place ≡ Some x → test x ≡ false
find_misses test [] place x e at = absurd (none-some x at)
find_misses test (y ∷ xs) place x e at = by (λ k f g. find_misses test xs k x f g) (test y) refl place e at
  where
    by : ((k : ℕ) → find test xs ≡ None → slice_get xs k ≡ Some x → test x ≡ false) → (b : Bool) → test y ≡ b → (k : ℕ) → cond b (Some y) (find test xs) ≡ None → slice_get (y ∷ xs) k ≡ Some x → test x ≡ false
    by rest true is k f g = absurd (none-some y (sym f))
    by rest false is zero f g = ap test (sym (same_Some y x g)) ∙ is
    by rest false is (suc k) f g = rest k f g
