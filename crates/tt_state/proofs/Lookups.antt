-- What is looked up is what the store has.
use Rattle.std.specs.Option.{option_and_then}
use Rattle.std.specs.Prelude.{Bool, List, None, Option, Some, [], find, get_or, if◌then◌else◌, length, option_map, refl, slice_get, true, false, ℕ, ◌-◌, ◌<◌, ◌==◌, ◌||◌, ◌∷◌, ◌≡◌, ◌≤◌}
use Rattle.std.proofs.Common.{ap, arith, suc, zero, ◌∙◌}
use Rattle.std.proofs.lemmas.Bool.{ne_eqb}
use Rattle.std.proofs.lemmas.Option.{none-some}
use Rattle.std.specs.List.{list_any}
use Rattle.tt_layout.specs.Numbers.{has}
use Rattle.tt_value.specs.declared.name.TableName.{TableName}
use Rattle.tt_script.specs.declared.script.Script.{Script}
use Rattle.tt_plain.proofs.Tests.{same_test}
use Rattle.tt_plain.proofs.law.session.Views.{IsTable, is_table}
use Rattle.tt_plain.specs.declared.store.Plain.{Plain}
use Rattle.tt_plain.specs.declared.store.PlainTable.{PlainTable}
use Rattle.tt_plain.specs.law.Sound.{IsSound}
use Rattle.tt_plain.specs.stored.Names.{table_named}
use Rattle.tt_built.specs.Built.{built}
use Rattle.tt_state.proofs.Lists.{map_get}
use Rattle.tt_state.specs.Keeps.{KeepsTables, is_live_as, table_of}
use Rattle.tt_state.specs.Kept.{Kept, live_kept, table_kept}
use Rattle.tt_value.specs.declared.value.Row.{Row}

-- where what is found stands
pub found_at : {A : Type 0} (test : A → Bool) (xs : List A) (x : A) → find test xs ≡ Some x → (place : ℕ) × (slice_get xs place ≡ Some x)
found_at test [] x e = absurd (none-some x e)
found_at test (first ∷ xs) x e = by (test first) (found_at test xs x) e
  where
    by : (b : Bool) → (find test xs ≡ Some x → (place : ℕ) × (slice_get xs place ≡ Some x)) → (if b then Some first else find test xs) ≡ Some x → (place : ℕ) × (slice_get (first ∷ xs) place ≡ Some x)
    by true later f = (0, f)
    by false later f = (suc (later f).0, (later f).1)

not_zero : (n : ℕ) → 1 ≤ n → (n == 0) ≡ false
not_zero n le = ne_eqb n 0 (λ e. omega (arith, e, le))

module _ (program : Script) (store : Plain) (contents : List (List Row)) (kept : Kept) (sound : IsSound built program store) (keeps : KeepsTables store.tables store.tally contents kept) where
  -- a table of the store by its number
  pub number_tied : (table : PlainTable) → IsTable store table → table_kept kept.tables table.number ≡ Some (table_of store.tally table)
  number_tied table is =
      ap (λ b. if b then None else slice_get kept.tables (table.number - 1)) (not_zero table.number is.from_one)
      ∙ ap (λ ts. slice_get ts (table.number - 1)) keeps.tables
      ∙ map_get (table_of store.tally) store.tables (table.number - 1) table is.there

  -- the live table of a name
  pub live_tied : (session : ℕ) (name : TableName) → live_kept kept name.name.text ≡ option_map (table_of store.tally) (table_named store session name)
  unfolding table_named
  live_tied session name =
      ap (option_and_then (table_kept kept.tables)) (keeps.names name.name.text) ∙ by (find (is_live_as name.name.text) store.tables) refl
    where
      by : (found : Option PlainTable) → find (is_live_as name.name.text) store.tables ≡ found
          → option_and_then (table_kept kept.tables) (option_map (λ (table : PlainTable). table.number) found) ≡ option_map (table_of store.tally) found
      by None e = refl
      by (Some table) e =
          let at = found_at (is_live_as name.name.text) store.tables table e in
          number_tied table (is_table built program store at.0 table sound at.1)

-- each number of a list is in it
pub has_get : (ns : List ℕ) (i d : ℕ) → i < length ns → has ns (get_or ns i d) ≡ true
has_get [] i d less = absurd (omega (arith, less))
has_get (n ∷ ns) zero d less = ap (λ b. b || list_any (λ m. m == n) ns) (same_test n)
has_get (n ∷ ns) (suc i) d less = ap (λ b. (n == get_or ns i d) || b) (has_get ns i d (omega (arith, less))) ∙ or_true (n == get_or ns i d)
  where
    or_true : (b : Bool) → (b || true) ≡ true
    or_true true = refl
    or_true false = refl
