-- Tables that get other names, or come back, keep the store sound.
use Rattle.std.specs.Prelude.{Bool, List, None, Option, Some, [], false, find, if◌then◌else◌, length, map, refl, slice_get, true, ℕ, ◌+◌, ◌-◌, ◌==◌, ◌∷◌, ◌≡◌, ◌≢◌}
use Rattle.std.proofs.Common.{ap, arith, cond, sym, ◌∙◌}
use Rattle.std.proofs.lemmas.Bool.{eq-eqb, false≢true}
use Rattle.std.proofs.lemmas.List.{length-map}
use Rattle.tt_plain.proofs.Tests.{same_number}
use Rattle.tt_plain.proofs.law.session.Alone.{IsDue}
use Rattle.tt_plain.proofs.law.change.Apart.{apart_from, apart_to, free_to, get_unmap}
use Rattle.tt_plain.proofs.law.entry.Defines.{define_sound_by, lives_map, lives_with, marks_all_live}
use Rattle.tt_plain.proofs.law.entry.SessionAlone.{SoundIn}
use Rattle.tt_plain.proofs.law.change.Tables.{table_at}
use Rattle.tt_plain.proofs.law.session.Views.{IsTable}
use Rattle.tt_plain.specs.asked.Asked.{Asked, state_asked}
use Rattle.tt_plain.specs.asked.Carried.{Carried}
use Rattle.tt_plain.specs.declared.store.PlainTable.{PlainTable}
use Rattle.tt_plain.specs.definition.Rename.{rename_changes}
use Rattle.tt_plain.specs.definition.Swap.{swap_changes}
use Rattle.tt_plain.specs.definition.Undrop.{undrop_changes}
use Rattle.tt_plain.specs.effect.Apply.{name_given, renamed, with_table}
use Rattle.tt_plain.specs.effect.Define.{defined}
use Rattle.tt_plain.specs.effect.Effect.{Renamed, TableChange, Undropped}
use Rattle.tt_plain.specs.law.Changes.{IsFreeName}
use Rattle.tt_plain.specs.law.Sound.{HaveOwnNames}
use Rattle.tt_plain.specs.stored.Tables.{is_live}
use Rattle.tt_plain.specs.tally.Changes.{TallyChange}
use Rattle.tt_value.specs.declared.name.TableName.{TableName}

abbrev given_name : List (ℕ × List ℕ) → ℕ → Option (ℕ × List ℕ)
given_name names number = find (λ (g : ℕ × List ℕ). g.0 == number) names

module _ (carried : Carried) (asked : Asked) (due : IsDue carried asked) (closed : (state_asked asked).transaction ≡ false) (idle : (state_asked asked).running ≡ None) where
  abbrev SoundDefined : List TableChange × List TallyChange → Type 0
  SoundDefined changes = SoundIn carried asked.program asked.store (defined asked changes)

  numbered_at : (place : ℕ) (table : PlainTable) → slice_get asked.store.tables place ≡ Some table → table.number ≡ place + 1
  numbered_at place table at = (table_at asked.store.moment (length asked.store.tables) 1 place asked.store.tables table due.sound.tables at).numbered ∙ omega arith

  -- new names that stand apart, where each live table gets its own
  renamed_sound : (names : List (ℕ × List ℕ)) → HaveOwnNames (map (renamed names) asked.store.tables) → SoundDefined (Renamed names ∷ [], [])
  renamed_sound names apart =
      let many : length (map (renamed names) asked.store.tables) ≡ length asked.store.tables = length-map asked.store.tables (renamed names) in
      define_sound_by carried asked due closed idle (Renamed names ∷ []) [] (apart, tt) tt (due.sound.layouts ∙ sym many) (omega (arith, many))
      (marks_all_live carried asked due closed idle (map (renamed names) asked.store.tables) (lives_map (renamed names) asked.store.tables (λ t live. live)))

  -- of two different live tables the names afterwards differ
  abbrev DifferAfter : List (ℕ × List ℕ) → Type 0
  DifferAfter names = (i j : ℕ) (a b : PlainTable) → (a.number ≡ b.number → ⊥) → slice_get asked.store.tables i ≡ Some a → slice_get asked.store.tables j ≡ Some b → is_live a ≡ true → is_live b ≡ true
      → name_given a.name (given_name names a.number) ≢ name_given b.name (given_name names b.number)

  apart_after : (names : List (ℕ × List ℕ)) → DifferAfter names → HaveOwnNames (map (renamed names) asked.store.tables)
  apart_after names differ =
      apart_from (map (renamed names) asked.store.tables) (λ i j a b other at there left right.
      let x = get_unmap (renamed names) asked.store.tables i a at in
      let y = get_unmap (renamed names) asked.store.tables j b there in
      λ e. differ i j x.0 y.0 (λ f. other (omega (arith, f, numbered_at i x.0 x.1, numbered_at j y.0 y.1))) x.1 y.1 (sym (ap is_live x.2) ∙ left) (sym (ap is_live y.2) ∙ right)
      (sym (ap (λ (t : PlainTable). t.name) x.2) ∙ e ∙ ap (λ (t : PlainTable). t.name) y.2))

  apart_now : (i j : ℕ) (a b : PlainTable) → (a.number ≡ b.number → ⊥) → slice_get asked.store.tables i ≡ Some a → slice_get asked.store.tables j ≡ Some b → is_live a ≡ true → is_live b ≡ true → a.name ≢ b.name
  apart_now i j a b other at there left right =
      apart_to asked.store.tables due.sound.names i j a b (λ e. other (omega (arith, e, numbered_at i a at, numbered_at j b there))) at there left right

  -- ---- RENAME TO

  pub rename_sound : (table : PlainTable) (name : TableName) → IsFreeName asked.store.tables name.name.text → SoundDefined (rename_changes table name, [])
  rename_sound table name free =
      renamed_sound ((table.number, name.name.text) ∷ []) (apart_after ((table.number, name.name.text) ∷ []) (λ i j a b other at there left right.
      by i j a b other at there left right (table.number == a.number) refl (table.number == b.number) refl))
    where
      by : (i j : ℕ) (a b : PlainTable) → (a.number ≡ b.number → ⊥) → slice_get asked.store.tables i ≡ Some a → slice_get asked.store.tables j ≡ Some b → is_live a ≡ true → is_live b ≡ true
          → (x : Bool) → (table.number == a.number) ≡ x → (y : Bool) → (table.number == b.number) ≡ y
          → name_given a.name (cond x (Some (table.number, name.name.text)) None) ≢ name_given b.name (cond y (Some (table.number, name.name.text)) None)
      by i j a b other at there left right true e true f = absurd (other (sym (same_number table.number a.number e) ∙ same_number table.number b.number f))
      by i j a b other at there left right true e false f = λ g. free_to (λ (t : PlainTable). t.name ≢ name.name.text) asked.store.tables j b free there right (sym g)
      by i j a b other at there left right false e true f = free_to (λ (t : PlainTable). t.name ≢ name.name.text) asked.store.tables i a free at left
      by i j a b other at there left right false e false f = apart_now i j a b other at there left right

  -- ---- SWAP WITH

  -- the name that a swapped table gets
  abbrev swapped : PlainTable → PlainTable → PlainTable → Bool → Bool → List ℕ
  swapped p q t x y = name_given t.name (cond x (Some (p.number, q.name)) (cond y (Some (q.number, p.name)) None))

  pub swap_sound : (p q : PlainTable) → IsTable asked.store p → IsTable asked.store q → is_live p ≡ true → is_live q ≡ true → SoundDefined (swap_changes p q, [])
  swap_sound p q is_p is_q live_p live_q =
      renamed_sound ((p.number, q.name) ∷ (q.number, p.name) ∷ []) (apart_after ((p.number, q.name) ∷ (q.number, p.name) ∷ []) (λ i j a b other at there left right.
      by i j a b other at there left right (p.number == a.number) refl (q.number == a.number) refl (p.number == b.number) refl (q.number == b.number) refl))
    where
      -- two that are not the same table differ in their names
      differ : (i : ℕ) (a : PlainTable) (s : PlainTable) → IsTable asked.store s → is_live s ≡ true → slice_get asked.store.tables i ≡ Some a → is_live a ≡ true → (a.number ≡ s.number → ⊥) → a.name ≢ s.name
      differ i a s is live at left other = apart_now i (s.number - 1) a s other at is.there left live

      by : (i j : ℕ) (a b : PlainTable) → (a.number ≡ b.number → ⊥) → slice_get asked.store.tables i ≡ Some a → slice_get asked.store.tables j ≡ Some b → is_live a ≡ true → is_live b ≡ true
          → (x : Bool) → (p.number == a.number) ≡ x → (y : Bool) → (q.number == a.number) ≡ y → (z : Bool) → (p.number == b.number) ≡ z → (w : Bool) → (q.number == b.number) ≡ w
          → swapped p q a x y ≢ swapped p q b z w
      by i j a b other at there left right true e y f true g w h = absurd (other (sym (same_number p.number a.number e) ∙ same_number p.number b.number g))
      by i j a b other at there left right true e y f false g true h =
          λ k. apart_now (q.number - 1) (p.number - 1) q p (λ m. other (sym (same_number p.number a.number e) ∙ sym m ∙ same_number q.number b.number h)) is_q.there is_p.there live_q live_p k
      by i j a b other at there left right true e y f false g false h =
          λ k. differ j b q is_q live_q there right (λ m. false≢true (sym h ∙ eq-eqb q.number b.number (sym m))) (sym k)
      by i j a b other at there left right false e true f true g w h =
          λ k. apart_now (p.number - 1) (q.number - 1) p q (λ m. other (sym (same_number q.number a.number f) ∙ sym m ∙ same_number p.number b.number g)) is_p.there is_q.there live_p live_q k
      by i j a b other at there left right false e true f false g true h = absurd (other (sym (same_number q.number a.number f) ∙ same_number q.number b.number h))
      by i j a b other at there left right false e true f false g false h =
          λ k. differ j b p is_p live_p there right (λ m. false≢true (sym g ∙ eq-eqb p.number b.number (sym m))) (sym k)
      by i j a b other at there left right false e false f true g w h = differ i a q is_q live_q at left (λ m. false≢true (sym f ∙ eq-eqb q.number a.number (sym m)))
      by i j a b other at there left right false e false f false g true h = differ i a p is_p live_p at left (λ m. false≢true (sym e ∙ eq-eqb p.number a.number (sym m)))
      by i j a b other at there left right false e false f false g false h = apart_now i j a b other at there left right

  -- ---- UNDROP

  pub undrop_sound : (table : PlainTable) → IsTable asked.store table → IsFreeName asked.store.tables table.name → SoundDefined (undrop_changes table)
  undrop_sound table is free =
      let many : length (with_table table.number (λ (t : PlainTable). record t { dropped = None }) asked.store.tables) ≡ length asked.store.tables =
      length-map asked.store.tables (λ (t : PlainTable). if t.number == table.number then record t { dropped = None } else t) in
      define_sound_by carried asked due closed idle (Undropped table.number ∷ []) [] (record { table = table; from_one = is.from_one; table_is = is.there; so = free }, tt) tt (due.sound.layouts ∙ sym many) (omega (arith, many))
      (marks_all_live carried asked due closed idle (with_table table.number (λ (t : PlainTable). record t { dropped = None }) asked.store.tables)
      (lives_with table.number (λ (t : PlainTable). record t { dropped = None }) asked.store.tables (λ t live. refl)))
