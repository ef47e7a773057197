-- What is kept of a tree when its places are left out: that it may be written, its words, and its marks but for places.
use Rattle.std.proofs.Common.{◌≡◌, ℕ, List, [], ◌∷◌, ◌++◌, map, Option, Some, None, refl, sym, ap, ap₂, ◌∙◌}
use Rattle.std.specs.Prelude.{option_map}
use Rattle.std.proofs.lemmas.List.{map-append}
use Rattle.tt_sql.specs.trees.Lists.{Each, IsListed, WhenThere}
use Rattle.tt_sql.specs.grammar.Grammar.{Mark, Way}
use Rattle.tt_print.specs.text.Words.{Words, words_if}
use Rattle.tt_sql.specs.marks.Expressions.{repeated, listed_marks, maybe_marks}
use Rattle.tt_sql.specs.marks.Queries.{maybe_listed}
use Rattle.tt_print.specs.places.Marks.{unplaced}

pub record IsKept {A : Type 0} (ok : A → Type 0) (words : A → Words) (marks : A → List Mark) (y x : A) : Type 0 where
  pub right : ok y
  pub written : words y ≡ words x
  pub noted : marks y ≡ unplaced (marks x)

abbrev pub Kept : {A : Type 0} → (A → Type 0) → (A → Words) → (A → List Mark) → (A → A) → A → Type 0
Kept ok words marks strip x = IsKept ok words marks (strip x) x

-- ---- marks

pub both_noted : {a b : List Mark} (c d : List Mark) → a ≡ unplaced c → b ≡ unplaced d → a ++ b ≡ unplaced (c ++ d)
both_noted {a} {b} c d p q = ap₂ (λ (x : List Mark) (y : List Mark). x ++ y) p q ∙ sym (map-append _ c d)

pub way_noted : {a : List Mark} (c : List Mark) (k : ℕ) → a ≡ unplaced c → a ++ Way k ∷ [] ≡ unplaced (c ++ Way k ∷ [])
way_noted c k p = both_noted c (Way k ∷ []) p refl

repeated_noted : (ms : List (List Mark)) → repeated (map unplaced ms) ≡ unplaced (repeated ms)
repeated_noted [] = refl
repeated_noted (m ∷ ms) = ap (λ (x : List Mark). Way 1 ∷ x) (both_noted m (repeated ms) refl (repeated_noted ms))

listed_noted : (ms : List (List Mark)) → listed_marks (map unplaced ms) ≡ unplaced (listed_marks ms)
listed_noted [] = refl
listed_noted (m ∷ ms) = both_noted m (repeated ms) refl (repeated_noted ms)

maybe_listed_noted : (ms : List (List Mark)) → maybe_listed (map unplaced ms) ≡ unplaced (maybe_listed ms)
maybe_listed_noted [] = refl
maybe_listed_noted (m ∷ ms) = way_noted (listed_marks (m ∷ ms)) 1 (listed_noted (m ∷ ms))

-- ---- lists and what may be left out

module _ {A : Type 0} (ok : A → Type 0) (words : A → Words) (marks : A → List Mark) (strip : A → A) (kept : (x : A) → ok x → Kept ok words marks strip x) where
  pub each_right : (xs : List A) → Each ok xs → Each ok (map strip xs)
  each_right [] each = tt
  each_right (x ∷ xs) each = ((kept x each.0).right, each_right xs each.1)

  pub list_right : (xs : List A) → IsListed ok xs → IsListed ok (map strip xs)
  list_right [] are = absurd are
  list_right (x ∷ xs) are = ((kept x are.0).right, each_right xs are.1)

  pub each_written : (xs : List A) → Each ok xs → map words (map strip xs) ≡ map words xs
  each_written [] each = refl
  each_written (x ∷ xs) each = ap₂ (λ (w : Words) (ws : List Words). w ∷ ws) (kept x each.0).written (each_written xs each.1)

  each_noted : (xs : List A) → Each ok xs → map marks (map strip xs) ≡ map unplaced (map marks xs)
  each_noted [] each = refl
  each_noted (x ∷ xs) each = ap₂ (λ (m : List Mark) (ms : List (List Mark)). m ∷ ms) (kept x each.0).noted (each_noted xs each.1)

  as_each : (xs : List A) → IsListed ok xs → Each ok xs
  as_each [] are = absurd are
  as_each (x ∷ xs) are = are

  pub list_written : (xs : List A) → IsListed ok xs → map words (map strip xs) ≡ map words xs
  list_written xs are = each_written xs (as_each xs are)

  pub all_noted : (xs : List A) → Each ok xs → repeated (map marks (map strip xs)) ≡ unplaced (repeated (map marks xs))
  all_noted xs each = ap repeated (each_noted xs each) ∙ repeated_noted (map marks xs)

  pub list_noted : (xs : List A) → IsListed ok xs → listed_marks (map marks (map strip xs)) ≡ unplaced (listed_marks (map marks xs))
  list_noted xs are = ap listed_marks (each_noted xs (as_each xs are)) ∙ listed_noted (map marks xs)

  pub some_noted : (xs : List A) → Each ok xs → maybe_listed (map marks (map strip xs)) ≡ unplaced (maybe_listed (map marks xs))
  some_noted xs each = ap maybe_listed (each_noted xs each) ∙ maybe_listed_noted (map marks xs)

  pub maybe_right : (o : Option A) → WhenThere ok o → WhenThere ok (option_map strip o)
  maybe_right None is = tt
  maybe_right (Some x) is = (kept x is).right

  pub maybe_written : (o : Option A) → WhenThere ok o → words_if words (option_map strip o) ≡ words_if words o
  maybe_written None is = refl
  maybe_written (Some x) is = (kept x is).written

  pub maybe_noted : (o : Option A) → WhenThere ok o → maybe_marks marks (option_map strip o) ≡ unplaced (maybe_marks marks o)
  maybe_noted None is = refl
  maybe_noted (Some x) is = way_noted (marks x) 1 (kept x is).noted
