-- What a history has added to the contents of parts stays, however it goes on.
use Rattle.std.specs.Prelude.{List, [], fold, map, refl, ℕ, ◌++◌, ◌∷◌, ◌≡◌}
use Rattle.std.proofs.Common.{ap, append_assoc, sym, ◌∙◌}
use Rattle.std.proofs.lemmas.List.Sums.{fold-append}
use Rattle.tt_value.specs.declared.value.Row.{Row}
use Rattle.tt_script.specs.declared.script.Script.{Script}
use Rattle.tt_history.specs.declared.history.Added.{Added}
use Rattle.tt_history.specs.declared.history.Entry.{Entry}
use Rattle.tt_plain.specs.declared.store.Plain.{Plain}
use Rattle.tt_plain.specs.history.Contents.{contents_of, contents_with, parts_added, pieces_of_lengths, rows_by_actor}
use Rattle.tt_plain.specs.history.Replay.{next_store, pairs_from, pairs_of}
use Rattle.tt_plain.specs.stored.Empty.{empty_store}
use Rattle.tt_built.specs.Built.{built}

append_nil : {A : Type 0} (xs : List A) → xs ++ [] ≡ xs
append_nil [] = refl
append_nil (x ∷ xs) = ap (λ ys. x ∷ ys) (append_nil xs)

module _ (program : Script) where
  -- what an entry adds
  pieces_of : List (List Row) → Plain → Entry → List (List Row)
  pieces_of contents store entry =
      pieces_of_lengths (map (λ (part : Added). part.rows) (parts_added entry.kind)) (rows_by_actor built program contents store entry entry.actor)

  one_grows : (contents : List (List Row)) (store : Plain) (entry : Entry) → contents_with built program contents (store, entry) ≡ contents ++ pieces_of contents store entry
  unfolding contents_with pieces_of
  one_grows contents store entry = refl

  contents_grow : (contents : List (List Row)) (store : Plain) (later : List Entry) → (added : List (List Row)) × (fold (contents_with built program) contents (pairs_from built program store later) ≡ contents ++ added)
  contents_grow contents store [] = ([], sym (append_nil contents))
  contents_grow contents store (entry ∷ later) =
      let behind = contents_grow (contents_with built program contents (store, entry)) (next_store built program store entry) later in (
        pieces_of contents store entry ++ behind.0,
        behind.1 ∙ ap (λ (c : List (List Row)). c ++ behind.0) (one_grows contents store entry) ∙ append_assoc contents (pieces_of contents store entry) behind.0,
      )

  pairs_behind : (store : Plain) (before later : List Entry) → pairs_from built program store (before ++ later) ≡ pairs_from built program store before ++ pairs_from built program (fold (next_store built program) store before) later
  pairs_behind store [] later = refl
  pairs_behind store (entry ∷ before) later = ap (λ pairs. (store, entry) ∷ pairs) (pairs_behind (next_store built program store entry) before later)

  pub rows_stay : (before later : List Entry) → (added : List (List Row)) × (contents_of built program (before ++ later) ≡ contents_of built program before ++ added)
  unfolding contents_of pairs_of
  rows_stay before later =
      let front = fold (contents_with built program) [] (pairs_from built program (empty_store program) before) in
      let grown = contents_grow front (fold (next_store built program) (empty_store program) before) later in (
        grown.0,
        ap (fold (contents_with built program) []) (pairs_behind (empty_store program) before later)
            ∙ fold-append (contents_with built program) [] (pairs_from built program (empty_store program) before) (pairs_from built program (fold (next_store built program) (empty_store program) before) later)
            ∙ grown.1,
      )
