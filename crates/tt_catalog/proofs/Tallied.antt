-- The tally after a change that is committed at once: its parts are added, its table has one more layout, and nothing is pinned for it.
use Rattle.std.specs.Prelude.{List, get_or, Option, [], fold, length, map, refl, slice_set, unwrap_or, ℕ, ◌++◌, ◌-◌, ◌∷◌, ◌≡◌, ◌≢◌, ◌≤◌}
use Rattle.std.proofs.Common.{ap, arith, ◌∙◌}
use Rattle.std.proofs.lemmas.Option.{slice_get-get_or}
use Rattle.tt_history.specs.declared.history.Added.{Added}
use Rattle.tt_plain.specs.declared.tally.Tally.{Tally}
use Rattle.tt_plain.specs.tally.Changes.{AddsParts, Unpins, changed_tally, part_added, with_pins}
use Rattle.tt_plain.specs.tally.Layouts.{layouts_of}
use Rattle.tt_plain.specs.tally.Pending.{layout_begun}
use Rattle.tt_state.proofs.Lists.{set_other, set_same}
use Rattle.tt_layout.specs.Chain.{with_change}
use Rattle.tt_catalog.specs.Changes.{layouts_after}

abbrev pub tally_after : Tally → (session table moment : ℕ) → List ℕ → List ℕ → List Added → Tally
tally_after tally session table moment gone numbers added =
    fold changed_tally tally (AddsParts table added ∷ layout_begun tally moment table gone numbers ++ Unpins session ∷ [])

pub record IsTallied (tally after : Tally) (session table moment : ℕ) (gone numbers : List ℕ) (added : List Added) : Type 0 where
  pub parts : after.parts ≡ tally.parts ++ map (part_added table) added
  pub pending : after.pending ≡ tally.pending
  pub pins : after.pins ≡ with_pins session [] tally.pins
  pub here : layouts_of after table ≡ layouts_after (layouts_of tally table) moment gone numbers
  pub others : (n : ℕ) → n ≢ table → 1 ≤ n → layouts_of after n ≡ layouts_of tally n

module _ (tally : Tally) (session table moment : ℕ) (added : List Added) (one : 1 ≤ table) (within : table ≤ length tally.layouts) where
  abbrev with_new : List (ℕ × List ℕ) → Tally
  with_new layouts = record tally {
    parts = tally.parts ++ map (part_added table) added;
    layouts = slice_set tally.layouts (table - 1) layouts;
    pins = with_pins session [] tally.pins;
  }

  begun : (layouts : List (ℕ × List ℕ)) (gone numbers : List ℕ) → layouts ≡ layouts_after (layouts_of tally table) moment gone numbers → IsTallied tally (with_new layouts) session table moment gone numbers added
  begun layouts gone numbers is =
      record {
        parts = refl;
        pending = refl;
        pins = refl;
        here = ap (λ (o : Option (List (ℕ × List ℕ))). unwrap_or o []) (set_same tally.layouts (table - 1) layouts (get_or tally.layouts (table - 1) []) (slice_get-get_or tally.layouts (table - 1) [] (omega (arith, one, within)))) ∙ is;
        others = λ n ne first. ap (λ (o : Option (List (ℕ × List ℕ))). unwrap_or o []) (set_other tally.layouts (table - 1) (n - 1) layouts (λ e. ne (omega (arith, e, first, one))));
      }

  pub tallied : (gone numbers : List ℕ) → IsTallied tally (tally_after tally session table moment gone numbers added) session table moment gone numbers added
  tallied [] [] = record { parts = refl; pending = refl; pins = refl; here = refl; others = λ n ne first. refl }
  tallied [] (n ∷ numbers) = begun (with_change (layouts_of tally table) moment [] (n ∷ numbers)) [] (n ∷ numbers) refl
  tallied (n ∷ gone) numbers = begun (with_change (layouts_of tally table) moment (n ∷ gone) numbers) (n ∷ gone) numbers refl
