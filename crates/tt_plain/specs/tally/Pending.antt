-- How a change and a commit go into the tally.
use Rattle.std.specs.Prelude.{List, [], filter, flat_map, unwrap_or, ℕ, ◌==◌, ◌∷◌}
use Rattle.tt_layout.specs.Numbers.{changed, joined, without}
use Rattle.tt_plain.specs.declared.tally.Tally.{Tally}
use Rattle.tt_plain.specs.declared.tally.TallyPending.{TallyPending}
use Rattle.tt_plain.specs.tally.Changes.{BeginsLayout, TallyChange}
use Rattle.tt_plain.specs.tally.Layouts.{current_parts, lists_of}

abbrev pub no_lists : ℕ → ℕ → TallyPending
no_lists session table = record { session = session; table = table; gone = []; added = [] }

-- a part that the transaction itself added and removes is in neither list
abbrev pub changed_lists : TallyPending → List ℕ → List ℕ → TallyPending
changed_lists lists gone added = record lists {
  gone = joined lists.gone (without lists.added gone);
  added = joined (without gone lists.added) added;
}

-- the lists of a session and a table after one more change
abbrev pub lists_after : Tally → ℕ → ℕ → List ℕ → List ℕ → TallyPending
lists_after tally session table gone added = changed_lists (unwrap_or (lists_of tally session table) (no_lists session table)) gone added

-- a layout without the parts that are gone and with those that were added begins, unless both lists are empty
abbrev pub layout_begun : Tally → ℕ → ℕ → List ℕ → List ℕ → List TallyChange
layout_begun tally moment table [] [] = []
layout_begun tally moment table gone added = BeginsLayout table moment (changed (current_parts tally table) gone added) ∷ []

abbrev pub lists_of_session : Tally → ℕ → List TallyPending
lists_of_session tally session = filter (λ (lists : TallyPending). lists.session == session) tally.pending

-- the layouts that a session's commit begins
abbrev pub layouts_committed : Tally → ℕ → ℕ → List TallyChange
layouts_committed tally moment session =
    flat_map (λ (lists : TallyPending). layout_begun tally moment lists.table lists.gone lists.added) (lists_of_session tally session)
