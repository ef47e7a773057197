-- A part that is stored has the rows that it had when it was added.
use Rattle.std.specs.Prelude.{Bool, List, Option, Some, [], if◌then◌else◌, length, refl, slice_get, unwrap_or, ℕ, ◌++◌, ◌+◌, ◌-◌, ◌==◌, ◌∷◌, ◌≡◌, ◌≤◌, true, false}
use Rattle.std.proofs.Common.{ap, arith, subst, sym, ◌∙◌}
use Rattle.std.proofs.lemmas.Option.{none-some, same_Some}
use Rattle.tt_value.specs.declared.value.Row.{Row}
use Rattle.tt_partition.specs.Table.{Table}
use Rattle.tt_plain.proofs.Tests.{same_number}
use Rattle.tt_plain.specs.declared.store.PlainTable.{PlainTable}
use Rattle.tt_plain.specs.history.Contents.{rows_numbered}
use Rattle.tt_plain_laws.proofs.parts.Contents.{append_get}
use Rattle.tt_state.specs.Keeps.{AreTrueParts}
use Rattle.tt_state.specs.Kept.{stored_at}
use Rattle.tt_state.specs.declared.part.StoredPart.{StoredPart}

-- it has the rows of its number
stored_rows : (tables : List PlainTable) (contents : List (List Row)) (from number : ℕ) (parts : List StoredPart) (part : StoredPart) → AreTrueParts tables contents from parts → stored_at parts number ≡ Some part
    → part.part.rows ≡ rows_numbered contents number
stored_rows tables contents from number [] part are at = absurd (none-some part at)
stored_rows tables contents from number (first ∷ parts) part are at = by (first.facts.number == number) refl (stored_rows tables contents (from + 1) number parts part are.1) at
  where
    by : (b : Bool) → (first.facts.number == number) ≡ b → (stored_at parts number ≡ Some part → part.part.rows ≡ rows_numbered contents number) → (if b then Some first else stored_at parts number) ≡ Some part → part.part.rows ≡ rows_numbered contents number
    by true same behind here =
        subst (λ (p : StoredPart). p.part.rows ≡ rows_numbered contents number) (same_Some first part here)
        (ap (λ (t : Table). t.rows) are.0.image ∙ ap (rows_numbered contents) (sym are.0.numbered ∙ same_number first.facts.number number same))
    by false same behind here = behind here

-- the rows of a number that was there stay
rows_there : (contents added : List (List Row)) (number : ℕ) → 1 ≤ number → number ≤ length contents → rows_numbered (contents ++ added) number ≡ rows_numbered contents number
rows_there contents added number first within =
    ap (λ (o : Option (List Row)). unwrap_or o []) (append_get contents added (number - 1) (omega (arith, first, within)))

pub kept_rows : (tables : List PlainTable) (contents before added : List (List Row)) (number : ℕ) (parts : List StoredPart) (part : StoredPart) → AreTrueParts tables contents 1 parts → contents ≡ before ++ added
    → 1 ≤ number → number ≤ length before → stored_at parts number ≡ Some part → part.part.rows ≡ rows_numbered before number
kept_rows tables contents before added number parts part are grown first within at =
    stored_rows tables contents 1 number parts part are at ∙ ap (λ (c : List (List Row)). rows_numbered c number) grown ∙ rows_there before added number first within
