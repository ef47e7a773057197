-- How a table holds the spans of its layouts, and what claims say of it.
use Rattle.std.specs.Prelude.{◌≡◌, ℕ, zero, suc, Bool, true, false, ◌==◌, ◌&&◌, List, [], ◌∷◌, map, Option, Some, None}
use Rattle.std.specs.List.{list_any}
use Rattle.tt_retain.specs.declared.stage.Stage.{Stage}
use Rattle.tt_retain.specs.declared.stage.Stage.TheVariants as stage
use Rattle.tt_retain.specs.Retention.{Retention}
use Rattle.tt_retain.specs.Horizon.{stage_of}
use Rattle.tt_layout.specs.declared.hold.Hold.{Hold}
use Rattle.tt_layout.specs.declared.hold.Hold.TheVariants as hold
use Rattle.tt_layout.specs.declared.facts.TableFacts.{TableFacts}
use Rattle.tt_layout.specs.Numbers.{has}
use Rattle.tt_layout.specs.Chain.{numbers_at}
use Rattle.tt_layout.specs.Holds.{is_time_travel, is_fail_safe, is_past, is_active, is_held, hold_of}
use Rattle.tt_layout.specs.Owners.{is_active_hold, is_safe_hold}
use Rattle.tt_sweep.specs.declared.claim.Claim.{Claim}

-- where the span ended that begins at a place: where the next one begins, and the last one at the drop
abbrev pub end_at : List (ℕ × List ℕ) → Option ℕ → ℕ → Option ℕ
end_at [] dropped place = dropped
end_at (l ∷ []) dropped place = dropped
end_at (l ∷ next ∷ ls) dropped zero = Some next.0
end_at (l ∷ next ∷ ls) dropped (suc place) = end_at (next ∷ ls) dropped place

abbrev pub hold_in : Stage → Hold
hold_in stage.TimeTravel = hold.TimeTravel
hold_in stage.FailSafe = hold.FailSafe
hold_in stage.Gone = hold.Nothing

-- how the numbers of a span are held: while it lasts as active, and then by its stage
abbrev pub span_hold : ℕ → Retention → Option ℕ → Hold
span_hold at table None = hold.Active
span_hold at table (Some ended) = hold_in (stage_of table ended at)

-- the numbers of the layout in front of a place
abbrev pub numbers_before : List (ℕ × List ℕ) → ℕ → List ℕ
numbers_before layouts zero = []
numbers_before layouts (suc place) = numbers_at layouts place

abbrev pub is_time_travel_hold : Hold → Bool
is_time_travel_hold hold.TimeTravel = true
is_time_travel_hold _ = false

-- whether a part is claimed in a way that passes a test
abbrev pub claimed : (Hold → Bool) → List Claim → ℕ → Bool
claimed test claims part = list_any (λ claim. (claim.part == part) && test claim.hold) claims

-- all of these numbers are claimed in one way
abbrev pub Covers : List Claim → Hold → List ℕ → Type 0
Covers claims hold numbers =
    (test : Hold → Bool) (part : ℕ) → test hold ≡ true → has numbers part ≡ true → claimed test claims part ≡ true

-- these numbers claimed in one way
abbrev pub claims_with : Hold → List ℕ → List Claim
claims_with hold numbers = map (λ number. record { part = number; hold = hold }) numbers

abbrev pub claimed_numbers : List Claim → List ℕ
claimed_numbers claims = map (λ (claim : Claim). claim.part) claims

-- a number is claimed exactly where the table holds it, and in each way in which one of its layouts holds it
pub record AreClaims (at : ℕ) (table : TableFacts) (claims : List Claim) : Type 0 where
  pub held : (part : ℕ) → has (claimed_numbers claims) part ≡ is_held (hold_of at table part)
  pub active : (part : ℕ) → claimed is_active_hold claims part ≡ is_active table part
  pub time_travel : (part : ℕ) → claimed is_time_travel_hold claims part ≡ is_past is_time_travel at table part
  pub fail_safe : (part : ℕ) → claimed is_safe_hold claims part ≡ is_past is_fail_safe at table part
