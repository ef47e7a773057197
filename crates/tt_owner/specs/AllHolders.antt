-- The holders of all parts.
use Rattle.std.specs.Prelude.{◌≡◌, ℕ, Bool, not, ◌==◌, ◌&&◌, if◌then◌else◌, List}
use Rattle.std.specs.List.{list_any}
use Rattle.tt_layout.specs.declared.hold.Hold.{Hold}
use Rattle.tt_layout.specs.declared.hold.Hold.TheVariants as hold
use Rattle.tt_layout.specs.declared.facts.Facts.{Facts}
use Rattle.tt_layout.specs.Numbers.{has}
use Rattle.tt_layout.specs.Holds.{is_held, hold_of}
use Rattle.tt_layout.specs.Owners.{is_active_hold, is_safe_hold}
use Rattle.tt_sweep.specs.Claims.{is_time_travel_hold}
use Rattle.tt_owner.specs.declared.holder.Holder.{Holder}
use Rattle.tt_owner.specs.Holders.{holder_at}

-- among the holders of a part are just the tables that hold it, each as it holds it
abbrev pub AreHolders : Facts → List Holder → Type 0
AreHolders facts holders = (part : ℕ) (test : Holder → Bool) →
    list_any (λ holder. (holder.part == part) && test holder) holders
    ≡ list_any (λ table. is_held (hold_of facts.at table part) && test (holder_at facts.at part table)) facts.tables

abbrev pub is_hold : Hold → Hold → Bool
is_hold hold.Active held = is_active_hold held
is_hold hold.TimeTravel held = is_time_travel_hold held
is_hold hold.FailSafe held = is_safe_hold held
is_hold hold.Nothing held = not (is_held held)

-- the strongest hold on a part that is claimed
abbrev pub strongest_claimed : List ℕ → List ℕ → ℕ → Hold
strongest_claimed active travel part =
    if has active part then hold.Active else if has travel part then hold.TimeTravel else hold.FailSafe

abbrev pub claimed_holder : Holder → List ℕ → List ℕ → ℕ → Holder
claimed_holder sample active travel part =
    record { part = part; table = sample.table; stands = sample.stands; hold = strongest_claimed active travel part }
