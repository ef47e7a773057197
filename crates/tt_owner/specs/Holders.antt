-- The tables that hold a part, and what they make of its owner and its class.
use Rattle.std.specs.Prelude.{ℕ, Bool, not, ◌==◌, ◌&&◌, if◌then◌else◌, min, List, [], ◌∷◌, map, filter, Option, Some, None, unwrap_or}
use Rattle.std.specs.List.{list_any, fold}
use Rattle.std.specs.List.Sorted.{IsNonDecreasing}
use Rattle.tt_layout.specs.declared.hold.Hold.{Hold}
use Rattle.tt_layout.specs.declared.hold.Hold.TheVariants as hold
use Rattle.tt_layout.specs.declared.hold.Class.{Class}
use Rattle.tt_layout.specs.declared.hold.Class.TheVariants as class
use Rattle.tt_layout.specs.declared.piece.Piece.{Piece}
use Rattle.tt_layout.specs.declared.piece.Piece.TheVariants.{Full, Change}
use Rattle.tt_layout.specs.declared.facts.TableFacts.{TableFacts}
use Rattle.tt_layout.specs.declared.facts.Facts.{Facts}
use Rattle.tt_layout.specs.Holds.{hold_of, stands}
use Rattle.tt_layout.specs.Owners.{is_strong, is_active_hold, is_safe_hold}
use Rattle.tt_owner.specs.declared.holder.Holder.{Holder}
use Rattle.tt_owner.specs.declared.holder.Seen.{Seen}

-- the numbers of a piece do not fall
abbrev pub PieceAscends : Piece → Type 0
PieceAscends (Full numbers) = IsNonDecreasing numbers
PieceAscends (Change gone added) = IsNonDecreasing gone × IsNonDecreasing added

-- the first of two holds in the order Active, Time Travel, Fail-safe, none
abbrev pub stronger : Hold → Hold → Hold
stronger hold.Active other = hold.Active
stronger hold.TimeTravel hold.Active = hold.Active
stronger hold.TimeTravel other = hold.TimeTravel
stronger hold.FailSafe hold.Nothing = hold.FailSafe
stronger hold.FailSafe other = other
stronger hold.Nothing other = other

-- a table as a holder of a part
abbrev pub holder_at : ℕ → ℕ → TableFacts → Holder
holder_at at part table = record { part = part; table = table.number; stands = stands at table; hold = hold_of at table part }

abbrev pub origin_stands : Facts → ℕ → Bool
origin_stands facts origin = list_any (λ table. (table.number == origin) && stands facts.at table) facts.tables

-- a table that stands and holds the part as active or in Time Travel
abbrev pub holds_strongly : Holder → Bool
holds_strongly holder = holder.stands && is_strong holder.hold

abbrev pub least_of : List ℕ → Option ℕ
least_of [] = None
least_of (n ∷ ns) = Some (fold min n ns)

abbrev pub least_holder : List Holder → Option ℕ
least_holder holders = least_of (map (λ (holder : Holder). holder.table) (filter holds_strongly holders))

abbrev pub owner_from : ℕ → Bool → Option ℕ → ℕ
owner_from origin stands least = if stands then origin else unwrap_or least origin

abbrev pub seen_of : ℕ → List Holder → Seen
seen_of owner holders = record {
  active = list_any (λ holder. (holder.table == owner) && is_active_hold holder.hold) holders;
  strong = list_any (λ holder. (holder.table == owner) && is_strong holder.hold) holders;
  elsewhere = list_any (λ holder. not (holder.table == owner) && holds_strongly holder) holders;
  safe = list_any (λ holder. is_safe_hold holder.hold) holders;
}

abbrev pub class_seen : Seen → Class
class_seen seen =
    if seen.active then class.Active
    else if seen.strong then class.TimeTravel
    else if seen.elsewhere then class.RetainedForClone
    else if seen.safe then class.FailSafe
    else class.Pending
