-- What is answered where a staged file is refused.
use Rattle.std.specs.Prelude.{◌≡◌, List, None, Option, Some, [], length, option_and_then, ⊤}
use Rattle.tt_value.specs.declared.value.Row.{Row}
use Rattle.tt_history.specs.declared.reply.Refusal.{Refusal}
use Rattle.tt_sql.specs.meaning.Changes.{BadData, Changed, Changes, NullInRow, OutOfRange}
use Rattle.tt_csvin.specs.declared.StagedError.{StagedError}
use Rattle.tt_csvin.specs.declared.StagedError.TheVariants.{Memory, Refused}
use Rattle.tt_history.specs.declared.reply.Refusal.TheVariants as refusal

-- the refusal that a change is, if it is one
abbrev pub refusal_of : Changed → Option Refusal
refusal_of (Changes removed added count) = None
refusal_of (BadData number column) = Some (refusal.BadData number column)
refusal_of OutOfRange = Some refusal.OutOfRange
refusal_of (NullInRow column) = Some (refusal.NullInRow column)

-- the change adds just these rows, in this order
abbrev pub AddsRows : Changed → List Row → Type 0
AddsRows changed rows = changed ≡ Changes [] rows (length rows)

-- a refusal is that of the change; want of memory is free
abbrev pub RefusesFile : Changed → StagedError → Type 0
RefusesFile changed (Refused why) = refusal_of changed ≡ Some why
RefusesFile changed Memory = ⊤

-- the same of a fault that is there
abbrev pub RefusesAs : Option Changed → StagedError → Type 0
RefusesAs fault (Refused why) = option_and_then refusal_of fault ≡ Some why
RefusesAs fault Memory = ⊤
