-- Why a statement is refused at its first event, or in the definition behind its commit: one file for each refusal.
pub mod ClockEnd
pub mod First
pub mod InFuture
pub mod InTransaction
pub mod KindMismatch
pub mod LockHeld
pub mod NotYetMade
pub mod NothingToUndrop
pub mod NullInNotNull
pub mod OutsideRetention
pub mod RetentionRange
pub mod StatementOpen
pub mod Syntax
pub mod TableExists
pub mod TypeMismatch
pub mod UnknownColumn
pub mod UnknownFile
pub mod UnknownStatement
pub mod UnknownTable
pub mod WrongCount
use Rattle.std.specs.Prelude.{Bool, List, None, Option, Some, [], if◌then◌else◌, option_map, ℕ, ◌∷◌}
use Rattle.tt_history.specs.declared.reply.Refusal.{Refusal}
use Rattle.tt_plain.specs.Places.{leftmost}

abbrev pub head_of : {A : Type 0} → List A → Option A
head_of [] = None
head_of (x ∷ xs) = Some x

-- the first that is there
abbrev pub first_some : {A : Type 0} → List (Option A) → Option A
first_some [] = None
first_some (None ∷ others) = first_some others
first_some (Some x ∷ others) = Some x

-- of all places at which a refusal holds the leftmost
abbrev pub at_leftmost : (ℕ → Refusal) → List ℕ → Option Refusal
at_leftmost refusal places = option_map refusal (leftmost places)

-- a refusal without content
abbrev pub where_true : Bool → Refusal → Option Refusal
where_true test refusal = if test then Some refusal else None
