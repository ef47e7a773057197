-- The refusals in one table: the number of each, its name, and what it tells.
use Rattle.std.specs.Prelude.{List, [], codes, ℕ, ℤ, ◌∷◌}
use Rattle.tt_history.specs.declared.reply.Refusal.{Refusal}
use Rattle.tt_history.specs.declared.reply.Refusal.TheVariants as refusal

-- a session is told by its name
pub data Content : Type 0 where
  Natural : ℕ → Content
  Integer : ℤ → Content
  SessionName : ℕ → Content

pub record RefusalRow : Type 0 where
  pub number : ℕ
  pub name : List ℕ
  pub contents : List Content

abbrev pub line : ℕ → List ℕ → List Content → RefusalRow
line number name contents = record { number = number; name = name; contents = contents }

unfoldable pub refusal_row : Refusal → RefusalRow
refusal_row (refusal.Syntax place) = line 1 (codes "Syntax") (Natural place ∷ [])
refusal_row (refusal.UnknownTable place) = line 2 (codes "UnknownTable") (Natural place ∷ [])
refusal_row (refusal.TableExists place) = line 3 (codes "TableExists") (Natural place ∷ [])
refusal_row (refusal.UnknownColumn place) = line 4 (codes "UnknownColumn") (Natural place ∷ [])
refusal_row (refusal.WrongCount place) = line 5 (codes "WrongCount") (Natural place ∷ [])
refusal_row (refusal.TypeMismatch place) = line 6 (codes "TypeMismatch") (Natural place ∷ [])
refusal_row (refusal.NullInNotNull place) = line 7 (codes "NullInNotNull") (Natural place ∷ [])
refusal_row (refusal.RetentionRange place) = line 8 (codes "RetentionRange") (Natural place ∷ [])
refusal_row (refusal.KindMismatch place) = line 9 (codes "KindMismatch") (Natural place ∷ [])
refusal_row (refusal.UnknownFile place) = line 10 (codes "UnknownFile") (Natural place ∷ [])
refusal_row refusal.InFuture = line 11 (codes "InFuture") []
refusal_row refusal.UnknownStatement = line 12 (codes "UnknownStatement") []
refusal_row refusal.StatementOpen = line 13 (codes "StatementOpen") []
refusal_row (refusal.NotYetMade made) = line 14 (codes "NotYetMade") (Natural made ∷ [])
refusal_row (refusal.OutsideRetention horizon) = line 15 (codes "OutsideRetention") (Integer horizon ∷ [])
refusal_row refusal.NothingToUndrop = line 16 (codes "NothingToUndrop") []
refusal_row (refusal.LockHeld session) = line 17 (codes "LockHeld") (SessionName session ∷ [])
refusal_row refusal.ClockEnd = line 18 (codes "ClockEnd") []
refusal_row refusal.InTransaction = line 19 (codes "InTransaction") []
refusal_row (refusal.BadData number column) = line 20 (codes "BadData") (Natural number ∷ Natural column ∷ [])
refusal_row refusal.OutOfRange = line 21 (codes "OutOfRange") []
refusal_row (refusal.NullInRow column) = line 22 (codes "NullInRow") (Natural column ∷ [])

abbrev pub refusal_number : Refusal → ℕ
refusal_number refusal = (refusal_row refusal).number
