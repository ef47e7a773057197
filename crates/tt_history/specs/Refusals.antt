-- The refusals in one table: the number of each, its name, and what it tells.
use Rattle.std.specs.Prelude.{ℕ, List, codes}
use Rattle.tt_history.specs.declared.reply.Refusal.{Refusal}
use Rattle.tt_history.specs.declared.reply.Refusal.TheVariants as refusal
use Rattle.tt_history.specs.declared.refusals.Content.{Content}
use Rattle.tt_history.specs.declared.refusals.Content.TheVariants.{Nothing, Number, Signed, Session, Pair}

abbrev pub Line : Type 0
Line = ℕ × List ℕ × Content

abbrev pub line_of : Refusal → Line
line_of (refusal.Syntax place) = (1, codes "Syntax", Number place)
line_of (refusal.UnknownTable place) = (2, codes "UnknownTable", Number place)
line_of (refusal.TableExists place) = (3, codes "TableExists", Number place)
line_of (refusal.UnknownColumn place) = (4, codes "UnknownColumn", Number place)
line_of (refusal.WrongCount place) = (5, codes "WrongCount", Number place)
line_of (refusal.TypeMismatch place) = (6, codes "TypeMismatch", Number place)
line_of (refusal.NullInNotNull place) = (7, codes "NullInNotNull", Number place)
line_of (refusal.RetentionRange place) = (8, codes "RetentionRange", Number place)
line_of (refusal.KindMismatch place) = (9, codes "KindMismatch", Number place)
line_of (refusal.UnknownFile place) = (10, codes "UnknownFile", Number place)
line_of refusal.InFuture = (11, codes "InFuture", Nothing)
line_of refusal.UnknownStatement = (12, codes "UnknownStatement", Nothing)
line_of refusal.StatementOpen = (13, codes "StatementOpen", Nothing)
line_of (refusal.NotYetMade made) = (14, codes "NotYetMade", Number made)
line_of (refusal.OutsideRetention horizon) = (15, codes "OutsideRetention", Signed horizon)
line_of refusal.NothingToUndrop = (16, codes "NothingToUndrop", Nothing)
line_of (refusal.LockHeld session) = (17, codes "LockHeld", Session session)
line_of refusal.ClockEnd = (18, codes "ClockEnd", Nothing)
line_of refusal.InTransaction = (19, codes "InTransaction", Nothing)
line_of (refusal.BadData record_number column) = (20, codes "BadData", Pair record_number column)
line_of refusal.OutOfRange = (21, codes "OutOfRange", Nothing)
line_of (refusal.NullInRow column) = (22, codes "NullInRow", Number column)

-- the number by which an entry knows a refusal
abbrev pub refusal_number : Refusal → ℕ
refusal_number r = (line_of r).0

abbrev pub refusal_name : Refusal → List ℕ
refusal_name r = (line_of r).1

abbrev pub refusal_content : Refusal → Content
refusal_content r = (line_of r).2
