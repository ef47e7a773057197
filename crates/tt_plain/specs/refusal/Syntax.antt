-- 1, Syntax: the text is no statement, or uses a part that is not carried out yet.
use Rattle.std.specs.Prelude.{Err, None, Ok, Option, Result, Some, ℕ}
use Rattle.tt_sql.specs.declared.statement.Statement.{Statement}
use Rattle.tt_history.specs.declared.reply.Refusal.{Refusal}
use Rattle.tt_plain.specs.asked.Asked.{Asked}
use Rattle.tt_history.specs.declared.reply.Refusal.TheVariants as refusal

abbrev pub syntax_fault : Result Statement ℕ → Option Refusal
syntax_fault (Err place) = Some (refusal.Syntax place)
syntax_fault (Ok s) = None

abbrev pub syntax : Asked → Option Refusal
syntax asked = syntax_fault asked.read
