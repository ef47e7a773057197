-- 6, TypeMismatch: kinds that do not fit, or an item that is neither a group column nor an aggregate.
use Rattle.std.specs.Prelude.{Option}
use Rattle.tt_history.specs.declared.reply.Refusal.{Refusal}
use Rattle.tt_plain.specs.asked.Asked.{Asked, in_statement, schemas_asked}
use Rattle.tt_plain.specs.refusal.{at_leftmost}
use Rattle.tt_plain.specs.TypeMismatches.{type_mismatches}
use Rattle.tt_history.specs.declared.reply.Refusal.TheVariants as refusal

abbrev pub type_mismatch : Asked → Option Refusal
type_mismatch asked = at_leftmost refusal.TypeMismatch (in_statement (λ s. type_mismatches (schemas_asked asked s) s) asked.read)
