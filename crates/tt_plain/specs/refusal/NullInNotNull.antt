-- 7, NullInNotNull: a written NULL for a column that is NOT NULL, or such a column left out.
use Rattle.std.specs.Prelude.{Option}
use Rattle.tt_history.specs.declared.reply.Refusal.{Refusal}
use Rattle.tt_plain.specs.asked.Asked.{Asked, in_statement, schemas_asked}
use Rattle.tt_plain.specs.NullsInNotNull.{nulls_in_not_null}
use Rattle.tt_plain.specs.refusal.{at_leftmost}
use Rattle.tt_history.specs.declared.reply.Refusal.TheVariants as refusal

abbrev pub null_in_not_null : Asked → Option Refusal
null_in_not_null asked = at_leftmost refusal.NullInNotNull (in_statement (λ s. nulls_in_not_null (schemas_asked asked s) s) asked.read)
