-- All refusals of a statement, group by group.
use Rattle.std.proofs.Common.{◌≡◌, ◌∷◌, ◌++◌, Some, None, Ok, refl, sym, ◌∙◌}
use Rattle.std.specs.Option.{option_map}
use Rattle.tt_sql.specs.declared.statement.Statement.{Statement}
use Rattle.tt_history.specs.declared.reply.Refusal.{Refusal}
use Rattle.tt_history.specs.declared.reply.Refusal.TheVariants as refusal
use Rattle.tt_plain.specs.Places.{each, leftmost}
use Rattle.tt_plain.specs.Tables.{tables_of}
use Rattle.tt_plain.specs.asked.Asked.{Asked}
use Rattle.tt_plain.specs.refusal.{first_some}
use Rattle.tt_plain.specs.refusal.First.{refusal_of}
use Rattle.tt_plain.specs.refusal.UnknownTable.{unknown_name}
use Rattle.tt_model_asked.specs.RefusalsAs.{refusals_of_tables, refusals_of_the_rest, refusals_of_typing}
use Rattle.tt_model_asked.specs.TypedAs.{typed_by}
use Rattle.tt_model_asked.proofs.Firsts.{behind_none, in_front}
use Rattle.tt_model_asked.proofs.Typed.{typed_is}

pub first_is : (asked : Asked) (s : Statement) → asked.read ≡ Ok s
    → refusal_of asked ≡ first_some (option_map refusal.UnknownTable (leftmost (each (unknown_name asked) (tables_of s))) ∷ refusals_of_tables asked)
unfolding refusal_of
first_is asked s e = rw e refl

pub is_typed : (asked : Asked) (s : Statement) (r : Refusal) → asked.read ≡ Ok s → typed_by asked s ≡ Some r → Some r ≡ first_some (refusals_of_typing asked ++ refusals_of_the_rest asked)
is_typed asked s r e found = sym (in_front (refusals_of_typing asked) (refusals_of_the_rest asked) r (sym (typed_is asked s e) ∙ found))

pub is_behind : (asked : Asked) (s : Statement) → asked.read ≡ Ok s → typed_by asked s ≡ None → first_some (refusals_of_the_rest asked) ≡ first_some (refusals_of_typing asked ++ refusals_of_the_rest asked)
is_behind asked s e none = sym (behind_none (refusals_of_typing asked) (refusals_of_the_rest asked) (sym (typed_is asked s e) ∙ none))
