-- The refusal of what is found is that of the statement.
use Rattle.std.proofs.Common.{◌≡◌, ◌∙◌, List, [], ◌∷◌, None, Some, OnOk, IfErr, Result, ap, append-nil, refl, subst}
use Rattle.tt_value.specs.declared.value.Schema.{Schema}
use Rattle.tt_sql.specs.declared.change.Insert.{Insert}
use Rattle.tt_sql.specs.declared.change.Tuple.{Tuple}
use Rattle.tt_sql.specs.declared.statement.Statement.{Statement}
use Rattle.tt_history.specs.declared.reply.Refusal.{Refusal}
use Rattle.tt_plain.specs.Statements.{insertion, InsertsTuples}
use Rattle.tt_plain.specs.TypingRefusal.{typing_refusal}
use Rattle.tt_typer.specs.declared.found.Found.{Found}
use Rattle.tt_typer.specs.Finds.{insert_found, refusal_found, statement_found}
use Rattle.tt_typer.specs.LentSchemas.{IsTypingRefusal, IsRefusalFound}

found_in : (schemas : List Schema) (s : Statement) → refusal_found (statement_found schemas s) ≡ typing_refusal schemas s
unfolding typing_refusal
found_in schemas s = refl

found_is : (found : Found) (schemas : List Schema) (s : Statement) → found ≡ statement_found schemas s → refusal_found found ≡ typing_refusal schemas s
found_is found schemas s e = ap refusal_found e ∙ found_in schemas s

pub free : {A : Type 0} (result : Result A Refusal) (found : Found) (schemas : List Schema) (s : Statement) → found ≡ statement_found schemas s → OnOk result (refusal_found found ≡ None) → OnOk result (typing_refusal schemas s ≡ None)
free result found schemas s e given = subst (λ r. OnOk result (r ≡ None)) (found_is found schemas s e) given

pub refused : {A : Type 0} (result : Result A Refusal) (found : Found) (schemas : List Schema) (s : Statement) → found ≡ statement_found schemas s → IfErr result (IsRefusalFound found) → IfErr result (IsTypingRefusal schemas s)
refused result found schemas s e given = subst (λ r. IfErr result (λ refusal. r ≡ Some refusal)) (found_is found schemas s e) given

-- of an INSERT of written rows
pub values_found_in : (target : Schema) (insert : Insert) (tuples : List Tuple) → InsertsTuples insert tuples → insert_found target insert tuples ≡ statement_found (target ∷ []) (insertion insert)
values_found_in target insert tuples is = rw (is, append-nil) refl
