-- The schemas that are lent to a check, in order, and what it gives.
use Rattle.std.specs.Prelude.{◌≡◌, List, map, Some}
use Rattle.std.specs.Borrow.{Bor}
use Rattle.tt_value.specs.declared.value.Schema.{Schema}
use Rattle.tt_sql.specs.declared.statement.Statement.{Statement}
use Rattle.tt_history.specs.declared.reply.Refusal.{Refusal}
use Rattle.tt_plain.specs.TypingRefusal.{typing_refusal}
use Rattle.tt_typer.specs.declared.found.Found.{Found}
use Rattle.tt_typer.specs.Finds.{refusal_found}

abbrev pub lent : List (Bor Schema) → List Schema
lent schemas = map (λ (schema : Bor Schema). schema.now) schemas

abbrev pub IsTypingRefusal : List Schema → Statement → Refusal → Type 0
IsTypingRefusal schemas statement refusal = typing_refusal schemas statement ≡ Some refusal

abbrev pub IsRefusalFound : Found → Refusal → Type 0
IsRefusalFound found refusal = refusal_found found ≡ Some refusal
