-- The answer of a query of a whole table can be written where the rows can that it reads.
use Rattle.std.specs.Prelude.{All, List, Some, [], true, ◌∷◌, ◌≡◌}
use Rattle.std.proofs.Common.{ap, subst, sym, ◌∙◌}
use Rattle.std.proofs.lemmas.Option.{same_Some}
use Rattle.tt_value.proofs.values.Bags.{All-bag_of}
use Rattle.tt_value.specs.declared.value.Row.{Row}
use Rattle.tt_value.specs.trees.Scope.{table_scope}
use Rattle.tt_value.specs.values.Bags.{bag_of}
use Rattle.tt_value.specs.values.RowText.{IsPrintable}
use Rattle.tt_sql.specs.declared.query.Query.{Query}
use Rattle.tt_sql.specs.meaning.Scopes.{query_scope}
use Rattle.tt_built.specs.Built.{is_plain_query}
use Rattle.tt_state.specs.declared.ticket.Seen.{Seen}
use Rattle.tt_state.specs.Held.{rows_held}
use Rattle.tt_scan.specs.Held.{rows_taken}
use Rattle.tt_query.specs.Answer.{answer_from}
use Rattle.tt_query.proofs.Whole.{all_taken, is_whole, whole_answer}

pub printable : (seen : Seen) (query : Query) (taken answer : List Row) → taken ≡ rows_taken seen.schema query.filter (rows_held seen) → All IsPrintable taken → answer_from seen query ≡ Some answer → is_plain_query query ≡ true → All IsPrintable answer
printable seen query taken answer taken_is can answers plain =
    let whole = is_whole query plain in
    let rows = rows_held seen in
    let all : taken ≡ rows = taken_is ∙ (ap (λ f. rows_taken seen.schema f rows) whole.filter_is ∙ all_taken (table_scope seen.schema) rows) in
    subst (All IsPrintable) (same_Some (bag_of rows) answer (sym (whole_answer (query_scope (seen.schema ∷ []) query) query rows whole) ∙ answers))
    (All-bag_of IsPrintable rows (subst (All IsPrintable) all can))
