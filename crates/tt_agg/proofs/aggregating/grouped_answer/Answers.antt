use Rattle.std.proofs.Common.{◌∙◌, ap, map}
use Rattle.std.specs.Option.{option_map}
use Rattle.tt_scope.specs.Places.{scope_in}
use Rattle.tt_sql.specs.meaning.Queries.{all_some, grouped}
use Rattle.tt_agg.specs.Groups.{key_at, group_row}
use Rattle.tt_agg.proofs.Parts.{grouped_is, ok_is}
use Rattle.tt_agg.proofs.aggregating.grouped_answer.Goals as goal

pub returns : goal.returns
returns c =
    let scope = scope_in c.args.tables.now in
    let query = c.args.query.now in
    let rows = c.args.rows.now in
    ok_is (option_map (λ answer. answer.items)) c.group_answers.result _ _
    (ap (λ groups. all_some (map (group_row scope query.selection) groups)) c.deref-2.ensures.value
    ∙ grouped_is scope query c.in_ok-places.places.items c.in_ok-groups.groups.items rows
    (c.in_ok-places.ensures ∙ ap (map scope.place_of) c.as_slice.ensures)
    (c.in_ok-groups.ensures ∙ ap (λ places. grouped (key_at places) rows) c.deref.ensures.value))
    c.group_answers.ensures
