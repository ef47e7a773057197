use Rattle.std.proofs.Common.{◌≡◌, ◌∙◌, arith, map, take, length}
use Rattle.tt_sql.specs.meaning.Queries.{each_once}
use Rattle.tt_agg.specs.Groups.{key_at}
use Rattle.tt_agg.proofs.Grouping.{place_within, groups_are_keys, keys_go_on, groups_go_on}
use Rattle.tt_agg.proofs.groups.groups_by.Goals as goal

pub add-requires : goal.add-requires
add-requires c =
    let key = key_at c.args.places.now in
    let rows = take c.loop-row.row-index c.args.rows.now in
    let keys = each_once (map key rows) in
    let many : length c.loop-row.groups.items ≡ length keys = groups_are_keys c.loop-row.groups.items key rows c.loop-row.invariant.groups in
    let place = c.in_ok-place.ensures.place keys c.loop-row.invariant.found (c.len.ensures ∙ (c.loop-row.groups.ok.0 ∙ many)) in
    omega (arith, many, place, place_within c.in_ok-key.key keys)

pub loop-row-preserved : goal.loop-row-preserved
loop-row-preserved c =
    let key = key_at c.args.places.now in
    let rows = take c.loop-row.row-index c.args.rows.now in
    let keys = each_once (map key rows) in
    let many : length c.loop-row.groups.items ≡ length keys = groups_are_keys c.loop-row.groups.items key rows c.loop-row.invariant.groups in
    record {
      found = keys_go_on c.args.places.now c.args.rows.now c.loop-row.row-index c.row-item.result c.in_ok-key.key c.place_of.new.found (omega arith) c.row-item.is c.in_ok-key.ensures (c.in_ok-place.ensures.found keys c.loop-row.invariant.found (c.len.ensures ∙ (c.loop-row.groups.ok.0 ∙ many)));
      groups = groups_go_on c.args.places.now c.args.rows.now c.loop-row.row-index c.row-item.result c.in_ok-key.key c.in_ok-place.place _ _ (omega arith) c.row-item.is c.in_ok-key.ensures c.loop-row.invariant.groups (c.in_ok-place.ensures.place keys c.loop-row.invariant.found (c.len.ensures ∙ (c.loop-row.groups.ok.0 ∙ many))) c.in_ok-add.ensures;
    }
