use Rattle.std.proofs.Common.{◌≡◌, ◌<◌, ◌+◌, ◌∙◌, List, length, drop, get_or, ap, sym, subst, arith}
use Rattle.std.specs.List.{zip}
use Rattle.tt_value.specs.declared.value.Column.{Column}
use Rattle.tt_scope.specs.Places.{scope_in}
use Rattle.tt_sql.specs.meaning.Changes.{set_value}
use Rattle.tt_rewrite.proofs.AllSome.{left_end, left_more, left_none, with_left}
use Rattle.tt_rewrite.proofs.CellAt.{cell_next, value_is, zip_short}
use Rattle.tt_rewrite.proofs.setting.new_values.Goals as goal

pub returns-in_default : goal.returns-in_default
returns-in_default c =
    let columns = c.args.setting.now.schema.now.columns in
    let values = c.args.row.now.values in
    let scope = scope_in c.args.setting.now.tables in
    let below = subst (λ cs. c.loop-at.at < length cs) c.items-columns.ensures c.loop-at-test.true in
    let is = subst (λ cs. c.index-columns-at.result ≡ get_or cs c.loop-at.at c.index-columns-at.result) c.items-columns.ensures c.index-columns-at.is in
    let v_is = subst (λ vs. c.index-olds-at.result ≡ get_or vs c.loop-at.at c.index-olds-at.result) c.items-olds.ensures c.index-olds-at.is in
    let made = c.in_ok-found.ensures ∙ value_is scope c.args.setting.now.sets.now c.args.row.now columns c.args.setting.now.places.now c.loop-at.at c.index-columns-at.result c.index-olds-at.result _ below is c.requires.setting.places in
    left_none (set_value scope c.args.setting.now.sets.now c.args.row.now) c.loop-at.values.items (zip columns values) c.loop-at.at (c.index-columns-at.result, c.index-olds-at.result) _
    (cell_next columns values c.loop-at.at c.index-columns-at.result c.index-olds-at.result below c.requires.row is v_is)
    (sym made ∙ c.in_default.is) c.loop-at.invariant

pub loop-at-preserved : goal.loop-at-preserved
loop-at-preserved c =
    let columns = c.args.setting.now.schema.now.columns in
    let values = c.args.row.now.values in
    let scope = scope_in c.args.setting.now.tables in
    let below = subst (λ cs. c.loop-at.at < length cs) c.items-columns.ensures c.loop-at-test.true in
    let is = subst (λ cs. c.index-columns-at.result ≡ get_or cs c.loop-at.at c.index-columns-at.result) c.items-columns.ensures c.index-columns-at.is in
    let v_is = subst (λ vs. c.index-olds-at.result ≡ get_or vs c.loop-at.at c.index-olds-at.result) c.items-olds.ensures c.index-olds-at.is in
    let made = c.in_ok-found.ensures ∙ value_is scope c.args.setting.now.sets.now c.args.row.now columns c.args.setting.now.places.now c.loop-at.at c.index-columns-at.result c.index-olds-at.result _ below is c.requires.setting.places in
    ap (λ items. with_left (set_value scope c.args.setting.now.sets.now c.args.row.now) items (drop (c.loop-at.at + 1) (zip columns values))) c.in_ok-push.ensures.items
    ∙ left_more (set_value scope c.args.setting.now.sets.now c.args.row.now) c.loop-at.values.items (zip columns values) c.loop-at.at (c.index-columns-at.result, c.index-olds-at.result) c.in-Some.value _
    (cell_next columns values c.loop-at.at c.index-columns-at.result c.index-olds-at.result below c.requires.row is v_is)
    (sym made ∙ c.in-Some.is) c.loop-at.invariant

pub returns : goal.returns
returns c =
    let columns = c.args.setting.now.schema.now.columns in
    let values = c.args.row.now.values in
    let short = zip_short columns values in
    let same = ap (λ (cs : List Column). length cs) c.items-columns.ensures in
    left_end (set_value (scope_in c.args.setting.now.tables) c.args.setting.now.sets.now c.args.row.now) c.loop-at.values.items (zip columns values) c.loop-at.at _
    (omega (arith, short, same, c.loop-at-test.false)) c.loop-at.invariant
