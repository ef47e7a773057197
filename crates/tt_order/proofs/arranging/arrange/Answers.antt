use Rattle.std.proofs.Common.{◌≡◌, List, ap, sym, ◌∙◌}
use Rattle.std.proofs.lemmas.Result.{IfOk-weaker}
use Rattle.std.specs.declared.cmp.Ordering.{Ordering}
use Rattle.tt_value.specs.declared.value.Row.{Row}
use Rattle.tt_value.specs.trees.Scope.{Scope}
use Rattle.tt_sql.specs.declared.query.Query.{Query}
use Rattle.tt_sql.specs.meaning.Scopes.{query_scope}
use Rattle.tt_sql.specs.meaning.Queries.{answer_cmp, arranged, limited, sorted_by}
use Rattle.tt_order.specs.declared.keys.PlacedKey.{PlacedKey}
use Rattle.tt_order.specs.PlacedKeys.{placed_keys, by_keys}
use Rattle.tt_order.proofs.KeyOrder.{placed-cmp}
use Rattle.tt_order.proofs.arranging.arrange.Goals as goal

is_arranged : (scope : Scope) (query : Query) (keys : List PlacedKey) (rows : List Row) → keys ≡ placed_keys scope query → limited query.limit (sorted_by (by_keys keys) rows) ≡ arranged scope query rows
unfolding arranged
is_arranged scope query keys rows same =
    let order : by_keys keys ≡ answer_cmp scope query.selection query.order = ap by_keys same ∙ placed-cmp scope query.selection query.order in
    ap (λ (cmp : Row → Row → Ordering). limited query.limit (sorted_by cmp rows)) order

pub returns-in-None : goal.returns-in-None
returns-in-None c =
    let scope = query_scope c.args.schemas.now c.args.query.now in
    let same : c.deref.result.now ≡ placed_keys scope c.args.query.now = c.deref.ensures.value ∙ c.in_ok-keys.ensures in
    IfOk-weaker c.all_rows.result _ _ (λ answer e. e ∙ is_arranged scope c.args.query.now c.deref.result.now c.args.rows.items same) c.all_rows.ensures

pub returns : goal.returns
returns c =
    let scope = query_scope c.args.schemas.now c.args.query.now in
    let keys = c.deref-in-Some.result.now in
    let same : keys ≡ placed_keys scope c.args.query.now = c.deref-in-Some.ensures.value ∙ c.in_ok-keys.ensures in
    IfOk-weaker c.first_rows.result _ _
    (λ answer e. e ∙ (sym (c.in-Some.ensures (sorted_by (by_keys keys) c.args.rows.items)) ∙ is_arranged scope c.args.query.now keys c.args.rows.items same)) c.first_rows.ensures
