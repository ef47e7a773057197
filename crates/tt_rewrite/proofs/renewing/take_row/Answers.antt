use Rattle.std.proofs.Common.{◌∙◌, [], ◌∷◌, sym, subst, false}
use Rattle.tt_value.specs.declared.value.Row.{Row}
use Rattle.tt_rewrite.specs.Renewed.{RenewsRows}
use Rattle.tt_rewrite.specs.Sets.{becomes}
use Rattle.tt_rewrite.proofs.Renews.{keeps_one}
use Rattle.tt_rewrite.proofs.renewing.take_row.Goals as goal

pub returns : goal.returns
returns c =
    let schema = c.args.setting.now.schema.now in
    subst (λ b. RenewsRows (λ (row : Row). b) (becomes c.args.setting.now) schema (c.args.row ∷ []) c.args.rows.now c.push.new.self c.args.missing.now c.args.missing.now)
    (sym (sym c.is_set.ensures ∙ c.if-is_set.false))
    (keeps_one (λ (row : Row). false) (becomes c.args.setting.now) schema c.args.row c.args.rows.now c.push.new.self c.args.missing.now c.in_ok-push.ensures.ok)
