use Rattle.std.proofs.Common.{Some, sym, ap, ◌∙◌}
use Rattle.tt_history.specs.declared.reply.Refusal.TheVariants.{TableExists}
use Rattle.tt_catalog_ddl.specs.Creates.{refusal_beside}
use Rattle.tt_catalog_ddl.proofs.Lookups.{copied_some, copied_none, checked}
use Rattle.tt_catalog_ddl.proofs.defining.create_refusal.Goals as goal

pub returns-then-is_some : goal.returns-then-is_some
returns-then-is_some c =
    let found = copied_some c.live_table.result (sym c.is_some.ensures ∙ c.if-is_some.true) in
    ap (λ place. Some (TableExists place)) c.table_begin.ensures
    ∙ sym (ap (λ o. refusal_beside o c.args.create.now c.args.statement.now) (sym c.live_table.ensures ∙ found.1))

pub returns : goal.returns
returns c =
    let none = copied_none c.live_table.result (sym c.is_some.ensures ∙ c.if-is_some.false) in
    c.err.ensures.value ∙ checked c.check.result _ c.args.statement.now c.check.ensures.ok c.check.ensures.refused
    ∙ sym (ap (λ o. refusal_beside o c.args.create.now c.args.statement.now) (sym c.live_table.ensures ∙ none))
