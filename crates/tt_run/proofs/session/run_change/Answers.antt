use Rattle.std.proofs.Common.{◌∙◌, Ok, Some, ap}
use Rattle.tt_sql.specs.declared.statement.Statement.{Statement}
use Rattle.tt_sql.specs.declared.statement.Statement.TheVariants as tree
use Rattle.tt_plain.specs.asked.Turns.{asked_with, carried_out}
use Rattle.tt_built.specs.Built.{built}
use Rattle.tt_state.specs.Chronicle.{store_of}
use Rattle.tt_run.proofs.Requests.{changes_nothing}
use Rattle.tt_run.proofs.session.run_change.Goals as goal

pub run_insert-requires-clause-insert : goal.run_insert-requires-clause-insert
run_insert-requires-clause-insert c = c.requires.change ∙ ap tree.Dml c.in-Insert.is

pub run_insert-requires-clause-change : goal.run_insert-requires-clause-change
run_insert-requires-clause-change c = c.in-Insert.is

pub refuse_text-requires : goal.refuse_text-requires
refuse_text-requires c =
    c.requires.next
    ∙ (ap (λ (s : Statement). Some (asked_with c.args.cat.now.program (store_of c.args.cat.now) c.args.session c.args.index (carried_out built (Ok s)))) c.requires.change
    ∙ ap (λ read. Some (asked_with c.args.cat.now.program (store_of c.args.cat.now) c.args.session c.args.index read)) (changes_nothing c.args.change.now c.in_default.not-Insert))
