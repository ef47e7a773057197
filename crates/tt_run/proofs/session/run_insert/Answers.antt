use Rattle.std.proofs.Common.{◌≡◌, ◌∙◌, Ok, Some, ap, subst, sym}
use Rattle.tt_sql.specs.declared.change.InsertSource.TheVariants as source
use Rattle.tt_sql.specs.declared.statement.Statement.{Statement}
use Rattle.tt_plain.specs.asked.Turns.{asked_with, carried_out}
use Rattle.tt_built.specs.Built.{built, has_values}
use Rattle.tt_state.specs.Chronicle.{store_of}
use Rattle.tt_run.proofs.Requests.{insert_left, insert_runs}
use Rattle.tt_run.proofs.session.run_insert.Goals as goal

pub run_values-requires-clause-next : goal.run_values-requires-clause-next
run_values-requires-clause-next c =
    c.requires.next
    ∙ ap (λ read. Some (asked_with c.args.cat.now.program (store_of c.args.cat.now) c.args.session c.args.index read))
    (subst (λ (s : Statement). carried_out built (Ok s) ≡ Ok s) (sym c.requires.insert) (insert_runs c.args.insert.now (ap has_values c.in-Values.is)))

pub run_values-requires-clause-tuples : goal.run_values-requires-clause-tuples
run_values-requires-clause-tuples c = c.in-Values.is ∙ ap source.Values (sym c.as_slice-rows.ensures)

pub refuse_text-requires : goal.refuse_text-requires
refuse_text-requires c =
    c.requires.next
    ∙ (ap (λ (s : Statement). Some (asked_with c.args.cat.now.program (store_of c.args.cat.now) c.args.session c.args.index (carried_out built (Ok s)))) c.requires.insert
    ∙ ap (λ read. Some (asked_with c.args.cat.now.program (store_of c.args.cat.now) c.args.session c.args.index read)) (insert_left c.args.insert.now (ap has_values c.in-Query.is)))
