use Rattle.std.proofs.Common.{◌≡◌, ◌∙◌, Ok, Some, ap, subst, sym}
use Rattle.tt_sql.specs.declared.statement.Statement.{Statement}
use Rattle.tt_plain.specs.asked.Turns.{asked_with, carried_out}
use Rattle.tt_built.specs.Built.{built}
use Rattle.tt_state.specs.Chronicle.{store_of}
use Rattle.tt_run.proofs.Requests.{create_left, create_runs}
use Rattle.tt_run.proofs.TurnsLaws.{made_answers}
use Rattle.tt_run.proofs.session.run_create.Goals as goal

pub refuse_text-requires : goal.refuse_text-requires
refuse_text-requires c =
    c.requires.next
    ∙ (ap (λ (s : Statement). Some (asked_with c.args.cat.now.program (store_of c.args.cat.now) c.args.session c.args.index (carried_out built (Ok s)))) c.requires.create
    ∙ ap (λ read. Some (asked_with c.args.cat.now.program (store_of c.args.cat.now) c.args.session c.args.index read)) (create_left c.args.create.now (sym c.plain_create.ensures ∙ c.if-not-plain_create.true)))

pub define-requires-clause-next : goal.define-requires-clause-next
define-requires-clause-next c =
    let runs = create_runs c.args.create.now (sym c.plain_create.ensures ∙ c.if-not-plain_create.false) in
    c.requires.next
    ∙ ap (λ read. Some (asked_with c.args.cat.now.program (store_of c.args.cat.now) c.args.session c.args.index read))
    (subst (λ (s : Statement). carried_out built (Ok s) ≡ Ok s) (sym c.requires.create) runs)

pub returns : goal.returns
returns c = made_answers _ _ _ _ _ _ tt c.define.ensures.1
