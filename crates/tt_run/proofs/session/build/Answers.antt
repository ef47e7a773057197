use Rattle.std.proofs.Common.{ℕ, [], subst}
use Rattle.std.proofs.lemmas.Result.{IfOk-weaker}
use Rattle.tt_sql.specs.declared.change.Dml.TheVariants as dml
use Rattle.tt_sql.specs.meaning.Changes.{insert_change}
use Rattle.tt_partition.specs.Cuts.{kinds_of}
use Rattle.tt_catalog.specs.Changes.{IsBuiltFor}
use Rattle.tt_change.specs.Builds.{PutsIn}
use Rattle.tt_run.proofs.Changing.{accepted, is_built, of_held}
use Rattle.tt_run.proofs.session.build.Goals as goal

pub insert_written-requires-clause-accepted : goal.insert_written-requires-clause-accepted
insert_written-requires-clause-accepted c =
    accepted c.args.cat.now c.args.ticket.now c.args.insert.now c.stands.ensures c.requires.ticket
    (of_held c.args.ticket.now c.args.insert.now c.in-Some.seen c.requires.writes c.in-Some.is)

pub returns : goal.returns
returns c =
    let schema = c.in-Some.seen.schema in
    let writes = of_held c.args.ticket.now c.args.insert.now c.in-Some.seen c.requires.writes c.in-Some.is in
    let change = insert_change schema [] [] c.args.insert.now in
    IfOk-weaker c.insert_written.result (PutsIn change (kinds_of schema) c.cap.result) (IsBuiltFor c.args.cat.now c.args.ticket.now (dml.Insert c.args.insert.now))
    (λ b puts. is_built c.args.cat.now c.args.ticket.now c.args.insert.now c.stands.ensures c.requires.ticket writes c.args.tuples.now c.requires.tuples b (subst (λ (cap : ℕ). PutsIn change (kinds_of schema) cap b) c.cap.ensures.cap puts))
    c.insert_written.ensures
