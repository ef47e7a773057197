use Rattle.tt_run.specs.Outcomes.{KeepsRows, Stands}
use Rattle.tt_run.proofs.Stores.{held}
use Rattle.tt_run.proofs.top.top_alone.Goals as goal

pub returns-clause-stands : goal.returns-clause-stands
returns-clause-stands g c = held c.finish.result.store c.in-Ok-run_program.finished.store Stands c.in-Ok-run_program.ensures.finished.stands c.finish.ensures.kept

pub returns-clause-kept_rows : goal.returns-clause-kept_rows
returns-clause-kept_rows g c = held c.finish.result.store c.in-Ok-run_program.finished.store KeepsRows c.in-Ok-run_program.ensures.finished.rows c.finish.ensures.kept
