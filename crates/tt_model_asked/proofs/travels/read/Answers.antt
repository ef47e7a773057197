use Rattle.std.proofs.Common.{sym, Some}
use Rattle.tt_model_asked.specs.AskedAs.{asked_in}
use Rattle.tt_model_asked.proofs.ReadPoints.{read_is}
use Rattle.tt_model_asked.proofs.travels.read.Goals as goal

pub returns-in-Some : goal.returns-in-Some
returns-in-Some c =
    rw (c.judged.ensures, c.table_named-table.ensures, c.moment_of.ensures, c.in-Some.is)
    (sym (read_is (asked_in c.args.asked.now) c.args.source.now.table (Some c.in-Some.clause)))
