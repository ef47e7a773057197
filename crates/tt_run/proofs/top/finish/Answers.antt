use Rattle.tt_run.proofs.Stores.{untouched}
use Rattle.tt_run.proofs.top.finish.Goals as goal

pub returns-clause-untouched : goal.returns-clause-untouched
returns-clause-untouched g c = untouched c.in-Err.unfinished.written _ _ _ _ _ c.then_some.ensures c.in-Err.ensures.prefix
