use Rattle.std.proofs.Common.{ap}
use Rattle.std.specs.Option.{option_map}
use Rattle.tt_sql.specs.meaning.Queries.{answer_of, arranged}
use Rattle.tt_order.proofs.laws.answers_are_arranged.Goals as goal

pub returns-clause-some : goal.returns-clause-some
unfolding answer_of
returns-clause-some c scope query rows selected is = ap (option_map (arranged scope query)) is

pub returns-clause-none : goal.returns-clause-none
unfolding answer_of
returns-clause-none c scope query rows is = ap (option_map (arranged scope query)) is
