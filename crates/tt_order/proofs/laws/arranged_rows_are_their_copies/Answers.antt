use Rattle.std.proofs.Common.{ap}
use Rattle.tt_sql.specs.meaning.Queries.{answer_cmp, arranged, limited}
use Rattle.tt_order.proofs.KeyOrder.{answers_total, answers_ties}
use Rattle.tt_order.proofs.Sorting.{sorted_same}
use Rattle.tt_order.proofs.laws.arranged_rows_are_their_copies.Goals as goal

pub returns : goal.returns
unfolding arranged
returns c scope query a b same =
    ap (limited query.limit) (sorted_same (answer_cmp scope query.selection query.order) (answers_total scope query.selection query.order) (answers_ties scope query.selection query.order) a b same)
