use Rattle.tt_agg.proofs.Parts.{whole_rows}
use Rattle.tt_agg.proofs.aggregating.selects_whole_rows.Goals as goal

pub returns-in-All : goal.returns-in-All
returns-in-All c is = whole_rows c.args.query.now c.in-All.field-0 c.in-All.is (c.is_empty.ensures.0 is)
