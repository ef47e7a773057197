use Rattle.tt_filter.proofs.Merging.{and_merged}
use Rattle.tt_filter.proofs.truths.Truths.and.Goals as goal

pub returns : goal.returns
returns c = λ f g rows has more. and_merged f g rows c.args.self.now c.args.other.now (record { trues = c.and.new.self; falses = c.or.new.self }) c.and.ensures c.or.ensures has more
