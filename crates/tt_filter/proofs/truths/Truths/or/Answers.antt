use Rattle.tt_filter.proofs.Merging.{or_merged}
use Rattle.tt_filter.proofs.truths.Truths.or.Goals as goal

pub returns : goal.returns
returns c = λ f g rows has more. or_merged f g rows c.args.self.now c.args.other.now (record { trues = c.or.new.self; falses = c.and.new.self }) c.or.ensures c.and.ensures has more
