use Rattle.std.proofs.Common.{refl}
use Rattle.tt_filter.proofs.Merging.{not_merged}
use Rattle.tt_filter.proofs.truths.Truths.negated.Goals as goal

pub returns : goal.returns
returns c = λ f rows has. not_merged f rows c.args.self (record { trues = c.args.self.falses; falses = c.args.self.trues }) refl refl has
