use Rattle.tt_agg.proofs.Grouping.{extended}
use Rattle.tt_agg.proofs.groups.extend.Goals as goal

pub returns : goal.returns
returns c =
    extended c.args.place c.args.row c.args.groups.now.items c.index_mut.result.now c.push.new.self c.requires c.index_mut.ensures.value c.in_ok-push.ensures.items
