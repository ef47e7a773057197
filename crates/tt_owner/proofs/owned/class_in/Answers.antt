use Rattle.tt_owner.proofs.owned.class_in.Goals as goal

pub loop-holder-init : goal.loop-holder-init
loop-holder-init c = c.unseen-seen.ensures c.args.owner
