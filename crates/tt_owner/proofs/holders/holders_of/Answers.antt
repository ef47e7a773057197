use Rattle.std.proofs.Common.{false, ◌∙◌}
use Rattle.tt_layout.specs.declared.hold.Hold.TheVariants as hold
use Rattle.tt_owner.specs.declared.holder.Holder.{Holder}
use Rattle.tt_owner.proofs.Lists.{run_bounds, run_is}
use Rattle.tt_owner.proofs.holders.holders_of.Goals as goal

none : Holder
none = record { part = 0; table = 0; stands = false; hold = hold.Nothing }

pub middle-requires-clause-order : goal.middle-requires-clause-order
middle-requires-clause-order c =
    run_bounds (λ (h : Holder). h.part) c.args.holders.now c.args.part c.first_of-begin.result c.first_behind-end.result none
    c.first_of-begin.ensures.bound c.first_of-begin.ensures.below c.first_behind-end.ensures.above

pub returns : goal.returns
returns c =
    c.middle.ensures
    ∙ run_is (λ (h : Holder). h.part) c.args.holders.now c.args.part c.first_of-begin.result c.first_behind-end.result
    c.first_of-begin.ensures.bound c.first_behind-end.ensures.bound
    c.first_of-begin.ensures.below c.first_of-begin.ensures.later c.first_behind-end.ensures.up_to c.first_behind-end.ensures.above
