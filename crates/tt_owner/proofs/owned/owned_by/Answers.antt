use Rattle.std.proofs.Common.{◌∙◌}
use Rattle.tt_layout.specs.declared.hold.Class.TheVariants as class
use Rattle.tt_owner.specs.declared.owned.Owned.{Owned}
use Rattle.tt_owner.proofs.Lists.{run_bounds, run_is}
use Rattle.tt_owner.proofs.owned.owned_by.Goals as goal

none : Owned
none = record { owner = 0; class = class.Pending; bytes = 0 }

pub middle-requires-clause-order : goal.middle-requires-clause-order
middle-requires-clause-order c =
    run_bounds (λ (h : Owned). h.owner) c.args.owned.now c.args.owner c.first_of-begin.result c.first_behind-end.result none
    c.first_of-begin.ensures.bound c.first_of-begin.ensures.below c.first_behind-end.ensures.above

pub returns : goal.returns
returns c =
    c.middle.ensures
    ∙ run_is (λ (h : Owned). h.owner) c.args.owned.now c.args.owner c.first_of-begin.result c.first_behind-end.result
    c.first_of-begin.ensures.bound c.first_behind-end.ensures.bound
    c.first_of-begin.ensures.below c.first_of-begin.ensures.later c.first_behind-end.ensures.up_to c.first_behind-end.ensures.above
