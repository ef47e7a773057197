use Rattle.std.proofs.Common.{◌≡◌, ℕ, Bool, Option, ap, ◌∙◌}
use Rattle.tt_layout.specs.Owners.{owner_of, class_under}
use Rattle.tt_owner.specs.Holders.{owner_from, origin_stands}
use Rattle.tt_owner.proofs.Owning.{owner_is}
use Rattle.tt_owner.proofs.owner.owner_class.Goals as goal

owner : (c : goal.After-class_under) → c.owner_from-owner.result ≡ owner_of c.args.facts.now c.args.part.now
owner c =
    c.owner_from-owner.ensures
    ∙ ap (λ (b : Bool). owner_from c.args.part.now.origin b c.least_of-least.result) c.does_stand.ensures
    ∙ ap (λ (n : Option ℕ). owner_from c.args.part.now.origin (origin_stands c.args.facts.now c.args.part.now.origin) n) c.least_of-least.ensures
    ∙ owner_is c.args.facts.now c.args.part.now

pub returns-clause-owner : goal.returns-clause-owner
returns-clause-owner c = owner c

pub returns-clause-class : goal.returns-clause-class
returns-clause-class c = c.class_under.ensures ∙ ap (class_under c.args.facts.now c.args.part.now) (owner c)
