use Rattle.std.proofs.Common.{sym, subst}
use Rattle.tt_owner.specs.AllHolders.{AreHolders}
use Rattle.tt_owner.specs.Owned.{AreStanding, owned_of}
use Rattle.tt_owner.proofs.Lists.{item_more}
use Rattle.tt_owner.proofs.owned.owned_in_turn.Goals as goal

pub loop-part-preserved : goal.loop-part-preserved
loop-part-preserved c =
    item_more (owned_of c.args.facts.now) c.items-part-items.result.now c.args.facts.now.parts c.loop-part.part-index _ c.loop-part.owned.items c.push.new.self.items c.owned_part.result
    c.items-part-items.ensures c.loop-part-test.true c.in_ok-push.ensures.items
    (c.owned_part.ensures c.args.facts.now (subst (AreHolders c.args.facts.now) (sym c.deref.ensures.value) c.in_ok-holders.ensures.holders)
    (subst (AreStanding c.args.facts.now) (sym c.deref-in-loop-part.ensures.value) c.in_ok-standing.ensures.numbers))
    c.loop-part.invariant
