use Rattle.std.proofs.Common.{◌≡◌, ℕ, List, ◌++◌, map, refl, ap, ◌∙◌}
use Rattle.std.proofs.lemmas.Result.{on_ok_weaker}
use Rattle.tt_layout.specs.declared.hold.Hold.TheVariants as hold
use Rattle.tt_sweep.specs.declared.claim.Claim.{Claim}
use Rattle.tt_sweep.specs.Claims.{claimed, claimed_numbers}
use Rattle.tt_owner.specs.declared.holder.Holder.{Holder}
use Rattle.tt_owner.specs.AllHolders.{claimed_holder, is_hold}
use Rattle.tt_owner.proofs.Gathering.{with_claims}
use Rattle.tt_owner.proofs.holders.push_holders.Goals as goal

pub returns : goal.returns
returns c =
    let sample : Holder = record { part = 0; table = c.args.table.now.number; stands = c.stands.result; hold = hold.Nothing } in
    let old : List Holder = c.args.holders.now.items in
    let claims : List Claim = c.in_ok-claims.claims.items in
    let active : List ℕ = c.in_ok-active.active.items in
    let travel : List ℕ = c.in_ok-travel.travel.items in
    let whole : old ++ map (claimed_holder sample c.deref-4.result.now c.deref-5.result.now) (claimed_numbers c.deref-3.result.now)
    ≡ old ++ map (claimed_holder sample active travel) (claimed_numbers claims) =
    ap (λ (cs : List Claim). old ++ map (claimed_holder sample c.deref-4.result.now c.deref-5.result.now) (claimed_numbers cs)) c.deref-3.ensures.value
    ∙ ap (λ (ns : List ℕ). old ++ map (claimed_holder sample ns c.deref-5.result.now) (claimed_numbers claims)) c.deref-4.ensures.value
    ∙ ap (λ (ns : List ℕ). old ++ map (claimed_holder sample active ns) (claimed_numbers claims)) c.deref-5.ensures.value in
    on_ok_weaker c.push_claimed.result
    (λ e. λ part test. with_claims c.args.at c.args.table.now old c.push_claimed.new.holders.items sample claims active travel
    c.in_ok-claims.ensures refl c.stands.ensures
    (λ p. c.in_ok-active.ensures.numbers p ∙ ap (λ (cs : List Claim). claimed (is_hold hold.Active) cs p) c.deref.ensures.value)
    (λ p. c.in_ok-travel.ensures.numbers p ∙ ap (λ (cs : List Claim). claimed (is_hold hold.TimeTravel) cs p) c.deref-2.ensures.value)
    (e ∙ whole) part test)
    c.push_claimed.ensures
