use Rattle.std.proofs.Common.{◌≡◌, ℕ, ap, ◌∙◌, arith}
use Rattle.tt_layout.specs.Numbers.{has}
use Rattle.tt_owner.proofs.Parting.{owned_is}
use Rattle.tt_owner.proofs.owned.owned_part.Goals as goal

pub returns : goal.returns
returns c = λ facts holders standing.
    let number : c.from.result ≡ c.args.part.now.origin = omega (arith, c.from.ensures) in
    owned_is facts c.args.part.now c.args.holders.now c.holders_of-run.result.now c.args.standing.now c.has_number-origin_stands.result c.least_in.result
    c.owner_from-owner.result c.class_in.result holders standing
    c.holders_of-run.ensures (c.has_number-origin_stands.ensures ∙ ap (λ (n : ℕ). has c.args.standing.now n) number) c.least_in.ensures c.owner_from-owner.ensures c.class_in.ensures
