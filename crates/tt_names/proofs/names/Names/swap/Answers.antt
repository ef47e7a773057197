use Rattle.std.proofs.Common.{IsSome, subst, sym}
use Rattle.std.specs.FinMap as finite
use Rattle.tt_names.specs.Registry.{Registry}
use Rattle.tt_names.proofs.Seen.{insert_keeps}
use Rattle.tt_names.proofs.names.Names.swap.Goals as goal

pub set-requires-2 : goal.set-requires-2
set-requires-2 c =
    let name = c.args.b.now in
    subst (λ m. IsSome (finite.get m name)) (sym c.set.ensures)
    (insert_keeps c.self.inside.live c.args.a.now c.in-Some-Some.second name
    (subst (λ (v : Registry). IsSome (finite.get v.live name)) (sym c.self.view_is) c.requires.second))
