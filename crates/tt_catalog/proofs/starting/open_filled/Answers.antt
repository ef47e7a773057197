use Rattle.std.proofs.Common.{length, subst, sym}
use Rattle.tt_state.specs.Keeps.{ArePartNumbers}
use Rattle.tt_state.specs.Kept.{kept_of, numbers_now}
use Rattle.tt_catalog.proofs.Held.{numbers_there}
use Rattle.tt_catalog.proofs.starting.open_filled.Goals as goal

pub hold_filled-requires : goal.hold_filled-requires
hold_filled-requires c =
    subst (λ parts. ArePartNumbers (length parts) (numbers_now c.in_ok-table.read.now)) (sym c.deref.ensures.value)
    (numbers_there (kept_of c.args.state.now) c.args.from.now.name.text c.in_ok-table.read.now c.requires.parts c.in_ok-table.ensures.source)
