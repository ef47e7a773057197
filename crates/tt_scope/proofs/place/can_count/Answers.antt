use Rattle.std.proofs.Common.{◌≡◌, length, arith, refl}
use Rattle.tt_scope.specs.Places.{joined_tables, columns_of}
use Rattle.tt_scope.proofs.Few.{no_joins, no_schemas}
use Rattle.tt_scope.proofs.place.can_count.Goals as goal

pub returns-in_default : goal.returns-in_default
returns-in_default c =
    let none : length (columns_of (joined_tables c.loop-later.joins.now c.loop-later.schemas.now)) ≡ 0 = no_schemas _ _ c.in_default.ensures'.cases in
    (λ _. omega (arith, none, c.loop-later.invariant.whole, c.loop-later.invariant.fits), λ _. refl)

pub returns-in_default-2 : goal.returns-in_default-2
returns-in_default-2 c =
    let none : length (columns_of (joined_tables c.loop-later.joins.now c.loop-later.schemas.now)) ≡ 0 = no_joins _ _ c.in_default.ensures.cases in
    (λ _. omega (arith, none, c.loop-later.invariant.whole, c.loop-later.invariant.fits), λ _. refl)
