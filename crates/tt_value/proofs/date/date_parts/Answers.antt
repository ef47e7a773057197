use Rattle.std.proofs.Common.{◌≡◌, sym, ap, ◌∙◌, arith, unsigned_abs, FitsSigned, w16, w32, w64}
use Rattle.std.proofs.lemmas.Int.{to_z-of_z}
use Rattle.jiff_core.specs.Date.{epoch_day}
use Rattle.jiff_core.proofs.SignedLemmas.{signed_arith}
use Rattle.tt_value.proofs.calendar.DayNumbers.{numbered, parts_of, same_parts}
use Rattle.tt_value.proofs.date.date_parts.Goals as goal

pub overflow_cast-result : goal.overflow_cast-result
overflow_cast-result c =
    let fits32 : FitsSigned w32 c.args.day = omega (arith, signed_arith, c.requires.0, c.requires.1) in
    let from_is = c.from.ensures ∙ to_z-of_z w32 c.args.day fits32 in
    let fits : FitsSigned w64 c.from.result = omega (arith, signed_arith, from_is, c.requires.0, c.requires.1) in
    let is : epoch_day c.in-Ok.date ≡ c.args.day = c.in-Ok.ensures.value ∙ to_z-of_z w64 c.from.result fits ∙ from_is in
    let p = parts_of c.in-Ok.date c.args.day c.requires is in
    let year = (numbered c.args.day c.requires).0.year.1 in
    let fits16 : FitsSigned w16 c.in-Ok.date.year = omega (arith, signed_arith, p.0, year) in
    rw (to_z-of_z w16 c.in-Ok.date.year fits16, p.0) (tt, omega (arith, year))

pub returns-clause-value : goal.returns-clause-value
returns-clause-value c =
    let fits32 : FitsSigned w32 c.args.day = omega (arith, signed_arith, c.requires.0, c.requires.1) in
    let from_is = c.from.ensures ∙ to_z-of_z w32 c.args.day fits32 in
    let fits : FitsSigned w64 c.from.result = omega (arith, signed_arith, from_is, c.requires.0, c.requires.1) in
    let is : epoch_day c.in-Ok.date ≡ c.args.day = c.in-Ok.ensures.value ∙ to_z-of_z w64 c.from.result fits ∙ from_is in
    let p = parts_of c.in-Ok.date c.args.day c.requires is in
    let year = (numbered c.args.day c.requires).0.year.1 in
    let fits16 : FitsSigned w16 c.in-Ok.date.year = omega (arith, signed_arith, p.0, year) in
    same_parts _ _ (sym (ap unsigned_abs (to_z-of_z w16 c.in-Ok.date.year fits16 ∙ p.0))) (sym p.1) (sym p.2)
