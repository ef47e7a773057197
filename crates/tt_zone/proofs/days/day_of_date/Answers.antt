use Rattle.std.proofs.Common.{◌∙◌, ap, ℤ, Some, arith, FitsSigned, w32}
use Rattle.std.proofs.lemmas.Int.{to_z-of_z}
use Rattle.jiff_core.proofs.SignedLemmas.{signed_arith}
use Rattle.tt_zone.proofs.DatesByParts.{accepted}
use Rattle.tt_zone.proofs.days.day_of_date.Goals as goal

pub returns-in-Ok : goal.returns-in-Ok
returns-in-Ok c =
    let fits : FitsSigned w32 c.to_unix_epoch_day.result = omega (arith, signed_arith, c.to_unix_epoch_day.ensures.bound.0, c.to_unix_epoch_day.ensures.bound.1) in
    ap (λ (z : ℤ). Some z) (to_z-of_z w32 c.to_unix_epoch_day.result fits)
    ∙ accepted c.in-Ok.date c.args.year c.args.month c.args.day c.to_unix_epoch_day.result (omega arith) (omega arith) (omega arith) (omega arith) c.in-Ok.ensures.value c.to_unix_epoch_day.ensures.value
