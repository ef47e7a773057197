use Rattle.std.proofs.Common.{arith, sym, ◌∙◌, get_or}
use Rattle.tt_zone.proofs.DatesByParts.{most_short, digit_small}
use Rattle.tt_zone.proofs.days.number_in.Goals as goal

pub overflow_add-number : goal.overflow_add-number
overflow_add-number c =
    omega (
      arith,
      c.loop-digit.invariant.small,
      most_short c.loop-digit.digit-index (omega arith),
      digit_small (get_or c.args.digits.now c.loop-digit.digit-index 0) c.from.result (sym c.is_ascii_digit.ensures.value ∙ c.if-not-is_ascii_digit.false) c.from.ensures,
    )
