use Rattle.std.proofs.Common.{ℕ, List, ◌∷◌, ◌++◌, sym, ◌∙◌, arith, refl}
use Rattle.tt_value.specs.calendar.Calendar.{two_digits}
use Rattle.tt_time.proofs.Spelling.{two_one, cons_tail, clock_parts, made_clock}
use Rattle.tt_time.proofs.timestamps.clock_at.Goals as goal

pub returns-in_err-second-clause-none : goal.returns-in_err-second-clause-none
returns-in_err-second-clause-none c =
    rw c.from_residual-in_err-second.ensures (λ clock rest is e.
    let minutes : List ℕ = 58 ∷ (two_digits clock.minute ++ (58 ∷ (two_digits clock.second ++ rest))) in
    let seconds : List ℕ = 58 ∷ (two_digits clock.second ++ rest) in
    let h = two_one c.in_ok-hour.hour clock.hour c.in_ok-hour.rest.now minutes c.in_ok-hour.ensures.found.0 (omega (arith, is.hour)) (sym c.in_ok-hour.ensures.found.1 ∙ e) in
    let m = two_one c.in_ok-minute.minute clock.minute c.in_ok-minute.rest.now seconds c.in_ok-minute.ensures.found.0 (omega (arith, is.minute)) (sym c.in_ok-minute.ensures.found.1 ∙ cons_tail 58 58 _ _ (sym c.in_ok-rest.ensures.found ∙ h.1)) in
    c.in_err-second.ensures.none clock.second rest (omega (arith, is.second)) (cons_tail 58 58 _ _ (sym c.in_ok-rest-2.ensures.found ∙ m.1)))

pub returns-clause-found : goal.returns-clause-found
returns-clause-found c = (
  made_clock c.in_ok-hour.hour c.in_ok-minute.minute c.in_ok-second.second,
  record { hour = c.if-hour-gt-LAST_HOUR.false; minute = c.if-minute-gt-LAST_MINUTE.false; second = c.if-second-gt-LAST_SECOND.false },
  clock_parts _ _ _ _ _ _ _ _ _ c.in_ok-hour.ensures.found.1 c.in_ok-rest.ensures.found c.in_ok-minute.ensures.found.1 c.in_ok-rest-2.ensures.found c.in_ok-second.ensures.found.1,
  refl,
)
