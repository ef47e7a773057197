use Rattle.std.proofs.Common.{◌≡◌, ◌⊎◌, inl, inr, sym, ◌∙◌, arith}
use Rattle.tt_time.proofs.Moments.{made_moment, no_tail, cast_moment, seconds_bound}
use Rattle.tt_time.proofs.timestamps.moment_at.Goals as goal
use Rattle.tt_time.proofs.timestamps.moment_at.Goals.{else-between-ne32-via-then-between-ne32+else-between-ne84, else-between-ne32-via-else-between-ne32}

pub returns-in_err-milliseconds-clause-none : goal.returns-in_err-milliseconds-clause-none
returns-in_err-milliseconds-clause-none c =
    let clock = c.in_ok-seconds.ensures.found in
    rw c.from_residual-in_err-milliseconds.ensures (no_tail c.args.bytes.now c.in_ok-day.rest.now c.in_ok-between.rest.now c.in_ok-seconds.rest.now c.in_ok-day.day c.in_ok-between.between.now clock.0 c.in_ok-day.ensures.found.0 c.in_ok-day.ensures.found.1 c.in_ok-between.ensures.cases.0 clock.1 clock.2 c.in_err-milliseconds.ensures.value)

pub returns-clause-found : goal.returns-clause-found
returns-clause-found c =
    let clock = c.in_ok-seconds.ensures.found in
    let between : (c.in_ok-between.between.now ≡ 32) ⊎ (c.in_ok-between.between.now ≡ 84) = elim c.else-between-ne32.branch [
      | else-between-ne32-via-then-between-ne32+else-between-ne84 w ↦ inr w.if-between-ne84.false
      | else-between-ne32-via-else-between-ne32 w ↦ inl w.if-between-ne32.false
    ] in
    let made = made_moment c.args.bytes.now c.in_ok-day.rest.now c.in_ok-between.rest.now c.in_ok-seconds.rest.now c.in_ok-day.day c.in_ok-between.between.now c.in_ok-seconds.seconds c.in_ok-milliseconds.milliseconds c.in_ok-day.ensures.found.0 c.in_ok-day.ensures.found.1 c.in_ok-between.ensures.cases.0 between clock.0 clock.1 clock.2 clock.3 (sym c.in_ok-milliseconds.ensures.value) in
    (made.0, made.1, made.2, cast_moment c.in_ok-day.day c.in_ok-seconds.seconds c.in_ok-milliseconds.milliseconds c.in_ok-day.ensures.found.0 (omega (arith, clock.3, seconds_bound clock.0 clock.1)) c.in_ok-milliseconds.ensures.bound ∙ made.3)
