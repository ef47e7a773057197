-- 18, ClockEnd: a wait would pass the last moment of the clock.
use Rattle.std.specs.Prelude.{Bool, Option, false, nat_lt, ℕ, ◌*◌, ◌+◌}
use Rattle.tt_sql.specs.declared.statement.TimeUnit.{TimeUnit}
use Rattle.tt_sql.specs.declared.statement.Wait.{Wait}
use Rattle.tt_history.specs.declared.reply.Refusal.{Refusal}
use Rattle.tt_plain.specs.asked.Asked.{Asked, request_asked}
use Rattle.tt_plain.specs.asked.Request.{Request, Waits}
use Rattle.tt_plain.specs.refusal.{where_true}
use Rattle.tt_history.specs.declared.reply.Refusal.TheVariants as refusal
use Rattle.tt_sql.specs.declared.statement.TimeUnit.TheVariants as unit

-- the last millisecond of the year 9999
abbrev pub last_moment : ℕ
last_moment = 253402300799999

abbrev pub milliseconds_in : TimeUnit → ℕ
milliseconds_in unit.Days = 86400000
milliseconds_in unit.Hours = 3600000
milliseconds_in unit.Minutes = 60000
milliseconds_in unit.Seconds = 1000
milliseconds_in unit.Milliseconds = 1

abbrev pub wait_length : Wait → ℕ
wait_length w = w.amount.value * milliseconds_in w.unit

abbrev pub passes_end : ℕ → Request → Bool
passes_end moment (Waits w) = nat_lt last_moment (moment + wait_length w)
passes_end moment _ = false

abbrev pub clock_end : Asked → Option Refusal
clock_end asked = where_true (passes_end asked.moment (request_asked asked)) refusal.ClockEnd
