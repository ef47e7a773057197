use Rattle.std.proofs.Common.{ℤ, [], Ok, sym, ap, ◌∙◌, arith, FitsSigned, w32}
use Rattle.std.proofs.lemmas.Int.{to_z-of_z}
use Rattle.jiff_core.proofs.SignedLemmas.{signed_arith}
use Rattle.tt_time.proofs.Spelling.{day_one}
use Rattle.tt_time.proofs.dates.whole_date.Goals as goal

pub returns-then-is_empty-clause-only : goal.returns-then-is_empty-clause-only
returns-then-is_empty-clause-only c = λ day within e.
    let h = c.in-Some.ensures.found in
    let same = (day_one c.in-Some.day day c.in-Some.rest.now [] h.0 within (sym h.1 ∙ c.as_bytes.ensures.value ∙ e)).0 in
    let fits : FitsSigned w32 c.in-Some.day = omega (arith, signed_arith, h.0.0, h.0.1) in
    rw (to_z-of_z w32 c.in-Some.day fits) (ap (λ (z : ℤ). Ok z) same)
