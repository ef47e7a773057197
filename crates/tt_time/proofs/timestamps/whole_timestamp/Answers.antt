use Rattle.std.proofs.Common.{ℤ, Ok, sym, ap, subst, ◌∙◌, FitsSigned, w64}
use Rattle.std.proofs.lemmas.Int.{to_z-of_z}
use Rattle.tt_time.proofs.Moments.{one_moment, moment_fits}
use Rattle.tt_time.proofs.timestamps.whole_timestamp.Goals as goal

pub returns-in-Some-clause-only : goal.returns-in-Some-clause-only
returns-in-Some-clause-only c = λ t is e.
    let h = c.in-Some.ensures.found in
    let fits : FitsSigned w64 c.in-Some.moment = subst (FitsSigned w64) (sym h.3) (moment_fits h.0 h.1) in
    let same = h.3 ∙ one_moment h.0 t h.1 is (sym h.2 ∙ c.as_bytes.ensures.value ∙ e) in
    rw (to_z-of_z w64 c.in-Some.moment fits) (ap (λ (z : ℤ). Ok z) same)
