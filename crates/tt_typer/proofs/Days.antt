-- A text is a day or it is none.
use Rattle.std.proofs.Common.{◌≡◌, ℕ, List, true, false, is_some, Option, Some, None, Ok, Err, refl, ap, sym, ◌∙◌, subst, ℤ}
use Rattle.std.specs.Prelude.{Result, MatchResult}
use Rattle.tt_value.specs.calendar.Calendar.{IsDay, day_text}
use Rattle.tt_value.specs.calendar.Reading.{day_of}
use Rattle.tt_value.proofs.calendar.Dates.{day_of-written, day_of-read}

pub is_day : (text : List ℕ) (day : ℤ) → IsDay day → text ≡ day_text day → true ≡ is_some (day_of text)
is_day text day within is = sym (ap (λ t. is_some (day_of t)) is ∙ ap is_some (day_of-written day within))

no_day_at : {E : Type 0} (text : List ℕ) (e : E) → ((day : ℤ) → IsDay day → text ≡ day_text day → Err e ≡ Ok day) → (read : Option ℤ) → day_of text ≡ read → false ≡ is_some read
no_day_at text e only None is = refl
no_day_at {E} text e only (Some day) is =
    let found = day_of-read text day is in
    absurd (subst (λ (r : Result ℤ E). MatchResult r (λ _. ⊥) (λ _. Unit {0})) (only day found.0 found.1) tt)

pub no_day : {E : Type 0} (text : List ℕ) (e : E) → ((day : ℤ) → IsDay day → text ≡ day_text day → Err e ≡ Ok day) → false ≡ is_some (day_of text)
no_day text e only = no_day_at text e only (day_of text) refl
