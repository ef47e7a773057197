-- What is read of a text is what the functions on texts give.
use Rattle.std.proofs.Common.{◌≡◌, ℕ, List, Option, Some, None, Result, Ok, Err, refl, sym, ap, ◌∙◌, ℤ, ◌↔◌}
use Rattle.std.specs.Prelude.{IfOk}
use Rattle.std.specs.Result.{result_ok}
use Rattle.tt_value.specs.calendar.Calendar.{IsDay, day_text, Timestamp, IsTimestamp, timestamp_text, moment_of}
use Rattle.tt_value.specs.calendar.Reading.{day_of, timestamp_of}
use Rattle.tt_value.proofs.calendar.Dates.{day_of-written, day_of-read}
use Rattle.tt_value.proofs.calendar.Timestamps.{timestamp_of-written, timestamp_of-read}

pub day_law : (text : List ℕ) (day : ℤ) → (day_of text ≡ Some day) ↔ (IsDay day × (text ≡ day_text day))
day_law text day = (day_of-read text day, λ h. ap day_of h.1 ∙ day_of-written day h.0)

abbrev IsMoment : List ℕ → ℤ → Type 0
IsMoment text m = (t : Timestamp) × IsTimestamp t × (text ≡ timestamp_text t) × (m ≡ moment_of t)

moment_from : (text : List ℕ) (m : ℤ) → timestamp_of text ≡ Some m → IsMoment text m
moment_from text m e = let r = timestamp_of-read text m e in (r.timestamp, r.right, r.text_is, r.moment_is)

moment_to : (text : List ℕ) (m : ℤ) → IsMoment text m → timestamp_of text ≡ Some m
moment_to text m h = ap timestamp_of h.2 ∙ timestamp_of-written h.0 h.1 ∙ ap (λ (z : ℤ). Some z) (sym h.3)

pub moment_law : (text : List ℕ) (m : ℤ) → (timestamp_of text ≡ Some m) ↔ IsMoment text m
moment_law text m = (moment_from text m, moment_to text m)

abbrev failed : {E : Type 0} → E → Result ℤ E
failed e = Err e

no_day : {E : Type 0} (text : List ℕ) (e : E) (o : Option ℤ) → day_of text ≡ o → ((day : ℤ) → IsDay day → text ≡ day_text day → failed e ≡ Ok day) → None ≡ o
no_day text e None is only = refl
no_day text e (Some day) is only =
    let found = day_of-read text day is in
    let never : failed e ≡ Ok day = only day found.0 found.1 in
    absurd cc

pub day_value : {E : Type 0} (text : List ℕ) (result : Result ℤ E) → IfOk result (λ day. IsDay day × (text ≡ day_text day)) → ((day : ℤ) → IsDay day → text ≡ day_text day → result ≡ Ok day) → result_ok result ≡ day_of text
day_value text (Ok day) found only = sym ((day_law text day).1 found)
day_value text (Err e) found only = no_day text e (day_of text) refl only

no_moment : {E : Type 0} (text : List ℕ) (e : E) (o : Option ℤ) → timestamp_of text ≡ o → ((t : Timestamp) → IsTimestamp t → text ≡ timestamp_text t → failed e ≡ Ok (moment_of t)) → None ≡ o
no_moment text e None is only = refl
no_moment text e (Some m) is only =
    let found = timestamp_of-read text m is in
    let never : failed e ≡ Ok (moment_of found.timestamp) = only found.timestamp found.right found.text_is in
    absurd cc

pub moment_value : {E : Type 0} (text : List ℕ) (result : Result ℤ E) → IfOk result (λ m. (t : Timestamp) × IsTimestamp t × (text ≡ timestamp_text t) × (m ≡ moment_of t)) → ((t : Timestamp) → IsTimestamp t → text ≡ timestamp_text t → result ≡ Ok (moment_of t)) → result_ok result ≡ timestamp_of text
moment_value text (Ok m) found only = sym ((moment_law text m).1 found)
moment_value text (Err e) found only = no_moment text e (timestamp_of text) refl only
