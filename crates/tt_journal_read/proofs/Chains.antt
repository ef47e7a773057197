-- Chains of steps and tests, forwards and backwards.
use Rattle.std.specs.Option.{option_or}
use Rattle.std.specs.Prelude.{Bool, None, Option, Some, false, if◌then◌else◌, refl, true, ◌≡◌}
use Rattle.std.proofs.Common.{ap, ◌∙◌}
use Rattle.tt_plain.specs.Answers.{◌>>=◌}

-- a step that is known, and what comes of it
pub then_is : {A B : Type 0} (o : Option A) (f : A → Option B) (x : A) (y : Option B) → o ≡ Some x → f x ≡ y → (o >>= f) ≡ y
then_is o f x y here later = ap (λ p. p >>= f) here ∙ later

-- a step that leads nowhere
pub leads_nowhere : {A B : Type 0} (o : Option A) (f : A → Option B) → ((x : A) → f x ≡ None) → (o >>= f) ≡ None
leads_nowhere None f none = refl
leads_nowhere (Some x) f none = none x

-- a choice that gave something: the test held and the first gave it, or it did not and the second did
pub chosen : {A : Type 0} (P : Type 0) (test : Bool) (a b : Option A) (x : A) → (test ≡ true → a ≡ Some x → P) → (test ≡ false → b ≡ Some x → P) → (if test then a else b) ≡ Some x → P
chosen P true a b x first second e = first refl e
chosen P false a b x first second e = second refl e

pub either_gave : {A : Type 0} (P : Type 0) (a b : Option A) (x : A) → (a ≡ Some x → P) → (a ≡ None → b ≡ Some x → P) → option_or a b ≡ Some x → P
either_gave P None b x first second e = second refl e
either_gave P (Some y) b x first second e = first e
