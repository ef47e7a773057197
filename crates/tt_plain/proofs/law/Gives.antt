-- What holds of that which a chain of steps gives, where it gives anything.
use Rattle.std.specs.Option.{option_or}
use Rattle.std.specs.Prelude.{Bool, None, Option, Some, false, if◌then◌else◌, option_map, refl, true, ⊤, ◌≡◌}
use Rattle.std.proofs.Common.{subst}
use Rattle.tt_script.specs.Lines.{only_if}
use Rattle.tt_plain.specs.Answers.{◌>>=◌}

abbrev pub Gives : {A : Type 0} → (A → Type 0) → Option A → Type 0
Gives P None = ⊤
Gives P (Some x) = P x

pub gives_bind : {A B : Type 0} (P : B → Type 0) (first : Option A) (later : A → Option B) → ((x : A) → first ≡ Some x → Gives P (later x)) → Gives P (first >>= later)
gives_bind P None later gives = tt
gives_bind P (Some x) later gives = gives x refl

pub gives_map : {A B : Type 0} (P : B → Type 0) (f : A → B) (first : Option A) → ((x : A) → first ≡ Some x → P (f x)) → Gives P (option_map f first)
gives_map P f None gives = tt
gives_map P f (Some x) gives = gives x refl

pub gives_if : {A : Type 0} (P : A → Type 0) (test : Bool) (there : Option A) → (test ≡ true → Gives P there) → Gives P (if test then there else None)
gives_if P true there gives = gives refl
gives_if P false there gives = tt

pub gives_when : {A : Type 0} (P : A → Type 0) (test : Bool) (x : A) → (test ≡ true → P x) → Gives P (only_if test x)
gives_when P true x gives = gives refl
gives_when P false x gives = tt

-- a chain behind a test
pub gives_tested : {A B : Type 0} (P : B → Type 0) (test : Bool) (x : A) (later : A → Option B) → (test ≡ true → Gives P (later x)) → Gives P (only_if test x >>= later)
gives_tested P true x later gives = gives refl
gives_tested P false x later gives = tt

pub gives_or : {A : Type 0} (P : A → Type 0) (first second : Option A) → Gives P first → Gives P second → Gives P (option_or first second)
gives_or P None second here there = there
gives_or P (Some x) second here there = here

pub gives_at : {A : Type 0} (P : A → Type 0) (there : Option A) (x : A) → Gives P there → there ≡ Some x → P x
gives_at P there x gives e = subst (Gives P) e gives

pub gives_later : {A B : Type 0} (P : B → Type 0) (first : Option A) (later : A → Option B) → Gives (λ x. Gives P (later x)) first → Gives P (first >>= later)
gives_later P None later gives = tt
gives_later P (Some x) later gives = gives

pub gives_on : {A : Type 0} (P Q : A → Type 0) (there : Option A) → ((x : A) → P x → Q x) → Gives P there → Gives Q there
gives_on P Q None on gives = tt
gives_on P Q (Some x) on gives = on x gives
