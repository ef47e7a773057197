-- What tests say that hold.
use Rattle.std.proofs.Common.{◌≡◌, ℕ, true, Option, Some, None, refl, arith}
use Rattle.std.specs.Prelude.{is_none, ◌==◌}
use Rattle.std.proofs.lemmas.Bool.{false≢true}
use Rattle.std.proofs.lemmas.Bool.Decides.{nat_tests}

pub none_is : {A : Type 0} (o : Option A) → is_none o ≡ true → o ≡ None
none_is None e = refl
none_is (Some x) e = absurd (false≢true e)

pub same_number : (m n : ℕ) → (m == n) ≡ true → m ≡ n
same_number m n e = grind (arith, nat_tests)

pub same_test : (n : ℕ) → (n == n) ≡ true
same_test n = grind (arith, nat_tests)
