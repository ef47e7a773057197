-- What stands behind references.
use Rattle.std.specs.Prelude.{List, map}
use Rattle.std.specs.Borrow.{Bor}

abbrev pub lent : {A : Type 0} → List (Bor A) → List A
lent xs = map (λ x. x.now) xs
