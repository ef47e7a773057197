-- What an outcome keeps of a store, and of the bytes that a sink has.
use Rattle.std.proofs.Common.{◌≡◌, ℕ, zero, suc, List, [], ◌++◌, Option, Some, None, take, nat_lt, IfSome, IfNone, ap, subst, sym, ◌∙◌, arith}
use Rattle.std.proofs.lemmas.Bool.{lt-ltb}
use Rattle.std.proofs.lemmas.List.{append-nil}
use Rattle.std.specs.Bool.{then_some}
use Rattle.std.specs.Io.KnownBytes.{Appends, Keeps}

-- a store that is kept has what was known of it
pub held : {A : Type 0} (o : Option A) (x : A) (P : A → Type 0) → P x → IfSome o (λ y. y ≡ x) → IfSome o P
held None x P known is = tt
held (Some y) x P known is = subst P (sym is) known

none_more : (old new : Option (List ℕ)) → Appends old new [] → Keeps old new
none_more None new grows = tt
none_more (Some xs) None grows = absurd grows
none_more (Some xs) (Some ys) grows = grows ∙ append-nil xs

-- where no byte was written there is no store, and the bytes stay
pub untouched : {A : Type 0} (written : ℕ) (x : A) (o : Option A) (old new : Option (List ℕ)) (bytes : List ℕ) → o ≡ then_some (nat_lt 0 written) x → Appends old new (take written bytes) → IfNone o (Keeps old new)
untouched zero x o old new bytes is grows = subst (λ r. IfNone r (Keeps old new)) (sym is) (none_more old new grows)
untouched (suc n) x o old new bytes is grows = subst (λ r. IfNone r (Keeps old new)) (sym (is ∙ ap (λ b. then_some b x) (lt-ltb 0 (suc n) (omega arith)))) tt
