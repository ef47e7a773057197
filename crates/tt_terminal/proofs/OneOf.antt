-- Words of which one has to stand there.
use Rattle.std.proofs.Common.{◌≡◌, ℕ, Bool, true, false, ◌||◌, ◌==◌, Option, Some, None, MatchOption, refl, eq-eqb}
use Rattle.tt_sql.specs.grammar.Grammar.{is_of}
use Rattle.tt_terminal.specs.declared.rest.Rest.{Rest}
use Rattle.tt_terminal.specs.Optional.{IsEither, IsAny}
use Rattle.tt_terminal.specs.Reading.{IsWord, first_kind}
use Rattle.tt_terminal.proofs.Steps.{passes_one, word_kind_is}

-- ---- one of two

pub either_first : {a : ℕ} (b : ℕ) {r s : Rest} → IsWord a r s → IsEither a b r s
either_first {a = a} b {r = r} {s = s} w = (rw (eq-eqb (first_kind r) a (word_kind_is w)) refl, passes_one w.takes (rw (eq-eqb _ a w.kind) refl))

or_true : (b : Bool) → (b || true) ≡ true
or_true true = refl
or_true false = refl

either_second : (a : ℕ) {b : ℕ} {r s : Rest} → IsWord b r s → IsEither a b r s
either_second a {b = b} {r = r} {s = s} w = (rw (eq-eqb (first_kind r) b (word_kind_is w)) (or_true (first_kind r == a)), passes_one w.takes (rw (eq-eqb _ b w.kind) (or_true _)))

pub either_last : (a b : ℕ) (r : Rest) (o : Option Rest) → (first_kind r == a) ≡ false → MatchOption o ((first_kind r == b) ≡ false) (λ s. IsWord b r s) → MatchOption o (is_of a (λ k. k == b) (first_kind r) ≡ false) (λ s. IsEither a b r s)
either_last a b r (Some s) e w = either_second a w
either_last a b r None e f = rw (e, f) refl

-- ---- one of three

pub any_first : {a : ℕ} (b d : ℕ) {r s : Rest} → IsWord a r s → IsAny a b d r s
any_first {a = a} b d {r = r} {s = s} w = (rw (eq-eqb (first_kind r) a (word_kind_is w)) refl, passes_one w.takes (rw (eq-eqb _ a w.kind) refl))

pub any_second : (a : ℕ) {b : ℕ} (d : ℕ) {r s : Rest} → IsWord b r s → IsAny a b d r s
any_second a {b = b} d {r = r} {s = s} w = (rw (eq-eqb (first_kind r) b (word_kind_is w)) (or_true (first_kind r == a)), passes_one w.takes (rw (eq-eqb _ b w.kind) (or_true _)))

or_last : (x y : Bool) → (x || (y || true)) ≡ true
or_last true y = refl
or_last false true = refl
or_last false false = refl

any_third : (a b : ℕ) {d : ℕ} {r s : Rest} → IsWord d r s → IsAny a b d r s
any_third a b {d = d} {r = r} {s = s} w = (rw (eq-eqb (first_kind r) d (word_kind_is w)) (or_last (first_kind r == a) (first_kind r == b)), passes_one w.takes (rw (eq-eqb _ d w.kind) (or_last _ _)))

pub any_last : (a b d : ℕ) (r : Rest) (o : Option Rest) → (first_kind r == a) ≡ false → (first_kind r == b) ≡ false → MatchOption o ((first_kind r == d) ≡ false) (λ s. IsWord d r s) → MatchOption o (is_of a (λ k. k == b || k == d) (first_kind r) ≡ false) (λ s. IsAny a b d r s)
any_last a b d r (Some s) e f w = any_third a b w
any_last a b d r None e f g = rw (e, f, g) refl
