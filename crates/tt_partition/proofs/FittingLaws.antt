-- Whether values are of the kinds of columns, place by place.
use Rattle.std.proofs.Common.{◌≡◌, ℕ, zero, suc, ◌+◌, ◌<◌, List, [], ◌∷◌, length, take, get_or, refl, sym, ap, subst, ◌∙◌, arith}
use Rattle.std.proofs.lemmas.List.{length-map}
use Rattle.std.specs.List.{AllByRecursion}
use Rattle.tt_value.specs.declared.value.Kind.{Kind}
use Rattle.tt_value.specs.declared.value.Value.{Value}
use Rattle.tt_value.specs.declared.value.Column.{Column}
use Rattle.tt_partition.specs.Cuts.{column_kinds}
use Rattle.tt_partition.specs.Fits.{FitsKind, FitKinds}

kinds_length : (ks : List Kind) (vs : List Value) → FitKinds ks vs → length ks ≡ length vs
kinds_length [] [] all = refl
kinds_length (k ∷ ks) (v ∷ vs) all = ap suc (kinds_length ks vs all.1)
kinds_length [] (v ∷ vs) all = absurd all
kinds_length (k ∷ ks) [] all = absurd all

-- as many columns as values
pub fit_length : (columns : List Column) (vs : List Value) → FitKinds (column_kinds columns) vs → length columns ≡ length vs
fit_length columns vs all = sym (length-map columns (λ (column : Column). column.kind)) ∙ kinds_length (column_kinds columns) vs all

pub fit_at : (columns : List Column) (vs : List Value) (i : ℕ) (d : Column) (e : Value) → i < length vs → FitKinds (column_kinds columns) vs → FitsKind (get_or columns i d).kind (get_or vs i e)
fit_at columns [] i d e lt all = absurd (omega (arith, lt))
fit_at [] (v ∷ vs) i d e lt all = absurd all
fit_at (c ∷ cs) (v ∷ vs) zero d e lt all = all.0
fit_at (c ∷ cs) (v ∷ vs) (suc i) d e lt all = fit_at cs vs i d e (omega (arith, lt)) all.1

fit_next : (columns : List Column) (vs : List Value) (i : ℕ) (d : Column) (e : Value) → i < length vs → length columns ≡ length vs → FitKinds (take i (column_kinds columns)) (take i vs) → FitsKind (get_or columns i d).kind (get_or vs i e) → FitKinds (take (suc i) (column_kinds columns)) (take (suc i) vs)
fit_next columns [] i d e lt len all more = absurd (omega (arith, lt))
fit_next [] (v ∷ vs) i d e lt len all more = absurd (omega (arith, len))
fit_next (c ∷ cs) (v ∷ vs) zero d e lt len all more = (more, tt)
fit_next (c ∷ cs) (v ∷ vs) (suc i) d e lt len all more = (all.0, fit_next cs vs i d e (omega (arith, lt)) (omega (arith, len)) all.1 more)

pub fit_more : (columns : List Column) (vs : List Value) (i : ℕ) (d : Column) (e : Value) → i < length vs → length columns ≡ length vs → FitKinds (take i (column_kinds columns)) (take i vs) → FitsKind (get_or columns i d).kind (get_or vs i e) → FitKinds (take (i + 1) (column_kinds columns)) (take (i + 1) vs)
fit_more columns vs i d e lt len all more = let next : suc i ≡ i + 1 = omega arith in subst (λ n. FitKinds (take n (column_kinds columns)) (take n vs)) next (fit_next columns vs i d e lt len all more)

-- what holds of all holds of each
pub all_at : {X : Type 0} (P : X → Type 0) (xs : List X) (i : ℕ) (x : X) → i < length xs → x ≡ get_or xs i x → AllByRecursion P xs → P x
all_at P [] i x lt e all = absurd (omega (arith, lt))
all_at P (y ∷ xs) zero x lt e all = subst P (sym e) all.0
all_at P (y ∷ xs) (suc i) x lt e all = all_at P xs i x (omega (arith, lt)) e all.1
