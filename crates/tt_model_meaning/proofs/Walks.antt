-- Folds over what is left of a list.
use Rattle.std.proofs.Common.{◌≡◌, ℕ, ◌+◌, ◌<◌, List, length, drop, get_or, ap, sym, ◌∙◌}
use Rattle.std.specs.Prelude.{fold}
use Rattle.tt_typer.proofs.Leftmost.{from_item}

-- one more item is folded in
pub fold_next : {A R : Type 0} (step : R → A → R) (so_far next total : R) (xs : List A) (i : ℕ) (x : A) → i < length xs → x ≡ get_or xs i x → next ≡ step so_far x
    → fold step so_far (drop i xs) ≡ total → fold step next (drop (i + 1) xs) ≡ total
fold_next step so_far next total xs i x below is made is_so =
    ap (λ r. fold step r (drop (i + 1) xs)) made ∙ ap (fold step so_far) (sym (from_item xs i x below is)) ∙ is_so
