-- What becomes of lists of bits.
use Rattle.std.specs.Prelude.{Bool, ◌&&◌, ◌||◌, List, map}
use Rattle.std.specs.List.{zip}

-- set where both are
abbrev pub both : List Bool → List Bool → List Bool
both xs ys = map (λ p. p.0 && p.1) (zip xs ys)

-- set where one or the other is
abbrev pub either : List Bool → List Bool → List Bool
either xs ys = map (λ p. p.0 || p.1) (zip xs ys)
