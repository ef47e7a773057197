use Rattle.std.proofs.Common.{◌≡◌, ℕ, ◌<◌, List, map, length, get_or, Contains, refl, sym, ap, subst, ◌∙◌, arith}
use Rattle.std.proofs.lemmas.List.{get_or-map, length-map}
use Rattle.tt_tests_metadata.proofs.names.undrop.Goals as goal

at_place : (all drops : List (ℕ × ℕ)) (i : ℕ) (d : ℕ × ℕ) → drops ≡ all → i < length drops
    → Contains (map (λ (drop : ℕ × ℕ). drop.0) all) (get_or drops i d).0
at_place all drops i d e h =
    let table : ℕ × ℕ → ℕ = λ drop. drop.0 in
    subst (λ l. Contains (map table l) (table (get_or drops i d))) e
    (i, subst (λ n. i < n) (sym (length-map drops table)) h, get_or-map table drops i d (table (get_or drops i d)) h)

pub undrop-requires-clause-dropped : goal.undrop-requires-clause-dropped
undrop-requires-clause-dropped c =
    let within : c.args.place < length c.dropped-drops.result.now = omega arith in
    at_place _ c.dropped-drops.result.now c.args.place (0, 0) c.dropped-drops.ensures within
