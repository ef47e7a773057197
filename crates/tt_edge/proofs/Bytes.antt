-- Lemmas on the front of a list of bytes: what a read gives from it, and what several reads or writes make together.
use Rattle.std.proofs.Common.{◌≡◌, ℕ, ◌+◌, ◌-◌, List, ◌++◌, length, length-append, take, drop, Option, Some, None, sym, ap, ◌∙◌, subst, arith, take-append-drop}
use Rattle.std.proofs.Math.Seq.{take-add, take-append_seam, drop-append_seam}
use Rattle.std.proofs.lemmas.List.{drop-drop, take_rest}
use Rattle.std.specs.Io.KnownBytes.{Consumes, Appends}
use Rattle.std.proofs.KnownBytes.{Consumes-trans, Appends-trans}
use Rattle.tt_edge.specs.Outside.{LosesFront}

-- bytes that are gone from the front were lost there
pub LosesFront-from_Consumes : (before now : Option (List ℕ)) (bs : List ℕ) (n : ℕ) → Consumes before now bs → length bs ≡ n → LosesFront before now n
LosesFront-from_Consumes None now bs n gone counted = tt
LosesFront-from_Consumes (Some xs) None bs n gone counted = absurd gone
LosesFront-from_Consumes (Some xs) (Some ys) bs n gone counted =
    let long : length xs ≡ length bs + length ys = ap length gone ∙ length-append bs ys in
    let cut : drop n xs ≡ ys = ap (λ k. drop k xs) (sym counted) ∙ ap (drop (length bs)) gone ∙ drop-append_seam bs ys in
    (omega arith, sym cut)

-- the front of what was left, copied to the front of a piece, and what is left after it
pub front_given : (bytes copied rest : List ℕ) (given count : ℕ) → copied ≡ take count (drop given bytes) → length copied ≡ count
    → drop given bytes ≡ take count (copied ++ rest) ++ drop (given + count) bytes
front_given bytes copied rest given count copy counted =
    let front : take count (copied ++ rest) ≡ take count (drop given bytes) =
    ap (λ k. take k (copied ++ rest)) (sym counted) ∙ take-append_seam copied rest ∙ copy in
    sym (ap (λ l. l ++ drop (given + count) bytes) front ∙ ap (λ l. take count (drop given bytes) ++ l) (sym (drop-drop count given bytes)) ∙ take-append-drop count (drop given bytes))

-- one read more
pub Consumes_more : (a b c : Option (List ℕ)) (old new : List ℕ) (n count : ℕ) → take n new ≡ take n old → Consumes a b (take n old)
    → Consumes b c (take count (drop n new)) → Consumes a c (take (n + count) new)
Consumes_more a b c old new n count same first second =
    subst (Consumes a c) (sym (take-add n count new)) (Consumes-trans a b c _ _ (subst (Consumes a b) (sym same) first) second)

-- one write more
pub Appends_more : (a b c : Option (List ℕ)) (bytes : List ℕ) (n count : ℕ) → Appends a b (take n bytes)
    → Appends b c (take count (take (length bytes - n) (drop n bytes))) → Appends a c (take (n + count) bytes)
Appends_more a b c bytes n count first second =
    subst (Appends a c) (sym (take-add n count bytes)) (Appends-trans a b c _ _ first (subst (λ l. Appends b c (take count l)) (take_rest bytes n) second))
