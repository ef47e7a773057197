-- Lists of part numbers, which ascend.
use Rattle.std.specs.Prelude.{ℕ, ◌+◌, ◌≤◌, Bool, not, ◌==◌, nat_lt, if◌then◌else◌, List, [], ◌∷◌, filter, IsTrue, ⊤}
use Rattle.std.specs.List.{list_any, list_all}

-- each number is below the next, and none is below the first bound
abbrev pub AscendsFrom : ℕ → List ℕ → Type 0
AscendsFrom least [] = ⊤
AscendsFrom least (n ∷ ns) = (least ≤ n) × AscendsFrom (n + 1) ns

abbrev pub IsAscending : List ℕ → Type 0
IsAscending ns = AscendsFrom 0 ns

-- whether a number is in a list
abbrev pub has : List ℕ → ℕ → Bool
has ns n = list_any (λ m. m == n) ns

-- whether a list has every number of another, and whether it has none of them
abbrev pub HasAll : List ℕ → List ℕ → Type 0
HasAll ns wanted = IsTrue (list_all (λ n. has ns n) wanted)

abbrev pub HasNone : List ℕ → List ℕ → Type 0
HasNone ns others = IsTrue (list_all (λ n. not (has ns n)) others)

-- a list without the numbers of another
abbrev pub without : List ℕ → List ℕ → List ℕ
without gone ns = filter (λ n. not (has gone n)) ns

-- an ascending list with a number in its place
abbrev pub with_number : ℕ → List ℕ → List ℕ
with_number n [] = n ∷ []
with_number n (m ∷ ms) =
    if nat_lt m n then m ∷ with_number n ms else if m == n then m ∷ ms else n ∷ m ∷ ms

-- the numbers of both lists, ascending
abbrev pub joined : List ℕ → List ℕ → List ℕ
joined ns [] = ns
joined ns (m ∷ ms) = joined (with_number m ns) ms

-- a layout without what is gone and with what was added
abbrev pub changed : List ℕ → List ℕ → List ℕ → List ℕ
changed ns gone added = joined (without gone ns) added
