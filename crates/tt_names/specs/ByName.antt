-- Finite maps from names, a name being the bytes of its text.
use Rattle.std.specs.Prelude.{ℕ, List, [], ◌∷◌, map, not, ◌==◌, filter, unwrap_or, String}
use Rattle.std.specs.Ordering.{nat_cmp}
use Rattle.std.specs.Cmp.Lexicographic.{slice_cmp}
use Rattle.std.specs.Coded.{Coded, coded_ℕ, coded_list}
use Rattle.std.specs.FinMap as finite
use Rattle.std.specs.String.{string_bytes}
use Rattle.std.specs.declared.alloc.Global.{Global}

abbrev pub ByName : Type 0 → Type 0
ByName X = finite.FinMap (slice_cmp nat_cmp) X

abbrev pub by_name_code : {X : Type 0} → Coded X → Coded (ByName X)
by_name_code x = finite.code (coded_list coded_ℕ) x

-- the map of the entries of a table, with f of what each holds
abbrev pub seen : {V X : Type 0} → (V → X) → List (String Global × V) → ByName X
seen f entries = finite.from_entries (map (λ e. (string_bytes e.0, f e.1)) entries)

-- the numbers of tables and the moments at which they were dropped, the last drop first
abbrev pub Drops : Type 0
Drops = List (ℕ × ℕ)

-- the drops under a name
abbrev pub drops_of : List ℕ → ByName Drops → Drops
drops_of name all = unwrap_or (finite.get all name) []

-- with these drops under a name; a name without drops is not kept
abbrev pub put_drops : List ℕ → Drops → ByName Drops → ByName Drops
put_drops name [] all = finite.remove all name
put_drops name (drop ∷ drops) all = finite.insert all name (drop ∷ drops)

abbrev pub without_table : ℕ → Drops → Drops
without_table table drops = filter (λ drop. not (drop.0 == table)) drops
