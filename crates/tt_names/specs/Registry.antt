-- Which tables have which names, and which were dropped under them.
use Rattle.std.specs.Prelude.{◌≡◌, ℕ, List, Option, None, IsSome, map, Contains}
use Rattle.std.specs.FinMap as finite
use Rattle.tt_names.specs.ByName.{ByName, Drops, drops_of}

-- the live table of each name that has one, and the drops under each name that has some
pub record Registry : Type 0 where
  pub live : ByName ℕ
  pub drops : ByName Drops

-- the live table of a name
abbrev pub live_of : List ℕ → Registry → Option ℕ
live_of name names = finite.get names.live name

-- the tables that were dropped under a name and not brought back, the last one first
abbrev pub dropped_of : List ℕ → Registry → Drops
dropped_of name names = drops_of name names.drops

abbrev pub IsLive : List ℕ → Registry → Type 0
IsLive name names = IsSome (live_of name names)

abbrev pub IsFree : List ℕ → Registry → Type 0
IsFree name names = live_of name names ≡ None

-- the table was dropped under the name and not brought back
abbrev pub IsDropped : List ℕ → ℕ → Registry → Type 0
IsDropped name table names = Contains (map (λ drop. drop.0) (dropped_of name names)) table
