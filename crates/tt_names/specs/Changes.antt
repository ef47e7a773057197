-- What the calls do to the names.
use Rattle.std.specs.Prelude.{ℕ, List, ◌∷◌, Option, None, Some, unwrap_or}
use Rattle.std.specs.FinMap as finite
use Rattle.tt_names.specs.ByName.{put_drops, without_table}
use Rattle.tt_names.specs.Registry.{Registry, live_of, dropped_of}

-- the live table of a name that has one
abbrev pub table_of : List ℕ → Registry → ℕ
table_of name names = unwrap_or (live_of name names) 0

-- the name has this live table
abbrev pub bound : List ℕ → ℕ → Registry → Registry
bound name table names = record names { live = finite.insert names.live name table }

-- the name has no live table
abbrev pub freed : List ℕ → Registry → Registry
freed name names = record names { live = finite.remove names.live name }

-- one more table was dropped under the name, as the last
abbrev pub with_drop : List ℕ → ℕ → ℕ → Registry → Registry
with_drop name table moment names =
    record names { drops = put_drops name ((table, moment) ∷ dropped_of name names) names.drops }

-- the table is no longer among those dropped under the name
abbrev pub without_drop : List ℕ → ℕ → Registry → Registry
without_drop name table names =
    let drops = without_table table (dropped_of name names) in
    record names { drops = put_drops name drops names.drops }

-- the live table of the name, where there is one, is dropped at the moment
abbrev pub unbound : List ℕ → ℕ → Registry → Registry
unbound name moment names = drop_live (live_of name names) where
  drop_live : Option ℕ → Registry
  drop_live None = names
  drop_live (Some table) = freed name (with_drop name table moment names)

-- the live table of one name has another instead, and nothing is dropped
abbrev pub renamed : List ℕ → List ℕ → Registry → Registry
renamed old new names = freed old (bound new (table_of old names) names)

-- the live table of the name is dropped at the moment, and the name goes to another
abbrev pub replaced : List ℕ → ℕ → ℕ → Registry → Registry
replaced name table moment names =
    bound name table (with_drop name (table_of name names) moment names)

-- two names have exchanged their live tables
abbrev pub swapped : List ℕ → List ℕ → Registry → Registry
swapped a b names = bound b (table_of a names) (bound a (table_of b names) names)

-- a table that was dropped under the name is its live one again
abbrev pub undropped : List ℕ → ℕ → Registry → Registry
undropped name table names = bound name table (without_drop name table names)
