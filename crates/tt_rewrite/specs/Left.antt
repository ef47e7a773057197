-- What a change that takes rows leaves of the parts of its table.
use Rattle.std.specs.Prelude.{◌≡◌, ℕ, ◌+◌, Bool, true, false, List, [], ◌∷◌, ◌++◌, map, if◌then◌else◌, Option, Some, None}
use Rattle.std.specs.List.{AllByRecursion, count_by, filter, flat_map, list_any}
use Rattle.tt_value.specs.declared.value.Row.{Row}
use Rattle.tt_value.specs.declared.value.Schema.{Schema}
use Rattle.tt_partition.specs.Cuts.{kinds_of}
use Rattle.tt_partition.specs.Table.{Table}
use Rattle.tt_rewrite.specs.declared.leaving.Left.{Left}

-- ---- parts by their numbers

abbrev pub numbers_of : List (ℕ × Table) → List ℕ
numbers_of parts = map (λ (part : ℕ × Table). part.0) parts

abbrev pub rows_of : List (ℕ × Table) → List Row
rows_of parts = flat_map (λ (part : ℕ × Table). part.1.rows) parts

-- each part is of the columns of the table
abbrev pub AreOfSchema : Schema → List (ℕ × Table) → Type 0
AreOfSchema schema parts = AllByRecursion (λ (part : ℕ × Table). part.1.kinds ≡ kinds_of schema) parts

-- the parts that hold a row which is taken
abbrev pub touched : (Row → Bool) → List (ℕ × Table) → List (ℕ × Table)
touched taken parts = filter (λ (part : ℕ × Table). list_any taken part.1.rows) parts

-- ---- what is left of them

-- a row stays unless it is taken
abbrev pub unless_taken : (Row → Bool) → Row → List Row
unless_taken taken row = if taken row then [] else row ∷ []

-- what becomes of the rows of these parts, row by row
abbrev pub rows_left : (Row → List Row) → List (ℕ × Table) → List Row
rows_left stays parts = flat_map stays (rows_of parts)

-- Of some parts those that are touched go. Their rows come again as what becomes of each.
pub record AreLeft (taken : Row → Bool) (stays : Row → List Row) (parts : List (ℕ × Table)) (left : Left) : Type 0 where
  pub gone : left.gone ≡ numbers_of (touched taken parts)
  pub rows : left.rows ≡ rows_left stays (touched taken parts)
  pub count : left.count ≡ count_by taken (rows_of parts)

-- and of one part more
pub record AddsPart (taken : Row → Bool) (stays : Row → List Row) (part : ℕ × Table) (old new : Left) : Type 0 where
  pub gone : new.gone ≡ old.gone ++ numbers_of (touched taken (part ∷ []))
  pub rows : new.rows ≡ old.rows ++ rows_left stays (touched taken (part ∷ []))
  pub count : new.count ≡ old.count + count_by taken part.1.rows

-- without the rows that are taken
abbrev pub AreOthers : (Row → Bool) → List (ℕ × Table) → Left → Type 0
AreOthers taken parts left = AreLeft taken (unless_taken taken) parts left

abbrev pub AddsOthers : (Row → Bool) → ℕ × Table → Left → Left → Type 0
AddsOthers taken part old new = AddsPart taken (unless_taken taken) part old new

-- ---- rows by bits

-- the row, unless its bit is there and set
abbrev pub unless_set : Option Bool → Row → List Row
unless_set None row = row ∷ []
unless_set (Some false) row = row ∷ []
unless_set (Some true) row = []

-- the rows whose bits are not set
abbrev pub unset : List Bool → List Row → List Row
unset [] rows = rows
unset (bit ∷ bits) [] = []
unset (true ∷ bits) (row ∷ rows) = unset bits rows
unset (false ∷ bits) (row ∷ rows) = row ∷ unset bits rows

-- how many bits are set
abbrev pub count_set : List Bool → ℕ
count_set bits = count_by (λ (bit : Bool). bit) bits
