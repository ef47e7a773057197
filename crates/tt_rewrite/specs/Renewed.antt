-- What becomes of rows of which some are given new values.
use Rattle.std.specs.Prelude.{◌≡◌, ℕ, min, Bool, true, false, List, ◌++◌, length, map, if◌then◌else◌, Option, Some, None, [], ◌∷◌}
use Rattle.std.specs.List.{filter, flat_map}
use Rattle.std.specs.Option.{option_to_list}
use Rattle.tt_value.specs.declared.value.Row.{Row}
use Rattle.tt_value.specs.declared.value.Schema.{Schema}
use Rattle.tt_sql.specs.meaning.Changes.{first_missing}
use Rattle.tt_sql.specs.meaning.Queries.{all_some}
use Rattle.tt_partition.specs.Table.{Table}
use Rattle.tt_rewrite.specs.Left.{AddsPart, AreLeft, rows_of}
use Rattle.tt_rewrite.specs.declared.renewing.Renewed.{Renewed}

-- the lesser place, if there is one
abbrev pub earlier : Option ℕ → Option ℕ → Option ℕ
earlier None b = b
earlier (Some a) None = Some a
earlier (Some a) (Some b) = Some (min a b)

-- a value for each column
abbrev pub IsAsWide : Schema → Row → Type 0
IsAsWide schema row = length row.values ≡ length schema.columns

abbrev pub is_set : Option Bool → Bool
is_set None = false
is_set (Some bit) = bit

module _ (taken : Row → Bool) (becomes : Row → Option Row) where
  -- a row that is taken is replaced, and any other stays
  abbrev pub in_place : Row → List Row
  in_place row = if taken row then option_to_list (becomes row) else row ∷ []

  -- the new rows; none where a value is out of range
  abbrev pub new_rows : List Row → Option (List Row)
  new_rows rows = all_some (map becomes (filter taken rows))

  -- These rows are read: what becomes of each comes behind, and the first column with a NULL that may not be there is kept.
  pub record RenewsRows (schema : Schema) (read old new : List Row) (before after : Option ℕ) : Type 0 where
    pub given : List Row
    pub all : new_rows read ≡ Some given
    pub rows : new ≡ old ++ flat_map in_place read
    pub missing : after ≡ earlier before (first_missing schema given)

  -- or a value of theirs is out of range
  abbrev pub GoesOn : Schema → List Row → List Row → List Row → Option ℕ → Option ℕ → Bool → Type 0
  GoesOn schema read old new before after true = RenewsRows schema read old new before after
  GoesOn schema read old new before after false = new_rows read ≡ None

  -- the same of a part
  pub record RenewsPart (schema : Schema) (part : ℕ × Table) (old new : Renewed) : Type 0 where
    pub given : List Row
    pub all : new_rows part.1.rows ≡ Some given
    pub left : AddsPart taken in_place part old.left new.left
    pub missing : new.missing ≡ earlier old.missing (first_missing schema given)

  abbrev pub PartGoesOn : Schema → ℕ × Table → Renewed → Renewed → Bool → Type 0
  PartGoesOn schema part old new true = RenewsPart schema part old new
  PartGoesOn schema part old new false = new_rows part.1.rows ≡ None

  -- and of all parts
  pub record AreRenewed (schema : Schema) (parts : List (ℕ × Table)) (renewed : Renewed) : Type 0 where
    pub given : List Row
    pub all : new_rows (rows_of parts) ≡ Some given
    pub left : AreLeft taken in_place parts renewed.left
    pub missing : renewed.missing ≡ first_missing schema given

  abbrev pub AreRenewedIf : Schema → List (ℕ × Table) → Option Renewed → Type 0
  AreRenewedIf schema parts None = new_rows (rows_of parts) ≡ None
  AreRenewedIf schema parts (Some renewed) = AreRenewed schema parts renewed
