-- The metrics view: how many bytes each table owns, by class.
use Rattle.std.specs.List.{list_any}
use Rattle.std.specs.Prelude.{Bool, List, [], filter, map, sum_by, ℕ, ◌&&◌, ◌==◌, ◌||◌, ◌∷◌}
use Rattle.tt_value.specs.declared.value.Row.{Row}
use Rattle.tt_layout.specs.declared.facts.Facts.{Facts}
use Rattle.tt_layout.specs.declared.facts.PartFacts.{PartFacts}
use Rattle.tt_layout.specs.declared.facts.TableFacts.{TableFacts}
use Rattle.tt_layout.specs.declared.hold.Class.{Class}
use Rattle.tt_layout.specs.Holds.{stands}
use Rattle.tt_layout.specs.Owners.{class_of, owner_of}
use Rattle.tt_plain.specs.report.Values.{number_value, row_of}
use Rattle.tt_layout.specs.declared.hold.Class.TheVariants as class
use Rattle.tt_value.specs.declared.value.Value.TheVariants as value

abbrev pub class_number : Class → ℕ
class_number class.Active = 0
class_number class.TimeTravel = 1
class_number class.FailSafe = 2
class_number class.RetainedForClone = 3
class_number class.Pending = 4

abbrev pub is_owned_as : Facts → ℕ → Class → PartFacts → Bool
is_owned_as facts table class part = owner_of facts part == table && class_number (class_of facts part) == class_number class

-- the bytes of the parts that a table owns in a class
unfoldable pub bytes_owned : Facts → ℕ → Class → ℕ
bytes_owned facts table class = sum_by (λ (part : PartFacts). part.bytes) (filter (is_owned_as facts table class) facts.parts)

-- a table has a row where it stands, or owns a stored byte
abbrev pub is_measured : Facts → TableFacts → Bool
is_measured facts table = stands facts.at table || list_any (λ part. owner_of facts part == table.number) facts.parts

-- the classes in the order of the columns
abbrev pub all_classes : List Class
all_classes = class.Active ∷ class.TimeTravel ∷ class.FailSafe ∷ class.RetainedForClone ∷ class.Pending ∷ []

-- number, name, clone group, and the bytes in each class
abbrev pub metric_row : Facts → TableFacts → Row
metric_row facts table = row_of (
    number_value table.number ∷ value.Text table.name ∷ number_value table.group
    ∷ map (λ class. number_value (bytes_owned facts table.number class)) all_classes)

-- by number
unfoldable pub metric_rows : Facts → List Row
metric_rows facts = map (metric_row facts) (filter (is_measured facts) facts.tables)
