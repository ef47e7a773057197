-- Of what depends what an UPDATE and a DELETE do to the rows of their table.
use Rattle.std.specs.Prelude.{List, ◌≡◌}
use Rattle.tt_value.specs.declared.value.Row.{Row}
use Rattle.tt_value.specs.declared.value.Schema.{Schema}
use Rattle.tt_value.specs.values.Bags.{bag_of}
use Rattle.tt_sql.specs.declared.change.Delete.{Delete}
use Rattle.tt_sql.specs.declared.change.Update.{Update}
use Rattle.tt_sql.specs.meaning.Changes.{BadData, Changed, Changes, NullInRow, OutOfRange, delete_change, update_change}

-- Two changes are refused alike, or have one count.
abbrev pub AreAlike : Changed → Changed → Type 0
AreAlike (Changes removed added count) other = (gone : List Row) × (more : List Row) × (other ≡ Changes gone more count)
AreAlike (BadData number column) other = other ≡ BadData number column
AreAlike OutOfRange other = other ≡ OutOfRange
AreAlike (NullInRow column) other = other ≡ NullInRow column

abbrev pub UpdatesAreOfBags : Type 0
UpdatesAreOfBags = (schema : Schema) (rows others : List Row) (update : Update) → bag_of rows ≡ bag_of others →
    AreAlike (update_change schema rows update) (update_change schema others update)

abbrev pub DeletesAreOfBags : Type 0
DeletesAreOfBags = (schema : Schema) (rows others : List Row) (delete : Delete) → bag_of rows ≡ bag_of others →
    AreAlike (delete_change schema rows delete) (delete_change schema others delete)
