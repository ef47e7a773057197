-- Where the parts of a statement begin, and the leftmost of some places.
use Rattle.std.specs.Prelude.{ℕ, ◌+◌, min, List, [], ◌∷◌, ◌++◌, Option, Some, None}
use Rattle.tt_value.specs.declared.name.Name.{Name}
use Rattle.tt_value.specs.declared.name.ColumnName.{ColumnName}
use Rattle.tt_value.specs.declared.name.TableName.{TableName}

abbrev pub earlier : Option ℕ → Option ℕ → Option ℕ
earlier None b = b
earlier (Some a) None = Some a
earlier (Some a) (Some b) = Some (min a b)

-- none where there is no place
abbrev pub leftmost : List ℕ → Option ℕ
leftmost [] = None
leftmost (place ∷ places) = earlier (Some place) (leftmost places)

-- what each item of a list gives, together
abbrev pub each : {A : Type 0} → (A → List ℕ) → List A → List ℕ
each f [] = []
each f (item ∷ items) = f item ++ each f items

-- what each item of a list gives at its place in the list, counted from here
abbrev pub each_at : {A : Type 0} → (ℕ → A → List ℕ) → ℕ → List A → List ℕ
each_at f k [] = []
each_at f k (item ∷ items) = f k item ++ each_at f (k + 1) items

-- what is there, if anything is
abbrev pub if_there : {A : Type 0} → (A → List ℕ) → Option A → List ℕ
if_there f None = []
if_there f (Some x) = f x

-- the place where nothing is found
abbrev pub where_none : {A : Type 0} → ℕ → Option A → List ℕ
where_none place None = place ∷ []
where_none place (Some x) = []

-- a name with another in front begins where that begins
abbrev pub name_begin : Option Name → ℕ → ℕ
name_begin None place = place
name_begin (Some front) place = front.place

abbrev pub column_begin : ColumnName → ℕ
column_begin c = name_begin c.table c.name.place

abbrev pub table_begin : TableName → ℕ
table_begin table = name_begin table.schema table.name.place
