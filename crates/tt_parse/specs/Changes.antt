-- What stands behind the table of an INSERT and of an UPDATE.
use Rattle.std.specs.Prelude.{ℕ, List, ◌++◌, map, Option}
use Rattle.tt_value.specs.declared.name.Name.{Name}
use Rattle.tt_value.specs.declared.predicate.Predicate.{Predicate as Filter}
use Rattle.tt_sql.specs.declared.change.InsertSource.{InsertSource}
use Rattle.tt_sql.specs.declared.change.Set.{Set}
use Rattle.tt_sql.specs.grammar.Grammar.{Mark, Gram, Again, Predicate}
use Rattle.tt_sql.specs.marks.Changes.{insert_source_marks, names_marks, set_marks}
use Rattle.tt_sql.specs.marks.Expressions.{listed_marks, maybe_marks, predicate_marks}
use Rattle.tt_sql.specs.grammar.Combinators.{◌▸◌, ◌∣◌, brackets, listed, maybe, name, one, way}
use Rattle.tt_sql.specs.machine.Factored.{read_query, read_set}
use Rattle.tt_sql.specs.grammar.TokenKinds.{SET, VALUES, WHERE}
use Rattle.tt_sql.specs.grammar.Written.{tuple}

-- ---- the columns and the rows of an INSERT

abbrev pub insert_source : ℕ → Gram
insert_source levels = one VALUES ▸ listed tuple ▸ way 0 ∣ read_query levels ▸ way 1

abbrev pub inserts : ℕ → Gram
inserts levels = maybe (brackets (listed name)) ▸ insert_source levels

abbrev pub inserts_marks : Option (List Name) × InsertSource → List Mark
inserts_marks x = maybe_marks names_marks x.0 ++ insert_source_marks x.1

-- ---- the new values and the filter of an UPDATE

abbrev pub changes : ℕ → Gram
changes levels = one SET ▸ listed (read_set levels) ▸ maybe (one WHERE ▸ Again Predicate levels)

abbrev pub changes_marks : List Set × Option Filter → List Mark
changes_marks x = listed_marks (map set_marks x.0) ++ maybe_marks predicate_marks x.1
