-- What the answer of a query over the one table of its ticket is, and what it needs.
use Rattle.std.specs.Prelude.{◌≡◌, List, [], ◌∷◌, Option, length}
use Rattle.std.specs.List.{AllByRecursion}
use Rattle.tt_value.specs.declared.value.Row.{Row}
use Rattle.tt_sql.specs.declared.query.Query.{Query}
use Rattle.tt_sql.specs.meaning.Queries.{answer_of}
use Rattle.tt_sql.specs.meaning.Scopes.{query_scope}
use Rattle.tt_plain.specs.UnknownColumns.{unknown_in_query}
use Rattle.tt_state.specs.declared.ticket.Seen.{Seen}
use Rattle.tt_state.specs.Held.{rows_held, schemas_held}
use Rattle.tt_scan.specs.Held.{IsOfItsSchema}

-- the rows of the first of the tables that are held
abbrev pub rows_of_first : List Seen → List Row
rows_of_first [] = []
rows_of_first (seen ∷ others) = rows_held seen

-- the answer over them; none where it is out of range
abbrev pub answer_held : List Seen → Query → Option (List Row)
answer_held sources query = answer_of (query_scope (schemas_held sources) query) query (rows_of_first sources)

-- A query over one table, which is held: its parts are of the table's columns, and each name in the query is that of a column.
pub record IsOverOneTable (sources : List Seen) (query : Query) : Type 0 where
  pub joins : query.joins ≡ []
  pub one : length sources ≡ 1
  pub parts : AllByRecursion IsOfItsSchema sources
  pub names : unknown_in_query (query_scope (schemas_held sources) query) query ≡ []

-- the same of that table
pub record IsOver (seen : Seen) (query : Query) : Type 0 where
  pub joins : query.joins ≡ []
  pub parts : IsOfItsSchema seen
  pub names : unknown_in_query (query_scope (seen.schema ∷ []) query) query ≡ []

abbrev pub answer_from : Seen → Query → Option (List Row)
answer_from seen query = answer_of (query_scope (seen.schema ∷ []) query) query (rows_held seen)
