-- What the parts behind a query's table note, and what stands in them.
use Rattle.std.specs.Prelude.{ℕ, List, ◌∷◌, ◌++◌, map, Option}
use Rattle.tt_value.specs.declared.predicate.Predicate.{Predicate as Filter}
use Rattle.tt_sql.specs.grammar.Grammar.{Mark, Way, Gram, Again, Predicate}
use Rattle.tt_sql.specs.grammar.Combinators.{◌▸◌, ◌∣◌, listed, maybe, name, number, one, way}
use Rattle.tt_sql.specs.grammar.TokenKinds.{ASC, BY, DESC, GROUP, LIMIT, ORDER, WHERE}
use Rattle.tt_sql.specs.grammar.Written.{key}
use Rattle.tt_sql.specs.marks.Expressions.{column_marks, maybe_marks, number_marks, predicate_marks}
use Rattle.tt_sql.specs.trees.Lists.{WhenThere}
use Rattle.tt_sql.specs.determined.Expressions.{IsGivenPredicate}
use Rattle.tt_sql.specs.determined.Queries.{IsGivenClause}
use Rattle.tt_sql.specs.marks.Queries.{clause_marks, key_marks, maybe_listed}
use Rattle.tt_phrase.specs.declared.query.QueryEnd.{QueryEnd}
use Rattle.tt_phrase.specs.declared.query.QueryTail.{QueryTail}

-- ---- behind the filter

abbrev pub group_by : Gram
group_by = maybe (one GROUP ▸ one BY ▸ listed name)

abbrev pub order_by : Gram
order_by = maybe (one ORDER ▸ one BY ▸ listed key)

-- what a key orders by, and the direction
abbrev pub key_column : Gram
key_column = name ▸ way 0 ∣ number ▸ way 1

abbrev pub direction : Gram
direction = one ASC ▸ way 0 ∣ one DESC ▸ way 1 ∣ way 0

abbrev pub limit : Gram
limit = maybe (one LIMIT ▸ number)

abbrev pub query_tail : Gram
query_tail = group_by ▸ order_by ▸ limit

abbrev pub query_tail_marks : QueryTail → List Mark
query_tail_marks t = maybe_listed (map column_marks t.group) ++ (maybe_listed (map key_marks t.order) ++ maybe_marks number_marks t.limit)

-- ---- how a query ends: the filter, and what stands behind it

abbrev pub filter : ℕ → Gram
filter levels = maybe (one WHERE ▸ Again Predicate levels)

abbrev pub ends : ℕ → Gram
ends levels = filter levels ▸ query_tail

abbrev pub ends_marks : Option Filter → QueryTail → List Mark
ends_marks filter tail = maybe_marks predicate_marks filter ++ query_tail_marks tail

-- ---- the whole, where no further table follows

abbrev pub query_end_marks : QueryEnd → List Mark
query_end_marks e = maybe_marks clause_marks e.clause ++ Way 0 ∷ ends_marks e.filter e.tail

pub record IsGivenQueryEnd (e : QueryEnd) : Type 0 where
  pub clause : WhenThere IsGivenClause e.clause
  pub filter : WhenThere IsGivenPredicate e.filter
