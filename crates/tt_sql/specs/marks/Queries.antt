-- The marks of queries: what the derivation notes that spells them.
use Rattle.std.specs.Prelude.{List, [], ◌∷◌, ◌++◌, map}
use Rattle.tt_sql.specs.declared.query.Clause.{Clause}
use Rattle.tt_sql.specs.declared.query.Item.{Item}
use Rattle.tt_sql.specs.declared.query.Item.TheVariants as item
use Rattle.tt_sql.specs.declared.query.Join.{Join}
use Rattle.tt_sql.specs.declared.query.Key.{Key}
use Rattle.tt_sql.specs.declared.query.KeyColumn.{KeyColumn}
use Rattle.tt_sql.specs.declared.query.KeyColumn.TheVariants as key
use Rattle.tt_sql.specs.declared.query.Moment.{Moment}
use Rattle.tt_sql.specs.declared.query.Moment.TheVariants as moment
use Rattle.tt_sql.specs.declared.query.Offset.{Offset}
use Rattle.tt_sql.specs.declared.query.Pair.{Pair}
use Rattle.tt_sql.specs.declared.query.Query.{Query}
use Rattle.tt_sql.specs.declared.query.Selection.{Selection}
use Rattle.tt_sql.specs.declared.query.Selection.TheVariants as selection
use Rattle.tt_sql.specs.declared.query.Side.{Side}
use Rattle.tt_sql.specs.declared.query.Side.TheVariants as side
use Rattle.tt_sql.specs.declared.query.Source.{Source}
use Rattle.tt_sql.specs.grammar.Grammar.{Mark, Way, At, Meant}
use Rattle.tt_sql.specs.marks.Expressions.{repeated, listed_marks, maybe_marks, flag_marks, number_marks, quoted_marks, column_marks, table_marks, expr_marks, predicate_marks}

-- ---- items

abbrev pub item_marks : Item → List Mark
item_marks (item.Expr e) = expr_marks e ++ Way 0 ∷ []
item_marks (item.CountAll place) = At place ∷ Way 4 ∷ []
item_marks (item.Count place c) = At place ∷ (column_marks c ++ Way 5 ∷ [])
item_marks (item.Sum place c) = At place ∷ (column_marks c ++ Way 6 ∷ [])
item_marks (item.Min place c) = At place ∷ (column_marks c ++ Way 7 ∷ [])
item_marks (item.Max place c) = At place ∷ (column_marks c ++ Way 8 ∷ [])

abbrev pub selection_marks : Selection → List Mark
selection_marks (selection.All place) = At place ∷ Way 0 ∷ []
selection_marks (selection.Listed items) = listed_marks (map item_marks items) ++ Way 1 ∷ []

-- ---- sources

-- one to three numbers
abbrev pub offset_marks : Offset → List Mark
offset_marks o = flag_marks o.negative ++ listed_marks (map number_marks o.factors)

abbrev pub moment_marks : Moment → List Mark
moment_marks (moment.Timestamp n) = Meant n 0 ∷ Way 0 ∷ []
moment_marks (moment.Offset o) = offset_marks o ++ Way 1 ∷ []
moment_marks (moment.Statement q) = quoted_marks q ++ Way 2 ∷ []

abbrev pub side_marks : Side → List Mark
side_marks side.At = Way 1 ∷ []
side_marks side.Before = Way 2 ∷ []

abbrev pub clause_marks : Clause → List Mark
clause_marks c = side_marks c.side ++ moment_marks c.moment

abbrev pub source_marks : Source → List Mark
source_marks s = table_marks s.table ++ maybe_marks clause_marks s.clause

-- The grammar has no further tables yet: each derivation notes that there are none.
abbrev pub pair_marks : Pair → List Mark
pair_marks p = column_marks p.left ++ column_marks p.right

abbrev pub join_marks : Join → List Mark
join_marks j = source_marks j.source ++ listed_marks (map pair_marks j.pairs)

-- further tables, and that there are no more
abbrev pub joins_marks : List Join → List Mark
joins_marks joins = repeated (map join_marks joins)

-- ---- queries

abbrev pub key_column_marks : KeyColumn → List Mark
key_column_marks (key.Column c) = column_marks c ++ Way 0 ∷ []
key_column_marks (key.Position n) = number_marks n ++ Way 1 ∷ []

abbrev pub key_marks : Key → List Mark
key_marks k = key_column_marks k.by ++ flag_marks k.descending

-- a list that may be left out
abbrev pub maybe_listed : List (List Mark) → List Mark
maybe_listed [] = Way 0 ∷ []
maybe_listed (m ∷ ms) = listed_marks (m ∷ ms) ++ Way 1 ∷ []

abbrev pub query_marks : Query → List Mark
query_marks q =
    At q.place ∷ (selection_marks q.selection
    ++ (table_marks q.first.table
    ++ (maybe_marks clause_marks q.first.clause
    ++ (joins_marks q.joins
    ++ (maybe_marks predicate_marks q.filter
    ++ (maybe_listed (map column_marks q.group)
    ++ (maybe_listed (map key_marks q.order)
    ++ maybe_marks number_marks q.limit)))))))
