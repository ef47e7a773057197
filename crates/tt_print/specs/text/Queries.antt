-- The words of queries, and of the moments at which they read.
use Rattle.std.specs.Prelude.{ℕ, ◌/◌, ◌%◌, Bool, ◌&&◌, if◌then◌else◌, List, [], ◌∷◌, ◌++◌, map, codes, ℤ, pos, neg_ℤ, ◌+ℤ◌, ◌-ℤ◌, unsigned_abs, int_le}
use Rattle.std.specs.List.{flat_map}
use Rattle.tt_value.specs.calendar.Calendar.{Timestamp, Clock, timestamp_text, clock_text, fraction_text}
use Rattle.tt_value.specs.declared.name.ColumnName.{ColumnName}
use Rattle.tt_sql.specs.declared.query.Query.{Query}
use Rattle.tt_sql.specs.declared.query.Selection.{Selection}
use Rattle.tt_sql.specs.declared.query.Selection.TheVariants.{All, Listed}
use Rattle.tt_sql.specs.declared.query.Item.{Item}
use Rattle.tt_sql.specs.declared.query.Item.TheVariants.{Expr, CountAll, Count, Sum, Min, Max}
use Rattle.tt_sql.specs.declared.query.Source.{Source}
use Rattle.tt_sql.specs.declared.query.Join.{Join}
use Rattle.tt_sql.specs.declared.query.Pair.{Pair}
use Rattle.tt_sql.specs.declared.query.Key.{Key}
use Rattle.tt_sql.specs.declared.query.KeyColumn.{KeyColumn}
use Rattle.tt_sql.specs.declared.query.KeyColumn.TheVariants.{Column, Position}
use Rattle.tt_sql.specs.declared.query.Clause.{Clause}
use Rattle.tt_sql.specs.declared.query.Side.{Side}
use Rattle.tt_sql.specs.declared.query.Side.TheVariants.{At, Before}
use Rattle.tt_sql.specs.declared.query.Moment.{Moment}
use Rattle.tt_sql.specs.declared.query.Moment.TheVariants.{Timestamp as AtTimestamp, Offset as AtOffset, Statement as AtStatement}
use Rattle.tt_sql.specs.declared.query.Offset.{Offset}
use Rattle.tt_value.specs.declared.name.Number.{Number}
use Rattle.tt_value.specs.declared.name.Quoted.{Quoted}
use Rattle.tt_print.specs.text.Words.{Words, separated, listed, word_if, words_if, column_name_words, table_name_words, quoted_words, number_words}
use Rattle.tt_print.specs.text.Expressions.{expr_words}
use Rattle.tt_print.specs.text.Predicates.{filter_words}

-- ---- moments

-- a millisecond of a day as a time of day with three digits behind the point
abbrev pub clock_at : ℕ → Clock
clock_at of_day = record { hour = of_day / 3600000; minute = of_day / 60000 % 60; second = of_day / 1000 % 60 }

abbrev pub fraction_at : ℕ → List ℕ
fraction_at of_day = (of_day / 100 % 10) ∷ (of_day / 10 % 10) ∷ (of_day % 10) ∷ []

-- `HH:MM:SS.mmm`
abbrev pub clock_of_day : ℕ → List ℕ
clock_of_day of_day = clock_text (clock_at of_day) ++ (fraction_text (fraction_at of_day) ++ [])

-- milliseconds from 1 January of the year 1 as a date, a space and a time of day with three digits behind the point
abbrev pub timestamp_since : ℕ → Timestamp
timestamp_since since = record {
  day = pos (since / 86400000) -ℤ pos 719162;
  between = 32;
  clock = clock_at (since % 86400000);
  fraction = fraction_at (since % 86400000);
  zone = [];
}

-- 1 January of the year 1 is 62135596800000 milliseconds before 1970
abbrev pub since_year_one : ℤ → ℕ
since_year_one moment = unsigned_abs (moment +ℤ pos 62135596800000)

-- the moments of the years 1 to 9999
abbrev pub is_moment : ℤ → Bool
is_moment moment = int_le (neg_ℤ (pos 62135596800000)) moment && int_le moment (pos 253402300799999)

-- `YYYY-MM-DD HH:MM:SS.mmm`. A moment of no such year stands in no statement, and has an empty text, which is no
-- timestamp.
abbrev pub moment_bytes : ℤ → List ℕ
moment_bytes moment = if is_moment moment then timestamp_text (timestamp_since (since_year_one moment)) else []

abbrev pub moment_word : ℤ → List ℕ
moment_word moment = 39 ∷ (moment_bytes moment ++ (39 ∷ []))

abbrev pub timestamp_words : ℤ → Words
timestamp_words moment = codes "TIMESTAMP" ∷ codes "=>" ∷ moment_word moment ∷ []

abbrev pub id_words : Quoted → Words
id_words id = codes "STATEMENT" ∷ codes "=>" ∷ quoted_words id

abbrev pub offset_words : Offset → Words
offset_words offset = codes "OFFSET" ∷ (codes "=>" ∷ (word_if offset.negative (codes "-") ++ separated (codes "*") (map number_words offset.factors)))

abbrev pub moment_words : Moment → Words
moment_words (AtTimestamp moment) = timestamp_words moment
moment_words (AtOffset offset) = offset_words offset
moment_words (AtStatement id) = id_words id

abbrev pub side_word : Side → List ℕ
side_word At = codes "AT"
side_word Before = codes "BEFORE"

abbrev pub clause_words : Clause → Words
clause_words clause = side_word clause.side ∷ (codes "(" ∷ (moment_words clause.moment ++ (codes ")" ∷ [])))

-- ---- tables

abbrev pub source_words : Source → Words
source_words source = table_name_words source.table ++ words_if clause_words source.clause

abbrev pub pair_words : Pair → Words
pair_words pair = column_name_words pair.left ++ (codes "=" ∷ column_name_words pair.right)

abbrev pub join_words : Join → Words
join_words join = codes "JOIN" ∷ (source_words join.source ++ (codes "ON" ∷ separated (codes "AND") (map pair_words join.pairs)))

-- ---- items and keys

-- an aggregate of a column
abbrev pub aggregate_words : List ℕ → ColumnName → Words
aggregate_words word column = word ∷ (codes "(" ∷ (column_name_words column ++ (codes ")" ∷ [])))

abbrev pub count_all_words : Words
count_all_words = codes "COUNT" ∷ codes "(" ∷ codes "*" ∷ codes ")" ∷ []

abbrev pub item_words : Item → Words
item_words (Expr expr) = expr_words expr
item_words (CountAll place) = count_all_words
item_words (Count place column) = aggregate_words (codes "COUNT") column
item_words (Sum place column) = aggregate_words (codes "SUM") column
item_words (Min place column) = aggregate_words (codes "MIN") column
item_words (Max place column) = aggregate_words (codes "MAX") column

abbrev pub selection_words : Selection → Words
selection_words (All place) = codes "*" ∷ []
selection_words (Listed items) = listed (map item_words items)

abbrev pub key_column_words : KeyColumn → Words
key_column_words (Column column) = column_name_words column
key_column_words (Position number) = number_words number

-- ASC is what is meant without a word, and is not written
abbrev pub key_words : Key → Words
key_words key = key_column_words key.by ++ word_if key.descending (codes "DESC")

abbrev pub group_by_words : List ColumnName → Words
group_by_words columns = codes "GROUP" ∷ codes "BY" ∷ listed (map column_name_words columns)

-- nothing where there is no GROUP BY
abbrev pub group_words : List ColumnName → Words
group_words [] = []
group_words (first ∷ others) = group_by_words (first ∷ others)

abbrev pub order_by_words : List Key → Words
order_by_words keys = codes "ORDER" ∷ codes "BY" ∷ listed (map key_words keys)

-- nothing where there is no ORDER BY
abbrev pub order_words : List Key → Words
order_words [] = []
order_words (first ∷ others) = order_by_words (first ∷ others)

abbrev pub limit_words : Number → Words
limit_words number = codes "LIMIT" ∷ number_words number

-- ---- queries

-- what is selected, and from which tables
abbrev pub selected_words : Query → Words
selected_words query =
    codes "SELECT" ∷ (selection_words query.selection ++ (codes "FROM" ∷ (source_words query.first
    ++ flat_map join_words query.joins)))

-- which rows, in which groups and which order, and how many
abbrev pub narrowed_words : Query → Words
narrowed_words query =
    words_if filter_words query.filter ++ (group_words query.group ++ (order_words query.order
    ++ words_if limit_words query.limit))

abbrev pub query_words : Query → Words
query_words query = selected_words query ++ narrowed_words query
