-- Small tables and statements by which the meaning is checked by hand: a table of columns X INT, D DATE and S VARCHAR.
use Rattle.std.specs.Prelude.{ℕ, pos, true, false, Bool, List, [], ◌∷◌, map, codes, Option, Some, None}
use Rattle.tt_value.specs.declared.value.Kind.TheVariants as kinds
use Rattle.tt_value.specs.declared.value.Value.{Value}
use Rattle.tt_value.specs.declared.value.Value.TheVariants.{Null, Int, Date, Text}
use Rattle.tt_value.specs.declared.value.Schema.{Schema}
use Rattle.tt_value.specs.declared.value.Row.{Row}
use Rattle.tt_value.specs.declared.name.ColumnName.{ColumnName}
use Rattle.tt_value.specs.declared.name.Name.{Name}
use Rattle.tt_value.specs.declared.name.Literal.{Literal}
use Rattle.tt_value.specs.declared.name.Number.{Number}
use Rattle.tt_value.specs.declared.name.TableName.{TableName}
use Rattle.tt_value.specs.declared.predicate.Operand.{Operand}
use Rattle.tt_value.specs.declared.predicate.Operand.TheVariants as operand
use Rattle.tt_value.specs.declared.expression.Expr.{Expr, roll-Expr}
use Rattle.tt_value.specs.declared.expression.Addend.{roll-Addend}
use Rattle.tt_value.specs.declared.expression.Term.{roll-Term}
use Rattle.tt_value.specs.declared.expression.Factor.{Factor}
use Rattle.tt_value.specs.declared.expression.Factor.TheVariants as factor
use Rattle.tt_value.specs.declared.expression.Sign.TheVariants.{Plus}
use Rattle.tt_value.specs.declared.predicate.Comparison.{Comparison}
use Rattle.tt_value.specs.declared.predicate.Comparison.TheVariants.{Equal}
use Rattle.tt_value.specs.declared.predicate.Truth.{Truth}
use Rattle.tt_value.specs.declared.predicate.Predicate.{Predicate, roll-Predicate}
use Rattle.tt_value.specs.declared.predicate.Conjunction.{Conjunction, roll-Conjunction}
use Rattle.tt_value.specs.declared.predicate.Unit.{Unit as Test, roll-Unit}
use Rattle.tt_value.specs.declared.predicate.Unit.TheOpen.{Unit-F}
use Rattle.tt_value.specs.trees.Scope.{Scope, table_scope}
use Rattle.tt_value.specs.trees.Predicates.{comparison_truth, in_truth, between_truth, truth_of}
use Rattle.tt_sql.specs.declared.change.Delete.{Delete}
use Rattle.tt_sql.specs.declared.change.Insert.{Insert}
use Rattle.tt_sql.specs.declared.change.InsertSource.TheVariants as source
use Rattle.tt_sql.specs.declared.change.Update.{Update}
use Rattle.tt_sql.specs.declared.query.Item.TheVariants as item
use Rattle.tt_sql.specs.declared.query.Query.{Query}
use Rattle.tt_sql.specs.declared.query.Selection.{Selection}
use Rattle.tt_sql.specs.declared.query.Selection.TheVariants as selection
use Rattle.tt_sql.specs.declared.query.Key.{Key}
use Rattle.tt_sql.specs.declared.query.KeyColumn.TheVariants as key
use Rattle.tt_sql.specs.meaning.Queries.{answer_of}

abbrev pub schema : Schema
schema = record {
  columns =
      record { name = codes "X"; kind = kinds.Int; nullable = true }
      ∷ record { name = codes "D"; kind = kinds.Date; nullable = true }
      ∷ record { name = codes "S"; kind = kinds.Varchar; nullable = true } ∷ [];
}

-- the same with X NOT NULL
abbrev pub strict : Schema
strict = record {
  columns =
      record { name = codes "X"; kind = kinds.Int; nullable = false }
      ∷ record { name = codes "D"; kind = kinds.Date; nullable = true }
      ∷ record { name = codes "S"; kind = kinds.Varchar; nullable = true } ∷ [];
}

-- two columns of numbers, X and Y
abbrev pub numbers : Schema
numbers = record {
  columns =
      record { name = codes "X"; kind = kinds.Int; nullable = true }
      ∷ record { name = codes "Y"; kind = kinds.Int; nullable = true } ∷ [];
}

abbrev pub scope : Scope
scope = table_scope schema

abbrev pub row_of : Value → Value → Value → Row
row_of x d s = record { values = x ∷ d ∷ s ∷ [] }

-- rows of X alone, D alone, S alone, and of nothing
abbrev pub x_row : ℕ → Row
x_row n = row_of (Int (pos n)) Null Null

abbrev pub d_row : ℕ → Row
d_row day = row_of Null (Date (pos day)) Null

abbrev pub s_row : List ℕ → Row
s_row bytes = row_of Null Null (Text bytes)

abbrev pub null_row : Row
null_row = row_of Null Null Null

abbrev pub ints : List ℕ → List Row
ints ns = map x_row ns

-- a row of the two columns of numbers
abbrev pub pair_row : ℕ → ℕ → Row
pair_row m n = record { values = Int (pos m) ∷ Int (pos n) ∷ [] }

abbrev pub just_ints : List ℕ → List Row
just_ints ns = map (λ n. record { values = Int (pos n) ∷ [] }) ns

abbrev pub name : List ℕ → Name
name bytes = record { text = bytes; place = 0 }

abbrev pub column : List ℕ → ColumnName
column bytes = record { table = None; name = name bytes }

abbrev pub x : ColumnName
x = column (codes "X")

abbrev pub y : ColumnName
y = column (codes "Y")

abbrev pub d : ColumnName
d = column (codes "D")

abbrev pub s : ColumnName
s = column (codes "S")

abbrev pub literal : Value → Literal
literal v = record { value = v; place = 0 }

abbrev pub int : ℕ → Literal
int n = literal (Int (pos n))

abbrev pub null : Literal
null = literal Null

abbrev pub text : List ℕ → Literal
text bytes = literal (Text bytes)

abbrev pub number : ℕ → Number
number n = record { value = n; place = 0 }

-- a factor alone, and a sum of two factors
abbrev pub alone : Factor → Expr
alone f = roll-Expr (record { first = roll-Term (record { first = f; others = [] }); others = [] })

abbrev pub sum : Factor → Factor → Expr
sum f g = roll-Expr (record { first = roll-Term (record { first = f; others = [] }); others = roll-Addend (record { sign = Plus; term = roll-Term (record { first = g; others = [] }) }) ∷ [] })

-- X and a written value
abbrev pub x_plus : Literal → Expr
x_plus l = sum (factor.Column x) (factor.Literal l)

abbrev pub table : TableName
table = record { schema = None; name = name (codes "T") }

abbrev pub query : Selection → List ColumnName → List Key → Option Number → Query
query selection group order limit = record {
  place = 0;
  selection = selection;
  first = record { table = table; clause = None };
  joins = [];
  filter = None;
  group = group;
  order = order;
  limit = limit;
}

-- SELECT COUNT(*) FROM t, with and without GROUP BY x
abbrev pub count_all : Query
count_all = query (selection.Listed (item.CountAll 0 ∷ [])) [] [] None

abbrev pub count_all_by_x : Query
count_all_by_x = query (selection.Listed (item.CountAll 0 ∷ [])) (x ∷ []) [] None

-- SELECT * FROM t, alone, with ORDER BY x DESC and with LIMIT
abbrev pub all_rows : Query
all_rows = query (selection.All 0) [] [] None

abbrev pub all_rows_descending : Query
all_rows_descending = query (selection.All 0) [] (record { by = key.Column x; descending = true } ∷ []) None

abbrev pub first_rows : ℕ → Query
first_rows n = query (selection.All 0) [] [] (Some (number n))

-- SELECT x + 1 FROM t LIMIT 0
abbrev pub no_row_of_sums : Query
no_row_of_sums = query (selection.Listed (item.Expr (x_plus (int 1)) ∷ [])) [] [] (Some (number 0))

-- what a query answers of these rows
abbrev pub answer : Query → List Row → Option (List Row)
answer q rows = answer_of scope q rows

-- ---- changes

-- UPDATE t SET x = .., and UPDATE t SET x = y, y = x
abbrev pub set_x : Expr → Update
set_x e = record { table = table; sets = record { column = name (codes "X"); value = e } ∷ []; filter = None }

abbrev pub exchange : Update
exchange = record {
  table = table;
  sets =
      record { column = name (codes "X"); value = alone (factor.Column y) }
      ∷ record { column = name (codes "Y"); value = alone (factor.Column x) } ∷ [];
  filter = None;
}

-- DELETE FROM t
abbrev pub delete_all : Delete
delete_all = record { table = table; filter = None }

-- INSERT INTO t (s, x) VALUES ('a', 1)
abbrev pub insert_s_and_x : Insert
insert_s_and_x = record {
  table = table;
  columns = Some (name (codes "S") ∷ name (codes "X") ∷ []);
  source = source.Values (record { place = 0; values = text (codes "a") ∷ int 1 ∷ [] } ∷ []);
}

-- ---- predicates

abbrev pub compare : Operand → Comparison → Literal → Test
compare a c l = roll-Unit (Unit-F.Compare a c (operand.Literal l))

abbrev pub is_null : Operand → Bool → Test
is_null a negated = roll-Unit (Unit-F.IsNull a negated)

abbrev pub is_in : Operand → Bool → List Literal → Test
is_in a negated literals = roll-Unit (Unit-F.In a negated literals)

abbrev pub is_between : Operand → Bool → Literal → Literal → Test
is_between a negated least greatest = roll-Unit (Unit-F.Between a negated least greatest)

abbrev pub negation : Test → Test
negation u = roll-Unit (Unit-F.Not u)

abbrev pub one : Test → Conjunction
one u = roll-Conjunction (record { first = u; others = [] })

abbrev pub both : Test → Test → Conjunction
both u v = roll-Conjunction (record { first = u; others = v ∷ [] })

abbrev pub whole : Conjunction → Predicate
whole c = roll-Predicate (record { first = c; others = [] })

abbrev pub either : Conjunction → Conjunction → Predicate
either a b = roll-Predicate (record { first = a; others = b ∷ [] })

abbrev pub of_x : Operand
of_x = operand.Column x

-- x = 1 OR x = 2 AND s IS NOT NULL
abbrev pub one_or_two_with_s : Predicate
one_or_two_with_s =
    either (one (compare of_x Equal (int 1))) (both (compare of_x Equal (int 2)) (is_null (operand.Column s) true))

-- ---- their truth, where X is this number

abbrev pub equal_truth : Row → ColumnName → Literal → Truth
equal_truth row c l = comparison_truth scope row (operand.Column c) Equal (operand.Literal l)

abbrev pub x_in_truth : ℕ → List Literal → Truth
x_in_truth n literals = in_truth scope (x_row n) of_x literals

abbrev pub x_between_truth : ℕ → Literal → Literal → Truth
x_between_truth n least greatest = between_truth scope (x_row n) of_x least greatest

abbrev pub x_truth : ℕ → Test → Truth
x_truth n test = truth_of scope (x_row n) (whole (one test))
