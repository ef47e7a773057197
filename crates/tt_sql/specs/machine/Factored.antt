-- The grammar of statements in the form in which it is read: what two alternatives begin with alike stands in
-- front of both, and what is noted of it is noted once the way is clear.
use Rattle.std.specs.Prelude.{ℕ, zero, suc, Bool, not, ◌&&◌, ◌||◌, ◌==◌, List, [], ◌∷◌}
use Rattle.tt_sql.specs.grammar.Grammar.{Lexeme, Mark, Way, At, Said, Rule, Gram, Tok, Deep, Note, Many, Again, Expr, Negated, Predicate, Unit, nowhere}
use Rattle.tt_sql.specs.grammar.TokenKinds.{SELECT, FROM, WHERE, GROUP, BY, ORDER, LIMIT, AND, OR, NOT, IN, IS, NULL, BETWEEN, INSERT, INTO, VALUES, UPDATE, SET, DELETE, CLONE, COUNT, SUM, MIN, MAX, STARTSWITH, DATE, EXPLAIN, INFORMATION_SCHEMA, TABLE_STORAGE_METRICS, SYSTEM_CLUSTERING_DEPTH, NAME, SHORT_NUMBER, DATE_TEXT, OPEN, CLOSE, COMMA, DOT, STAR, MINUS, EQUAL, is_name, is_negative}
use Rattle.tt_sql.specs.grammar.Combinators.{◌▸◌, ◌∣◌, way, as_place, as_text, as_negative, as_date, one, placed, name, number, quoted, quoted_name, maybe, brackets, listed}
use Rattle.tt_sql.specs.grammar.Written.{literal, compare, sign, key, clause, no_more, create_front, column, options, begins_other, tuple, copy, drop_table, undrop, truncate, alter, begin, commit, rollback, wait, show}

-- a name but these words
abbrev pub but : (ℕ → Bool) → ℕ → Bool
but words k = is_name k && not (words k)

abbrev pub plain_name : (ℕ → Bool) → Gram
plain_name words = Tok NAME (but words) ▸ Note as_text

-- ---- expressions

abbrev pub negative : Gram
negative = Tok SHORT_NUMBER is_negative ▸ Note as_negative

-- the word DATE, which begins a literal or is a name
abbrev pub date_factor : Gram
date_factor = one DATE ▸ (one DATE_TEXT ▸ Note as_date ▸ way 3 ▸ way 0 ∣ Note as_text ▸ way 1)

abbrev pub or_date : (ℕ → Bool) → ℕ → Bool
or_date words k = k == DATE || words k

-- a factor but a number, and but these words
unfoldable pub read_other : (ℕ → Bool) → ℕ → Gram
read_other words zero = placed NULL ▸ way 0 ▸ way 0 ∣ quoted ▸ way 2 ▸ way 0 ∣ date_factor ∣ plain_name (or_date words) ▸ way 1
    ∣ one MINUS ▸ (negative ▸ way 1 ▸ way 0 ∣ Deep begins_other)
read_other words (suc levels) = placed NULL ▸ way 0 ▸ way 0 ∣ quoted ▸ way 2 ▸ way 0 ∣ date_factor ∣ plain_name (or_date words) ▸ way 1
    ∣ placed OPEN ▸ Again Expr levels ▸ one CLOSE ▸ way 2
    ∣ one MINUS ▸ (negative ▸ way 1 ▸ way 0 ∣ Note as_place ▸ Again Negated levels ▸ way 3)

abbrev pub read_factor : (ℕ → Bool) → ℕ → Gram
read_factor words levels = number ▸ way 1 ▸ way 0 ∣ read_other words levels

-- further factors, and further terms
abbrev pub read_factors : ℕ → Gram
read_factors levels = Many (one STAR ▸ read_factor nowhere levels)

abbrev pub read_terms : ℕ → Gram
read_terms levels = Many (sign ▸ read_factor nowhere levels ▸ read_factors levels)

abbrev pub read_expr : (ℕ → Bool) → ℕ → Gram
read_expr words levels = (read_factor words levels ▸ read_factors levels) ▸ read_terms levels

-- ---- predicates

abbrev pub read_operand : (ℕ → Bool) → Gram
read_operand words = plain_name (or_date words) ▸ way 0
    ∣ number ▸ way 1 ▸ way 1
    ∣ placed NULL ▸ way 0 ▸ way 1
    ∣ one MINUS ▸ negative ▸ way 1 ▸ way 1
    ∣ quoted ▸ way 2 ▸ way 1
    ∣ one DATE ▸ (one DATE_TEXT ▸ Note as_date ▸ way 3 ▸ way 1 ∣ Note as_text ▸ way 0)

abbrev pub in_or_between : Gram
in_or_between = one IN ▸ brackets (listed literal) ▸ way 4 ∣ one BETWEEN ▸ literal ▸ one AND ▸ literal ▸ way 5

-- what stands behind the first operand
abbrev pub unit_end : Gram
unit_end = compare ▸ read_operand nowhere ▸ way 2
    ∣ one IS ▸ maybe (one NOT) ▸ one NULL ▸ way 3
    ∣ one NOT ▸ way 1 ▸ in_or_between
    ∣ way 0 ▸ in_or_between

abbrev pub is_starts_with : ℕ → Bool
is_starts_with k = k == STARTSWITH

abbrev pub read_simple : Gram
read_simple = one STARTSWITH ▸ (one OPEN ▸ name ▸ one COMMA ▸ quoted ▸ one CLOSE ▸ way 6 ∣ Note as_text ▸ way 0 ▸ unit_end)
    ∣ read_operand is_starts_with ▸ unit_end

unfoldable pub read_unit : ℕ → Gram
read_unit zero = read_simple
read_unit (suc levels) = one NOT ▸ way 7 ▸ Again Unit levels ∣ one OPEN ▸ way 8 ▸ Again Predicate levels ▸ one CLOSE ∣ read_simple

abbrev pub read_conj : ℕ → Gram
read_conj levels = read_unit levels ▸ Many (one AND ▸ read_unit levels)

abbrev pub read_pred : ℕ → Gram
read_pred levels = read_conj levels ▸ Many (one OR ▸ read_conj levels)

-- ---- queries

-- the place of the word in front of a bracket
abbrev pub word_place : List Lexeme → List Mark
word_place (bracket ∷ word ∷ done) = At word.place ∷ []
word_place done = []

-- an item that begins with a name, behind the name
abbrev pub named_item : ℕ → Gram
named_item levels = Note as_text ▸ way 1 ▸ read_factors levels ▸ read_terms levels ▸ way 0

abbrev pub aggregate : ℕ → ℕ → ℕ → Gram
aggregate word n levels = one word ▸ (one OPEN ▸ Note word_place ▸ name ▸ one CLOSE ▸ way n ∣ named_item levels)

abbrev pub or_aggregate : (ℕ → Bool) → ℕ → Bool
or_aggregate words k = k == COUNT || (k == SUM || (k == MIN || (k == MAX || words k)))

abbrev pub read_item : (ℕ → Bool) → ℕ → Gram
read_item words levels = one COUNT ▸ (one OPEN ▸ Note word_place ▸ (one STAR ▸ one CLOSE ▸ way 4 ∣ name ▸ one CLOSE ▸ way 5) ∣ named_item levels)
    ∣ aggregate SUM 6 levels
    ∣ aggregate MIN 7 levels
    ∣ aggregate MAX 8 levels
    ∣ read_expr (or_aggregate words) levels ▸ way 0

abbrev pub read_query_end : ℕ → Gram
read_query_end levels = maybe clause
    ▸ no_more
    ▸ maybe (one WHERE ▸ Again Predicate levels)
    ▸ maybe (one GROUP ▸ one BY ▸ listed name)
    ▸ maybe (one ORDER ▸ one BY ▸ listed key)
    ▸ maybe (one LIMIT ▸ number)

abbrev pub more_items : ℕ → Gram
more_items levels = Many (one COMMA ▸ read_item nowhere levels)

abbrev pub read_query : ℕ → Gram
read_query levels = placed SELECT ▸ (placed STAR ▸ way 0 ∣ (read_item nowhere levels ▸ more_items levels) ▸ way 1) ▸ one FROM ▸ name ▸ read_query_end levels

-- a query as a statement of its own, the view of storage, and the depth of a table
abbrev pub star_name : List Lexeme → List Mark
star_name (table ∷ «from» ∷ star ∷ select ∷ done) = At select.place ∷ At star.place ∷ Way 0 ∷ Said table.text table.place ∷ []
star_name done = []

abbrev pub select_name : List Lexeme → List Mark
select_name (word ∷ select ∷ done) = At select.place ∷ Said word.text word.place ∷ []
select_name done = []

abbrev pub is_information : ℕ → Bool
is_information k = k == INFORMATION_SCHEMA

abbrev pub is_depth : ℕ → Bool
is_depth k = k == SYSTEM_CLUSTERING_DEPTH

abbrev pub items_end : ℕ → Gram
items_end levels = more_items levels ▸ way 1 ▸ one FROM ▸ name ▸ read_query_end levels ▸ way 0

abbrev pub read_select : ℕ → Gram
read_select levels = one SELECT ▸
    (one STAR ▸ one FROM ▸
    (one INFORMATION_SCHEMA ▸ (one DOT ▸ one TABLE_STORAGE_METRICS ▸ way 17 ∣ Note star_name ▸ read_query_end levels ▸ way 0)
    ∣ Tok NAME (but is_information) ▸ Note star_name ▸ read_query_end levels ▸ way 0)
    ∣ one SYSTEM_CLUSTERING_DEPTH ▸ (one OPEN ▸ quoted_name ▸ one CLOSE ▸ way 18 ∣ Note select_name ▸ way 1 ▸ read_factors levels ▸ read_terms levels ▸ way 0 ▸ items_end levels)
    ∣ Note as_place ▸ read_item is_depth levels ▸ items_end levels)

-- ---- statements

abbrev pub read_insert : ℕ → Gram
read_insert levels = one INSERT ▸ one INTO ▸ name ▸ maybe (brackets (listed name)) ▸ (one VALUES ▸ listed tuple ▸ way 0 ∣ read_query levels ▸ way 1)

abbrev pub read_set : ℕ → Gram
read_set levels = name ▸ one EQUAL ▸ Again Expr levels

abbrev pub read_update : ℕ → Gram
read_update levels = one UPDATE ▸ name ▸ one SET ▸ listed (read_set levels) ▸ maybe (one WHERE ▸ Again Predicate levels)

abbrev pub read_delete : ℕ → Gram
read_delete levels = one DELETE ▸ one FROM ▸ name ▸ maybe (one WHERE ▸ Again Predicate levels)

abbrev pub read_create : Gram
read_create = create_front ▸ (brackets (listed column) ▸ options ▸ way 5 ∣ one CLONE ▸ name ▸ maybe clause ▸ way 6)

abbrev pub read_statement : ℕ → Gram
read_statement levels = read_select levels
    ∣ read_insert levels ▸ way 1
    ∣ read_update levels ▸ way 2
    ∣ read_delete levels ▸ way 3
    ∣ copy ▸ way 4
    ∣ read_create
    ∣ drop_table ▸ way 7
    ∣ undrop ▸ way 8
    ∣ truncate ▸ way 9
    ∣ alter ▸ way 10
    ∣ begin ▸ way 11
    ∣ commit ▸ way 12
    ∣ rollback ▸ way 13
    ∣ wait ▸ way 14
    ∣ (one EXPLAIN ▸ read_query levels) ▸ way 15
    ∣ show ▸ way 16

-- ---- the productions

abbrev pub read_rule : Rule → ℕ → Gram
read_rule Expr levels = read_expr nowhere levels
read_rule Negated levels = read_other nowhere levels
read_rule Predicate levels = read_pred levels
read_rule Unit levels = read_unit levels
