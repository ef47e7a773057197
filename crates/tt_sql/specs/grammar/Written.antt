-- The grammar of statements, production by production. A choice is noted at its end, by the number of the
-- alternative, and where a tree has a place, that is noted too. A NOT and a bracket of a predicate, which note
-- no place, are noted at once: at the end the marks of `NOT a AND b` and of `a OR b` would be the same. Some
-- numbers are left out, so that the marks of one alternative do not begin those of another, and those of a part
-- that may be left out never begin with 0. A bracket, a NOT or a minus that opens a level
-- stands only in a production that has a level left.
use Rattle.std.specs.Prelude.{ℕ, zero, suc, Bool, ◌||◌, ◌==◌, List, [], ◌∷◌, ◌++◌}
use Rattle.tt_sql.specs.grammar.Grammar.{Lexeme, Mark, Way, Rule, Gram, Tok, Deep, Note, Many, Again, Expr, Negated, Predicate, Unit}
use Rattle.tt_sql.specs.grammar.TokenKinds.{SELECT, FROM, WHERE, GROUP, BY, ORDER, LIMIT, AND, OR, NOT, IN, IS, NULL, BETWEEN, AT, BEFORE, INSERT, INTO, VALUES, UPDATE, SET, DELETE, CREATE, TABLE, DROP, ALTER, COPY, CLONE, SWAP, WITH, COUNT, SUM, MIN, MAX, STARTSWITH, DATE, ASC, DESC, TIMESTAMP, TIMESTAMP_NTZ, OFFSET, STATEMENT, REPLACE, TRANSIENT, INT, INTEGER, BIGINT, VARCHAR, STRING, TEXT, CLUSTER, DATA_RETENTION_TIME_IN_DAYS, UNDROP, TRUNCATE, RENAME, TO, CLUSTERING, KEY, SUSPEND, RECLUSTER, RESUME, BEGIN, WORK, TRANSACTION, START, COMMIT, ROLLBACK, CALL, SYSTEM_WAIT, EXPLAIN, SHOW, TABLES, HISTORY, INFORMATION_SCHEMA, TABLE_STORAGE_METRICS, SYSTEM_CLUSTERING_DEPTH, NAME, SHORT_NUMBER, DATE_TEXT, UNIT_TEXT, OPEN, CLOSE, COMMA, DOT, STAR, PLUS, MINUS, EQUAL, UNEQUAL, LESS, LESS_EQUAL, GREATER, GREATER_EQUAL, ARROW, DOUBLE_COLON, is_name, is_number, is_negative, is_quoted}
use Rattle.tt_sql.specs.grammar.Combinators.{◌▸◌, ◌∣◌, way, as_text, as_number, as_negative, as_date, as_unit, one, placed, name, number, short_number, quoted, quoted_name, quoted_moment, maybe, brackets, listed}

-- ---- literals and expressions

-- a literal but a number without a minus
abbrev pub other_literal : Gram
other_literal = placed NULL ▸ way 0
    ∣ one MINUS ▸ Tok SHORT_NUMBER is_negative ▸ Note as_negative ▸ way 1
    ∣ quoted ▸ way 2
    ∣ one DATE ▸ one DATE_TEXT ▸ Note as_date ▸ way 3

-- literal := NULL | [-] number | quoted | DATE quoted
abbrev pub literal : Gram
literal = number ▸ way 1 ∣ other_literal

-- what a factor may begin with, but for a number
abbrev pub begins_other : ℕ → Bool
begins_other k = k == NULL || is_name k || is_quoted k || k == OPEN || k == MINUS

-- A factor but a number without a minus, with so many levels left: a minus directly before a number belongs to it.
unfoldable pub negated : ℕ → Gram
negated zero = other_literal ▸ way 0 ∣ name ▸ way 1 ∣ one MINUS ▸ Deep begins_other
negated (suc levels) = other_literal ▸ way 0 ∣ name ▸ way 1
    ∣ placed OPEN ▸ Again Expr levels ▸ one CLOSE ▸ way 2
    ∣ placed MINUS ▸ Again Negated levels ▸ way 3

-- factor := literal | name | ( expr ) | - factor
abbrev pub factor : ℕ → Gram
factor levels = number ▸ way 1 ▸ way 0 ∣ negated levels

-- term := factor {* factor}
abbrev pub term : ℕ → Gram
term levels = factor levels ▸ Many (one STAR ▸ factor levels)

abbrev pub sign : Gram
sign = one PLUS ▸ way 0 ∣ one MINUS ▸ way 1

-- expr := term {(+ | -) term}
abbrev pub expr : ℕ → Gram
expr levels = term levels ▸ Many (sign ▸ term levels)

-- ---- predicates

-- compare := = | <> | != | < | <= | > | >=
abbrev pub compare : Gram
compare = one EQUAL ▸ way 0 ∣ one UNEQUAL ▸ way 1 ∣ one LESS ▸ way 2 ∣ one LESS_EQUAL ▸ way 3 ∣ one GREATER ▸ way 4 ∣ one GREATER_EQUAL ▸ way 5

-- operand := name | literal
abbrev pub operand : Gram
operand = name ▸ way 0 ∣ literal ▸ way 1

abbrev pub simple_unit : Gram
simple_unit = operand ▸ compare ▸ operand ▸ way 2
    ∣ operand ▸ one IS ▸ maybe (one NOT) ▸ one NULL ▸ way 3
    ∣ operand ▸ maybe (one NOT) ▸ one IN ▸ brackets (listed literal) ▸ way 4
    ∣ operand ▸ maybe (one NOT) ▸ one BETWEEN ▸ literal ▸ one AND ▸ literal ▸ way 5
    ∣ one STARTSWITH ▸ one OPEN ▸ name ▸ one COMMA ▸ quoted ▸ one CLOSE ▸ way 6

-- unit := NOT unit | ( pred ) | operand compare operand | operand IS [NOT] NULL
--       | operand [NOT] IN ( literal {, literal} ) | operand [NOT] BETWEEN literal AND literal
--       | STARTSWITH ( name , quoted )
unfoldable pub unit : ℕ → Gram
unit zero = simple_unit
unit (suc levels) = one NOT ▸ way 7 ▸ Again Unit levels ∣ one OPEN ▸ way 8 ▸ Again Predicate levels ▸ one CLOSE ∣ simple_unit

-- conj := unit {AND unit}
abbrev pub conj : ℕ → Gram
conj levels = unit levels ▸ Many (one AND ▸ unit levels)

-- pred := conj {OR conj}
abbrev pub pred : ℕ → Gram
pred levels = conj levels ▸ Many (one OR ▸ conj levels)

-- ---- queries

-- item := expr | COUNT ( * ) | COUNT ( name ) | SUM ( name ) | MIN ( name ) | MAX ( name )
abbrev pub item : ℕ → Gram
item levels = expr levels ▸ way 0
    ∣ placed COUNT ▸ brackets (one STAR) ▸ way 4
    ∣ placed COUNT ▸ brackets name ▸ way 5
    ∣ placed SUM ▸ brackets name ▸ way 6
    ∣ placed MIN ▸ brackets name ▸ way 7
    ∣ placed MAX ▸ brackets name ▸ way 8

-- items := * | item {, item}
abbrev pub items : ℕ → Gram
items levels = placed STAR ▸ way 0 ∣ listed (item levels) ▸ way 1

-- key := (name | number) [ASC | DESC]
abbrev pub key : Gram
key = (name ▸ way 0 ∣ number ▸ way 1) ▸ (one ASC ▸ way 0 ∣ one DESC ▸ way 1 ∣ way 0)

abbrev pub either_timestamp : Gram
either_timestamp = Tok TIMESTAMP (λ k. k == TIMESTAMP_NTZ)

-- one to three numbers with `*` between them
abbrev pub product : Gram
product = short_number ▸ (Note (λ done. Way 1 ∷ []) ▸ one STAR ▸ short_number ▸ (Note (λ done. Way 1 ∷ []) ▸ one STAR ▸ short_number ▸ way 0 ∣ way 0) ∣ way 0)

-- moment := TIMESTAMP => quoted [:: (TIMESTAMP | TIMESTAMP_NTZ)]
--         | OFFSET => [-] number {* number} | STATEMENT => quoted
abbrev pub moment : Gram
moment = one TIMESTAMP ▸ one ARROW ▸ quoted_moment ▸ (one DOUBLE_COLON ▸ either_timestamp ▸ way 0 ∣ way 0)
    ∣ one OFFSET ▸ one ARROW ▸ maybe (one MINUS) ▸ product ▸ way 1
    ∣ one STATEMENT ▸ one ARROW ▸ quoted ▸ way 2

-- clause := (AT | BEFORE) ( moment )
abbrev pub clause : Gram
clause = (one AT ▸ way 1 ∣ one BEFORE ▸ way 2) ▸ brackets moment

-- that no more parts follow, as at the end of a list
abbrev pub no_more : Gram
no_more = way 0

-- What stands behind a query's table. Further tables will stand behind the clause; there are none yet.
abbrev pub query_end : ℕ → Gram
query_end levels = maybe clause
    ▸ no_more
    ▸ maybe (one WHERE ▸ pred levels)
    ▸ maybe (one GROUP ▸ one BY ▸ listed name)
    ▸ maybe (one ORDER ▸ one BY ▸ listed key)
    ▸ maybe (one LIMIT ▸ number)

-- query := SELECT items FROM name [clause] [WHERE pred] [GROUP BY name {, name}]
--          [ORDER BY key {, key}] [LIMIT number]
abbrev pub query : ℕ → Gram
query levels = placed SELECT ▸ items levels ▸ one FROM ▸ name ▸ query_end levels

-- ---- changes

-- tuple := ( literal {, literal} )
abbrev pub tuple : Gram
tuple = placed OPEN ▸ listed literal ▸ one CLOSE

-- insert := INSERT INTO name [( name {, name} )] (VALUES tuple {, tuple} | query)
abbrev pub insert : ℕ → Gram
insert levels = one INSERT ▸ one INTO ▸ name ▸ maybe (brackets (listed name)) ▸ (one VALUES ▸ listed tuple ▸ way 0 ∣ query levels ▸ way 1)

abbrev pub set : ℕ → Gram
set levels = name ▸ one EQUAL ▸ expr levels

-- update := UPDATE name SET name = expr {, name = expr} [WHERE pred]
abbrev pub update : ℕ → Gram
update levels = one UPDATE ▸ name ▸ one SET ▸ listed (set levels) ▸ maybe (one WHERE ▸ pred levels)

-- delete := DELETE FROM name [WHERE pred]
abbrev pub delete : ℕ → Gram
delete levels = one DELETE ▸ one FROM ▸ name ▸ maybe (one WHERE ▸ pred levels)

-- copy := COPY INTO name FROM quoted
abbrev pub copy : Gram
copy = one COPY ▸ one INTO ▸ name ▸ one FROM ▸ quoted

-- ---- tables

-- kind := INT | INTEGER | BIGINT | DATE | VARCHAR | STRING | TEXT
abbrev pub kind : Gram
kind = Tok INT (λ k. k == INTEGER || k == BIGINT) ▸ way 0 ∣ one DATE ▸ way 1 ∣ Tok VARCHAR (λ k. k == STRING || k == TEXT) ▸ way 2

-- column := name kind [NOT NULL]
abbrev pub column : Gram
column = name ▸ kind ▸ maybe (one NOT ▸ one NULL)

abbrev pub cluster_by : Gram
cluster_by = one CLUSTER ▸ one BY ▸ brackets name

abbrev pub retention : Gram
retention = one DATA_RETENTION_TIME_IN_DAYS ▸ one EQUAL ▸ number

-- where the number stands in front of the name, the name is noted first all the same
abbrev pub name_and_number : List Lexeme → List Mark
name_and_number (shut ∷ t ∷ open_ ∷ by ∷ cluster ∷ n ∷ done) = as_text (t ∷ []) ++ (Way 1 ∷ (as_number (n ∷ []) ++ Way 1 ∷ []))
name_and_number done = []

abbrev pub only_number : List Lexeme → List Mark
only_number done = Way 0 ∷ (as_number done ++ Way 1 ∷ [])

-- option := CLUSTER BY ( name ) | DATA_RETENTION_TIME_IN_DAYS = number
-- Each stands at most once, in either order.
abbrev pub options : Gram
options = cluster_by ▸ way 1 ▸ maybe retention
    ∣ one DATA_RETENTION_TIME_IN_DAYS ▸ one EQUAL ▸ Tok SHORT_NUMBER is_number
    ▸ (one CLUSTER ▸ one BY ▸ one OPEN ▸ Tok NAME is_name ▸ one CLOSE ▸ Note name_and_number ∣ Note only_number)
    ∣ way 0 ▸ way 0

-- CREATE [OR REPLACE] [TRANSIENT] TABLE name
abbrev pub create_front : Gram
create_front = one CREATE ▸ maybe (one OR ▸ one REPLACE) ▸ maybe (one TRANSIENT) ▸ one TABLE ▸ name

-- create := CREATE [OR REPLACE] [TRANSIENT] TABLE name ( column {, column} ) {option}
abbrev pub create : Gram
create = create_front ▸ brackets (listed column) ▸ options

-- clone := CREATE [OR REPLACE] [TRANSIENT] TABLE name CLONE name [clause]
abbrev pub clone : Gram
clone = create_front ▸ one CLONE ▸ name ▸ maybe clause

-- change := RENAME TO name | SWAP WITH name | SET DATA_RETENTION_TIME_IN_DAYS = number
--         | CLUSTER BY ( name ) | DROP CLUSTERING KEY | SUSPEND RECLUSTER | RESUME RECLUSTER
abbrev pub change : Gram
change = one RENAME ▸ one TO ▸ name ▸ way 0
    ∣ one SWAP ▸ one WITH ▸ name ▸ way 1
    ∣ one SET ▸ retention ▸ way 2
    ∣ cluster_by ▸ way 3
    ∣ one DROP ▸ one CLUSTERING ▸ one KEY ▸ way 4
    ∣ one SUSPEND ▸ one RECLUSTER ▸ way 5
    ∣ one RESUME ▸ one RECLUSTER ▸ way 6

-- drop := DROP TABLE name
abbrev pub drop_table : Gram
drop_table = one DROP ▸ one TABLE ▸ name

-- undrop := UNDROP TABLE name
abbrev pub undrop : Gram
undrop = one UNDROP ▸ one TABLE ▸ name

-- a word that may be left out and says nothing
abbrev pub spare : Gram → Gram
spare g = g ∣ Note (λ done. [])

-- truncate := TRUNCATE [TABLE] name
abbrev pub truncate : Gram
truncate = one TRUNCATE ▸ spare (one TABLE) ▸ name

-- alter := ALTER TABLE name change
abbrev pub alter : Gram
alter = one ALTER ▸ one TABLE ▸ name ▸ change

-- ---- other statements

-- begin := BEGIN [WORK | TRANSACTION] | START TRANSACTION
abbrev pub begin : Gram
begin = one BEGIN ▸ spare (Tok WORK (λ k. k == TRANSACTION)) ∣ one START ▸ one TRANSACTION

-- commit := COMMIT [WORK]
abbrev pub commit : Gram
commit = one COMMIT ▸ spare (one WORK)

-- rollback := ROLLBACK [WORK]
abbrev pub rollback : Gram
rollback = one ROLLBACK ▸ spare (one WORK)

-- wait := CALL SYSTEM$WAIT ( number [, quoted] )
abbrev pub wait : Gram
wait = one CALL ▸ one SYSTEM_WAIT ▸ one OPEN ▸ short_number ▸ (one COMMA ▸ one UNIT_TEXT ▸ Note as_unit ∣ way 3) ▸ one CLOSE

-- explain := EXPLAIN query
abbrev pub explain : ℕ → Gram
explain levels = one EXPLAIN ▸ query levels

-- show := SHOW TABLES [HISTORY]
abbrev pub show : Gram
show = one SHOW ▸ one TABLES ▸ maybe (one HISTORY)

-- metrics := SELECT * FROM INFORMATION_SCHEMA . TABLE_STORAGE_METRICS
abbrev pub metrics : Gram
metrics = one SELECT ▸ one STAR ▸ one FROM ▸ one INFORMATION_SCHEMA ▸ one DOT ▸ one TABLE_STORAGE_METRICS

-- depth := SELECT SYSTEM$CLUSTERING_DEPTH ( quoted )
abbrev pub depth : Gram
depth = one SELECT ▸ one SYSTEM_CLUSTERING_DEPTH ▸ brackets quoted_name

-- ---- statements

-- statement := query | insert | update | delete | copy | create | clone | drop | undrop | truncate
--            | alter | begin | commit | rollback | wait | explain | show | metrics | depth
abbrev pub statement : ℕ → Gram
statement levels = query levels ▸ way 0
    ∣ insert levels ▸ way 1
    ∣ update levels ▸ way 2
    ∣ delete levels ▸ way 3
    ∣ copy ▸ way 4
    ∣ create ▸ way 5
    ∣ clone ▸ way 6
    ∣ drop_table ▸ way 7
    ∣ undrop ▸ way 8
    ∣ truncate ▸ way 9
    ∣ alter ▸ way 10
    ∣ begin ▸ way 11
    ∣ commit ▸ way 12
    ∣ rollback ▸ way 13
    ∣ wait ▸ way 14
    ∣ explain levels ▸ way 15
    ∣ show ▸ way 16
    ∣ metrics ▸ way 17
    ∣ depth ▸ way 18

-- ---- the productions

abbrev pub written_rule : Rule → ℕ → Gram
written_rule Expr levels = expr levels
written_rule Negated levels = negated levels
written_rule Predicate levels = pred levels
written_rule Unit levels = unit levels
