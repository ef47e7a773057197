-- The kinds of tokens. A kind is a number: reserved words come first, then the other words of the language, which
-- are names too, then names, numbers, quoted texts and signs. What is out of range, or is no date where a date has
-- to stand, has a kind of its own, so that the grammar can leave it out.
use Rattle.std.specs.Prelude.{ℕ, ◌+◌, ◌-◌, ◌^◌, Bool, true, false, ◌&&◌, ◌||◌, ◌==◌, nat_le, nat_lt, if◌then◌else◌, List, [], ◌∷◌, ◌++◌, map, length, take, drop, codes, bytes_eq, is_some}
use Rattle.std.specs.List.{list_all, list_any}
use Rattle.std.specs.Char.{is_ascii_digit, to_ascii_uppercase}
use Rattle.tt_lex.specs.declared.Token.{Token}
use Rattle.tt_lex.specs.declared.TokenKind.{TokenKind}
use Rattle.tt_lex.specs.declared.TokenKind.TheVariants as kinds
use Rattle.tt_lex.specs.Lexis.{is_word_start, is_word_part, is_quote, text_of}
use Rattle.tt_value.specs.calendar.Reading.{digits_value, day_of, timestamp_of}
use Rattle.tt_sql.specs.grammar.Grammar.{Lexeme}

-- ---- the words

abbrev pub reserved_words : List (List ℕ)
reserved_words =
    codes "SELECT" ∷ codes "FROM" ∷ codes "WHERE" ∷ codes "GROUP" ∷ codes "BY" ∷ codes "ORDER" ∷
    codes "LIMIT" ∷ codes "AND" ∷ codes "OR" ∷ codes "NOT" ∷ codes "IN" ∷ codes "IS" ∷ codes "NULL" ∷
    codes "BETWEEN" ∷ codes "AT" ∷ codes "BEFORE" ∷ codes "INSERT" ∷ codes "INTO" ∷ codes "VALUES" ∷
    codes "UPDATE" ∷ codes "SET" ∷ codes "DELETE" ∷ codes "CREATE" ∷ codes "TABLE" ∷ codes "DROP" ∷
    codes "ALTER" ∷ codes "COPY" ∷ codes "CLONE" ∷ codes "SWAP" ∷ codes "WITH" ∷ codes "INNER" ∷ codes "JOIN" ∷
    codes "ON" ∷ codes "AS" ∷ []

-- words that are names too
abbrev pub other_words : List (List ℕ)
other_words =
    codes "COUNT" ∷ codes "SUM" ∷ codes "MIN" ∷ codes "MAX" ∷ codes "STARTSWITH" ∷ codes "DATE" ∷ codes "ASC" ∷
    codes "DESC" ∷ codes "TIMESTAMP" ∷ codes "TIMESTAMP_NTZ" ∷ codes "OFFSET" ∷ codes "STATEMENT" ∷
    codes "REPLACE" ∷ codes "TRANSIENT" ∷ codes "INT" ∷ codes "INTEGER" ∷ codes "BIGINT" ∷ codes "VARCHAR" ∷
    codes "STRING" ∷ codes "TEXT" ∷ codes "CLUSTER" ∷ codes "DATA_RETENTION_TIME_IN_DAYS" ∷ codes "UNDROP" ∷
    codes "TRUNCATE" ∷ codes "RENAME" ∷ codes "TO" ∷ codes "CLUSTERING" ∷ codes "KEY" ∷ codes "SUSPEND" ∷
    codes "RECLUSTER" ∷ codes "RESUME" ∷ codes "BEGIN" ∷ codes "WORK" ∷ codes "TRANSACTION" ∷ codes "START" ∷
    codes "COMMIT" ∷ codes "ROLLBACK" ∷ codes "CALL" ∷ codes "SYSTEM$WAIT" ∷ codes "EXPLAIN" ∷ codes "SHOW" ∷
    codes "TABLES" ∷ codes "HISTORY" ∷ codes "INFORMATION_SCHEMA" ∷ codes "TABLE_STORAGE_METRICS" ∷
    codes "SYSTEM$CLUSTERING_DEPTH" ∷ []

-- ---- the kinds

abbrev pub SELECT : ℕ
SELECT = 0

abbrev pub FROM : ℕ
FROM = 1

abbrev pub WHERE : ℕ
WHERE = 2

abbrev pub GROUP : ℕ
GROUP = 3

abbrev pub BY : ℕ
BY = 4

abbrev pub ORDER : ℕ
ORDER = 5

abbrev pub LIMIT : ℕ
LIMIT = 6

abbrev pub AND : ℕ
AND = 7

abbrev pub OR : ℕ
OR = 8

abbrev pub NOT : ℕ
NOT = 9

abbrev pub IN : ℕ
IN = 10

abbrev pub IS : ℕ
IS = 11

abbrev pub NULL : ℕ
NULL = 12

abbrev pub BETWEEN : ℕ
BETWEEN = 13

abbrev pub AT : ℕ
AT = 14

abbrev pub BEFORE : ℕ
BEFORE = 15

abbrev pub INSERT : ℕ
INSERT = 16

abbrev pub INTO : ℕ
INTO = 17

abbrev pub VALUES : ℕ
VALUES = 18

abbrev pub UPDATE : ℕ
UPDATE = 19

abbrev pub SET : ℕ
SET = 20

abbrev pub DELETE : ℕ
DELETE = 21

abbrev pub CREATE : ℕ
CREATE = 22

abbrev pub TABLE : ℕ
TABLE = 23

abbrev pub DROP : ℕ
DROP = 24

abbrev pub ALTER : ℕ
ALTER = 25

abbrev pub COPY : ℕ
COPY = 26

abbrev pub CLONE : ℕ
CLONE = 27

abbrev pub SWAP : ℕ
SWAP = 28

abbrev pub WITH : ℕ
WITH = 29

abbrev pub INNER : ℕ
INNER = 30

abbrev pub JOIN : ℕ
JOIN = 31

abbrev pub ON : ℕ
ON = 32

abbrev pub AS : ℕ
AS = 33

abbrev pub COUNT : ℕ
COUNT = 34

abbrev pub SUM : ℕ
SUM = 35

abbrev pub MIN : ℕ
MIN = 36

abbrev pub MAX : ℕ
MAX = 37

abbrev pub STARTSWITH : ℕ
STARTSWITH = 38

abbrev pub DATE : ℕ
DATE = 39

abbrev pub ASC : ℕ
ASC = 40

abbrev pub DESC : ℕ
DESC = 41

abbrev pub TIMESTAMP : ℕ
TIMESTAMP = 42

abbrev pub TIMESTAMP_NTZ : ℕ
TIMESTAMP_NTZ = 43

abbrev pub OFFSET : ℕ
OFFSET = 44

abbrev pub STATEMENT : ℕ
STATEMENT = 45

abbrev pub REPLACE : ℕ
REPLACE = 46

abbrev pub TRANSIENT : ℕ
TRANSIENT = 47

abbrev pub INT : ℕ
INT = 48

abbrev pub INTEGER : ℕ
INTEGER = 49

abbrev pub BIGINT : ℕ
BIGINT = 50

abbrev pub VARCHAR : ℕ
VARCHAR = 51

abbrev pub STRING : ℕ
STRING = 52

abbrev pub TEXT : ℕ
TEXT = 53

abbrev pub CLUSTER : ℕ
CLUSTER = 54

abbrev pub DATA_RETENTION_TIME_IN_DAYS : ℕ
DATA_RETENTION_TIME_IN_DAYS = 55

abbrev pub UNDROP : ℕ
UNDROP = 56

abbrev pub TRUNCATE : ℕ
TRUNCATE = 57

abbrev pub RENAME : ℕ
RENAME = 58

abbrev pub TO : ℕ
TO = 59

abbrev pub CLUSTERING : ℕ
CLUSTERING = 60

abbrev pub KEY : ℕ
KEY = 61

abbrev pub SUSPEND : ℕ
SUSPEND = 62

abbrev pub RECLUSTER : ℕ
RECLUSTER = 63

abbrev pub RESUME : ℕ
RESUME = 64

abbrev pub BEGIN : ℕ
BEGIN = 65

abbrev pub WORK : ℕ
WORK = 66

abbrev pub TRANSACTION : ℕ
TRANSACTION = 67

abbrev pub START : ℕ
START = 68

abbrev pub COMMIT : ℕ
COMMIT = 69

abbrev pub ROLLBACK : ℕ
ROLLBACK = 70

abbrev pub CALL : ℕ
CALL = 71

abbrev pub SYSTEM_WAIT : ℕ
SYSTEM_WAIT = 72

abbrev pub EXPLAIN : ℕ
EXPLAIN = 73

abbrev pub SHOW : ℕ
SHOW = 74

abbrev pub TABLES : ℕ
TABLES = 75

abbrev pub HISTORY : ℕ
HISTORY = 76

abbrev pub INFORMATION_SCHEMA : ℕ
INFORMATION_SCHEMA = 77

abbrev pub TABLE_STORAGE_METRICS : ℕ
TABLE_STORAGE_METRICS = 78

abbrev pub SYSTEM_CLUSTERING_DEPTH : ℕ
SYSTEM_CLUSTERING_DEPTH = 79

abbrev pub NAME : ℕ
NAME = 80

abbrev pub LONG_NAME : ℕ
LONG_NAME = 81

abbrev pub SHORT_NUMBER : ℕ
SHORT_NUMBER = 82

abbrev pub NUMBER : ℕ
NUMBER = 83

abbrev pub LEAST_NUMBER : ℕ
LEAST_NUMBER = 84

abbrev pub LARGE_NUMBER : ℕ
LARGE_NUMBER = 85

abbrev pub DATE_TEXT : ℕ
DATE_TEXT = 86

abbrev pub TIME_TEXT : ℕ
TIME_TEXT = 87

abbrev pub UNIT_TEXT : ℕ
UNIT_TEXT = 88

abbrev pub NAME_TEXT : ℕ
NAME_TEXT = 89

abbrev pub OTHER_TEXT : ℕ
OTHER_TEXT = 90

abbrev pub OPEN : ℕ
OPEN = 91

abbrev pub CLOSE : ℕ
CLOSE = 92

abbrev pub COMMA : ℕ
COMMA = 93

abbrev pub DOT : ℕ
DOT = 94

abbrev pub SEMICOLON : ℕ
SEMICOLON = 95

abbrev pub STAR : ℕ
STAR = 96

abbrev pub PLUS : ℕ
PLUS = 97

abbrev pub MINUS : ℕ
MINUS = 98

abbrev pub EQUAL : ℕ
EQUAL = 99

abbrev pub UNEQUAL : ℕ
UNEQUAL = 100

abbrev pub LESS : ℕ
LESS = 101

abbrev pub LESS_EQUAL : ℕ
LESS_EQUAL = 102

abbrev pub GREATER : ℕ
GREATER = 103

abbrev pub GREATER_EQUAL : ℕ
GREATER_EQUAL = 104

abbrev pub ARROW : ℕ
ARROW = 105

abbrev pub DOUBLE_COLON : ℕ
DOUBLE_COLON = 106

abbrev pub UNKNOWN : ℕ
UNKNOWN = 107

-- how many kinds there are
abbrev pub kind_count : ℕ
kind_count = 108

-- ---- sets of kinds

abbrev pub is_name : ℕ → Bool
is_name k = nat_le COUNT k && nat_le k NAME

abbrev pub is_number : ℕ → Bool
is_number k = k == SHORT_NUMBER || k == NUMBER

-- behind a minus
abbrev pub is_negative : ℕ → Bool
is_negative k = nat_le SHORT_NUMBER k && nat_le k LEAST_NUMBER

abbrev pub is_quoted : ℕ → Bool
is_quoted k = nat_le DATE_TEXT k && nat_le k OTHER_TEXT

-- ---- the kind of a word

abbrev pub place_in : List (List ℕ) → List ℕ → ℕ
place_in [] word = 0
place_in (first ∷ words) word = if bytes_eq first word then 0 else 1 + place_in words word

abbrev pub upper : List ℕ → List ℕ
upper word = map to_ascii_uppercase word

-- of a word in upper case; a name has at most 64 bytes
unfoldable pub word_kind : List ℕ → ℕ
word_kind word =
    let place = place_in (reserved_words ++ other_words) word in
    if nat_lt place NAME then place else (if nat_le (length word) 64 then NAME else LONG_NAME)

-- ---- the kind of a number

unfoldable pub number_kind : List ℕ → ℕ
number_kind digits =
    if nat_le (length digits) 9 then SHORT_NUMBER
    else (if nat_lt (digits_value digits) (2 ^ 63) then NUMBER
    else (if digits_value digits == 2 ^ 63 then LEAST_NUMBER else LARGE_NUMBER))

-- ---- the kind of a quoted text

-- the text between the quotes, in which a quote stands once
unfoldable pub undoubled : Bool → List ℕ → List ℕ
undoubled second [] = []
undoubled true (b ∷ bytes) = undoubled false bytes
undoubled false (b ∷ bytes) = b ∷ undoubled (is_quote b) bytes

abbrev pub unquoted : List ℕ → List ℕ
unquoted bytes = undoubled false (take (length bytes - 2) (drop 1 bytes))

abbrev pub unit_words : List (List ℕ)
unit_words = codes "DAYS" ∷ codes "HOURS" ∷ codes "MINUTES" ∷ codes "SECONDS" ∷ codes "MILLISECONDS" ∷ []

abbrev pub is_word : List ℕ → Bool
is_word [] = false
is_word (b ∷ bytes) = is_word_start b && list_all is_word_part bytes

unfoldable pub text_kind : List ℕ → ℕ
text_kind text =
    if is_some (day_of text) then DATE_TEXT
    else (if is_some (timestamp_of text) then TIME_TEXT
    else (if list_any (bytes_eq (upper text)) unit_words then UNIT_TEXT
    else (if is_word text && is_name (word_kind (upper text)) then NAME_TEXT else OTHER_TEXT)))

-- ---- the kind of a sign

abbrev pub signs : List (List ℕ)
signs =
    codes "(" ∷ codes ")" ∷ codes "," ∷ codes "." ∷ codes ";" ∷ codes "*" ∷ codes "+" ∷ codes "-" ∷ codes "=" ∷ codes "<>" ∷
    codes "<" ∷ codes "<=" ∷ codes ">" ∷ codes ">=" ∷ codes "=>" ∷ codes "::" ∷ []

unfoldable pub sign_kind : List ℕ → ℕ
sign_kind sign = if bytes_eq sign (codes "!=") then UNEQUAL else OPEN + place_in signs sign

-- ---- tokens of a text

-- the kind of a token, by its first byte
abbrev pub token_kind : List ℕ → TokenKind
token_kind [] = kinds.Sign
token_kind (b ∷ bytes) =
    if is_ascii_digit b then kinds.Number
    else (if is_word_start b then kinds.Word
    else (if is_quote b then kinds.Quoted else kinds.Sign))

-- a token of this kind, with these bytes; a name stands in upper case
abbrev pub lexeme : TokenKind → List ℕ → ℕ → Lexeme
lexeme kinds.Word bytes place = record { kind = word_kind (upper bytes); place = place; text = upper bytes }
lexeme kinds.Number bytes place = record { kind = number_kind bytes; place = place; text = bytes }
lexeme kinds.Quoted bytes place = record { kind = text_kind (unquoted bytes); place = place; text = unquoted bytes }
lexeme kinds.Sign bytes place = record { kind = sign_kind bytes; place = place; text = bytes }

abbrev pub lexeme_of : List ℕ → Token → Lexeme
lexeme_of text token = lexeme token.kind (text_of text token) token.start

-- the tokens of a text as the grammar sees them
abbrev pub lexemes : List ℕ → List Token → List Lexeme
lexemes text tokens = map (lexeme_of text) tokens
