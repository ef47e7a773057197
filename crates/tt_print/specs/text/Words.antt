-- The words of names, numbers, texts and literals. A word is the text of one token, as a list of bytes.
use Rattle.std.specs.Prelude.{◌≡◌, ℕ, suc, Bool, true, false, ◌&&◌, if◌then◌else◌, List, [], ◌∷◌, ◌++◌, Option, Some, None, codes, ℤ, pos, negsuc, neg_ℤ, int_le}
use Rattle.std.specs.Global.{Vec}
use Rattle.std.specs.Fmt.{decimal}
use Rattle.std.specs.List.{flat_map}
use Rattle.tt_value.specs.calendar.Calendar.{day_text}
use Rattle.tt_value.specs.values.RowText.{quotes_doubled}
use Rattle.tt_value.specs.declared.value.Value.{Value}
use Rattle.tt_value.specs.declared.value.Value.TheVariants.{Null, Int, Date, Text}
use Rattle.tt_value.specs.declared.name.Name.{Name}
use Rattle.tt_value.specs.declared.name.ColumnName.{ColumnName}
use Rattle.tt_value.specs.declared.name.TableName.{TableName}
use Rattle.tt_value.specs.declared.name.Literal.{Literal}
use Rattle.tt_value.specs.declared.name.Quoted.{Quoted}
use Rattle.tt_value.specs.declared.name.Number.{Number}

-- ---- words one behind another

-- the words of a part of a statement
abbrev pub Words : Type 0
Words = List (List ℕ)

-- a blank, which is byte 32, in front of each word
unfoldable pub spaced : Words → List ℕ
spaced words = flat_map (λ word. 32 ∷ word) words

-- bytes were added behind what stood there
abbrev pub Adds : Vec ℕ → Vec ℕ → List ℕ → Type 0
Adds old new bytes = new.items ≡ old.items ++ bytes

-- words were written behind what stood there, each with a blank in front
abbrev pub Writes : Vec ℕ → Vec ℕ → Words → Type 0
Writes old new words = Adds old new (spaced words)

-- the words of several things, with a word between any two
abbrev pub separated : List ℕ → List Words → Words
separated between [] = []
separated between (first ∷ others) = first ++ flat_map (λ words. between ∷ words) others

-- the words of several things, with a comma between any two
abbrev pub listed : List Words → Words
listed things = separated (codes ",") things

-- a word where it is written, or nothing
abbrev pub word_if : Bool → List ℕ → Words
word_if true word = word ∷ []
word_if false word = []

-- the words of what is there, or nothing
abbrev pub words_if : {T : Type 0} → (T → Words) → Option T → Words
words_if words None = []
words_if words (Some thing) = words thing

-- ---- names

-- a name stands in the text as it is
abbrev pub name_words : Name → Words
name_words name = name.text ∷ []

-- the name that stands in front of another, and a point
abbrev pub front_words : Name → Words
front_words front = name_words front ++ (codes "." ∷ [])

abbrev pub column_name_words : ColumnName → Words
column_name_words column = words_if front_words column.table ++ name_words column.name

abbrev pub table_name_words : TableName → Words
table_name_words table = words_if front_words table.schema ++ name_words table.name

-- ---- texts, numbers and literals

-- a text in quotes, each quote within it doubled
abbrev pub quoted : List ℕ → List ℕ
quoted bytes = 39 ∷ (quotes_doubled bytes ++ (39 ∷ []))

abbrev pub quoted_words : Quoted → Words
quoted_words text = quoted text.text ∷ []

abbrev pub number_words : Number → Words
number_words number = decimal number.value ∷ []

-- a number below 0 is a minus and a number
abbrev pub int_words : ℤ → Words
int_words (pos n) = decimal n ∷ []
int_words (negsuc n) = codes "-" ∷ decimal (suc n) ∷ []

-- the days of the years 1 to 9999
abbrev pub is_day : ℤ → Bool
is_day day = int_le (neg_ℤ (pos 719162)) day && int_le day (pos 2932896)

-- `YYYY-MM-DD`. A day of no such year stands in no statement, and has an empty text, which is no date.
abbrev pub date_bytes : ℤ → List ℕ
date_bytes day = if is_day day then day_text day else []

abbrev pub day_word : ℤ → List ℕ
day_word day = 39 ∷ (date_bytes day ++ (39 ∷ []))

abbrev pub value_words : Value → Words
value_words Null = codes "NULL" ∷ []
value_words (Int n) = int_words n
value_words (Date day) = codes "DATE" ∷ day_word day ∷ []
value_words (Text bytes) = quoted bytes ∷ []

abbrev pub literal_words : Literal → Words
literal_words literal = value_words literal.value
