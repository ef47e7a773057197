-- Small parts of which the grammar of statements consists, and what they note.
use Rattle.std.specs.Prelude.{ℕ, Bool, ◌==◌, List, [], ◌∷◌, pos, neg_ℤ, ℤ, Option, Some, None}
use Rattle.tt_value.specs.calendar.Reading.{digits_value, timestamp_of}
use Rattle.tt_sql.specs.grammar.Grammar.{Lexeme, Mark, Way, At, Said, Meant, Gram, Tok, Note, Both, Either, Many, nowhere}
use Rattle.tt_sql.specs.grammar.TokenKinds.{NAME, SHORT_NUMBER, TIME_TEXT, UNIT_TEXT, NAME_TEXT, OTHER_TEXT, OPEN, CLOSE, COMMA, is_name, is_number, is_quoted, upper, unit_words, place_in}

-- one after the other, and one of two
infixr 40 ◌▸◌
abbrev pub ◌▸◌ : Gram → Gram → Gram
g ▸ h = Both g h

infixr 30 ◌∣◌
abbrev pub ◌∣◌ : Gram → Gram → Gram
g ∣ h = Either g h

-- ---- notes

abbrev pub way : ℕ → Gram
way n = Note (λ done. Way n ∷ [])

-- the place of the last token
abbrev pub as_place : List Lexeme → List Mark
as_place [] = []
as_place (t ∷ done) = At t.place ∷ []

abbrev pub as_text : List Lexeme → List Mark
as_text [] = []
as_text (t ∷ done) = Said t.text t.place ∷ []

abbrev pub as_number : List Lexeme → List Mark
as_number [] = []
as_number (t ∷ done) = Meant (pos (digits_value t.text)) t.place ∷ []

-- a minus and a number, which begin at the minus
abbrev pub as_negative : List Lexeme → List Mark
as_negative (t ∷ minus ∷ done) = Meant (neg_ℤ (pos (digits_value t.text))) minus.place ∷ []
as_negative done = []

-- the word DATE and its text, which begin at the word
abbrev pub as_date : List Lexeme → List Mark
as_date (t ∷ word ∷ done) = Said t.text word.place ∷ []
as_date done = []

-- a moment, which has no place
abbrev pub moment_mark : Option ℤ → List Mark
moment_mark None = []
moment_mark (Some moment) = Meant moment 0 ∷ []

abbrev pub as_moment : List Lexeme → List Mark
as_moment [] = []
as_moment (t ∷ done) = moment_mark (timestamp_of t.text)

abbrev pub as_unit : List Lexeme → List Mark
as_unit [] = []
as_unit (t ∷ done) = Way (place_in unit_words (upper t.text)) ∷ []

-- a name in a quoted text
abbrev pub as_quoted_name : List Lexeme → List Mark
as_quoted_name [] = []
as_quoted_name (t ∷ done) = Said (upper t.text) t.place ∷ []

-- ---- parts

-- a fixed word or sign
abbrev pub one : ℕ → Gram
one kind = Tok kind nowhere

-- a fixed word or sign, and its place
abbrev pub placed : ℕ → Gram
placed kind = one kind ▸ Note as_place

abbrev pub is_unit_text : ℕ → Bool
is_unit_text k = k == UNIT_TEXT

abbrev pub name : Gram
name = Tok NAME is_name ▸ Note as_text

abbrev pub number : Gram
number = Tok SHORT_NUMBER is_number ▸ Note as_number

abbrev pub short_number : Gram
short_number = one SHORT_NUMBER ▸ Note as_number

abbrev pub quoted : Gram
quoted = Tok OTHER_TEXT is_quoted ▸ Note as_text

abbrev pub quoted_name : Gram
quoted_name = Tok NAME_TEXT is_unit_text ▸ Note as_quoted_name

abbrev pub quoted_moment : Gram
quoted_moment = one TIME_TEXT ▸ Note as_moment

-- whether it stands there is noted behind it
abbrev pub maybe : Gram → Gram
maybe g = g ▸ way 1 ∣ way 0

abbrev pub brackets : Gram → Gram
brackets g = one OPEN ▸ g ▸ one CLOSE

abbrev pub listed : Gram → Gram
listed g = g ▸ Many (one COMMA ▸ g)
