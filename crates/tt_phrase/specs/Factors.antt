-- The parts of a factor as they are read.
use Rattle.std.specs.Prelude.{◌≡◌, ℕ, ℤ, false, ◌==◌, ◌⊎◌, [], ◌∷◌, Option, MatchOption}
use Rattle.tt_value.specs.declared.expression.Factor.{Factor}
use Rattle.tt_value.specs.declared.name.Literal.{Literal}
use Rattle.tt_value.specs.calendar.Calendar.{day_text}
use Rattle.tt_value.specs.values.RowText.{IsPrintableValue}
use Rattle.tt_sql.specs.grammar.Grammar.{Gram, Way, Said, Deep, Note, Again, Expr, Negated, is_of, nowhere}
use Rattle.tt_sql.specs.grammar.TokenKinds.{NULL, DATE, DATE_TEXT, NAME, OTHER_TEXT, OPEN, CLOSE, MINUS, is_name, is_quoted}
use Rattle.tt_sql.specs.grammar.Combinators.{◌▸◌, ◌∣◌, way, as_place, one, placed, quoted}
use Rattle.tt_sql.specs.grammar.Written.{begins_other}
use Rattle.tt_sql.specs.machine.Factored.{negative, date_factor, plain_name, or_date, read_factor, read_factors}
use Rattle.tt_sql.specs.marks.Expressions.{literal_marks, factor_marks}
use Rattle.tt_terminal.specs.declared.rest.Rest.{Rest}
use Rattle.tt_terminal.specs.Reading.{IsPlaced, IsDayText, IsWord, Passes, first_kind}

-- one value or one name, or what else a factor may be
abbrev pub simple_with : Gram → Gram
simple_with tail = placed NULL ▸ way 0 ▸ way 0 ∣ quoted ▸ way 2 ▸ way 0 ∣ date_factor ∣ plain_name (or_date nowhere) ▸ way 1 ∣ tail

-- brackets and a minus, where a level is left or none
abbrev pub nested : ℕ → Gram
nested levels = placed OPEN ▸ Again Expr levels ▸ one CLOSE ▸ way 2
    ∣ one MINUS ▸ (negative ▸ way 1 ▸ way 0 ∣ Note as_place ▸ Again Negated levels ▸ way 3)

abbrev pub last_minus : Gram
last_minus = one MINUS ▸ (negative ▸ way 1 ▸ way 0 ∣ Deep begins_other)

-- the word DATE and a text that is this date
pub record IsDate (r : Rest) (literal : Literal) (rest : Rest) : Type 0 where
  pub place : ℕ
  pub text : Rest
  pub day : ℤ
  pub word : IsPlaced DATE r place text
  pub day_is : IsDayText text day rest
  pub marks : literal_marks literal ≡ Said (day_text day) place ∷ Way 3 ∷ []
  pub given : IsPrintableValue literal.value

-- no such word, or no such text behind it
abbrev pub IsNoDate : Rest → Type 0
IsNoDate r = ((first_kind r == DATE) ≡ false) ⊎ ((text : Rest) × IsWord DATE r text × ((first_kind text == DATE_TEXT) ≡ false))

pub record IsNoSimple (r : Rest) : Type 0 where
  pub null : (first_kind r == NULL) ≡ false
  pub quoted_text : is_of OTHER_TEXT is_quoted (first_kind r) ≡ false
  pub name : is_of NAME is_name (first_kind r) ≡ false

-- one value or one name lies between, whatever else a factor may be, or none stands here
abbrev pub IsSimpleOrNone : Rest → Option (Factor × Rest) → Type 0
IsSimpleOrNone r found =
    MatchOption found (IsNoSimple r) (λ x. (tail : Gram) → Passes [] (simple_with tail) r (factor_marks x.0) x.1)

abbrev pub whole_term : ℕ → Gram
whole_term levels = read_factor nowhere levels ▸ read_factors levels
