-- Tables of words with their kinds, and the words for units of time.
use Rattle.std.specs.Prelude.{◌≡◌, ℕ, ◌<◌, Bool, true, false, Option, MatchOption, List, length, map, get_or, bytes_eq}
use Rattle.std.specs.List.{list_any}
use Rattle.std.specs.Borrow.{Bor}
use Rattle.tt_sql.specs.grammar.TokenKinds.{place_in, unit_words, upper}
use Rattle.tt_sql.specs.marks.Statements.{unit_number}
use Rattle.tt_sql.specs.declared.statement.TimeUnit.{TimeUnit}
use Rattle.tt_terminal.specs.declared.kind.LexemeKind.{LexemeKind}
use Rattle.tt_terminal.specs.KindNumbers.{kind_number}

abbrev pub Entry : Type 0
Entry = Bor (List ℕ) × LexemeKind

abbrev pub words_of : List Entry → List (List ℕ)
words_of table = map (λ e. e.0.now) table

abbrev pub is_upper : List ℕ → Bool
is_upper word = bytes_eq (upper word) word

-- this kind stands in the table at this place
pub record Stands (table : List Entry) (place : ℕ) (kind : LexemeKind) : Type 0 where
  pub within : place < length table
  pub number_is : kind_number kind ≡ get_or (map (λ e. kind_number e.1) table) place 0

-- the kind that stands with this word, in any case, or the word is not in the table
abbrev pub StandsOrNot : List Entry → List ℕ → Option LexemeKind → Type 0
StandsOrNot table word found =
    MatchOption found (place_in (words_of table) (upper word) ≡ length table)
    (Stands table (place_in (words_of table) (upper word)))

-- the word names this unit of time
pub record IsUnit (word : List ℕ) (unit : TimeUnit) : Type 0 where
  pub named : list_any (bytes_eq (upper word)) unit_words ≡ true
  pub place_is : unit_number unit ≡ place_in unit_words (upper word)

-- or it names none
abbrev pub IsUnitOrNone : List ℕ → Option TimeUnit → Type 0
IsUnitOrNone word found = MatchOption found (list_any (bytes_eq (upper word)) unit_words ≡ false) (IsUnit word)
