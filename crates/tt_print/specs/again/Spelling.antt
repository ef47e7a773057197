-- How the words of a printed statement are spelled by the grammar.
use Rattle.std.specs.Prelude.{◌≡◌, ℕ, ◌+◌, false, List, [], ◌∷◌, ◌++◌, length, None, codes}
use Rattle.tt_value.specs.declared.name.Name.{Name}
use Rattle.tt_value.specs.declared.name.Quoted.{Quoted}
use Rattle.tt_value.specs.declared.name.TableName.{TableName}
use Rattle.tt_sql.specs.declared.change.Dml.TheVariants.{Copy as CopyRows}
use Rattle.tt_sql.specs.declared.table.Change.{Change}
use Rattle.tt_sql.specs.grammar.Grammar.{Lexeme, Mark, Way, Said, Gram, Spells}
use Rattle.tt_sql.specs.grammar.Statements.{IsStatement}
use Rattle.tt_sql.specs.grammar.Written.{written_rule}
use Rattle.tt_print.specs.places.Marks.{unplaced}
use Rattle.tt_print.specs.text.Words.{Words}
use Rattle.tt_sql.specs.declared.statement.Statement.{Statement}
use Rattle.tt_sql.specs.declared.statement.Statement.TheVariants.{Alter, Dml}
use Rattle.tt_print.specs.text.Statements.{statement_words}
use Rattle.tt_print.specs.again.Tokens.{AreTokens, lexemes_at}

-- the place behind words and a blank
abbrev pub place_behind : ℕ → Words → ℕ
place_behind at [] = at
place_behind at (word ∷ words) = place_behind (at + length word + 1) words

-- tokens behind others, the last one first
abbrev pub onto : List Lexeme → List Lexeme → List Lexeme
onto [] done = done
onto (t ∷ ts) done = onto ts (t ∷ done)

-- these words, the first of them at this place, spell this part and note these marks, whatever stands around them
pub record IsSpelledBy (g : Gram) (at : ℕ) (words : Words) (m : List Mark) : Type 0 where
  pub around : (done : List Lexeme) (K : List Gram) (n : List Mark) (ts : List Lexeme)
      → Spells written_rule false (onto (lexemes_at at words) done) K n ts → Spells written_rule false done (g ∷ K) (m ++ n) (lexemes_at at words ++ ts)

-- These words are tokens. Wherever they stand, they spell this part and note these marks, but for the places.
pub record IsReadAs (g : Gram) (words : Words) (m : List Mark) : Type 0 where
  pub tokens : AreTokens words
  pub notes : ℕ → List Mark
  pub alike : (at : ℕ) → unplaced (notes at) ≡ unplaced m
  pub spelled : (at : ℕ) → IsSpelledBy g at words (notes at)

-- a table's name with no other in front, as the grammar has it
abbrev pub plain : Name → TableName
plain name = record { schema = None; name = name }

-- the tokens of a printed statement, as the grammar sees them
abbrev pub printed_lexemes : Statement → List Lexeme
printed_lexemes statement = lexemes_at 0 (statement_words statement)

-- ---- what is printed

-- The words of these things, with at most so many levels, spell this part and note these marks again, but for the places.
abbrev pub AreReadAs : {T : Type 0} → (ℕ → T → Type 0) → (ℕ → Gram) → (T → Words) → (T → List Mark) → Type 0
AreReadAs {T = T} IsWritten part words marks =
    (levels : ℕ) (x : T) → IsWritten levels x → IsReadAs (part levels) (words x) (marks x)

-- the printed tokens are a statement again, which notes these marks
abbrev pub PrintNotes : Statement → List Mark → Type 0
PrintNotes statement m = (levels : ℕ) → IsStatement levels m (printed_lexemes statement)

-- the same of ALTER TABLE with a change that notes these marks
abbrev pub AlterNotes : Name → Change → List Mark → Type 0
AlterNotes table change m =
    PrintNotes (Alter (record { table = plain table; change = change })) (Said table.text 12 ∷ (m ++ Way 10 ∷ []))

-- the place behind ALTER TABLE, a name and further words
abbrev pub place_in_alter : Name → Words → ℕ
place_in_alter table words = place_behind 0 (codes "ALTER" ∷ codes "TABLE" ∷ table.text ∷ words)

-- COPY INTO a table FROM a file, and the place of the file's name
abbrev pub copy_rows : Name → Quoted → Statement
copy_rows table file = Dml (CopyRows (record { table = plain table; file = file }))

abbrev pub file_place : Name → ℕ
file_place table = place_behind 0 (codes "COPY" ∷ codes "INTO" ∷ table.text ∷ codes "FROM" ∷ [])
