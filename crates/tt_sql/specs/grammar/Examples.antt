-- Tokens with one blank between them, for examples.
use Rattle.std.specs.Prelude.{ℕ, ◌+◌, ◌==◌, pos, if◌then◌else◌, List, [], ◌∷◌, ◌++◌, map, length, codes, replicate}
use Rattle.tt_lex.specs.declared.TokenKind.{TokenKind}
use Rattle.tt_sql.specs.grammar.Grammar.{Lexeme, Mark, Way, Said, Meant}
use Rattle.tt_sql.specs.grammar.TokenKinds.{lexeme, token_kind}
use Rattle.tt_sql.specs.grammar.Statements.{IsStatement, HasFaultAt}

pub record Written : Type 0 where
  pub kind : TokenKind
  pub bytes : List ℕ

-- a token of the kind that its first byte tells
abbrev pub written : List ℕ → Written
written bytes = record { kind = token_kind bytes; bytes = bytes }

-- a byte in front of tokens: a blank ends one
abbrev pub in_front : ℕ → List (List ℕ) → List (List ℕ)
in_front b [] = []
in_front b (first ∷ others) = if b == 32 then [] ∷ first ∷ others else (b ∷ first) ∷ others

abbrev pub parted : List ℕ → List (List ℕ)
parted [] = [] ∷ []
parted (b ∷ text) = in_front b (parted text)

-- the tokens of a text that has just one blank between any two
abbrev pub tokens : List ℕ → List Written
tokens text = map written (parted text)

-- `SELECT * FROM t WHERE` and so many opening brackets
abbrev pub deep : ℕ → List Written
deep brackets = tokens (codes "SELECT * FROM t WHERE") ++ replicate brackets (written (codes "("))

-- these tokens from a place on
abbrev pub spaced : ℕ → List Written → List Lexeme
spaced at [] = []
spaced at (w ∷ ws) = lexeme w.kind w.bytes at ∷ spaced (at + length w.bytes + 1) ws

-- these tokens are a statement, and note these marks
abbrev pub Notes : ℕ → List Written → List Mark → Type 0
Notes levels ws m = IsStatement levels m (spaced 0 ws)

-- these tokens have their fault here, in a text of this length
abbrev pub Faults : ℕ → List Written → ℕ → ℕ → Type 0
Faults levels ws end at = HasFaultAt levels end (spaced 0 ws) at

-- ---- what is noted

abbrev pub ways : List ℕ → List Mark
ways taken = map Way taken

-- `FROM t` with t at this place, and nothing behind it
abbrev pub from_t : ℕ → List Mark
from_t place = Said (codes "T") place ∷ ways (0 ∷ 0 ∷ 0 ∷ 0 ∷ 0 ∷ 0 ∷ 0 ∷ [])

-- behind a name or a number that is all of a selected item, and the last one
abbrev pub column_item : List Mark
column_item = ways (1 ∷ 0 ∷ 0 ∷ 0 ∷ 0 ∷ 1 ∷ [])

abbrev pub number_item : List Mark
number_item = ways (1 ∷ 0 ∷ 0 ∷ 0 ∷ 0 ∷ 0 ∷ 1 ∷ [])

-- that a column is equal to a number, each with its place
abbrev pub equals : List ℕ → ℕ → ℕ → ℕ → List Mark
equals column place n at = Said column place ∷ Way 0 ∷ Way 0 ∷ Meant (pos n) at ∷ ways (1 ∷ 1 ∷ 2 ∷ [])
