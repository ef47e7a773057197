-- Tokens of examples are of the kinds that there are.
use Rattle.std.proofs.Common.{ℕ, ◌+◌, List, [], ◌∷◌, length}
use Rattle.tt_sql.specs.grammar.Examples.{Written, spaced}
use Rattle.tt_sql.specs.grammar.Lexemes.{AreKinds}
use Rattle.tt_sql.proofs.machine.Statements.{lexeme_known}
use Rattle.tt_sql.specs.grammar.TokenKinds.{kind_count}

pub spaced_known : (at : ℕ) (ws : List Written) → AreKinds kind_count (spaced at ws)
unfolding AreKinds
spaced_known at [] = tt
spaced_known at (w ∷ ws) = (lexeme_known w.kind w.bytes at, spaced_known (at + length w.bytes + 1) ws)
