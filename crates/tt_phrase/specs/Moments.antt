-- The parts of the moment at which a table is read.
use Rattle.std.specs.Prelude.{ℤ, List, [], ◌∷◌}
use Rattle.tt_sql.specs.grammar.Grammar.{Gram, Mark, Way, Meant}
use Rattle.tt_sql.specs.grammar.Combinators.{◌▸◌, ◌∣◌, maybe, one, way}
use Rattle.tt_sql.specs.grammar.TokenKinds.{DOUBLE_COLON, MINUS}
use Rattle.tt_sql.specs.grammar.Written.{either_timestamp, product}

-- a timestamp's instant, in milliseconds
abbrev pub instant_marks : ℤ → List Mark
instant_marks instant = Meant instant 0 ∷ []

-- the type that may be written behind a timestamp, which says nothing
abbrev pub written_type : Gram
written_type = one DOUBLE_COLON ▸ either_timestamp ▸ way 0 ∣ way 0

abbrev pub type_marks : List Mark
type_marks = Way 0 ∷ []

-- seconds from now
abbrev pub offset : Gram
offset = maybe (one MINUS) ▸ product ▸ way 1
