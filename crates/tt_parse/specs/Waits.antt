-- The unit of a wait.
use Rattle.tt_sql.specs.grammar.Grammar.{Gram, Note}
use Rattle.tt_sql.specs.grammar.Combinators.{◌▸◌, ◌∣◌, as_unit, one, way}
use Rattle.tt_sql.specs.grammar.TokenKinds.{COMMA, UNIT_TEXT}

abbrev pub time_unit : Gram
time_unit = one UNIT_TEXT ▸ Note as_unit

-- behind a comma, and else seconds are meant
abbrev pub time_unit_or_seconds : Gram
time_unit_or_seconds = one COMMA ▸ time_unit ∣ way 3
