-- A part that was read, and the answer of the reader behind it.
use Rattle.std.specs.Prelude.{Result, Ok, Err}
use Rattle.tt_terminal.specs.declared.error.ParseError.{ParseError}
use Rattle.tt_terminal.specs.declared.rest.Rest.{Rest}

-- the answer, with this part in front
abbrev pub with_first : {A B : Type 0} → A → Result (B × Rest) ParseError → Result (A × B × Rest) ParseError
with_first a (Ok x) = Ok (a, x.0, x.1)
with_first a (Err e) = Err e
