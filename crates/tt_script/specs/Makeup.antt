-- What pieces say of the bytes that they spell.
use Rattle.std.specs.Prelude.{◌≡◌, List}
use Rattle.tt_script.specs.declared.cut.Inside.TheVariants.{Nothing}
use Rattle.tt_script.specs.Body.{kinds_in}
use Rattle.tt_script.specs.Pieces.{Piece, spelled, kinds_of}

-- the kinds of these bytes, computed from the left, are those of the pieces
abbrev pub SayKinds : List Piece → Type 0
SayKinds pieces = kinds_in Nothing (spelled pieces) ≡ kinds_of pieces
