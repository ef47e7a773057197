use Rattle.std.proofs.Common.{◌≡◌, drop}
use Rattle.std.specs.Prelude.{flat_map, option_and_then, position, slice_get}
use Rattle.std.specs.Str.{bytes_eq}
use Rattle.tt_plain.specs.stored.Points.{ids_of}
use Rattle.tt_travel.specs.Travel.{point_named}
use Rattle.tt_travel.proofs.statements.standing.Given as goal

abbrev pub invariant-loop-lines : goal.invariant-loop-lines
invariant-loop-lines l = option_and_then (slice_get l.left) (position (λ text. bytes_eq text l.fn.id) (flat_map ids_of (drop l.lines-index l.program.sessions))) ≡ point_named l.fn.program l.fn.points l.fn.id
