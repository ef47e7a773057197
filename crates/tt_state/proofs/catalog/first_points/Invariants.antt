use Rattle.std.proofs.Common.{◌≡◌, take}
use Rattle.std.specs.List.{flat_map}
use Rattle.tt_plain.specs.stored.Empty.{no_points}
use Rattle.tt_state.proofs.catalog.first_points.Given as goal

abbrev pub invariant-loop-lines : goal.invariant-loop-lines
invariant-loop-lines l = l.points.items ≡ flat_map no_points (take l.lines-index l.program.sessions)
