use Rattle.std.proofs.Common.{◌≡◌, drop, fold}
use Rattle.tt_plain.specs.effect.Apply.{changed_point}
use Rattle.tt_model_effect.proofs.points.change_points.Given as goal

abbrev pub invariant-loop-place : goal.invariant-loop-place
invariant-loop-place l = fold changed_point l.points.items (drop l.place-index l.changes) ≡ fold changed_point l.fn.points.items l.changes
