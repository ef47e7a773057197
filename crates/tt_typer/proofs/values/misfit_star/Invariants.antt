use Rattle.std.proofs.Common.{◌≡◌, drop}
use Rattle.tt_plain.specs.Places.{earlier, leftmost, each_at}
use Rattle.tt_plain.specs.TypeMismatches.{misfit_column}
use Rattle.tt_typer.proofs.values.misfit_star.Given as goal

abbrev pub invariant-loop-at : goal.invariant-loop-at
invariant-loop-at l = earlier l.found (leftmost (each_at (misfit_column l.target l.names l.place) l.at (drop l.at l.columns))) ≡ leftmost (each_at (misfit_column l.target l.names l.place) 0 l.columns)
