use Rattle.std.proofs.Common.{◌≡◌, drop}
use Rattle.tt_plain.specs.Places.{earlier, leftmost, each}
use Rattle.tt_plain.specs.UnknownColumns.{unknown_name}
use Rattle.tt_typer.specs.TableScopes.{scope_in}
use Rattle.tt_typer.proofs.unknown.unknown_in_names.Given as goal

abbrev pub invariant-loop-name : goal.invariant-loop-name
invariant-loop-name l = earlier l.found (leftmost (each (unknown_name (scope_in l.scope)) (drop l.name-index l.names))) ≡ leftmost (each (unknown_name (scope_in l.scope)) l.names)
