use Rattle.std.proofs.Common.{◌≡◌, drop}
use Rattle.tt_plain.specs.Places.{earlier, leftmost, each}
use Rattle.tt_plain.specs.UnknownColumns.{unknown_in_key}
use Rattle.tt_typer.specs.TableScopes.{scope_in}
use Rattle.tt_typer.proofs.unknown.unknown_in_keys.Given as goal

abbrev pub invariant-loop-key : goal.invariant-loop-key
invariant-loop-key l = earlier l.found (leftmost (each (unknown_in_key (scope_in l.scope) l.selection) (drop l.key-index l.keys))) ≡ leftmost (each (unknown_in_key (scope_in l.scope) l.selection) l.keys)
