use Rattle.std.proofs.Common.{◌≡◌, take, map}
use Rattle.tt_plain.specs.definition.Create.{column_made}
use Rattle.tt_catalog_ddl.proofs.making.make_columns.Given as goal

abbrev pub invariant-loop-definition : goal.invariant-loop-definition
invariant-loop-definition l = l.columns.items ≡ map column_made (take l.definition-index l.definitions)
