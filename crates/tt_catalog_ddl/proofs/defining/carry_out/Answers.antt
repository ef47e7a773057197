use Rattle.std.proofs.Common.{sym, ◌∙◌}
use Rattle.tt_catalog_ddl.proofs.Lookups.{none_beside}
use Rattle.tt_catalog_ddl.proofs.defining.carry_out.Goals as goal

pub add_table-requires-clause-free : goal.add_table-requires-clause-free
add_table-requires-clause-free c =
    c.requires.known c.in-Create.create.table.name.text
    (none_beside _ c.in-Create.create c.args.statement.now (sym c.create_refusal.ensures ∙ c.in_default-create_refusal.is))
