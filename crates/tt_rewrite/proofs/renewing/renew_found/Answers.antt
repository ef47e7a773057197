use Rattle.std.proofs.Common.{sym, subst}
use Rattle.std.specs.List.{AllByRecursion}
use Rattle.tt_rewrite.specs.Renewed.{IsAsWide}
use Rattle.tt_rewrite.proofs.RowAt.{part_wide}
use Rattle.tt_rewrite.proofs.renewing.renew_found.Goals as goal

pub renew_rows-requires-clause-found : goal.renew_rows-requires-clause-found
renew_rows-requires-clause-found c =
    subst (AllByRecursion (IsAsWide c.args.setting.now.schema.now)) (sym c.in_ok-found.ensures) (part_wide c.args.setting.now.schema.now c.args.partition.now c.requires.kinds c.holds_rows.ensures)
