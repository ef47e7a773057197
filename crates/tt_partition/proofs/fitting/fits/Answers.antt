use Rattle.std.proofs.Common.{List, subst, sym}
use Rattle.std.specs.Bool.{IsTrue}
use Rattle.tt_value.specs.declared.value.Row.{Row}
use Rattle.tt_value.specs.declared.value.Value.{Value}
use Rattle.tt_value.specs.declared.value.Column.{Column}
use Rattle.tt_partition.specs.Cuts.{column_kinds, kinds_of}
use Rattle.tt_partition.specs.Fits.{FitKinds}
use Rattle.tt_partition.proofs.FittingLaws.{all_at}
use Rattle.tt_partition.proofs.fitting.fits.Goals as goal

pub returns-then-not-fit_columns : goal.returns-then-not-fit_columns
returns-then-not-fit_columns c = (
  λ t. absurd cc,
  λ all. subst IsTrue c.if-not-fit_columns.true (c.fit_columns.ensures.1
      (subst (λ (vs : List Value). FitKinds (column_kinds c.items-columns.result.now) vs) (sym c.items.ensures) (subst (λ (cs : List Column). FitKinds (column_kinds cs) c.row-item.result.values) (sym c.items-columns.ensures)
      (all_at (λ (row : Row). FitKinds (kinds_of c.args.schema.now) row.values) c.args.rows.now c.loop-row.row-index c.row-item.result c.loop-row-test.true c.row-item.is all)))),
)
