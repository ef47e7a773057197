use Rattle.std.proofs.Common.{get_or, refl, subst, sym}
use Rattle.tt_partition.specs.Fits.{FitsKind}
use Rattle.tt_partition.proofs.FittingLaws.{fit_length, fit_at, fit_more}
use Rattle.tt_partition.proofs.fitting.fit_columns.Goals as goal

pub returns-then-columns-values : goal.returns-then-columns-values
returns-then-columns-values c = (λ t. absurd cc, λ all. absurd (c.if-columns-values.true (fit_length c.args.columns.now c.args.values.now all)))

pub returns-then-not-fits_kind : goal.returns-then-not-fits_kind
returns-then-not-fits_kind c = (λ t. absurd cc, λ all. c.if-not-fits_kind.ensures.1 (subst (FitsKind (get_or c.args.columns.now c.loop-at.at c.index-columns-at.result).kind) (sym c.index-values-at.is) (fit_at c.args.columns.now c.args.values.now c.loop-at.at c.index-columns-at.result c.index-values-at.result c.loop-at-test.true all)))

pub loop-at-preserved : goal.loop-at-preserved
loop-at-preserved c =
    fit_more c.args.columns.now c.args.values.now c.loop-at.at c.index-columns-at.result c.index-values-at.result c.loop-at-test.true c.if-columns-values.false c.loop-at.invariant (subst (FitsKind (get_or c.args.columns.now c.loop-at.at c.index-columns-at.result).kind) c.index-values-at.is (c.if-not-fits_kind.ensures.0 refl))
