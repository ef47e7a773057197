use Rattle.std.proofs.Common.{◌+◌, ◌++◌, ◌∙◌, ap, sym, arith}
use Rattle.tt_value.specs.trees.Predicates.{takes}
use Rattle.tt_value.specs.trees.Scope.{table_scope}
use Rattle.tt_scan.proofs.Scans.{on_ok}
use Rattle.tt_rewrite.specs.Left.{count_set, unless_taken, unset}
use Rattle.tt_rewrite.proofs.Bits.{count_bits, unset_stay}
use Rattle.tt_rewrite.proofs.Fits.{more_fit}
use Rattle.tt_rewrite.proofs.Parts.{adds_nothing, adds_touched, count_filtered}
use Rattle.tt_rewrite.proofs.Zones.{none_may}
use Rattle.tt_rewrite.proofs.leaving.leave_part.Goals as goal

pub returns-then-not-may_take-clause-left : goal.returns-then-not-may_take-clause-left
returns-then-not-may_take-clause-left c =
    let taken = takes (table_scope c.args.schema.now) c.args.filter.now in
    adds_nothing taken (unless_taken taken) (c.args.number, c.args.partition.now) c.args.left.now
    (count_filtered taken c.args.partition.now.rows
    (none_may c.args.schema.now c.args.filter.now c.args.partition.now c.requires.kinds
    (sym c.may_take.ensures ∙ c.if-not-may_take.true)))

pub returns-then-count-eq0-clause-left : goal.returns-then-count-eq0-clause-left
returns-then-count-eq0-clause-left c =
    let taken = takes (table_scope c.args.schema.now) c.args.filter.now in
    adds_nothing taken (unless_taken taken) (c.args.number, c.args.partition.now) c.args.left.now
    (sym (count_bits taken c.args.partition.now.rows) ∙ ap count_set (sym c.in_ok-bits.ensures) ∙ sym c.count-count.ensures ∙ c.if-count-eq0.true)

pub returns-clause-left : goal.returns-clause-left
returns-clause-left c =
    let taken = takes (table_scope c.args.schema.now) c.args.filter.now in
    let counted = c.count-count.ensures ∙ ap count_set c.in_ok-bits.ensures ∙ count_bits taken c.args.partition.now.rows in
    on_ok c.append_others.result (λ is.
    adds_touched taken (unless_taken taken) (c.args.number, c.args.partition.now) c.args.left.now _ (omega (arith, counted, c.if-count-eq0.false)) c.in_ok-push.ensures.ok
    (is ∙ ap (λ rows. c.args.left.now.rows ++ rows) (ap (λ bits. unset bits c.args.partition.now.rows) c.in_ok-bits.ensures ∙ unset_stay taken c.args.partition.now.rows))
    (c.in_ok-left.ensures ∙ ap (λ n. c.args.left.now.count + n) counted))
    c.append_others.ensures

pub returns-clause-fit : goal.returns-clause-fit
returns-clause-fit c =
    on_ok c.append_others.result (λ is.
    more_fit c.args.schema.now c.args.partition.now c.in_ok-bits.bits c.args.left.now.rows c.append_others.new.rows c.requires.kinds c.holds_rows.ensures c.requires.fit is)
    c.append_others.ensures
