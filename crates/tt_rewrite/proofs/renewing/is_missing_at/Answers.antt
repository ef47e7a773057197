use Rattle.std.proofs.Common.{◌∙◌, ap, sym}
use Rattle.std.specs.Prelude.{◌&&◌, not}
use Rattle.tt_value.specs.trees.Predicates.{is_null}
use Rattle.tt_rewrite.proofs.FirstMissing.{missing_there, no_column, no_value}
use Rattle.tt_rewrite.proofs.renewing.is_missing_at.Goals as goal

pub returns-in_default : goal.returns-in_default
returns-in_default c = sym (no_column c.args.schema.now c.args.row.now c.args.place (sym c.in_default.ensures))

pub returns-in_default-get : goal.returns-in_default-get
returns-in_default-get c = sym (no_value c.args.schema.now c.args.row.now c.args.place (sym c.in_default-get.ensures))

pub returns-then-not-column : goal.returns-then-not-column
returns-then-not-column c =
    let v = c.in-Some-get.value.now in
    c.is_null_value.ensures
    ∙ sym (missing_there c.args.schema.now c.args.row.now c.args.place c.in-Some.column.now v (sym c.in-Some.ensures) (sym c.in-Some-get.ensures) ∙ ap (λ b. not b && is_null v) c.if-not-column.true)

pub returns-else-not-column : goal.returns-else-not-column
returns-else-not-column c =
    let v = c.in-Some-get.value.now in
    ap not c.if-not-column.false
    ∙ sym (missing_there c.args.schema.now c.args.row.now c.args.place c.in-Some.column.now v (sym c.in-Some.ensures) (sym c.in-Some-get.ensures) ∙ ap (λ b. not b && is_null v) c.if-not-column.false)
