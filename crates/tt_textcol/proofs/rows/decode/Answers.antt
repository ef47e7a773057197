use Rattle.std.proofs.Common.{◌≡◌, ◌^◌, ◌<◌, ◌∙◌, ap, sym, subst, Ok, arith}
use Rattle.std.specs.List.{AllByRecursion}
use Rattle.tt_textcol.specs.TextBody.{column_of}
use Rattle.tt_textcol.specs.TextReading.{Gives, rows_of}
use Rattle.tt_textcol.proofs.RowsAgain.{rows_again}
use Rattle.tt_textcol.proofs.RowsTaken.{same_given, only_given}
use Rattle.tt_textcol.proofs.rows.decode.Goals as goal

pub returns-clause-exact : goal.returns-clause-exact
returns-clause-exact c = same_given (λ v. v.items) c.decode_parts.result c.args.rows c.args.column.now c.items-bitmap.result.now c.items-body.result.now c.items-bitmap.ensures c.items-body.ensures c.decode_parts.ensures

pub returns-clause-again : goal.returns-clause-again
returns-clause-again c = λ vs valid len same.
    let e : rows_of c.args.rows c.args.column.now ≡ Ok vs = ap (rows_of c.args.rows) same ∙ ap (λ n. rows_of n (column_of vs)) (sym len) ∙ rows_again vs valid (omega arith) in
    subst (Gives (λ v. v.items) c.decode_parts.result) e (returns-clause-exact c)

pub returns-clause-only : goal.returns-clause-only
returns-clause-only c =
    only_given c.args.rows c.args.column.now (λ v. v.items) c.decode_parts.result
    (subst (AllByRecursion (λ b. b < 2 ^ 8)) c.items-bitmap.ensures c.bytes_fit.ensures) (subst (AllByRecursion (λ b. b < 2 ^ 8)) c.items-body.ensures c.bytes_fit-2.ensures) (returns-clause-exact c)
