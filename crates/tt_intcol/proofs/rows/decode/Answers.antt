use Rattle.std.proofs.Common.{◌≡◌, ◌<◌, ◌∙◌, ap, sym, subst, Ok, length, arith}
use Rattle.std.specs.Prelude.{IfOk, All}
use Rattle.std.specs.List.{AllByRecursion}
use Rattle.tt_value.specs.columns.Body.{present}
use Rattle.tt_intcol.specs.IntBody.{IsValue, column_of}
use Rattle.tt_intcol.specs.IntReading.{Gives, rows_of}
use Rattle.tt_intcol.proofs.RowsAgain.{rows_again}
use Rattle.tt_intcol.proofs.RowsTaken.{IsColumnOf, same_given, if_read, if_follows}
use Rattle.tt_intcol.proofs.rows.decode.Goals as goal

pub returns-clause-exact : goal.returns-clause-exact
returns-clause-exact c = same_given (λ v. v.items) c.decode_parts.result c.args.kind c.args.rows c.args.column.now c.part-bitmap.result.now c.part-body.result.now c.part-bitmap.ensures.same c.part-body.ensures.same c.decode_parts.ensures

pub returns-clause-again : goal.returns-clause-again
returns-clause-again c = λ vs valid len same.
    let e : rows_of c.args.kind c.args.rows c.args.column.now ≡ Ok vs = ap (rows_of c.args.kind c.args.rows) same ∙ ap (λ n. rows_of c.args.kind n (column_of c.args.kind vs)) (sym len) ∙ rows_again c.args.kind vs valid (omega arith) in
    subst (Gives (λ v. v.items) c.decode_parts.result) e (returns-clause-exact c)

is_column : (c : goal.After-decode_parts) → IfOk c.decode_parts.result (λ v. IsColumnOf c.args.kind c.args.rows c.args.column.now v.items)
is_column c = if_read (λ v. v.items) c.decode_parts.result c.args.kind c.args.rows c.args.column.now (subst (All (λ byte. byte < 256)) c.part-bitmap.ensures.same c.part-bitmap.ensures.bytes) (subst (All (λ byte. byte < 256)) c.part-body.ensures.same c.part-body.ensures.bytes) (returns-clause-exact c)

pub returns-clause-only : goal.returns-clause-only
returns-clause-only c = if_follows c.decode_parts.result (λ v. IsColumnOf c.args.kind c.args.rows c.args.column.now v.items) (λ v. c.args.column.now ≡ column_of c.args.kind v.items) (is_column c) (λ v h. h.0)

pub returns-clause-count : goal.returns-clause-count
returns-clause-count c = if_follows c.decode_parts.result (λ v. IsColumnOf c.args.kind c.args.rows c.args.column.now v.items) (λ v. length v.items ≡ c.args.rows) (is_column c) (λ v h. h.1)

pub returns-clause-values : goal.returns-clause-values
returns-clause-values c = if_follows c.decode_parts.result (λ v. IsColumnOf c.args.kind c.args.rows c.args.column.now v.items) (λ v. AllByRecursion (IsValue c.args.kind) (present v.items)) (is_column c) (λ v h. h.2)
