use Rattle.std.proofs.Common.{◌≡◌, length, sym}
use Rattle.std.proofs.lemmas.Bool.{eqb-true}
use Rattle.tt_textcol.proofs.RowsTaken.{body_length}
use Rattle.tt_textcol.proofs.rows.read_whole.Goals as goal

pub returns-clause-length : goal.returns-clause-length
returns-clause-length c =
    let none : length c.in_ok-values.rest.now ≡ 0 = eqb-true (length c.in_ok-values.rest.now) 0 (sym c.if-not-is_empty.ensures) in
    body_length c.args.encoding c.args.end c.args.count c.args.bytes.now (c.in_ok-values.values.items, c.in_ok-values.rest.now) c.bytes_fit.ensures c.in_ok-values.ensures none
