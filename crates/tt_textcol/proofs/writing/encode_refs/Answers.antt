use Rattle.std.proofs.Common.{ap, length, arith}
use Rattle.tt_value.proofs.columns.Indexes.{present_le}
use Rattle.tt_textcol.proofs.writing.encode_refs.Goals as goal

pub body_of-requires-clause-few : goal.body_of-requires-clause-few
body_of-requires-clause-few c = let le = present_le c.args.values.now in let e = ap length c.in_ok-present.ensures in let f = ap length c.deref-2.ensures.value in omega (arith, le, e, f)
