use Rattle.std.proofs.Common.{sym, ap, arith}
use Rattle.tt_plain.specs.Places.{leftmost}
use Rattle.tt_typer.proofs.Mentions.{few_columns, many_columns}
use Rattle.tt_typer.proofs.counts.miscounted_columns.Goals as goal

pub returns : goal.returns
returns c = rw (c.earlier.ensures, c.defined_again-2.ensures, c.places.ensures, c.split_at.ensures.front, c.split_at.ensures.back) (sym (many_columns c.args.columns.now))

pub returns-then-columns-le-MOST_COLUMNS : goal.returns-then-columns-le-MOST_COLUMNS
returns-then-columns-le-MOST_COLUMNS c = rw c.defined_again.ensures (ap leftmost (sym (few_columns c.args.columns.now (omega (arith, c.if-columns-le-MOST_COLUMNS.true)))))
