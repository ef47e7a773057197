use Rattle.std.proofs.Common.{◌<◌, subst, sym}
use Rattle.tt_filter.proofs.Decodes.{set_of, set_keeps, set_there}
use Rattle.tt_filter.proofs.decoding.decode.Goals as goal

pub returns-clause-columns : goal.returns-clause-columns
returns-clause-columns c = set_of c.args.partition.now c.args.columns.now c.args.place c.in_ok-column.column c.requires.columns c.in_ok-column.ensures

pub returns-clause-kept : goal.returns-clause-kept
returns-clause-kept c = set_keeps c.args.columns.now c.args.place c.in_ok-column.column

pub returns-clause-there : goal.returns-clause-there
returns-clause-there c = set_there c.args.columns.now c.args.place c.in_ok-column.column (subst (λ n. c.args.place < n) (sym c.requires.columns.long) c.requires.place)
