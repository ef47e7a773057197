use Rattle.std.proofs.Common.{◌∙◌}
use Rattle.tt_value.proofs.columns.Indexes.{flags_fit}
use Rattle.tt_textcol.proofs.writing.bitmap.Goals as goal

pub pack-requires-clause-fit : goal.pack-requires-clause-fit
pack-requires-clause-fit c = flags_fit c.args.rows.now c.deref.result.now (c.deref.ensures.value ∙ c.in_ok-flags.ensures)
