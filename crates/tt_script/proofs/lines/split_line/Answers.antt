use Rattle.std.proofs.Common.{sym, ◌∙◌}
use Rattle.tt_script.proofs.Texts.{same_split}
use Rattle.tt_script.proofs.lines.split_line.Goals as goal

pub returns-clause-line : goal.returns-clause-line
returns-clause-line c = same_split c.args.bytes.now c.split_at.result.0.now c.split_at.result.1.now c.line_length.result (sym c.is_empty.ensures ∙ c.if-is_empty.false) c.line_length.ensures c.split_at.ensures.front c.split_at.ensures.back
