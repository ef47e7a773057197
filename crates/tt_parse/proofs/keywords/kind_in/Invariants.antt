use Rattle.tt_parse.proofs.Tables.{NotAbove}
use Rattle.tt_parse.proofs.keywords.kind_in.Given as goal

abbrev pub invariant-loop-other : goal.invariant-loop-other
invariant-loop-other l = NotAbove l.table l.word l.other-index
