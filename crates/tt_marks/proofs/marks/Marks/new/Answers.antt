use Rattle.std.proofs.Common.{subst, sym}
use Rattle.tt_marks.specs.Marks.{IsMarks}
use Rattle.tt_marks.proofs.Laws.{IsMarks-none}
use Rattle.tt_marks.proofs.marks.Marks.new.Goals as goal

pub invariant_of-result : goal.invariant_of-result
invariant_of-result c = subst IsMarks (sym c.new.ensures.items) IsMarks-none
