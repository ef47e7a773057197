use Rattle.std.proofs.Common.{refl, subst, sym}
use Rattle.tt_marks.specs.Marks.{IsMarks}
use Rattle.tt_marks.proofs.Laws.{IsMarks-with_shared}
use Rattle.tt_marks.proofs.marks.Marks.share.Goals as goal

pub invariant_of-self : goal.invariant_of-self
invariant_of-self c = subst IsMarks (sym c.put_mark.ensures.marks) (IsMarks-with_shared _ c.self.inside.marks.items c.self.invariant refl)
