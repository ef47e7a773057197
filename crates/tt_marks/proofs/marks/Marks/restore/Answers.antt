use Rattle.std.proofs.Common.{Some, subst, sym}
use Rattle.tt_marks.specs.Marks.{IsMarks, Standing}
use Rattle.tt_marks.specs.Changes.{CanRestore}
use Rattle.tt_marks.proofs.Laws.{IsMarks-unmarked, IsMarks-restored}
use Rattle.tt_marks.proofs.marks.Marks.restore.Goals as goal

pub invariant_of-self : goal.invariant_of-self
invariant_of-self c = subst IsMarks (sym c.remove_mark.ensures.marks) (IsMarks-unmarked c.args.session c.args.table c.self.inside.marks.items c.self.invariant)

pub invariant_of-self-in-Some : goal.invariant_of-self-in-Some
invariant_of-self-in-Some c = subst IsMarks (sym c.put_mark.ensures.marks)
    (IsMarks-restored c.args.session c.args.table (Some c.in-Some.exclusive) c.self.inside.marks.items
    (subst (λ b. CanRestore c.args.session c.args.table b c.self.inside.marks.items) c.in-Some.is
    (subst (λ (v : Standing). CanRestore c.args.session c.args.table c.args.before v.list) (sym c.self.view_is) c.requires))
    c.self.invariant)
