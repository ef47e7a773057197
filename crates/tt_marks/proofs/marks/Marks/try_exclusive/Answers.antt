use Rattle.std.proofs.Common.{subst, sym, ap, ◌∙◌, find, ◌&&◌}
use Rattle.std.specs.Option.{option_map}
use Rattle.tt_marks.specs.Marks.{IsMarks, is_of_other, other_exclusive_holder}
use Rattle.tt_marks.proofs.Laws.{IsMarks-with_exclusive}
use Rattle.tt_marks.proofs.marks.Marks.try_exclusive.Goals as goal

pub invariant_of-self : goal.invariant_of-self
invariant_of-self c = subst IsMarks (sym c.put_mark.ensures.marks) (IsMarks-with_exclusive _ c.self.inside.marks.items c.self.invariant
    (ap (λ l. other_exclusive_holder c.args.session c.args.table l) (sym c.deref.ensures.value)
    ∙ ap (λ l. option_map (λ m. m.session) (find (λ m. m.exclusive && is_of_other c.args.session m) l)) (sym c.marks_on.ensures)
    ∙ sym c.first_other_exclusive.ensures ∙ c.in_default.is))
