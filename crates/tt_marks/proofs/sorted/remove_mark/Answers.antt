use Rattle.std.proofs.Common.{sym, subst, ◌∙◌, false}
use Rattle.tt_marks.specs.declared.mark.Mark.{Mark}
use Rattle.tt_marks.specs.Search.{IsPlaceOf, IsGapFor}
use Rattle.tt_marks.proofs.Searching.{unmarked_place, unmarked_gap}
use Rattle.tt_marks.proofs.sorted.remove_mark.Goals as goal

pub returns-in-Ok-clause-marks : goal.returns-in-Ok-clause-marks
returns-in-Ok-clause-marks c =
    let ms = c.args.marks.now.items in
    let w : Mark = record { session = c.args.session; table = c.args.table; exclusive = false } in
    let place = subst (λ l. IsPlaceOf w l c.in-Ok.place) c.deref.ensures.value c.in-Ok.ensures.found in
    c.remove.ensures.items ∙ sym (unmarked_place w ms c.in-Ok.place c.requires place)

pub returns-in_default-clause-marks : goal.returns-in_default-clause-marks
returns-in_default-clause-marks c =
    let ms = c.args.marks.now.items in
    let w : Mark = record { session = c.args.session; table = c.args.table; exclusive = false } in
    let gap = subst (λ l. IsGapFor w l c.in_default.field-0) c.deref.ensures.value c.in_default.ensures.missing in
    sym (unmarked_gap w ms c.in_default.field-0 gap)
