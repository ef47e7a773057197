use Rattle.std.proofs.Common.{sym, subst, ◌∙◌, arith}
use Rattle.tt_marks.specs.Search.{IsPlaceOf, IsGapFor}
use Rattle.tt_marks.proofs.Searching.{mark_of_gap, with_mark_place, with_mark_gap}
use Rattle.tt_marks.proofs.sorted.put_mark.Goals as goal

pub unreachable-requires : goal.unreachable-requires
unreachable-requires c =
    let ms = c.args.marks.now.items in
    let gap = subst (λ l. IsGapFor c.args.mark l c.in-Err.place) c.deref.ensures.value c.in-Err.ensures.missing in
    let room = c.requires.room (mark_of_gap c.args.mark ms c.in-Err.place gap) in
    let full = c.in_default.ensures.full in
    omega arith

pub returns-in-Ok-clause-marks : goal.returns-in-Ok-clause-marks
returns-in-Ok-clause-marks c =
    let ms = c.args.marks.now.items in
    let place = subst (λ l. IsPlaceOf c.args.mark l c.in-Ok.place) c.deref.ensures.value c.in-Ok.ensures.found in
    sym (with_mark_place c.args.mark ms c.in-Ok.place c.requires.ordered place.within place.ties)

pub returns-in-Ok-insert-clause-marks : goal.returns-in-Ok-insert-clause-marks
returns-in-Ok-insert-clause-marks c =
    let ms = c.args.marks.now.items in
    let gap = subst (λ l. IsGapFor c.args.mark l c.in-Err.place) c.deref.ensures.value c.in-Err.ensures.missing in
    c.in-Ok-insert.ensures.items ∙ sym (with_mark_gap c.args.mark ms c.in-Err.place gap.within gap.front gap.back)

pub returns-in-Ok-insert-clause-capacity : goal.returns-in-Ok-insert-clause-capacity
returns-in-Ok-insert-clause-capacity c =
    let ms = c.args.marks.now.items in
    let gap = subst (λ l. IsGapFor c.args.mark l c.in-Err.place) c.deref.ensures.value c.in-Err.ensures.missing in
    let room = c.requires.room (mark_of_gap c.args.mark ms c.in-Err.place gap) in
    let block = c.in-Ok-insert.ensures.in_place room in
    block.1.0
