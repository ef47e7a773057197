use Rattle.std.proofs.Common.{sym, false}
use Rattle.tt_marks.specs.declared.mark.Mark.{Mark}
use Rattle.tt_marks.proofs.Searching.{mark_of_place, mark_of_gap}
use Rattle.tt_marks.proofs.sorted.mark_of.Goals as goal

pub returns-in-Ok : goal.returns-in-Ok
returns-in-Ok c =
    let w : Mark = record { session = c.args.session; table = c.args.table; exclusive = false } in
    sym (mark_of_place w c.args.marks.now c.in-Ok.place _ c.requires c.in-Ok.ensures.found)

pub returns-in-Err : goal.returns-in-Err
returns-in-Err c =
    let w : Mark = record { session = c.args.session; table = c.args.table; exclusive = false } in
    sym (mark_of_gap w c.args.marks.now c.in-Err.field-0 c.in-Err.ensures.missing)
