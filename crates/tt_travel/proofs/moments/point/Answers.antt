use mir.Syntax.{w128}
use Rattle.std.proofs.Common.{◌≡◌, ℕ, ℤ, List, ap, sym, subst, ◌∙◌, Ok, Err, FitsSigned, w64, rules}
use Rattle.std.proofs.lemmas.Int.{to_z-of_z}
use Rattle.tt_plain.specs.opening.Point.{on_side}
use Rattle.tt_travel.specs.Travel.{end_of, judged, point_named}
use Rattle.tt_travel.proofs.Points.{at_timestamp, at_offset, at_statement, judged_end, judged_missing, judged_offset}
use Rattle.tt_travel.proofs.moments.point.Goals as goal

pub returns-in-Timestamp : goal.returns-in-Timestamp
returns-in-Timestamp c asked h =
    rw (at_timestamp asked c.args.clause.now c.in-Timestamp.x c.in-Timestamp.is)
    (c.judge.ensures ∙ ap (λ (z : ℤ). judged c.args.now (on_side c.args.clause.now.side z)) (to_z-of_z w128 _ (record { sfits = c.from.type_inv }) ∙ c.from.ensures ∙ (let f : FitsSigned w64 c.in-Timestamp.x = search rules in to_z-of_z w64 c.in-Timestamp.x f)))

pub returns-in-Ok : goal.returns-in-Ok
returns-in-Ok c asked h =
    let id : c.as_bytes.result.now ≡ c.in-Statement.id.text = c.as_bytes.ensures.value ∙ c.as_str.ensures.value in
    let found : end_of (point_named c.args.program.now c.args.points.now c.in-Statement.id.text) ≡ Ok c.in-Ok.end = subst (λ (text : List ℕ). end_of (point_named c.args.program.now c.args.points.now text) ≡ Ok c.in-Ok.end) id (sym c.ended_at.ensures ∙ c.in-Ok.is) in
    rw (at_statement c.args.now c.args.points.now c.args.program.now asked c.args.clause.now c.in-Statement.id h c.in-Statement.is)
    (c.judge-in-Ok.ensures
    ∙ ap (λ (z : ℤ). judged c.args.now (on_side c.args.clause.now.side z)) (to_z-of_z w128 _ (record { sfits = c.from-in-Ok.type_inv }) ∙ c.from-in-Ok.ensures)
    ∙ sym (judged_end c.args.now c.args.clause.now.side (point_named c.args.program.now c.args.points.now c.in-Statement.id.text) c.in-Ok.end found))

pub returns-in-Err : goal.returns-in-Err
returns-in-Err c asked h =
    let id : c.as_bytes.result.now ≡ c.in-Statement.id.text = c.as_bytes.ensures.value ∙ c.as_str.ensures.value in
    let missing : end_of (point_named c.args.program.now c.args.points.now c.in-Statement.id.text) ≡ Err c.in-Err.refusal = subst (λ (text : List ℕ). end_of (point_named c.args.program.now c.args.points.now text) ≡ Err c.in-Err.refusal) id (sym c.ended_at.ensures ∙ c.in-Err.is) in
    rw (at_statement c.args.now c.args.points.now c.args.program.now asked c.args.clause.now c.in-Statement.id h c.in-Statement.is)
    (sym (judged_missing c.args.now c.args.clause.now.side (point_named c.args.program.now c.args.points.now c.in-Statement.id.text) c.in-Err.refusal missing))

pub returns-in-Offset : goal.returns-in-Offset
returns-in-Offset c asked h =
    rw (at_offset asked c.args.clause.now c.in-Offset.offset c.args.now h.moment c.in-Offset.is)
    (c.judge-in-Offset.ensures
    ∙ ap (λ (z : ℤ). judged c.args.now (on_side c.args.clause.now.side z)) (to_z-of_z w128 _ (record { sfits = c.from_now.type_inv }) ∙ c.from_now.ensures)
    ∙ judged_offset c.args.now c.args.clause.now.side c.in-Offset.offset c.requires)
