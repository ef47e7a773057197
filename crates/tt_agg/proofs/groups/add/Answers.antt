use Rattle.std.proofs.Common.{◌≡◌, ◌∙◌, sym, arith, length}
use Rattle.std.proofs.lemmas.Result.{on_ok_weaker}
use Rattle.tt_agg.specs.Groups.{rows_of}
use Rattle.tt_agg.proofs.Grouping.{begun, length-rows_of}
use Rattle.tt_agg.proofs.groups.add.Goals as goal

pub returns-then-place-len : goal.returns-then-place-len
returns-then-place-len c =
    let many : c.args.place ≡ length (rows_of c.args.groups.now.items) = omega (arith, length-rows_of c.args.groups.now.items, c.args.groups.now.ok.0, c.len.ensures) in
    on_ok_weaker c.begin.result (λ e. e ∙ sym (begun c.args.place c.args.row.now (rows_of c.args.groups.now.items) many)) c.begin.ensures
