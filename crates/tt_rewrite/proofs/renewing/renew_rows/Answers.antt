use Rattle.std.proofs.Common.{◌∙◌, ◌+◌, [], ◌∷◌, length, ap, refl}
use Rattle.std.proofs.lemmas.List.{length-append}
use Rattle.std.proofs.lemmas.Iterator.Adapters.{YieldsList-from_vec}
use Rattle.std.proofs.lemmas.Iterator.Consumers.{YieldsList-turn}
use Rattle.tt_value.specs.declared.value.Row.{Row}
use Rattle.tt_scan.proofs.Scans.{all_at}
use Rattle.tt_rewrite.specs.Renewed.{GoesOn, IsAsWide, is_set}
use Rattle.tt_rewrite.specs.Sets.{becomes}
use Rattle.tt_rewrite.proofs.RowAt.{bit_is, out_at, renews_next}
use Rattle.tt_rewrite.proofs.Renews.{renews_nothing}
use Rattle.tt_rewrite.proofs.renewing.renew_rows.Goals as goal

pub loop-row-init : goal.loop-row-init
loop-row-init c = (refl, λ taken same. renews_nothing taken (becomes c.args.setting.now) c.args.setting.now.schema.now c.args.rows.now c.args.missing.now)

pub take_row-requires-clause-row : goal.take_row-requires-clause-row
take_row-requires-clause-row c =
    let began = c.into_iter-row-iterator.ensures.into_iter_gives in
    let turn = YieldsList-turn (YieldsList-from_vec _ began.0 (began.1 ∙ c.args.found.ok.0)) c.loop-row.yielded c.loop-row.row-iterator c.loop-row.yielded_by c.next.result c.next.new.self c.in-Some.row c.in-Some.is c.next.ensures.steps in
    all_at (IsAsWide c.args.setting.now.schema.now) c.args.found.items (length c.loop-row.yielded) c.in-Some.row c.requires.found turn.0 turn.1

pub returns-then-not-branch : goal.returns-then-not-branch
returns-then-not-branch c = λ taken same.
    let began = c.into_iter-row-iterator.ensures.into_iter_gives in
    let turn = YieldsList-turn (YieldsList-from_vec _ began.0 (began.1 ∙ c.args.found.ok.0)) c.loop-row.yielded c.loop-row.row-iterator c.loop-row.yielded_by c.next.result c.next.new.self c.in-Some.row c.in-Some.is c.next.ensures.steps in
    let bit = bit_is taken c.args.bits.now c.args.found.items (length c.loop-row.yielded) c.loop-row.at c.in-Some.row c.get.result turn.0 turn.1 same c.loop-row.invariant.0 c.get.ensures in
    let goes : GoesOn (λ (row : Row). is_set c.get.result) (becomes c.args.setting.now) c.args.setting.now.schema.now (c.in-Some.row ∷ []) c.loop-row.rows c.take_row.new.rows c.loop-row.missing c.take_row.new.missing c.in_ok-take_row.field-0 = c.in_ok-take_row.ensures in
    out_at taken (becomes c.args.setting.now) c.args.setting.now.schema.now (is_set c.get.result) c.in_ok-take_row.field-0 c.args.found.items (length c.loop-row.yielded) c.in-Some.row c.loop-row.rows c.take_row.new.rows c.loop-row.missing c.take_row.new.missing turn.0 turn.1 bit c.if-not-branch.true goes

pub loop-row-preserved : goal.loop-row-preserved
loop-row-preserved c =
    let began = c.into_iter-row-iterator.ensures.into_iter_gives in
    let turn = YieldsList-turn (YieldsList-from_vec _ began.0 (began.1 ∙ c.args.found.ok.0)) c.loop-row.yielded c.loop-row.row-iterator c.loop-row.yielded_by c.next.result c.next.new.self c.in-Some.row c.in-Some.is c.next.ensures.steps in
    let goes : GoesOn (λ (row : Row). is_set c.get.result) (becomes c.args.setting.now) c.args.setting.now.schema.now (c.in-Some.row ∷ []) c.loop-row.rows c.take_row.new.rows c.loop-row.missing c.take_row.new.missing c.in_ok-take_row.field-0 = c.in_ok-take_row.ensures in (
      length-append c.loop-row.yielded (c.in-Some.row ∷ []) ∙ ap (λ n. n + 1) c.loop-row.invariant.0,
      λ taken same.
          let bit = bit_is taken c.args.bits.now c.args.found.items (length c.loop-row.yielded) c.loop-row.at c.in-Some.row c.get.result turn.0 turn.1 same c.loop-row.invariant.0 c.get.ensures in
          renews_next taken (becomes c.args.setting.now) c.args.setting.now.schema.now (is_set c.get.result) c.in_ok-take_row.field-0 c.loop-row.yielded c.in-Some.row c.args.rows.now c.loop-row.rows c.take_row.new.rows c.args.missing.now c.loop-row.missing c.take_row.new.missing bit c.if-not-branch.false (c.loop-row.invariant.1 taken same) goes,
    )
